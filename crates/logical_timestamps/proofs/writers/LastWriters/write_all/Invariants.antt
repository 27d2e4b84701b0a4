use Rattle.std.proofs.Common.{◌≡◌}
use Rattle.std.specs.Vec.Iter.{into_iter_items}
use Rattle.logical_timestamps.specs.Writers.{record_writes, latest_in_turn}
use Rattle.logical_timestamps.proofs.writers.LastWriters.write_all.Given as goal

abbrev pub invariant-loop-key : goal.invariant-loop-key
invariant-loop-key l = record {
  written : record_writes l.number (into_iter_items l.key-iterator) l.self ≡ record_writes l.number l.fn.keys.items l.fn.self;
  latest : latest_in_turn l.number (into_iter_items l.key-iterator) l.self l.latest ≡ latest_in_turn l.number l.fn.keys.items l.fn.self 0;
}
