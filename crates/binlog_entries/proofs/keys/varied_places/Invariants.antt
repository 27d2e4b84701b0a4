use Rattle.std.proofs.Common.{◌≡◌, ◌++◌, drop}
use Rattle.binlog_entries.specs.Keys.{varied_places}
use Rattle.binlog_entries.proofs.keys.varied_places.Given as goal

abbrev pub invariant-loop-i : goal.invariant-loop-i
invariant-loop-i l = l.places.items ++ varied_places l.i (drop l.i l.tables) l.varied ≡ varied_places 0 l.fn.tables l.fn.varied
