use Rattle.std.proofs.Common.{◌≡◌, None, length}
use Rattle.gtid_set.specs.declared.fault.SetFault.{SetFault}
use Rattle.binlog_entries.specs.Stream.{feed_bytes, IsEndFault}
use Rattle.binlog_entries.specs.Readers.{progress}
use Rattle.binlog_entries.proofs.reader.LogReader.take_piece.Given as goal

abbrev pub invariant-lines : goal.invariant-lines
invariant-lines l = record {
  goes : l.self.stopped ≡ None;
  may : (f : SetFault) → IsEndFault (progress l.self) l.left f → IsEndFault (progress l.fn.self) l.fn.piece f;
  so_far : feed_bytes (progress l.self) l.left ≡ feed_bytes (progress l.fn.self) l.fn.piece;
}

abbrev pub decreases-lines : goal.decreases-lines
decreases-lines l = length l.left
