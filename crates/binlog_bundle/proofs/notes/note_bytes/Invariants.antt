use Rattle.std.proofs.Common.{◌≡◌, ◌++◌, take}
use Rattle.binlog_bundle.specs.Notes.{bytes_notes}
use Rattle.binlog_bundle.proofs.notes.note_bytes.Given as goal

abbrev pub invariant-loop-place : goal.invariant-loop-place
invariant-loop-place l = l.notes.items ≡ l.fn.notes.items ++ bytes_notes l.channel l.tables (take l.place-index l.places)
