use Rattle.std.proofs.Common.{◌≡◌, ◌++◌, drop, string_bytes}
use Rattle.binlog_events.specs.RowLines.{image_text}
use Rattle.binlog_events.proofs.row_lines.image_text.Given as goal

abbrev pub invariant-loop-flag : goal.invariant-loop-flag
invariant-loop-flag l = string_bytes l.text ++ image_text (drop l.flag-index l.flags) (drop l.at l.values) ≡ image_text l.flags l.values
