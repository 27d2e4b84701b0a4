use Rattle.std.proofs.Common.{◌≡◌, ◌++◌, take}
use Rattle.binlog_bundle.specs.Assumed.{text_of}
use Rattle.binlog_bundle.proofs.assumed.put_lines.Given as goal

abbrev pub invariant-loop-line : goal.invariant-loop-line
invariant-loop-line l = l.text.items ≡ l.fn.text.items ++ text_of (take l.line-index l.lines)
