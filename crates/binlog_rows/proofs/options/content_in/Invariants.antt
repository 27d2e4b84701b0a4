use Rattle.std.proofs.Common.{◌≡◌, ◌-◌, length}
use Rattle.binlog_rows.specs.Options.{content_from, content_of}
use Rattle.binlog_rows.proofs.options.content_in.Given as goal

abbrev pub invariant-loop-count : goal.invariant-loop-count
invariant-loop-count l = content_from l.kind (length l.bytes - l.count) l.rest ≡ content_of l.kind l.bytes
