use Rattle.std.proofs.Common.{◌≡◌, take}
use Rattle.binlog_bundle.specs.Accepted.{accepted_in}
use Rattle.binlog_bundle.proofs.accepted.accepted_in.Given as goal

abbrev pub invariant-loop-entry : goal.invariant-loop-entry
invariant-loop-entry l = l.found ≡ accepted_in l.accepted (take l.entry-index l.entries)
