use Rattle.std.proofs.Common.{take}
use Rattle.audit.specs.Gathering.{HasNoRun}
use Rattle.audit.proofs.gathering.place_of.Given as goal

abbrev pub invariant-loop-place : goal.invariant-loop-place
invariant-loop-place l = HasNoRun (take l.place l.runs) l.source
