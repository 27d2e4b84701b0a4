use Rattle.std.proofs.Common.{◌≡◌, drop, not}
use Rattle.std.specs.Prelude.{find}
use Rattle.audit.specs.Gaps.{is_recorded}
use Rattle.audit.proofs.other_gaps.first_of.Given as goal

abbrev pub invariant-loop-gtid : goal.invariant-loop-gtid
invariant-loop-gtid l = find (λ h. not (is_recorded l.previous l.standing h)) (drop l.gtid-index l.gtids) ≡ find (λ h. not (is_recorded l.previous l.standing h)) l.gtids
