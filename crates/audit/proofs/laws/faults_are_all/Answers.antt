use Rattle.std.proofs.Common.{refl}
use Rattle.world.specs.Audit.{verdict}
use Rattle.audit.proofs.Gapped.{others_gaps}
use Rattle.audit.proofs.Others.{others_named}
use Rattle.audit.proofs.OtherUnequals.{others_unequal}
use Rattle.audit.proofs.Passings.{others_missing, others_purged}
use Rattle.audit.proofs.Refusals.{others_refused}
use Rattle.audit.proofs.laws.faults_are_all.Goals as goal

pub returns : goal.returns
returns c = λ world journals beyond.
    let v = verdict world journals in
    record {
      verdict = refl;
      unequal = others_unequal world journals;
      purged = others_purged world journals v;
      missing = others_missing world journals v;
      shared = others_named world v;
      not_closed = others_gaps world journals beyond v;
      does_not_apply = others_refused world journals beyond;
    }
