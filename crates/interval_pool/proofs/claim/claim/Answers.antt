use Rattle.std.proofs.Common.{ap, arith, length}
use Rattle.std.proofs.lemmas.Result.{IfErr-weaker}
use Rattle.interval_pool.specs.Changes.{AreAllClaimed}
use Rattle.interval_pool.proofs.claim.claim.Goals as goal
use Rattle.interval_pool.proofs.Listing.{never_full, not_all}

pub returns-then-as_slice-clause-full : goal.returns-then-as_slice-clause-full
returns-then-as_slice-clause-full c =
    let size = ap length c.as_slice.ensures.value in
    let few = c.if-as_slice.true in
    let no : AreAllClaimed c.args.heads.now.items → ⊥ = not_all c.args.heads.now.items (omega (size, few, arith)) in
    IfErr-weaker c.push_list.result _ _ (λ fault e. never_full fault e no) c.push_list.ensures.memory
