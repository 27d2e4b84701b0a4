use Rattle.std.proofs.Common.{length, [], ◌∷◌, ◌+◌, ap, sym, ◌∙◌, arith, subst, length-append}
use Rattle.std.specs.Prelude.{None}
use Rattle.ownership.specs.Ownership.{IsOwnedOnce}
use Rattle.ownership.specs.Slots.{taken_from}
use Rattle.ownership.proofs.SlotLemmas.{taken_from-push, vacant_slots, once-empty}
use Rattle.ownership.proofs.Owners.open.Goals as goal

pub loop-preserved : goal.loop-preserved
loop-preserved c = record {
  many = ap length c.in_ok-push.ensures.items ∙ length-append c.loop.slots.items (None ∷ []) ∙ ap (λ n. n + 1) c.loop.invariant.many;
  vacant = λ seat. ap (taken_from seat) c.in_ok-push.ensures.items ∙ taken_from-push c.loop.slots.items seat ∙ c.loop.invariant.vacant seat;
}

pub invariant_of-result : goal.invariant_of-result
invariant_of-result c =
    (c.loop.invariant.many ∙ omega (arith, c.loop-test.false), subst IsOwnedOnce (sym (vacant_slots c.loop.slots.items (c.loop.invariant.vacant 1))) once-empty)
