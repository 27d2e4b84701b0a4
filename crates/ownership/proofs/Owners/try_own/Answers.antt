use Rattle.std.proofs.Common.{◌∙◌, ◌≢◌, ◌-◌, ℕ, ap, sym, subst, length-set}
use Rattle.std.specs.FinMap as map
use Rattle.std.specs.Prelude.{Some}
use Rattle.ownership.specs.declared.Attempt.TheVariants.{Owned}
use Rattle.ownership.specs.Ownership.{IsOwnedOnce, owned_by}
use Rattle.ownership.specs.Slots.{owned_of}
use Rattle.ownership.proofs.OwnerLemmas.{once-insert, attempt_free}
use Rattle.ownership.proofs.SlotLemmas.{put_at_seat}
use Rattle.ownership.proofs.Owners.try_own.Goals as goal

pub invariant_of-self : goal.invariant_of-self
invariant_of-self c =
    let full = c.self.invariant.0 in
    let free : (s : ℕ) → owned_by (owned_of c.self.inside.slots.items) s ≢ Some c.args.gtid =
    λ s e. c.in_default-owner.ensures.none s (ap (λ o. owned_by o s) (sym c.self.view_is) ∙ e) in (
      length-set c.self.inside.slots.items (c.args.seat - 1) (Some c.args.gtid) ∙ full,
      subst IsOwnedOnce (sym (put_at_seat c.self.inside.slots.items c.args.seat c.args.gtid c.requires full)) (once-insert _ c.args.seat c.args.gtid c.self.invariant.1 free),
    )

pub returns : goal.returns
returns c =
    ap (λ o. (Owned, o)) (put_at_seat c.self.inside.slots.items c.args.seat c.args.gtid c.requires c.self.invariant.0 ∙ ap (λ o. map.insert o c.args.seat c.args.gtid) c.self.view_is)
    ∙ attempt_free c.args.self.now c.args.gtid c.args.seat (sym c.owned_by.ensures ∙ c.in_default.is) (sym c.owner.ensures.exact ∙ c.in_default-owner.is)
