use Rattle.std.proofs.Common.{◌∙◌, ◌-◌, ap, sym, subst, length-set}
use Rattle.std.specs.FinMap as map
use Rattle.std.specs.Prelude.{None}
use Rattle.ownership.specs.Ownership.{IsOwnedOnce}
use Rattle.ownership.proofs.OwnerLemmas.{once-remove}
use Rattle.ownership.proofs.SlotLemmas.{clear_at_seat}
use Rattle.ownership.proofs.Owners.release.Goals as goal

pub invariant_of-self : goal.invariant_of-self
invariant_of-self c =
    let full = c.self.invariant.0 in (
      length-set c.self.inside.slots.items (c.args.seat - 1) None ∙ full,
      subst IsOwnedOnce (sym (clear_at_seat c.self.inside.slots.items c.args.seat c.requires full)) (once-remove _ c.args.seat c.self.invariant.1),
    )

pub returns : goal.returns
returns c = clear_at_seat c.self.inside.slots.items c.args.seat c.requires c.self.invariant.0 ∙ ap (λ o. map.remove o c.args.seat) c.self.view_is
