use Rattle.std.proofs.Common.{ap, ◌∙◌}
use Rattle.std.specs.FinMap as map
use Rattle.ownership.proofs.SlotLemmas.{slot_is}
use Rattle.ownership.proofs.Owners.owned_by.Goals as goal

pub returns : goal.returns
returns c =
    slot_is c.self.inside.slots.items c.args.seat c.index.result.now c.requires c.self.invariant.0 c.index.ensures
    ∙ ap (λ o. map.get o c.args.seat) c.self.view_is
