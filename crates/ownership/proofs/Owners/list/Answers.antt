use Rattle.std.proofs.Common.{◌+◌, ◌++◌, drop, ◌∙◌, ap}
use Rattle.std.specs.FinMap as map
use Rattle.ownership.specs.Slots.{taken_from, owned_of}
use Rattle.ownership.proofs.SlotLemmas.{taken_free, taken_one, taken_all}
use Rattle.ownership.proofs.Owners.list.Goals as goal
use Rattle.ownership.proofs.Owners.list.Goals.{in-Some+in_ok-push, in_default}

pub loop-slot-preserved : goal.loop-slot-preserved
loop-slot-preserved c =
    let slots = c.deref-held-items.result.now in
    let slot = c.loop-slot.slot in
    let front = c.loop-slot.owned.items in
    elim c.match-held.branch [
      | in-Some+in_ok-push w ↦
          ap (λ v. v.items ++ taken_from (slot + 1 + 1) (drop (slot + 1) slots)) w.owned-is
          ∙ ap (λ es. es ++ taken_from (slot + 1 + 1) (drop (slot + 1) slots)) w.in_ok-push.ensures.items
          ∙ taken_one front slots slot c.held-item.result w.in-Some.gtid c.loop-slot-test.true c.held-item.is w.in-Some.is c.loop-slot.invariant
      | in_default w ↦
          ap (λ v. v.items ++ taken_from (slot + 1 + 1) (drop (slot + 1) slots)) w.owned-is
          ∙ taken_free front slots slot c.held-item.result c.loop-slot-test.true c.held-item.is w.in_default.is c.loop-slot.invariant
    ]

pub returns : goal.returns
returns c =
    taken_all c.loop-slot.owned.items c.deref-held-items.result.now c.loop-slot.slot c.loop-slot-test.false c.loop-slot.invariant
    ∙ ap (λ slots. map.entries (owned_of slots)) c.deref-held-items.ensures.value ∙ ap map.entries c.self.view_is
