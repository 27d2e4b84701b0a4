use Rattle.std.proofs.Common.{◌<◌, length, arith}
use Rattle.key_table.specs.Slots.{home, slot_at, steps}
use Rattle.key_table.specs.declared.slots.Slot.{Slot}
use Rattle.key_table.proofs.SlotLemmas.{free_noted, free_vacant, free_within, kept_set, notes_self, taken_by, vacant_notes}
use Rattle.key_table.proofs.slots.fill.Goals as goal

pub returns-clause-keeps : goal.returns-clause-keeps
returns-clause-keeps c =
    let v : Slot = record { hash = c.args.hash; place = c.args.place } in
    let from = home (length c.args.slots.now) c.args.hash in
    kept_set c.args.slots.now c.args.at v (free_within c.args.slots.now c.args.at from steps c.requires.free) (taken_by v (λ same. omega (same, c.requires.place, arith))) (λ i. i < 4294967295)
    (λ hash i small. vacant_notes hash i (slot_at c.args.slots.now c.args.at) (free_vacant c.args.slots.now c.args.at from steps c.requires.free) small)

pub returns-clause-noted : goal.returns-clause-noted
returns-clause-noted c =
    let v : Slot = record { hash = c.args.hash; place = c.args.place } in
    let from = home (length c.args.slots.now) c.args.hash in
    free_noted c.args.slots.now c.args.at v c.args.hash c.args.place from steps (free_within c.args.slots.now c.args.at from steps c.requires.free) (taken_by v (λ same. omega (same, c.requires.place, arith))) (notes_self c.args.hash c.args.place) c.requires.free
