use Rattle.std.proofs.Common.{◌<◌, ◌⊎◌, inl, inr, ℕ, List, length, set, sym, ap, subst, ◌∙◌, arith}
use Rattle.std.proofs.lemmas.Bool.{ltb-true, ltb-false}
use Rattle.key_table.specs.Slots.{Keeps, home, is_noted, notes, slot_at, steps}
use Rattle.key_table.specs.declared.slots.Slot.{Slot}
use Rattle.key_table.proofs.SlotLemmas.{Leads, false_here, here_is, kept_set, led_here, leads_step, none_left, noted_on, notes_other, notes_self, past_noted, taken_by, taken_here}
use Rattle.key_table.proofs.slots.move_note.Goals as goal
use Rattle.key_table.proofs.slots.move_note.Goals.{else-slot-hash-via-then-slot-hash+else-slot-from, else-slot-hash-via-else-slot-hash}

pub returns-in_default-clause-moved : goal.returns-in_default-clause-moved
returns-in_default-clause-moved c = λ noted.
    false_here _ (c.loop-left.invariant.1 noted).0
    (ap (λ (xs : List Slot). is_noted xs c.loop-left.at c.loop-left.left c.args.hash c.args.from) (sym c.loop-left.invariant.0)
    ∙ past_noted c.loop-left.slots c.loop-left.at c.loop-left.left c.args.hash c.args.from (ltb-false _ _ (sym c.in_default.ensures.lookup.0)) (omega (c.requires.from, arith)))

pub returns-then-slot-from-clause-keeps : goal.returns-then-slot-from-clause-keeps
returns-then-slot-from-clause-keeps c =
    let v : Slot = record { hash = c.args.hash; place = c.args.to } in
    let here = here_is c.loop-left.slots c.loop-left.at c.in-Some.slot.now _ c.in-Some.ensures.lookup.0 c.in-Some.ensures.lookup.1 in
    subst (λ (xs : List Slot). Keeps (λ i. (i < c.args.from) ⊎ (c.args.from < i)) xs (set c.loop-left.slots c.loop-left.at v)) c.loop-left.invariant.0
    (kept_set c.loop-left.slots c.loop-left.at v (ltb-true _ _ (sym c.in-Some.ensures.lookup.0)) (taken_by v (λ same. omega (same, c.requires.to, arith))) (λ i. (i < c.args.from) ⊎ (c.args.from < i))
    (λ hash i other. ap (notes hash i) here ∙ notes_other hash i c.in-Some.slot.now (λ _ same. elim other [ inl less ↦ omega (same, less, c.if-slot-from.true, arith) | inr more ↦ omega (same, more, c.if-slot-from.true, arith) ])))

pub returns-then-slot-from-clause-moved : goal.returns-then-slot-from-clause-moved
returns-then-slot-from-clause-moved c = λ noted.
    let v : Slot = record { hash = c.args.hash; place = c.args.to } in
    let from = home (length c.args.slots.now) c.args.hash in
    led_here c.loop-left.slots from steps c.loop-left.at c.loop-left.left v c.args.hash c.args.to c.loop-left-test.true
    (subst (λ (xs : List Slot). Leads xs from steps c.loop-left.at c.loop-left.left) (sym c.loop-left.invariant.0) (c.loop-left.invariant.1 noted).1)
    (ltb-true _ _ (sym c.in-Some.ensures.lookup.0)) (notes_self c.args.hash c.args.to)

pub loop-left-preserved : goal.loop-left-preserved
loop-left-preserved c =
    let same = c.loop-left.invariant.0 in
    let here = ap (λ (xs : List Slot). slot_at xs c.loop-left.at) (sym same) ∙ here_is c.loop-left.slots c.loop-left.at c.in-Some.slot.now _ c.in-Some.ensures.lookup.0 c.in-Some.ensures.lookup.1 in
    let other = ap (notes c.args.hash c.args.from) here ∙ notes_other c.args.hash c.args.from c.in-Some.slot.now (λ hashes places.
    elim c.else-slot-hash.branch [
      | else-slot-hash-via-then-slot-hash+else-slot-from w ↦ w.if-slot-from.false places
      | else-slot-hash-via-else-slot-hash w ↦ w.if-slot-hash.false hashes
    ]) in (
      same,
      λ noted.
          let there = c.loop-left.invariant.1 noted in
          let taken = taken_here c.args.slots.now c.loop-left.at c.loop-left.left c.args.hash c.args.from there.0 other in (
            sym (noted_on c.args.slots.now c.loop-left.at c.loop-left.left c.args.hash c.args.from c.loop-left-test.true taken other) ∙ there.0,
            leads_step c.args.slots.now (home (length c.args.slots.now) c.args.hash) steps c.loop-left.at c.loop-left.left c.loop-left-test.true there.1 taken,
          ),
    )

pub returns-clause-moved : goal.returns-clause-moved
returns-clause-moved c = λ noted.
    false_here _ (c.loop-left.invariant.1 noted).0 (ap (λ (n : ℕ). is_noted c.args.slots.now c.loop-left.at n c.args.hash c.args.from) (none_left c.loop-left.left c.loop-left-test.false))
