use Rattle.std.proofs.Common.{◌<◌, ℕ, List, length, set, sym, ap, subst, ◌∙◌, arith}
use Rattle.std.proofs.lemmas.Bool.{ltb-true, ltb-false}
use Rattle.key_table.specs.Slots.{Keeps, home, is_full, is_taken, notes, slot_at, steps}
use Rattle.key_table.specs.declared.slots.Slot.{Slot}
use Rattle.key_table.proofs.SlotLemmas.{Leads, full_on, here_is, kept_set, led_here, leads_step, none_left, notes_other, notes_self, past_full, taken_by}
use Rattle.key_table.proofs.slots.note.Goals as goal

pub returns-in_default-clause-full : goal.returns-in_default-clause-full
returns-in_default-clause-full c = λ _.
    let same = c.loop-left.invariant.0 in
    ap (λ (xs : List Slot). is_full xs (home (length c.args.slots.now) c.args.hash) steps) same
    ∙ c.loop-left.invariant.2
    ∙ ap (λ (xs : List Slot). is_full xs c.loop-left.at c.loop-left.left) (sym same)
    ∙ past_full c.loop-left.slots c.loop-left.at c.loop-left.left (ltb-false _ _ (sym c.in_default.ensures.lookup.0))

pub returns-then-slot-len-clause-keeps : goal.returns-then-slot-len-clause-keeps
returns-then-slot-len-clause-keeps c =
    let v : Slot = record { hash = c.args.hash; place = c.args.place } in
    let here = here_is c.loop-left.slots c.loop-left.at c.in-Some.slot.now _ c.in-Some.ensures.lookup.0 c.in-Some.ensures.lookup.1 in
    subst (λ (xs : List Slot). Keeps (λ i. i < c.args.len) xs (set c.loop-left.slots c.loop-left.at v)) c.loop-left.invariant.0
    (kept_set c.loop-left.slots c.loop-left.at v (ltb-true _ _ (sym c.in-Some.ensures.lookup.0)) (taken_by v (λ same. omega (same, c.requires.place, arith))) (λ i. i < c.args.len)
    (λ hash i small. ap (notes hash i) here ∙ notes_other hash i c.in-Some.slot.now (λ _ same. omega (same, small, c.if-slot-len.true, arith))))

pub returns-then-slot-len-clause-noted : goal.returns-then-slot-len-clause-noted
returns-then-slot-len-clause-noted c = λ _ _.
    let v : Slot = record { hash = c.args.hash; place = c.args.place } in
    let from = home (length c.args.slots.now) c.args.hash in
    led_here c.loop-left.slots from steps c.loop-left.at c.loop-left.left v c.args.hash c.args.place c.loop-left-test.true
    (subst (λ (xs : List Slot). Leads xs from steps c.loop-left.at c.loop-left.left) (sym c.loop-left.invariant.0) c.loop-left.invariant.1)
    (ltb-true _ _ (sym c.in-Some.ensures.lookup.0)) (notes_self c.args.hash c.args.place)

pub loop-left-preserved : goal.loop-left-preserved
loop-left-preserved c =
    let same = c.loop-left.invariant.0 in
    let here = here_is c.loop-left.slots c.loop-left.at c.in-Some.slot.now _ c.in-Some.ensures.lookup.0 c.in-Some.ensures.lookup.1 in
    let taken = ap (λ (xs : List Slot). is_taken (slot_at xs c.loop-left.at)) (sym same) ∙ ap is_taken here ∙ taken_by c.in-Some.slot.now (λ e. omega (e, c.if-slot-len.false, c.requires.len, arith)) in (
      same,
      leads_step c.args.slots.now (home (length c.args.slots.now) c.args.hash) steps c.loop-left.at c.loop-left.left c.loop-left-test.true c.loop-left.invariant.1 taken,
      c.loop-left.invariant.2 ∙ full_on c.args.slots.now c.loop-left.at c.loop-left.left c.loop-left-test.true taken,
    )

pub returns-clause-full : goal.returns-clause-full
returns-clause-full c = λ _.
    ap (λ (xs : List Slot). is_full xs (home (length c.args.slots.now) c.args.hash) steps) c.loop-left.invariant.0
    ∙ c.loop-left.invariant.2
    ∙ ap (λ (n : ℕ). is_full c.args.slots.now c.loop-left.at n) (none_left c.loop-left.left c.loop-left-test.false)
