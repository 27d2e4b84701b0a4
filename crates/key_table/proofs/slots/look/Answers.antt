use Rattle.std.proofs.Common.{◌≡◌, ℕ, true, length, sym, ap, subst, ◌∙◌, arith}
use Rattle.std.proofs.lemmas.Bool.{ltb-false}
use Rattle.key_table.specs.Slots.{home, is_free, is_noted, is_taken, notes, steps}
use Rattle.key_table.proofs.SlotLemmas.{free_here, free_on, free_same, here_is, none_left, noted_on, noted_open, notes_other, open_by, other_under, past_noted, taken_by, under_within}
use Rattle.key_table.proofs.slots.look.Goals as goal
use Rattle.key_table.proofs.slots.look.Goals.{else-slot-hash-via-then-slot-hash+else-is_under, else-slot-hash-via-else-slot-hash}

pub returns-in_default-clause-beyond : goal.returns-in_default-clause-beyond
returns-in_default-clause-beyond g c = λ place under _.
    c.loop-left.invariant.0 place under
    ∙ past_noted c.args.slots.now c.loop-left.at c.loop-left.left c.args.hash place (ltb-false _ _ (sym c.in_default.ensures.lookup.0))
    (omega (under_within g.K.PartialEq.eq c.args.entries.now c.args.key.now place under, c.requires, arith))

pub returns-then-slot-clause-free : goal.returns-then-slot-clause-free
returns-then-slot-clause-free g c = λ slot e.
    let here = here_is c.args.slots.now c.loop-left.at c.in-Some.slot.now _ c.in-Some.ensures.lookup.0 c.in-Some.ensures.lookup.1 in
    subst (λ s. is_free c.args.slots.now (home (length c.args.slots.now) c.args.hash) steps s ≡ true) (free_same c.loop-left.at slot e)
    (c.loop-left.invariant.1 c.loop-left.at ∙ free_here c.args.slots.now c.loop-left.at c.loop-left.left c.loop-left-test.true (ap is_taken here ∙ open_by c.in-Some.slot.now c.if-slot.true))

pub returns-then-slot-clause-nowhere : goal.returns-then-slot-clause-nowhere
returns-then-slot-clause-nowhere g c = λ place _ under _.
    let here = here_is c.args.slots.now c.loop-left.at c.in-Some.slot.now _ c.in-Some.ensures.lookup.0 c.in-Some.ensures.lookup.1 in
    let within = under_within g.K.PartialEq.eq c.args.entries.now c.args.key.now place under in
    c.loop-left.invariant.0 place under
    ∙ noted_open c.args.slots.now c.loop-left.at c.loop-left.left c.args.hash place (ap is_taken here ∙ open_by c.in-Some.slot.now c.if-slot.true)
    (ap (notes c.args.hash place) here ∙ notes_other c.args.hash place c.in-Some.slot.now (λ _ same. omega (same, c.if-slot.true, within, c.requires, arith)))

pub loop-left-preserved : goal.loop-left-preserved
loop-left-preserved g c =
    let here = here_is c.args.slots.now c.loop-left.at c.in-Some.slot.now _ c.in-Some.ensures.lookup.0 c.in-Some.ensures.lookup.1 in
    let taken = ap is_taken here ∙ taken_by c.in-Some.slot.now c.if-slot.false in (
      λ place under.
          c.loop-left.invariant.0 place under
          ∙ noted_on c.args.slots.now c.loop-left.at c.loop-left.left c.args.hash place c.loop-left-test.true taken
          (ap (notes c.args.hash place) here ∙ notes_other c.args.hash place c.in-Some.slot.now (λ hashes places.
          elim c.else-slot-hash.branch [
            | else-slot-hash-via-then-slot-hash+else-is_under w ↦ other_under g.K.PartialEq.eq c.args.entries.now c.args.key.now c.in-Some.slot.now.place place (sym w.is_under.ensures ∙ w.if-is_under.false) under places
            | else-slot-hash-via-else-slot-hash w ↦ w.if-slot-hash.false hashes
          ])),
      λ slot. c.loop-left.invariant.1 slot ∙ free_on c.args.slots.now c.loop-left.at c.loop-left.left slot c.loop-left-test.true taken,
    )

pub returns-clause-beyond : goal.returns-clause-beyond
returns-clause-beyond g c = λ place under _.
    c.loop-left.invariant.0 place under ∙ ap (λ (n : ℕ). is_noted c.args.slots.now c.loop-left.at n c.args.hash place) (none_left c.loop-left.left c.loop-left-test.false)
