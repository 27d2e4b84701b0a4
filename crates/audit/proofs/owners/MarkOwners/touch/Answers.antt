use Rattle.std.proofs.Common.{◌≡◌, ◌<◌, ℕ, Some, length, nat_eq, sym, ◌∙◌, arith}
use Rattle.std.specs.Prelude.{Result, Ok, Err, IfOk, OnOk, bit_and, slice_get}
use Rattle.std.proofs.lemmas.Bool.{eqb-true}
use Rattle.indexmap.specs.IndexMap.{get}
use Rattle.audit.specs.declared.owners.MarkSlot.{MarkSlot}
use Rattle.audit.proofs.MarkLemmas.{passed_other, rest_touched, slot_touched}
use Rattle.audit.proofs.Rising.{get_here}
use Rattle.audit.proofs.owners.MarkOwners.touch.Goals as goal

pub returns-then-are_same : goal.returns-then-are_same
returns-then-are_same c = λ own.
    let slots = c.args.self.now.slots.items in
    let slot : MarkSlot = c.index.result.now in
    let at : ℕ = bit_and c.args.mark c.args.self.now.mask in
    let within : at < length slots = omega (arith, c.if-at-len.false, c.len.ensures) in
    let there : slice_get slots at ≡ Some slot = get_here slots at slot within c.index.ensures in
    slot_touched c.args.self.now.mask slots (get nat_eq c.args.self.now.rest) c.args.mark c.args.source slot there (sym c.is_none.ensures ∙ c.if-is_none.false)
    (sym c.are_same.ensures ∙ c.if-are_same.true) (eqb-true slot.owner c.args.source (sym c.eq.ensures ∙ own))

-- what two clauses say of one answer
of_both : {A E : Type 0} (r : Result A E) (P : A → Type 0) (Q : Type 0) (R : A → Type 0) → ((x : A) → P x → Q → R x) → IfOk r P → OnOk r Q → IfOk r R
of_both (Ok x) P Q R f p q = f x p q
of_both (Err e) P Q R f p q = tt

pub returns : goal.returns
returns c =
    let slots = c.args.self.now.slots.items in
    let slot : MarkSlot = c.index.result.now in
    let mask = c.args.self.now.mask in
    let rest = get nat_eq c.args.self.now.rest in
    let at : ℕ = bit_and c.args.mark mask in
    let within : at < length slots = omega (arith, c.if-at-len.false, c.len.ensures) in
    let there : slice_get slots at ≡ Some slot = get_here slots at slot within c.index.ensures in
    of_both c.touch_rest-2.result _ _ _
    (λ own alone touched yes. rest_touched mask slots rest c.args.mark c.args.source (get nat_eq c.touch_rest-2.new.rest)
    (passed_other mask slots rest c.args.mark c.args.source slot there (sym c.is_none.ensures ∙ c.if-is_none.false) (sym c.are_same.ensures ∙ c.if-are_same.false))
    (alone yes) touched)
    c.touch_rest-2.ensures.own c.touch_rest-2.ensures.touched
