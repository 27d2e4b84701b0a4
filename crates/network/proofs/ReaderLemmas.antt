-- The places of a node's channels, once entries are purged: one slot after another.
use Rattle.std.proofs.Common.{◌≡◌, ℕ, ◌+◌, ◌<◌, ◌≤◌, Bool, true, false, cond, inl, inr, List, length, Option, None, refl, sym, ap, ◌∙◌, subst, arith, get_or, set, length-set}
use Rattle.std.specs.Prelude.{◌==◌, nat_lt}
use Rattle.std.proofs.lemmas.Bool.{cases_Bool, eqb-true}
use Rattle.std.proofs.lemmas.Bool.Decides.{nat_tests}
use Rattle.lemmas.proofs.Numbers.{not_less}
use Rattle.network.specs.Nodes.{Sources}
use Rattle.network.specs.Slots.{sources_of}
use Rattle.network.specs.Reading.{shift_place, reads, place_after, AreMoved}
use Rattle.network.proofs.SlotLemmas.{get-sources_of, at_slot, beyond}

-- the slots below a number have moved, and the others have not
pub record AreMovedTo (n : ℕ) (sources : Sources) (k count : ℕ) (old new : List (Option ℕ)) : Type 0 where
  pub length_is : length new ≡ length old
  pub each : (c : ℕ) → get_or new c None ≡ cond (nat_lt c n) (place_after sources k count c (get_or old c None)) (get_or old c None)

pub none_moved_yet : (sources : Sources) (k count : ℕ) (old : List (Option ℕ)) → AreMovedTo 0 sources k count old old
none_moved_yet sources k count old = record { length_is = refl; each = λ c. ap (λ b. cond b (place_after sources k count c (get_or old c None)) (get_or old c None)) (sym (no_less c)) }
  where
    no_less : (c : ℕ) → nat_lt c 0 ≡ false
    no_less c = grind (arith, nat_tests)

next_less : (n c : ℕ) → (c == n) ≡ false → nat_lt c (n + 1) ≡ nat_lt c n
next_less n c e = grind (e, arith, nat_tests)

here_less : (n c : ℕ) → c ≡ n → nat_lt c (n + 1) ≡ true
here_less n c e = grind (e, arith, nat_tests)

-- one slot more, whatever it has now
one_more : (n : ℕ) (sources : Sources) (k count : ℕ) (old new newer : List (Option ℕ)) → AreMovedTo n sources k count old new → length newer ≡ length new
    → ((c : ℕ) → (c == n) ≡ false → get_or newer c None ≡ get_or new c None) → get_or newer n None ≡ place_after sources k count n (get_or old n None) → AreMovedTo (n + 1) sources k count old newer
one_more n sources k count old new newer m same others here = record {
  length_is = same ∙ m.length_is;
  each = λ c. elim (cases_Bool (c == n)) [
    | inl at ↦
        let is_n : c ≡ n = eqb-true c n at in
        subst (λ (d : ℕ). get_or newer d None ≡ cond (nat_lt d (n + 1)) (place_after sources k count d (get_or old d None)) (get_or old d None)) (sym is_n)
        (here ∙ sym (ap (λ b. cond b (place_after sources k count n (get_or old n None)) (get_or old n None)) (here_less n n refl)))
    | inr other ↦ others c other ∙ (m.each c ∙ sym (ap (λ b. cond b (place_after sources k count c (get_or old c None)) (get_or old c None)) (next_less n c other)))
  ];
}

old_here : (n : ℕ) (sources : Sources) (k count : ℕ) (old new : List (Option ℕ)) → AreMovedTo n sources k count old new → get_or new n None ≡ get_or old n None
old_here n sources k count old new m = m.each n ∙ ap (λ b. cond b (place_after sources k count n (get_or old n None)) (get_or old n None)) (not_less n)

-- the channel reads the node: its place moves
pub one_moves : (n : ℕ) (sources : Sources) (k count : ℕ) (old new : List (Option ℕ)) (v : Option ℕ) → n < length new → AreMovedTo n sources k count old new → reads sources n k ≡ true → v ≡ shift_place count (get_or new n None)
    → AreMovedTo (n + 1) sources k count old (set new n v)
one_moves n sources k count old new v below m r is =
    one_more n sources k count old new (set new n v) m (length-set new n v)
    (λ c other. at_slot v new n c below ∙ ap (λ b. cond b v (get_or new c None)) other)
    (at_slot v new n n below ∙ (ap (λ b. cond b v (get_or new n None)) (itself n)
    ∙ (is ∙ (ap (shift_place count) (old_here n sources k count old new m) ∙ sym (ap (λ b. cond b (shift_place count (get_or old n None)) (get_or old n None)) r)))))
  where
    itself : (i : ℕ) → (i == i) ≡ true
    itself i = grind (arith, nat_tests)

-- it does not
pub one_stays : (n : ℕ) (sources : Sources) (k count : ℕ) (old new : List (Option ℕ)) → AreMovedTo n sources k count old new → reads sources n k ≡ false → AreMovedTo (n + 1) sources k count old new
one_stays n sources k count old new m r =
    one_more n sources k count old new new m refl (λ c other. refl)
    (old_here n sources k count old new m ∙ sym (ap (λ b. cond b (shift_place count (get_or old n None)) (get_or old n None)) r))

-- all slots
pub all_moved : (n : ℕ) (sources : Sources) (k count : ℕ) (old new : List (Option ℕ)) → length old ≤ n → AreMovedTo n sources k count old new → AreMoved sources k count (sources_of old) (sources_of new)
all_moved n sources k count old new far m c =
    get-sources_of new c
    ∙ (m.each c
    ∙ (elim (cases_Bool (nat_lt c n)) [
      | inl less ↦ ap (λ b. cond b (place_after sources k count c (get_or old c None)) (get_or old c None)) less ∙ ap (place_after sources k count c) (sym (get-sources_of old c))
      | inr more ↦
          let none : get_or old c None ≡ None = beyond old c (let least : n ≤ c = grind (more, arith, nat_tests) in omega (least, far, arith)) in
          ap (λ b. cond b (place_after sources k count c (get_or old c None)) (get_or old c None)) more
          ∙ (none ∙ sym (ap (place_after sources k count c) (get-sources_of old c ∙ none) ∙ both (reads sources c k)))
    ]))
  where
    both : (b : Bool) → cond b (shift_place count None) None ≡ None
    both true = refl
    both false = refl
