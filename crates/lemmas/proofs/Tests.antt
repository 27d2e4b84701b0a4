-- Tests and what follows from them.
use Rattle.std.proofs.Common.{Bool, T, arith, cond, false, not, refl, sym, true, ◌&&◌, ◌||◌, ◌≡◌}

pub not_both : {A : Type 0} (b : Bool) → b ≡ true → b ≡ false → A
not_both true p q = cc
not_both false p q = cc

pub and_second : (p q : Bool) → (p && q) ≡ true → q ≡ true
and_second true q e = e
and_second false q e = cc

pub not_true : (b : Bool) → (b ≡ true → false ≡ true) → b ≡ false
not_true true h = sym (h refl)
not_true false h = refl

pub not_out : (a b : Bool) → a ≡ true → (not a && b) ≡ false
not_out true b e = refl
not_out false b e = cc

pub on_test : {A : Type 0} (P : A → Type 0) (b : Bool) (x y : A) → (b ≡ true → P x) → (b ≡ false → P y) → P (cond b x y)
on_test P true x y h g = h refl
on_test P false x y h g = g refl

pub or_four : (a b c d : Bool) → ((a || b) || (c || d)) ≡ ((a || c) || (b || d))
or_four true b c d = refl
or_four false true true d = refl
or_four false false true d = refl
or_four false true false d = refl
or_four false false false d = refl

pub and_false : (b : Bool) → (b && false) ≡ false
and_false true = refl
and_false false = refl

pub or_none : (b : Bool) → (b || false) ≡ b
or_none true = refl
or_none false = refl

pub or_assoc : (a b c : Bool) → (a || (b || c)) ≡ ((a || b) || c)
or_assoc true b c = refl
or_assoc false b c = refl

pub or_swap : (a b c : Bool) → (a || (b || c)) ≡ (b || (a || c))
or_swap true true c = refl
or_swap true false c = refl
or_swap false b c = refl

pub same_bool : (a b : Bool) → (a ≡ true → b ≡ true) → (b ≡ true → a ≡ true) → a ≡ b
same_bool true b f g = sym (f refl)
same_bool false true f g = g refl
same_bool false false f g = refl

pub or_flat : (a b c : Bool) → ((a || b) || c) ≡ (a || (b || c))
or_flat true b c = refl
or_flat false b c = refl

pub or_false : (a : Bool) → a ≡ (a || false)
or_false true = refl
or_false false = refl

pub cond_or : (p q : Bool) → cond p true q ≡ (p || q)
cond_or true q = refl
cond_or false q = refl

pub neither_left : (a b : Bool) → (a || b) ≡ false → a ≡ false
neither_left true b e = cc
neither_left false b e = refl

pub false_from_not : (b : Bool) → not b ≡ true → b ≡ false
false_from_not true e = cc
false_from_not false e = refl

pub true_from_not : (b : Bool) → not b ≡ false → b ≡ true
true_from_not true e = refl
true_from_not false e = absurd cc

pub not_and_parts : (a b : Bool) → (not a && b) ≡ true → (a ≡ false) × (b ≡ true)
not_and_parts true b h = cc
not_and_parts false b h = (refl, h)

pub or_twice : (a r : Bool) → (a || r) ≡ (a || (a || r))
or_twice a r = grind arith

pub or_turn : (a b c : Bool) → ((a || b) || c) ≡ (b || (a || c))
or_turn true true c = refl
or_turn true false c = refl
or_turn false b c = refl

pub from_or_false : (b : Bool) → (b || false) ≡ true → b ≡ true
from_or_false true e = refl
from_or_false false e = e

pub left_of : (a b : Bool) → T (a && b) → T a
left_of true b p = tt
left_of false b p = p

pub right_of : (a b : Bool) → T (a && b) → T b
right_of true b p = p
right_of false b p = absurd p

pub never : {A : Type 0} → false ≡ true → A
never e = cc
