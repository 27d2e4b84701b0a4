-- Steps that may fail: what they give, and why they fail.
use Rattle.std.proofs.Common.{◌≡◌, Bool, true, false, cond, Option, Some, None, Result, Ok, Err, refl}
use Rattle.std.specs.Prelude.{MatchResult}
use Rattle.txn_journal.specs.Lines.{◌>>=◌, some_or_body}
use Rattle.txn_journal.specs.declared.fault.Cause.{Cause}
use Rattle.txn_journal.specs.declared.fault.Cause.TheVariants as causes

pub then_both : {A B : Type 0} {P : A → Type 0} (P' : B → Type 0) (Q : Cause → Type 0) (r : Result A Cause) (f : A → Result B Cause) → MatchResult r P Q → ((x : A) → P x → MatchResult (f x) P' Q) → MatchResult (r >>= f) P' Q
then_both P' Q (Ok x) f h more = more x h
then_both P' Q (Err c) f h more = h

pub if_both : {A : Type 0} (P : A → Type 0) (Q : Cause → Type 0) (b : Bool) (x y : Result A Cause) → (b ≡ true → MatchResult x P Q) → (b ≡ false → MatchResult y P Q) → MatchResult (cond b x y) P Q
if_both P Q true x y h k = h refl
if_both P Q false x y h k = k refl

pub some_both : {A : Type 0} (P : A → Type 0) (Q : Cause → Type 0) (o : Option A) → ((x : A) → o ≡ Some x → P x) → Q causes.Body → MatchResult (some_or_body o) P Q
some_both P Q (Some x) found body = found x refl
some_both P Q None found body = body

-- it is not in the grammar
abbrev pub IsBody : Cause → Type 0
IsBody causes.Body = Unit {0}
IsBody _ = ⊥

abbrev pub IsSchema : Cause → Type 0
IsSchema causes.Schema = Unit {0}
IsSchema _ = ⊥

-- what is found, in other words
pub found_weaker : {A : Type 0} (r : Result A Cause) (P P' : A → Type 0) (Q : Cause → Type 0) → ((x : A) → P x → P' x) → MatchResult r P Q → MatchResult r P' Q
found_weaker (Ok x) P P' Q more h = more x h
found_weaker (Err c) P P' Q more h = h

-- and the outcome itself
pub known_both : {A : Type 0} (r : Result A Cause) (P : A → Type 0) (Q : Cause → Type 0) → MatchResult r P Q → MatchResult r (λ x. (r ≡ Ok x) × P x) (λ c. (r ≡ Err c) × Q c)
known_both (Ok x) P Q h = (refl, h)
known_both (Err c) P Q h = (refl, h)

-- two steps, and what they make
pub one_step : {B C D : Type 0} (r : Result B Cause) (mk : B → C) (put : C → Result D Cause) → (r >>= λ y. put (mk y)) ≡ ((r >>= λ y. Ok (mk y)) >>= put)
one_step (Ok y) mk put = refl
one_step (Err e) mk put = refl

pub two_steps : {A B C D : Type 0} (r : Result A Cause) (f : A → Result B Cause) (mk : A → B → C) (put : C → Result D Cause) → (r >>= λ x. f x >>= λ y. put (mk x y)) ≡ ((r >>= λ x. f x >>= λ y. Ok (mk x y)) >>= put)
two_steps (Ok x) f mk put = one_step (f x) (mk x) put
two_steps (Err e) f mk put = refl

pub bind_assoc : {A B C : Type 0} (r : Result A Cause) (f : A → Result B Cause) (g : A → Result C Cause) (put : B → Result C Cause) → ((x : A) → g x ≡ (f x >>= put)) → (r >>= g) ≡ ((r >>= f) >>= put)
bind_assoc (Ok x) f g put h = h x
bind_assoc (Err e) f g put h = refl

pub bind_ok : {A B : Type 0} (r : Result A Cause) (f : A → Result B Cause) (y : B) → (r >>= f) ≡ Ok y → (x : A) × (r ≡ Ok x) × (f x ≡ Ok y)
bind_ok (Ok x) f y e = (x, refl, e)
bind_ok (Err d) f y e = absurd cc

abbrev pub done : {A : Type 0} → A → Result A Cause
done x = Ok x

pub ok_is : {A : Type 0} (x y : A) → done x ≡ done y → x ≡ y
ok_is x y e = cc
