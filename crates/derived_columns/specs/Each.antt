-- What each of a list gives, or else the first error.
use Rattle.std.specs.Prelude.{List, [], ◌∷◌, Result, Ok, Err}

-- what is made of both, or else the first of their errors
abbrev pub with_both : {A B C E : Type 0} → (A → B → C) → Result A E → Result B E → Result C E
with_both make (Err e) other = Err e
with_both make (Ok a) (Err e) = Err e
with_both make (Ok a) (Ok b) = Ok (make a b)

-- what is made of it, or else its error
abbrev pub with_it : {A B E : Type 0} → (A → B) → Result A E → Result B E
with_it make (Err e) = Err e
with_it make (Ok a) = Ok (make a)

-- what each gives, or else the first error
abbrev pub each : {A B E : Type 0} → (A → Result B E) → List A → Result (List B) E
each give [] = Ok []
each give (x ∷ xs) = with_both (λ y ys. y ∷ ys) (give x) (each give xs)
