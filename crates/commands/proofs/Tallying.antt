-- Counts of shared keys by their places.
use Rattle.std.proofs.Common.{◌≡◌, ℕ, Bool, true, false, cond, ◌||◌, List, [], ◌∷◌, ◌++◌, Option, Some, None, refl, sym, ap, ◌∙◌, append-nil}
use Rattle.std.specs.List.{list_any}
use Rattle.std.specs.Option.{option_map_or}
use Rattle.std.specs.Str.{bytes_eq}
use Rattle.std.specs.Cmp.Lexicographic.{bytes_decides}
use Rattle.std.proofs.lemmas.List.Folds.{list_any-append}
use Rattle.world.specs.declared.verdict.Verdict.{Verdict}
use Rattle.commands.specs.Summaries.{place_of, is_at, count_at, line_at, new_count, line_of}
use Rattle.commands.specs.Tallies.{one_more_at}

-- ---- where a fault is

pub nowhere : (v : Verdict) → place_of v ≡ None → (p : List ℕ) → is_at p v ≡ false
nowhere v e p = ap (λ o. option_map_or (λ q. bytes_eq q p) o false) e

pub somewhere : (v : Verdict) (q : List ℕ) → place_of v ≡ Some q → (p : List ℕ) → is_at p v ≡ bytes_eq q p
somewhere v q e p = ap (λ o. option_map_or (λ r. bytes_eq r p) o false) e

-- ---- a fault is counted

same_count : (f : List ℕ → Option ℕ) (q p : List ℕ) (count : ℕ) (b : Bool) → bytes_eq q p ≡ b → Some count ≡ one_more_at (f q) → cond b (Some count) (f p) ≡ cond b (one_more_at (f p)) (f p)
same_count f q p count true same c = c ∙ ap (λ r. one_more_at (f r)) ((bytes_decides q p).0 same)
same_count f q p count false same c = refl

pub counted_there : (f g : List ℕ → Option ℕ) (v : Verdict) (q : List ℕ) (count : ℕ) → place_of v ≡ Some q → Some count ≡ one_more_at (f q) → ((p : List ℕ) → g p ≡ cond (bytes_eq q p) (Some count) (f p)) → (p : List ℕ) → g p ≡ cond (is_at p v) (one_more_at (f p)) (f p)
counted_there f g v q count e c h p =
    h p ∙ same_count f q p count (bytes_eq q p) refl c ∙ ap (λ b. cond b (one_more_at (f p)) (f p)) (sym (somewhere v q e p))

pub counted_nowhere : (f : List ℕ → Option ℕ) (v : Verdict) → place_of v ≡ None → (p : List ℕ) → f p ≡ cond (is_at p v) (one_more_at (f p)) (f p)
counted_nowhere f v e p = ap (λ b. cond b (one_more_at (f p)) (f p)) (sym (nowhere v e p))

-- ---- a fault is told

or_false : (a b : Bool) → b ≡ false → (a || (b || false)) ≡ a
or_false true b e = refl
or_false false b e = rw e refl

or_true : (a b : Bool) → b ≡ true → (a || (b || false)) ≡ true
or_true true b e = refl
or_true false b e = rw e refl

-- the place of another fault has the count that it had
pub still_left : (p : List ℕ) (v : Verdict) (seen after : List Verdict) → is_at p v ≡ false → new_count p seen (v ∷ after) ≡ new_count p (seen ++ v ∷ []) after
still_left p v seen after e =
    ap (λ b. cond (list_any (is_at p) seen) None (cond b (one_more_at (count_at p after)) (count_at p after))) e
    ∙ ap (λ b. cond b None (count_at p after)) (sym (list_any-append (is_at p) seen (v ∷ []) ∙ or_false (list_any (is_at p) seen) (is_at p v) e))

-- the place of the fault has none
pub left_no_more : (p : List ℕ) (v : Verdict) (seen after : List Verdict) → is_at p v ≡ true → None ≡ new_count p (seen ++ v ∷ []) after
left_no_more p v seen after e =
    ap (λ b. cond b None (count_at p after)) (sym (list_any-append (is_at p) seen (v ∷ []) ∙ or_true (list_any (is_at p) seen) (is_at p v) e))

taken_out : (f : List ℕ → Option ℕ) (q p : List ℕ) (v : Verdict) (seen after : List Verdict) (b : Bool) → bytes_eq q p ≡ b → is_at p v ≡ b → f p ≡ new_count p seen (v ∷ after) → cond b None (f p) ≡ new_count p (seen ++ v ∷ []) after
taken_out f q p v seen after true same here h = left_no_more p v seen after here
taken_out f q p v seen after false same here h = h ∙ still_left p v seen after here

pub left_behind : (f g : List ℕ → Option ℕ) (v : Verdict) (q : List ℕ) (seen after : List Verdict) → place_of v ≡ Some q → ((p : List ℕ) → g p ≡ cond (bytes_eq q p) None (f p)) → ((p : List ℕ) → f p ≡ new_count p seen (v ∷ after)) → (p : List ℕ) → g p ≡ new_count p (seen ++ v ∷ []) after
left_behind f g v q seen after e h left p = h p ∙ taken_out f q p v seen after (bytes_eq q p) refl (somewhere v q e p) (left p)

pub line_there : (v : Verdict) (q text : List ℕ) (seen after : List Verdict) (n : Option ℕ) → place_of v ≡ Some q → n ≡ new_count q seen (v ∷ after) → text ++ line_at q v n ≡ text ++ line_of (place_of v) seen v after
line_there v q text seen after n e c = ap (λ k. text ++ line_at q v k) c ∙ ap (λ o. text ++ line_of o seen v after) (sym e)

pub line_nowhere : (v : Verdict) (text : List ℕ) (seen after : List Verdict) → place_of v ≡ None → text ≡ text ++ line_of (place_of v) seen v after
line_nowhere v text seen after e = sym (append-nil text) ∙ ap (λ o. text ++ line_of o seen v after) (sym e)
