-- An image alone, and two with a bar between.
use Rattle.std.proofs.Common.{◌≡◌, ℕ, zero, suc, ◌+◌, ◌-◌, ◌<◌, ◌≤◌, Bool, true, false, cond, eqb, List, [], ◌∷◌, ◌++◌, length, map, get_or, take, drop, Option, Some, None, Result, Ok, Err, refl, sym, ap, subst, ◌∙◌, append_assoc, arith}
use Rattle.std.specs.Prelude.{option_map, MatchResult, IfSome}
use Rattle.std.proofs.Math.Seq.{drop-cons}
use Rattle.std.proofs.lemmas.Bool.{ne_eqb}
use Rattle.std.proofs.lemmas.List.{take-append-drop}
use Rattle.row_images.specs.declared.value.Value.{Value}
use Rattle.row_images.specs.Values.{value_text, value_of}
use Rattle.row_images.specs.Images.{words_of, values_text, AreValues, and_others, values_of, image_of}
use Rattle.row_images.proofs.Counts.{lacks, lacks-parts}
use Rattle.row_images.proofs.ValueLaws.{value_lacks, bar_is_none, no_bar}
use Rattle.row_images.proofs.PartLaws.{words_cut}
use Rattle.txn_journal.specs.declared.fault.Cause.{Cause}
use Rattle.txn_journal.specs.declared.fault.Cause.TheVariants as causes
use Rattle.txn_journal.specs.Lines.{IsAroundBar, ◌>>=◌, some_or_body, Image, stop_at, and_value, is_bar, values_from, one_image, with_after, image_in, images_in}
use Rattle.txn_journal.specs.declared.fault.LineFault.{LineFault}
use Rattle.txn_journal.specs.declared.fault.LineFault.TheVariants as wrong
use Rattle.txn_journal.specs.Stream.{Finds}
use Rattle.txn_journal.proofs.Judged.{IsBody}
use Rattle.txn_journal.proofs.SplitLaws.{joined_lacks}
use Rattle.row_images.proofs.ImageLaws.{texts_lack}
use Rattle.txn_journal.proofs.ImageLaws.{bar_word, ImagesFound, image_both, images_both, image_again, images_again}

-- ---- one image

abbrev behind : List Value → Option (List Value) → Result (List Value) Cause
behind before p = some_or_body (option_map (λ vs. before ++ vs) p)

last_step : (before : List Value) (b : Bool) (o : Option Value) → (b ≡ true → o ≡ None) → one_image (cond b None (and_value before o (λ us. Some (us, None)))) ≡ behind before (and_others o (Some []))
last_step before true None none = refl
last_step before true (Some v) none = absurd (let k = none refl in cc)
last_step before false None none = refl
last_step before false (Some v) none = refl

no_image : (before : List Value) (words : List (List ℕ)) → one_image (stop_at before words) ≡ Err causes.Body
no_image [] words = refl
no_image (v ∷ vs) words = refl

moved : (before : List Value) (v : Value) (p : Option (List Value)) → behind (before ++ v ∷ []) p ≡ behind before (option_map (λ vs. v ∷ vs) p)
moved before v None = refl
moved before v (Some vs) = ap (λ (us : List Value). some_or_body (Some us)) (append_assoc before (v ∷ []) vs)

image_step : (before : List Value) (b : Bool) (o : Option Value) (words : List (List ℕ)) (more : List Value → Option Image) (p : Option (List Value)) → (b ≡ true → o ≡ None) → ((v : Value) → one_image (more (before ++ v ∷ [])) ≡ behind (before ++ v ∷ []) p)
    → one_image (cond b (stop_at before words) (and_value before o more)) ≡ behind before (and_others o p)
image_step before true None words more p none next = no_image before words
image_step before true (Some v) words more p none next = absurd (let k = none refl in cc)
image_step before false None words more p none next = refl
image_step before false (Some v) words more p none next = next v ∙ moved before v p

bar_is_no_value : (w : List ℕ) → is_bar w ≡ true → value_of w ≡ None
bar_is_no_value w e = ap value_of (bar_word w e) ∙ no_bar

from_words : (before : List Value) (ws : List (List ℕ)) → 0 < length ws → one_image (values_from before ws) ≡ behind before (values_of ws)
unfolding values_from
from_words before [] some = absurd (omega arith)
from_words before (w ∷ []) some = last_step before (is_bar w) (value_of w) (bar_is_no_value w)
from_words before (w ∷ x ∷ ws) some = image_step before (is_bar w) (value_of w) (x ∷ ws) (λ us. values_from us (x ∷ ws)) (values_of (x ∷ ws)) (bar_is_no_value w) (λ v. from_words (before ++ v ∷ []) (x ∷ ws) (omega arith))

words_stand : (t : List ℕ) → 0 < length (words_of t)
words_stand t = subst (λ (ws : List (List ℕ)). 0 < length ws) (sym (words_cut t)) (omega arith)

from_start : (o : Option (List Value)) → behind [] o ≡ some_or_body o
from_start None = refl
from_start (Some vs) = refl

pub image_is : (t : List ℕ) → image_in t ≡ some_or_body (image_of t)
image_is t = from_words [] (words_of t) (words_stand t) ∙ from_start (image_of t)

pub image_where : (t : List ℕ) (found : Option (List Value)) → found ≡ image_of t → IfSome found (λ row. image_in t ≡ Ok row)
image_where t None e = tt
image_where t (Some row) e = image_is t ∙ ap some_or_body (sym e)

-- ---- the first bar

pub bar_at : (n : ℕ) (t : List ℕ) → n < length t → ((k : ℕ) → k < n → eqb (get_or t k 0) 124 ≡ true → ⊥) → lacks 124 (take n t) ≡ true
bar_at zero t lt before = refl
bar_at (suc n) [] lt before = refl
bar_at (suc n) (b ∷ bs) lt before = rw (ne_eqb b 124 (λ e. before 0 (omega arith) (rw e refl))) (bar_at n bs (omega (arith, lt)) (λ k less. before (suc k) (omega (arith, less))))

pub three_there : (n : ℕ) (t : List ℕ) → 1 ≤ n → n + 1 < length t → get_or t (n - 1) 0 ≡ 32 → get_or t n 0 ≡ 124 → get_or t (n + 1) 0 ≡ 32 → t ≡ take (n - 1) t ++ 32 ∷ (124 ∷ 32 ∷ drop (n + 2) t)
three_there n t some lt x y z =
    let one : suc (n - 1) ≡ n = omega (arith, some) in
    let two : suc n ≡ n + 1 = omega arith in
    let three : suc (n + 1) ≡ n + 2 = omega arith in
    let a : drop (n - 1) t ≡ 32 ∷ drop n t = drop-cons t (n - 1) 0 (omega (arith, lt)) ∙ (λ i. x i ∷ drop (one i) t) in
    let b : drop n t ≡ 124 ∷ drop (n + 1) t = drop-cons t n 0 (omega (arith, lt)) ∙ (λ i. y i ∷ drop (two i) t) in
    let d : drop (n + 1) t ≡ 32 ∷ drop (n + 2) t = drop-cons t (n + 1) 0 lt ∙ (λ i. z i ∷ drop (three i) t) in
    sym (take-append-drop (n - 1) t) ∙ ap (λ r. take (n - 1) t ++ r) (a ∙ ap (λ r. 32 ∷ r) (b ∙ ap (λ r. 124 ∷ r) d))

-- what a text with a bar has at its first bar
pub record AtBar (n : ℕ) (t : List ℕ) : Type 0 where
  pub some : 1 ≤ n
  pub more : n + 1 < length t
  pub left : (k : ℕ) → suc k ≡ n → get_or t k 0 ≡ 32
  pub right : get_or t (suc n) 0 ≡ 32

left_first : (after : List ℕ) (k : ℕ) → suc k ≡ 1 → get_or (32 ∷ (124 ∷ 32 ∷ after)) k 0 ≡ 32
left_first after zero e = refl
left_first after (suc k) e = absurd (omega (arith, e))

left_next : (b : ℕ) (t : List ℕ) (n k : ℕ) → ((j : ℕ) → suc j ≡ suc n → get_or t j 0 ≡ 32) → suc k ≡ suc (suc n) → get_or (b ∷ t) k 0 ≡ 32
left_next b t n zero h e = absurd (omega (arith, e))
left_next b t n (suc k) h e = h k (omega (arith, e))

pub around_at : (n : ℕ) (before after : List ℕ) → lacks 124 before ≡ true → ((k : ℕ) → k < n → eqb (get_or (before ++ 32 ∷ (124 ∷ 32 ∷ after)) k 0) 124 ≡ true → ⊥) → eqb (get_or (before ++ 32 ∷ (124 ∷ 32 ∷ after)) n 0) 124 ≡ true → AtBar n (before ++ 32 ∷ (124 ∷ 32 ∷ after))
around_at zero [] after free earlier here = absurd cc
around_at (suc zero) [] after free earlier here = record { some = omega arith; more = omega arith; left = left_first after; right = refl }
around_at (suc (suc n)) [] after free earlier here = absurd (earlier 1 (omega arith) refl)
around_at zero (b ∷ bs) after free earlier here = absurd (let p = (lacks-parts 124 b bs free).0 in cc)
around_at (suc zero) (b ∷ bs) after free earlier here = absurd (first_no_bar bs after (lacks-parts 124 b bs free).1 here)
  where
    first_no_bar : (bs after : List ℕ) → lacks 124 bs ≡ true → eqb (get_or (bs ++ 32 ∷ (124 ∷ 32 ∷ after)) 0 0) 124 ≡ true → ⊥
    first_no_bar [] after free here = cc
    first_no_bar (b ∷ bs) after free here = let p = (lacks-parts 124 b bs free).0 in cc
around_at (suc (suc n)) (b ∷ bs) after free earlier here =
    let r = around_at (suc n) bs after (lacks-parts 124 b bs free).1 (λ k lt. earlier (suc k) (omega (arith, lt))) here in
    record { some = omega arith; more = omega (arith, r.more); left = λ k e. left_next b (bs ++ 32 ∷ (124 ∷ 32 ∷ after)) n k r.left e; right = r.right }

pub around_text : (n : ℕ) (t before after : List ℕ) → IsAroundBar t before after → ((k : ℕ) → k < n → eqb (get_or t k 0) 124 ≡ true → ⊥) → eqb (get_or t n 0) 124 ≡ true → AtBar n t
around_text n t before after around earlier here =
    subst (AtBar n) (sym around.parts)
    (around_at n before after around.first
    (λ k lt h. earlier k lt (subst (λ (x : List ℕ). eqb (get_or x k 0) 124 ≡ true) (sym around.parts) h))
    (subst (λ (x : List ℕ). eqb (get_or x n 0) 124 ≡ true) around.parts here))

record BarThere (t : List ℕ) (k : ℕ) : Type 0 where
  inside : k < length t
  is : eqb (get_or t k 0) 124 ≡ true

bar_there : (before after : List ℕ) → BarThere (before ++ 32 ∷ (124 ∷ 32 ∷ after)) (suc (length before))
bar_there [] after = record { inside = omega arith; is = refl }
bar_there (b ∷ bs) after = let r = bar_there bs after in record { inside = omega (arith, r.inside); is = r.is }

pub bar_nowhere : (t before after : List ℕ) → ((k : ℕ) → k < length t → eqb (get_or t k 0) 124 ≡ true → ⊥) → IsAroundBar t before after → ⊥
bar_nowhere t before after none around =
    let r = subst (λ (x : List ℕ). BarThere x (suc (length before))) (sym around.parts) (bar_there before after) in
    none (suc (length before)) r.inside r.is

-- ---- two images

no_bars : (vs : List Value) → AreValues vs → lacks 124 (values_text vs) ≡ true
no_bars vs fits = joined_lacks 32 124 (map value_text vs) refl (texts_lack 124 vs (λ v f. value_lacks 124 v bar_is_none f) fits)

same_parts : (a b x y : List ℕ) → lacks 124 a ≡ true → lacks 124 b ≡ true → a ++ 32 ∷ (124 ∷ 32 ∷ x) ≡ b ++ 32 ∷ (124 ∷ 32 ∷ y) → (a ≡ b) × (x ≡ y)
same_parts [] [] x y here there e = (refl, ap (λ (l : List ℕ). drop 3 l) e)
same_parts [] (b ∷ []) x y here there e = absurd (let k = ap (λ (l : List ℕ). get_or l 1 0) e in omega (arith, k))
same_parts [] (b ∷ d ∷ bs) x y here there e = absurd (let k = ap (λ (l : List ℕ). get_or l 1 0) e in let p = (lacks-parts 124 d bs (lacks-parts 124 b (d ∷ bs) there).1).0 in let q = ne_eqb d 124 in cc)
same_parts (a ∷ []) [] x y here there e = absurd (let k = ap (λ (l : List ℕ). get_or l 1 0) e in omega (arith, k))
same_parts (a ∷ d ∷ xs) [] x y here there e = absurd (let k = ap (λ (l : List ℕ). get_or l 1 0) e in let p = (lacks-parts 124 d xs (lacks-parts 124 a (d ∷ xs) here).1).0 in cc)
same_parts (a ∷ xs) (b ∷ bs) x y here there e =
    let r = same_parts xs bs x y (lacks-parts 124 a xs here).1 (lacks-parts 124 b bs there).1 (ap (λ (l : List ℕ). drop 1 l) e) in
    ((λ i. ap (λ (l : List ℕ). get_or l 0 0) e i ∷ r.0 i), r.1)

-- ---- both

body_is : (c : Cause) → IsBody c → c ≡ causes.Body
body_is causes.Body h = refl
body_is causes.Version h = absurd h
body_is causes.Keyword h = absurd h
body_is causes.Limit h = absurd h
body_is causes.Schema h = absurd h
body_is causes.Stamp h = absurd h
body_is (causes.Twice g) h = absurd h

abbrev pub both_of : Result (List Value) Cause → Result (List Value) Cause → Result (List Value × List Value) Cause
both_of r s = r >>= λ before. with_after before s

record Image_found (t : List ℕ) (vs : List Value) : Type 0 where
  is : t ≡ values_text vs
  fits : AreValues vs
  some : 0 < length vs

image_of_text : (t : List ℕ) (vs : List Value) → image_in t ≡ Ok vs → Image_found t vs
image_of_text t vs e = let f = subst (λ (r : Result (List Value) Cause). MatchResult r (λ us. (t ≡ values_text us) × AreValues us × (0 < length us)) IsBody) e (image_both t) in record { is = f.0; fits = f.1; some = f.2 }

body_of_text : (t : List ℕ) (c : Cause) → image_in t ≡ Err c → c ≡ causes.Body
body_of_text t c e = body_is c (subst (λ (r : Result (List Value) Cause). MatchResult r (λ us. (t ≡ values_text us) × AreValues us × (0 < length us)) IsBody) e (image_both t))

images_of_text : (t : List ℕ) (p : List Value × List Value) → images_in t ≡ Ok p → ImagesFound t p.0 p.1
images_of_text t p e = subst (λ (r : Result (List Value × List Value) Cause). MatchResult r (λ q. ImagesFound t q.0 q.1) IsBody) e (images_both t)

bodies_of_text : (t : List ℕ) (c : Cause) → images_in t ≡ Err c → c ≡ causes.Body
bodies_of_text t c e = body_is c (subst (λ (r : Result (List Value × List Value) Cause). MatchResult r (λ q. ImagesFound t q.0 q.1) IsBody) e (images_both t))

-- where two images are found, each is found in its part
record PartsFound (a b : List ℕ) (p : List Value × List Value) : Type 0 where
  first : image_in a ≡ Ok p.0
  second : image_in b ≡ Ok p.1

parts_found : (a b : List ℕ) (p : List Value × List Value) → lacks 124 a ≡ true → images_in (a ++ 32 ∷ (124 ∷ 32 ∷ b)) ≡ Ok p → PartsFound a b p
parts_found a b p free e =
    let f = images_of_text (a ++ 32 ∷ (124 ∷ 32 ∷ b)) p e in
    let s = same_parts a (values_text p.0) b (values_text p.1) free (no_bars p.0 f.before_fits) f.spelt in
    record { first = ap image_in s.0 ∙ image_again p.0 f.before_some f.before_fits; second = ap image_in s.1 ∙ image_again p.1 f.after_some f.after_fits }

parts_by : (a b : List ℕ) → lacks 124 a ≡ true → (r s : Result (List Value) Cause) (q : Result (List Value × List Value) Cause) → image_in a ≡ r → image_in b ≡ s → images_in (a ++ 32 ∷ (124 ∷ 32 ∷ b)) ≡ q → q ≡ both_of r s
parts_by a b free (Ok before) (Ok after) q first second both =
    let f = image_of_text a before first in
    let g = image_of_text b after second in
    sym both ∙ ap images_in (λ i. f.is i ++ 32 ∷ (124 ∷ 32 ∷ g.is i)) ∙ images_again before after f.some f.fits g.some g.fits
parts_by a b free (Ok before) (Err e) (Ok p) first second both = absurd (let k = sym second ∙ (parts_found a b p free both).second in cc)
parts_by a b free (Ok before) (Err e) (Err d) first second both = ap Err (bodies_of_text (a ++ 32 ∷ (124 ∷ 32 ∷ b)) d both ∙ sym (body_of_text b e second))
parts_by a b free (Err e) s (Ok p) first second both = absurd (let k = sym first ∙ (parts_found a b p free both).first in cc)
parts_by a b free (Err e) s (Err d) first second both = ap Err (bodies_of_text (a ++ 32 ∷ (124 ∷ 32 ∷ b)) d both ∙ sym (body_of_text a e first))

pub images_around : (t a b : List ℕ) → IsAroundBar t a b → images_in t ≡ both_of (image_in a) (image_in b)
images_around t a b around = ap images_in around.parts ∙ parts_by a b around.first (image_in a) (image_in b) (images_in (a ++ 32 ∷ (124 ∷ 32 ∷ b))) refl refl refl

none_by : (t : List ℕ) (q : Result (List Value × List Value) Cause) → images_in t ≡ q → ((a b : List ℕ) → IsAroundBar t a b → ⊥) → q ≡ Err causes.Body
none_by t (Err d) e none = ap Err (bodies_of_text t d e)
none_by t (Ok p) e none = let f = images_of_text t p e in absurd (none (values_text p.0) (values_text p.1) (record { parts = f.spelt; first = no_bars p.0 f.before_fits }))

pub images_nowhere : (t : List ℕ) → ((a b : List ℕ) → IsAroundBar t a b → ⊥) → images_in t ≡ Err causes.Body
images_nowhere t none = none_by t (images_in t) refl none

-- ---- what a call found in each part

pub found_both : (t a b : List ℕ) (before after : List Value) → IsAroundBar t a b → image_in a ≡ Ok before → image_in b ≡ Ok after → images_in t ≡ Ok (before, after)
found_both t a b before after around first second = images_around t a b around ∙ (λ i. both_of (first i) (second i))

pub first_not_found : (e : LineFault) (t a b : List ℕ) → IsAroundBar t a b → Finds (λ (r : List Value). r) (Err e) (image_in a) → Finds (λ (r : List Value × List Value). r) (Err e) (images_in t)
first_not_found (wrong.Wrong cause) t a b around h = images_around t a b around ∙ ap (λ r. both_of r (image_in b)) h
first_not_found (wrong.Set fault) t a b around h = h

pub second_not_found : (e : LineFault) (t a b : List ℕ) (before : List Value) → IsAroundBar t a b → image_in a ≡ Ok before → Finds (λ (r : List Value). r) (Err e) (image_in b) → Finds (λ (r : List Value × List Value). r) (Err e) (images_in t)
second_not_found (wrong.Wrong cause) t a b before around first h = images_around t a b around ∙ (λ i. both_of (first i) (h i))
second_not_found (wrong.Set fault) t a b before around first h = h
