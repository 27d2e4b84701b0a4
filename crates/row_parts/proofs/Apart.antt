-- Entries of several lists, put one after another.
use Rattle.std.proofs.Common.{◌≡◌, T, ℕ, zero, suc, ◌<◌, Bool, true, false, ◌&&◌, ◌⊎◌, inl, inr, cond, List, [], ◌∷◌, ◌++◌, Option, Some, None, refl, ap, sym, ◌∙◌, arith}
use Rattle.std.specs.FinMap.{entries_sorted, get, get-entries, retain_keys, get-retain_keys}
use Rattle.std.specs.FinMap.Entries.{below_all, is_sorted}
use Rattle.std.specs.List.{AllByRecursion, IsDistinct, filter}
use Rattle.std.specs.Map.{lookup, keys_of}
use Rattle.std.specs.Option.{option_or}
use Rattle.std.specs.Ordering.{is_eq, is_lt}
use Rattle.std.specs.declared.cmp.Ordering.{Ordering}
use Rattle.std.specs.declared.cmp.Ordering.TheVariants.{Less, Equal, Greater}
use Rattle.std.proofs.lemmas.Map.{lookup-none}
use Rattle.std.proofs.lemmas.Map.Entries.{option_filter, none_past_head}
use Rattle.std.proofs.lemmas.Option.{none-some}
use Rattle.lemmas.proofs.Options.{none_where, cond_none}
use Rattle.row_images.specs.declared.value.Value.{Value}
use Rattle.rows.specs.declared.change.Key.{Key}
use Rattle.rows.specs.Apply.{Rows}
use Rattle.rows.specs.Listing.{is_primary, entries_listed}
use Rattle.rows.specs.Order.{key_cmp}
use Rattle.rows.proofs.Equal.{key_test, keys-Decide}
use Rattle.rows.proofs.Hashed.{same_tests, keys_equiv, hashed_at}
use Rattle.rows.proofs.Primary.{alike}
use Rattle.rows.proofs.Stored.{find_key}
use Rattle.row_parts.specs.Listing.{joined_before}

abbrev pub Entry : Type 0
Entry = Key × List Value

-- what these entries have under a key
abbrev pub row_under : Key → List Entry → Option (List Value)
row_under q es = lookup (key_test q) es

-- ---- options

pub same_option : {A : Type 0} (a b : Option A) → ((x : A) → a ≡ Some x → b ≡ Some x) → (a ≡ None → b ≡ None) → a ≡ b
same_option None b h g = sym (g refl)
same_option (Some x) b h g = sym (h x refl)

pub filter_some : {A : Type 0} (t : A → Bool) (o : Option A) (x : A) → option_filter t o ≡ Some x → (o ≡ Some x) × (t x ≡ true)
filter_some t None x e = absurd (none-some x e)
filter_some t (Some y) x e = passed t y x (t y) refl e where
  passed : {A : Type 0} (t : A → Bool) (y x : A) (b : Bool) → t y ≡ b → cond b (Some y) None ≡ Some x → (Some y ≡ Some x) × (t x ≡ true)
  passed t y x true h e = (e, grind arith)
  passed t y x false h e = absurd (none-some x e)

or_some : {A : Type 0} (a b : Option A) (x : A) → option_or a b ≡ Some x → (a ≡ Some x) ⊎ (b ≡ Some x)
or_some None b x e = inr e
or_some (Some y) b x e = inl e

or_none : {A : Type 0} (a b : Option A) → option_or a b ≡ None → (a ≡ None) × (b ≡ None)
or_none None b e = (refl, e)
or_none (Some y) b e = absurd (none-some y (sym e))

-- ---- what is listed of rows

halves : (p q : Bool) → T (p && q) → T p × T q
halves true q h = (tt, h)
halves false q h = absurd h

less_is_other : (o : Ordering) → T (is_lt o) → is_eq o ≡ false
less_is_other Less h = refl
less_is_other Equal h = absurd h
less_is_other Greater h = absurd h

below_apart : (k : Key) (es : List Entry) → T (below_all key_cmp k es) → AllByRecursion (λ y. key_test k y ≡ false) (keys_of es)
below_apart k [] h = tt
below_apart k (e ∷ es) h =
    let p = halves (is_lt (key_cmp k e.0)) (below_all key_cmp k es) h in
    (same_tests k e.0 ∙ less_is_other (key_cmp k e.0) p.0, below_apart k es p.1)

sorted_apart : (es : List Entry) → T (is_sorted key_cmp es) → IsDistinct key_test (keys_of es)
unfolding IsDistinct
sorted_apart [] h = tt
sorted_apart (e ∷ es) h =
    let p = halves (below_all key_cmp e.0 es) (is_sorted key_cmp es) h in
    (below_apart e.0 es p.0, sorted_apart es p.1)

pub listed_apart : (rows : Rows) → IsDistinct key_test (keys_of (entries_listed rows))
listed_apart rows = sorted_apart (entries_listed rows) (entries_sorted (retain_keys rows is_primary))

pub under_listed : (rows : Rows) (q : Key) → row_under q (entries_listed rows) ≡ cond (is_primary q) (get rows q) None
under_listed rows q =
    hashed_at (entries_listed rows) q ∙ sym (find_key (entries_listed rows) q) ∙ sym (get-entries (retain_keys rows is_primary) q)
    ∙ get-retain_keys rows is_primary q (alike q)

-- ---- filtered entries

pick : {A : Type 0} (b c : Bool) (r : A) (kept all : Option A) (t : A → Bool) → (b ≡ true → t r ≡ c) → (b ≡ true → all ≡ None) → kept ≡ option_filter t all → cond c (cond b (Some r) kept) kept ≡ option_filter t (cond b (Some r) all)
pick true true r kept all t h n i = sym (ap (λ x. cond x (Some r) None) (h refl))
pick true false r kept all t h n i = i ∙ ap (option_filter t) (n refl) ∙ sym (ap (λ x. cond x (Some r) None) (h refl))
pick false true r kept all t h n i = i
pick false false r kept all t h n i = i

under_cond : (q : Key) (c : Bool) (xs ys : List Entry) → row_under q (cond c xs ys) ≡ cond c (row_under q xs) (row_under q ys)
under_cond q true xs ys = refl
under_cond q false xs ys = refl

-- of entries under different keys, those that pass a test
pub under_filter : (t : Entry → Bool) (q : Key) (es : List Entry) → IsDistinct key_test (keys_of es) → row_under q (filter t es) ≡ option_filter (λ r. t (q, r)) (row_under q es)
unfolding IsDistinct
under_filter t q [] d = refl
under_filter t q (e ∷ es) d =
    under_cond q (t e) (e ∷ filter t es) (filter t es)
    ∙ pick (key_test q e.0) (t e) e.1 (row_under q (filter t es)) (row_under q es) (λ r. t (q, r))
    (λ b. ap (λ k. t (k, e.1)) ((keys-Decide q e.0).0 b))
    (λ b. lookup-none (key_test q) es (none_past_head keys_equiv q e es d b))
    (under_filter t q es d.1)

-- ---- lists one after another

under_append : (q : Key) (xs ys : List Entry) → row_under q (xs ++ ys) ≡ option_or (row_under q xs) (row_under q ys)
under_append q [] ys = refl
under_append q (x ∷ xs) ys =
    let rest = under_append q xs ys in
    elim (key_test q x.0) as (λ b. cond b (Some x.1) (row_under q (xs ++ ys)) ≡ option_or (cond b (Some x.1) (row_under q xs)) (row_under q ys)) [
      | true ↦ refl
      | false ↦ rest
    ]

none_apart : (k : Key) (ys : List Entry) → row_under k ys ≡ None → AllByRecursion (λ y. key_test k y ≡ false) (keys_of ys)
none_apart k [] e = tt
none_apart k (y ∷ ys) e = let p = cond_none (key_test k y.0) y.1 (row_under k ys) e in (p.0, none_apart k ys p.1)

both_apart : (k : Key) (xs ys : List Entry) → AllByRecursion (λ y. key_test k y ≡ false) (keys_of xs) → AllByRecursion (λ y. key_test k y ≡ false) (keys_of ys) → AllByRecursion (λ y. key_test k y ≡ false) (keys_of (xs ++ ys))
both_apart k [] ys h g = g
both_apart k (x ∷ xs) ys h g = (h.0, both_apart k xs ys h.1 g)

-- no key is in both lists
abbrev NoneInBoth : List Entry → List Entry → Type 0
NoneInBoth xs ys = (q : Key) (a b : List Value) → row_under q xs ≡ Some a → row_under q ys ≡ Some b → ⊥

first_under : (x : Entry) (xs : List Entry) → row_under x.0 (x ∷ xs) ≡ Some x.1
first_under x xs = ap (λ b. cond b (Some x.1) (row_under x.0 xs)) (keys_equiv.refl x.0)

still_some : {A P : Type 0} (b : Bool) (x y : A) (o : Option A) → o ≡ Some y → ((r : A) → cond b (Some x) o ≡ Some r → P) → P
still_some true x y o e h = h x refl
still_some false x y o e h = h y e

append_apart : (xs ys : List Entry) → IsDistinct key_test (keys_of xs) → IsDistinct key_test (keys_of ys) → NoneInBoth xs ys → IsDistinct key_test (keys_of (xs ++ ys))
unfolding IsDistinct
append_apart [] ys dx dy h = dy
append_apart (x ∷ xs) ys dx dy h = (
  both_apart x.0 xs ys dx.0 (none_apart x.0 ys (none_where (row_under x.0 ys) (λ b e. h x.0 x.1 b (first_under x xs) e))),
  append_apart xs ys dx.1 dy (λ q a b f g. still_some (key_test q x.0) x.1 a (row_under q xs) f (λ r e. h q r b e g)),
)

-- ---- the lists of the first places

last_or : (i n : ℕ) → i < suc n → (i < n) ⊎ (i ≡ n)
last_or i n l = grind arith

pub from_before : (entries : ℕ → List Entry) (q : Key) (n : ℕ) (r : List Value) → row_under q (joined_before entries n) ≡ Some r → (i : ℕ) × (i < n) × (row_under q (entries i) ≡ Some r)
from_before entries q zero r e = absurd (none-some r e)
from_before entries q (suc n) r e =
    let earlier = from_before entries q n r in
    elim (or_some (row_under q (joined_before entries n)) (row_under q (entries n)) r (sym (under_append q (joined_before entries n) (entries n)) ∙ e)) [
      | inl h ↦ let f = earlier h in let l = f.1 in (f.0, omega (l, arith), f.2)
      | inr h ↦ (n, omega arith, h)
    ]

pub none_before : (entries : ℕ → List Entry) (q : Key) (n : ℕ) → row_under q (joined_before entries n) ≡ None → (i : ℕ) → i < n → row_under q (entries i) ≡ None
none_before entries q zero e i l = absurd (omega (l, arith))
none_before entries q (suc n) e i l =
    let p = or_none (row_under q (joined_before entries n)) (row_under q (entries n)) (sym (under_append q (joined_before entries n) (entries n)) ∙ e) in
    let earlier = none_before entries q n p.0 i in
    elim (last_or i n l) [
      | inl m ↦ earlier m
      | inr same ↦ ap (λ k. row_under q (entries k)) same ∙ p.1
    ]

-- no key is in the lists of two of the first places
abbrev pub NoneInTwo : (ℕ → List Entry) → ℕ → Type 0
NoneInTwo entries n = (i j : ℕ) → i < j → j < n → NoneInBoth (entries i) (entries j)

pub before_apart : (entries : ℕ → List Entry) (n : ℕ) → ((i : ℕ) → IsDistinct key_test (keys_of (entries i))) → NoneInTwo entries n → IsDistinct key_test (keys_of (joined_before entries n))
unfolding IsDistinct
before_apart entries zero d h = tt
before_apart entries (suc n) d h =
    append_apart (joined_before entries n) (entries n)
    (before_apart entries n d (λ i j l m. h i j l (omega (m, arith)))) (d n)
    (λ q a b f g. let w = from_before entries q n a f in h w.0 n w.1 (omega arith) q a b w.2 g)
