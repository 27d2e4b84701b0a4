-- Entries that have another place.
use Rattle.std.proofs.Common.{◌≡◌, ◌<◌, ◌+◌, ◌-◌, ℕ, Bool, true, false, ◌⊎◌, inl, inr, List, [], ◌∷◌, length, map, take, swap, get_or, Some, slice_get, position, refl, sym, ap, subst, ◌∙◌, arith}
use Rattle.std.proofs.lemmas.Bool.{cases_eq, cases_order, cases_Bool}
use Rattle.std.proofs.lemmas.Bool.Decides.{nat_tests}
use Rattle.std.proofs.lemmas.List.{ext_get_or, get_or-map, get_or-take, length-map, length-take, take-map}
use Rattle.std.proofs.lemmas.List.Sorted.{IsPermutation-map, IsPermutation-swap}
use Rattle.std.proofs.lemmas.List.Edits.{length-swap}
use Rattle.std.proofs.lemmas.Option.{slice_get-get_or, slice_get_within, get_or_from_slice_get}
use Rattle.std.specs.Cmp.{IsEquivalence}
use Rattle.std.specs.List.{IsDistinct}
use Rattle.std.specs.Map.{keys_of}
use Rattle.std.specs.declared.cmp.Ordering.{Ordering}
use Rattle.indexmap.proofs.MapLemmas.{distinct-take, distinct_permutation}
use Rattle.indexmap.proofs.ReorderLemmas.{exchange, exchange-within, get_or-swap}
use Rattle.indexmap.specs.Layout.{IsHashed}
use Rattle.key_table.specs.Reached.{AreReached, Fills, IsReached, IsWithout, KeepsReached, Leaves}
use Rattle.key_table.specs.Tables.{IsTable}
use Rattle.key_table.specs.declared.slots.Slot.{Slot}
use Rattle.key_table.specs.declared.strays.Strays.{Strays}
use Rattle.key_table.proofs.TableChanges.{apart, same_some, under_own}
use Rattle.key_table.proofs.TableLemmas.{index_found}

at_a : (a b i : ℕ) → i ≡ a → exchange a b i ≡ b
at_a a b i e = grind (e, arith, nat_tests)

at_b : (a b i : ℕ) → i ≡ b → (i ≡ a → ⊥) → exchange a b i ≡ a
at_b a b i e f = grind (e, f, arith, nat_tests)

at_none : (a b i : ℕ) → (i ≡ a → ⊥) → (i ≡ b → ⊥) → exchange a b i ≡ i
at_none a b i e f = grind (e, f, arith, nat_tests)

-- What is at a place once two entries have each other's.
swap_get : {X : Type 0} (es : List X) (a b i j : ℕ) (entry : X) → a < length es → b < length es → j < length es → exchange a b i ≡ j → slice_get (swap es a b) i ≡ Some entry → slice_get es j ≡ Some entry
swap_get es a b i j entry within_a within_b within_j from at =
    slice_get-get_or es j entry within_j ∙ ap Some (ap (λ k. get_or es k entry) (sym from) ∙ sym (get_or-swap es a b entry within_a within_b i) ∙ get_or_from_slice_get (swap es a b) i entry entry at)

module _ {K V : Type 0} (eq : K → K → Bool) (laws : IsEquivalence eq) (cmp : K → K → Ordering) (hash : K → ℕ) where
  pub filled : (es : List (K × V)) (place last : ℕ) (e : K × V) (slots others : List Slot) (strays more : Strays K) → IsDistinct eq (keys_of es) → last ≡ length es - 1 → place < last → slice_get es last ≡ Some e
      → (IsReached cmp slots strays e.0 (hash e.0) last → IsReached cmp others more e.0 (hash e.0) place) → KeepsReached cmp eq (λ i. (i < last) ⊎ (last < i)) e.0 slots strays others more → Fills cmp hash es place slots strays others more
  filled es place last e slots others strays more distinct end before there reached keeps = record {
    last = λ entry more_than at old.
        let equal : e ≡ entry = same_some (sym there ∙ ap (slice_get es) end ∙ at) in
        subst (λ (x : K × V). IsReached cmp others more x.0 (hash x.0) place) equal
        (reached (subst (λ i. IsReached cmp slots strays e.0 (hash e.0) i) (sym end) (subst (λ (x : K × V). IsReached cmp slots strays x.0 (hash x.0) (length es - 1)) (sym equal) old)));
    kept = λ i entry less at old. keeps entry.0 (hash entry.0) i (inl (omega (less, end, arith))) (apart eq laws es last i e entry distinct there at (λ same. omega (same, less, end, arith))) old;
  }

  -- An entry at another place than that of a key has another key.
  pub other_key : (es : List (K × V)) (key : K) (place i : ℕ) (e : K × V) → IsDistinct eq (keys_of es) → position (eq key) (keys_of es) ≡ Some place → slice_get es i ≡ Some e → (i ≡ place → ⊥) → eq key e.0 ≡ false
  other_key es key place i e distinct index at other = by (cases_Bool (eq key e.0)) where
    by : (eq key e.0 ≡ true) ⊎ (eq key e.0 ≡ false) → eq key e.0 ≡ false
    by (inl same) = absurd (other (same_some (sym (index_found eq laws es key i distinct (under_own eq laws es key i e at ∙ same)) ∙ index)))
    by (inr differ) = differ

  pub removed : (es : List (K × V)) (key : K) (place : ℕ) (s0 s1 s2 : List Slot) (t0 t1 t2 : Strays K) → IsDistinct eq (keys_of es) → position (eq key) (keys_of es) ≡ Some place
      → KeepsReached cmp eq (λ i. (i < place) ⊎ (place < i)) key s0 t0 s1 t1 → Fills cmp hash es place s1 t1 s2 t2 → Leaves cmp hash es place s0 t0 s2 t2
  removed es key place s0 s1 s2 t0 t1 t2 distinct index keeps fills = λ fs without reached i entry at. by fs without reached i entry at (cases_eq i place) where
    within : (fs : List (K × V)) → IsWithout cmp es place fs → (i : ℕ) (entry : K × V) → slice_get fs i ≡ Some entry → i + 1 < length es
    within fs without i entry at = omega (slice_get_within fs i entry at, without.0, arith)

    by : (fs : List (K × V)) → IsWithout cmp es place fs → AreReached cmp hash es s0 t0 → (i : ℕ) (entry : K × V) → slice_get fs i ≡ Some entry → (i ≡ place) ⊎ (i ≡ place → ⊥) → IsReached cmp s2 t2 entry.0 (hash entry.0) i
    by fs without reached i entry at (inl same) =
        let less : place + 1 < length es = omega (within fs without i entry at, same, arith) in
        let last : slice_get es (length es - 1) ≡ Some entry =
        slice_get-get_or es (length es - 1) entry (omega (less, arith)) ∙ ap Some (sym (without.1 entry less) ∙ ap (λ k. get_or fs k entry) (sym same) ∙ get_or_from_slice_get fs i entry entry at) in
        subst (λ k. IsReached cmp s2 t2 entry.0 (hash entry.0) k) (sym same)
        (fills.last entry less last (keeps entry.0 (hash entry.0) (length es - 1) (inr (omega (less, arith))) (other_key es key place (length es - 1) entry distinct index last (λ same. omega (same, less, arith))) (reached (length es - 1) entry last)))
    by fs without reached i entry at (inr other) =
        let less = within fs without i entry at in
        let here : slice_get es i ≡ Some entry = slice_get-get_or es i entry (omega (less, arith)) ∙ ap Some (sym (without.2 i entry other less) ∙ get_or_from_slice_get fs i entry entry at) in
        fills.kept i entry less here (keeps entry.0 (hash entry.0) i (either i other) (other_key es key place i entry distinct index here other) (reached i entry here)) where
          either : (i : ℕ) → (i ≡ place → ⊥) → (i < place) ⊎ (place < i)
          either i other = elim (cases_order i place) [
            | inl same ↦ absurd (other same)
            | inr (inl less) ↦ inl less
            | inr (inr more) ↦ inr more
          ]

  pub exchanged : (es : List (K × V)) (a b gone : ℕ) (x y : K × V) (s0 s1 s2 s3 : List Slot) (t0 t1 t2 t3 : Strays K) → IsDistinct eq (keys_of es) → a < length es → b < length es → (a ≡ b → ⊥) → length es < gone → slice_get es a ≡ Some x → slice_get es b ≡ Some y
      → (IsReached cmp s0 t0 x.0 (hash x.0) a → IsReached cmp s1 t1 x.0 (hash x.0) gone) → KeepsReached cmp eq (λ i. (i < a) ⊎ (a < i)) x.0 s0 t0 s1 t1
      → (IsReached cmp s1 t1 y.0 (hash y.0) b → IsReached cmp s2 t2 y.0 (hash y.0) a) → KeepsReached cmp eq (λ i. (i < b) ⊎ (b < i)) y.0 s1 t1 s2 t2
      → (IsReached cmp s2 t2 x.0 (hash x.0) gone → IsReached cmp s3 t3 x.0 (hash x.0) b) → KeepsReached cmp eq (λ i. (i < gone) ⊎ (gone < i)) x.0 s2 t2 s3 t3
      → AreReached cmp hash es s0 t0 → AreReached cmp hash (swap es a b) s3 t3
  exchanged es a b gone x y s0 s1 s2 s3 t0 t1 t2 t3 distinct in_a in_b differ far at_x at_y r1 k1 r2 k2 r3 k3 reached = λ i entry at. by i entry at (cases_eq i a) (cases_eq i b) where
    below : (i : ℕ) → i < length es → (i < gone) ⊎ (gone < i)
    below i less = inl (omega (less, far, arith))

    either : (i j : ℕ) → (i ≡ j → ⊥) → (i < j) ⊎ (j < i)
    either i j other = elim (cases_order i j) [
      | inl same ↦ absurd (other same)
      | inr (inl less) ↦ inl less
      | inr (inr more) ↦ inr more
    ]

    xy : eq x.0 y.0 ≡ false
    xy = apart eq laws es a b x y distinct at_x at_y differ

    yx : eq y.0 x.0 ≡ false
    yx = apart eq laws es b a y x distinct at_y at_x (λ same. differ (sym same))

    y_at_a : IsReached cmp s3 t3 y.0 (hash y.0) a
    y_at_a = k3 y.0 (hash y.0) a (below a in_a) xy (r2 (k1 y.0 (hash y.0) b (either b a (λ same. differ (sym same))) xy (reached b y at_y)))

    x_at_b : IsReached cmp s3 t3 x.0 (hash x.0) b
    x_at_b = r3 (k2 x.0 (hash x.0) gone (inr (omega (in_b, far, arith))) yx (r1 (reached a x at_x)))

    by : (i : ℕ) (entry : K × V) → slice_get (swap es a b) i ≡ Some entry → (i ≡ a) ⊎ (i ≡ a → ⊥) → (i ≡ b) ⊎ (i ≡ b → ⊥) → IsReached cmp s3 t3 entry.0 (hash entry.0) i
    by i entry at (inl same) other =
        let equal : y ≡ entry = same_some (sym at_y ∙ swap_get es a b i b entry in_a in_b in_b (at_a a b i same) at) in
        subst (λ k. IsReached cmp s3 t3 entry.0 (hash entry.0) k) (sym same) (subst (λ (e : K × V). IsReached cmp s3 t3 e.0 (hash e.0) a) equal y_at_a)
    by i entry at (inr not_a) (inl same) =
        let equal : x ≡ entry = same_some (sym at_x ∙ swap_get es a b i a entry in_a in_b in_a (at_b a b i same not_a) at) in
        subst (λ k. IsReached cmp s3 t3 entry.0 (hash entry.0) k) (sym same) (subst (λ (e : K × V). IsReached cmp s3 t3 e.0 (hash e.0) b) equal x_at_b)
    by i entry at (inr not_a) (inr not_b) =
        let within : i < length es = omega (slice_get_within (swap es a b) i entry at, length-swap es a b, arith) in
        let here : slice_get es i ≡ Some entry = swap_get es a b i i entry in_a in_b within (at_none a b i not_a not_b) at in
        let apart_x : eq x.0 entry.0 ≡ false = apart eq laws es a i x entry distinct at_x here (λ same. not_a (sym same)) in
        let apart_y : eq y.0 entry.0 ≡ false = apart eq laws es b i y entry distinct at_y here (λ same. not_b (sym same)) in
        k3 entry.0 (hash entry.0) i (below i within) apart_x
        (k2 entry.0 (hash entry.0) i (either i b not_b) apart_y (k1 entry.0 (hash entry.0) i (either i a not_a) apart_x (reached i entry here)))

-- The first entries alone.
take_get : {X : Type 0} (es : List X) (n i : ℕ) (e : X) → slice_get (take n es) i ≡ Some e → slice_get es i ≡ Some e
take_get es n i e at =
    let cut_within : i < length (take n es) = slice_get_within (take n es) i e at in
    let within : i < length es = omega (cut_within, length-take n es, arith) in
    let less : i < n = omega (cut_within, length-take n es, arith) in
    slice_get-get_or es i e within ∙ ap Some (sym (get_or-take n es i e less) ∙ get_or_from_slice_get (take n es) i e e at)

pub cut : {K V : Type 0} (eq : K → K → Bool) (laws : IsEquivalence eq) (cmp : K → K → Ordering) (hash : K → ℕ) (es : List (K × V)) (hs : List ℕ) (n : ℕ) (slots : List Slot) (strays : Strays K) → IsTable eq cmp hash es hs slots strays → IsTable eq cmp hash (take n es) (take n hs) slots strays
cut {K} {V} eq laws cmp hash es hs n slots strays t = (
  (
    subst (IsDistinct eq) (take-map (λ (e : K × V). e.0) n es) (distinct-take laws n (keys_of es) t.0.0),
    ap (take n) t.0.1 ∙ take-map hash n (keys_of es) ∙ ap (map hash) (take-map (λ (e : K × V). e.0) n es),
  ),
  omega (length-take n es, t.1, arith),
  λ place entry at. t.2 place entry (take_get es n place entry at),
)

-- One entry in its own place.
at_self : (a i : ℕ) → exchange a a i ≡ i
at_self a i = elim (cases_eq i a) [
  | inl same ↦ at_a a a i same ∙ sym same
  | inr other ↦ at_none a a i other other
]

pub not_exchanged : {K V : Type 0} (cmp : K → K → Ordering) (hash : K → ℕ) (es : List (K × V)) (a b : ℕ) (slots : List Slot) (strays : Strays K) → a < length es → a ≡ b → AreReached cmp hash es slots strays → AreReached cmp hash (swap es a b) slots strays
not_exchanged {K} {V} cmp hash es a b slots strays within same reached = subst (λ j. AreReached cmp hash (swap es a j) slots strays) same
    (λ i entry at. reached i entry (swap_get es a a i i entry within within (omega (slice_get_within (swap es a a) i entry at, length-swap es a a, arith)) (at_self a i) at))

map_swap : {X Y : Type 0} (f : X → Y) (xs : List X) (a b : ℕ) → a < length xs → b < length xs → swap (map f xs) a b ≡ map f (swap xs a b)
map_swap f [] a b in_a in_b = absurd (omega (in_a, arith))
map_swap {X} {Y} f (x ∷ rest) a b in_a in_b = by (x ∷ rest) x in_a in_b where
  by : (xs : List X) (x : X) → a < length xs → b < length xs → swap (map f xs) a b ≡ map f (swap xs a b)
  by xs x in_a in_b =
      let mapped : length (map f xs) ≡ length xs = length-map xs f in
      let len : length (swap (map f xs) a b) ≡ length (map f (swap xs a b)) = length-swap (map f xs) a b ∙ mapped ∙ sym (length-map (swap xs a b) f ∙ length-swap xs a b) in
      ext_get_or (f x) (swap (map f xs) a b) (map f (swap xs a b)) len (λ i less.
      let within : i < length xs = omega (less, length-swap (map f xs) a b, mapped, arith) in
      get_or-swap (map f xs) a b (f x) (omega (in_a, mapped, arith)) (omega (in_b, mapped, arith)) i
      ∙ get_or-map f xs (exchange a b i) x (f x) (exchange-within a b (length xs) i in_a in_b within)
      ∙ ap f (sym (get_or-swap xs a b x in_a in_b i)) ∙ sym (get_or-map f (swap xs a b) i x (f x) (omega (within, length-swap xs a b, arith))))

pub swapped : {K V : Type 0} (eq : K → K → Bool) (laws : IsEquivalence eq) (hash : K → ℕ) (es : List (K × V)) (hs : List ℕ) (a b : ℕ) → a < length es → b < length es → IsHashed eq hash hs es → IsHashed eq hash (swap hs a b) (swap es a b)
swapped {K} {V} eq laws hash es hs a b in_a in_b h = (
  distinct_permutation laws (keys_of es) (keys_of (swap es a b)) (IsPermutation-map (λ (e : K × V). e.0) es (swap es a b) (IsPermutation-swap es (swap es a b) a b in_a in_b refl)) h.0,
  ap (λ l. swap l a b) h.1 ∙ map_swap hash (keys_of es) a b (omega (in_a, len, arith)) (omega (in_b, len, arith)) ∙ ap (map hash) (map_swap (λ (e : K × V). e.0) es a b in_a in_b),
) where
  len : length (keys_of es) ≡ length es
  len = length-map es (λ (e : K × V). e.0)
