-- The rows of shares of the sources are parts of the rows of all.
use Rattle.std.proofs.Common.{◌≡◌, ℕ, zero, suc, ◌<◌, ◌==◌, Bool, true, false, cond, ◌&&◌, ◌||◌, ◌⊎◌, inl, inr, List, [], ◌∷◌, length, Some, Ok, refl, sym, ap, ◌∙◌, arith}
use Rattle.std.specs.Prelude.{IsOk, slice_get}
use Rattle.std.specs.List.{filter, list_any, AllByRecursion}
use Rattle.std.specs.FinMap.{get, entries}
use Rattle.std.proofs.lemmas.Bool.{eqb-true, eq-eqb, cases_Bool, or_cases, or_left, or_parts, or_right, and_parts, and_from}
use Rattle.lemmas.proofs.Tests.{not_both}
use Rattle.gtid_text.specs.declared.Gtid.{Gtid}
use Rattle.rows.specs.declared.change.Key.{Key}
use Rattle.rows.specs.Apply.{Rows}
use Rattle.rows.specs.WriteSet.{touches}
use Rattle.rows.specs.Parts.{ChangedApart, AreParts}
use Rattle.history.specs.LastWriter.{last, left_or_opening}
use Rattle.history.proofs.Placing.{kept, chosen_applies, all_map}
use Rattle.history.proofs.Entries.{all_of}
use Rattle.history.proofs.Merging.{got}
use Rattle.history.proofs.Closing.{is_ok_of}
use Rattle.history.proofs.Writing.{last_writer_stands}
use Rattle.history.specs.Sources.{World, in_order, Entry, content, of_source, apply_all, rows_of, AreKeysSound, IsSound}
use Rattle.history.specs.Shares.{of_sources, AreShares, SharesAreParts}
use Rattle.history.proofs.SourceEntries.{AreFound, found, apart_sources}
use Rattle.history.proofs.Alone.{source_closed, sources_closed, all_histories}

-- no source passes both
abbrev AreDisjoint : (ℕ → Bool) → (ℕ → Bool) → Type 0
AreDisjoint p q = (s : ℕ) → p s ≡ true → q s ≡ false

-- a transaction of the set touches the key
abbrev is_touched_in : World → (Gtid → Bool) → Key → Bool
is_touched_in world S k = list_any (λ e. S e.0 && touches world.schema e.1 k) (entries world.contents)

-- Under each key that a transaction of the set touches, the rows have what the whole has, and under each other key the opening row.
record HoldsShare (world : World) (whole : Rows) (S : Gtid → Bool) (rows : Rows) : Type 0 where
  own : (k : Key) → is_touched_in world S k ≡ true → get rows k ≡ get whole k
  rest : (k : Key) → is_touched_in world S k ≡ false → get rows k ≡ get world.opening_rows k

-- ---- lists and tests

within_by : {A : Type 0} (t : A → Bool) (x : A) (F G : List A) (b : Bool) → (t x ≡ true → b ≡ true) → filter t F ≡ filter t G → filter t (cond b (x ∷ F) F) ≡ filter t (x ∷ G)
within_by t x F G true h e = λ i. cond (t x) (x ∷ e i) (e i)
within_by t x F G false h e = elim (cases_Bool (t x)) [
  | inl y ↦ not_both false (h y) refl
  | inr n ↦ e ∙ sym (ap (λ c. cond c (x ∷ filter t G) (filter t G)) n)
]

-- where each that passes t passes p too, nothing is lost by p
within : {A : Type 0} (t p : A → Bool) (xs : List A) → AllByRecursion (λ x. t x ≡ true → p x ≡ true) xs → filter t (filter p xs) ≡ filter t xs
within t p [] h = refl
within t p (x ∷ xs) h = within_by t x (filter p xs) xs (p x) h.0 (within t p xs h.1)

none_left_by : {A : Type 0} (t : A → Bool) (x : A) (F : List A) (b : Bool) → (b && t x) ≡ false → filter t F ≡ [] → filter t (cond b (x ∷ F) F) ≡ []
none_left_by t x F true n e = λ i. cond (n i) (x ∷ e i) (e i)
none_left_by t x F false n e = e

-- where none passes both, nothing is left
none_left : {A : Type 0} (t p : A → Bool) (xs : List A) → list_any (λ x. p x && t x) xs ≡ false → filter t (filter p xs) ≡ []
none_left t p [] n = refl
none_left t p (x ∷ xs) n =
    let both = or_parts (p x && t x) (list_any (λ y. p y && t y) xs) n in
    none_left_by t x (filter p xs) (p x) both.0 (none_left t p xs both.1)

-- one that passes, of a list where each has P
one_of : (P : Entry → Type 0) (test : Entry → Bool) (es : List Entry) → AllByRecursion P es → list_any test es ≡ true → (e : Entry) × P e × (test e ≡ true)
one_of P test [] h t = cc
one_of P test (e ∷ es) h t = elim (or_cases (test e) (list_any test es) t) [
  | inl here ↦ (e, h.0, here)
  | inr later ↦ one_of P test es h.1 later
]

none_found : (test : Entry → Bool) (es : List Entry) → AllByRecursion (λ e. test e ≡ false) es → list_any test es ≡ false
none_found test [] h = refl
none_found test (e ∷ es) h = λ i. h.0 i || none_found test es h.1 i

not_two : (q t : Bool) → (t ≡ true → q ≡ false) → (q && t) ≡ false
not_two true true h = h refl
not_two true false h = refl
not_two false t h = refl

not_same : (s i j : ℕ) → (i ≡ j → ⊥) → (s == i) ≡ true → (s == j) ≡ false
not_same s i j differ y = elim (cases_Bool (s == j)) [
  | inl z ↦ absurd (differ (sym (eqb-true s i y) ∙ eqb-true s j z))
  | inr n ↦ n
]

-- ---- which keys a share touches

-- Where a transaction of these sources touches the key, all that touch it are of these sources.
only_own : (world : World) → AreKeysSound world → (p : ℕ → Bool) (k : Key) → is_touched_in world (of_sources p) k ≡ true → AllByRecursion (λ e. touches world.schema e.1 k ≡ true → p e.0.source ≡ true) (entries world.contents)
only_own world keys p k t =
    let one = one_of (λ e. content world e.0 ≡ Some e.1) (λ e. p e.0.source && touches world.schema e.1 k) (entries world.contents) (found world) t in
    let both = and_parts (p one.0.0.source) (touches world.schema one.0.1 k) one.2 in
    all_map (λ e. content world e.0 ≡ Some e.1) (λ e. touches world.schema e.1 k ≡ true → p e.0.source ≡ true) (entries world.contents)
    (λ e f y. elim (cases_Bool (p e.0.source)) [
      | inl own ↦ own
      | inr other ↦ not_both (touches world.schema e.1 k) y (apart_sources world keys one.0.0 e.0 one.0.1 e.1 one.1 f (λ same. not_both (p e.0.source) (ap p (sym same) ∙ both.0) other) k both.1)
    ]) (found world)

untouched_by_others : (world : World) → AreKeysSound world → (p q : ℕ → Bool) (k : Key) → AreDisjoint p q → is_touched_in world (of_sources p) k ≡ true → is_touched_in world (of_sources q) k ≡ false
untouched_by_others world keys p q k disjoint t =
    none_found (λ e. q e.0.source && touches world.schema e.1 k) (entries world.contents)
    (all_map (λ e. touches world.schema e.1 k ≡ true → p e.0.source ≡ true) (λ e. (q e.0.source && touches world.schema e.1 k) ≡ false) (entries world.contents)
    (λ e own. not_two (q e.0.source) (touches world.schema e.1 k) (λ y. disjoint e.0.source (own y))) (only_own world keys p k t))

-- ---- the rows of a set, key by key

-- under a key that no transaction of the set touches
untouched_rest : (world : World) (S : Gtid → Bool) (rows : Rows) (k : Key) → rows_of world S ≡ Ok rows → is_touched_in world S k ≡ false → get rows k ≡ get world.opening_rows k
untouched_rest world S rows k e n =
    last_writer_stands (in_order world) S rows e k
    ∙ ap (λ es. left_or_opening (in_order world) k (last es)) (none_left (λ e. touches world.schema e.1 k) (λ e. S e.0) (entries world.contents) n)

-- under a key that only transactions of the set touch
touched_own : (world : World) (S : Gtid → Bool) (rows : Rows) (k : Key) → rows_of world S ≡ Ok rows
    → AllByRecursion (λ e. touches world.schema e.1 k ≡ true → S e.0 ≡ true) (entries world.contents)
    → get rows k ≡ left_or_opening (in_order world) k (last (filter (λ e. touches world.schema e.1 k) (entries world.contents)))
touched_own world S rows k e own =
    last_writer_stands (in_order world) S rows e k
    ∙ ap (λ es. left_or_opening (in_order world) k (last es)) (within (λ e. touches world.schema e.1 k) (λ e. S e.0) (entries world.contents) own)

-- ---- the law

sound_by_shares : (world : World) (share : ℕ → ℕ) (n : ℕ) → AreKeysSound world → ((s : ℕ) → share s < n) → ((i : ℕ) → i < n → IsOk (rows_of world (of_sources (λ s. share s == i)))) → IsSound world
sound_by_shares world share n keys below applies = record { keys = keys; alone = alone }
  where
    alone : (s : ℕ) → IsOk (rows_of world (of_source s))
    alone s =
        let S : Gtid → Bool = of_sources (λ x. share x == share s) in
        let es = filter (λ (e : Entry). S e.0) (entries world.contents) in
        let there : AreFound world es = kept (λ e. S e.0) (λ e. content world e.0 ≡ Some e.1) (entries world.contents)
        (all_map (λ e. content world e.0 ≡ Some e.1) (λ e. S e.0 ≡ true → content world e.0 ≡ Some e.1) (entries world.contents) (λ e f y. f) (found world)) in
        let end = got (rows_of world S) (applies (share s) (below s)) in
        let own = chosen_applies world.schema (of_source s) es world.opening_rows end.0 (source_closed world keys s es there) end.1 in
        let same = within (λ (e : Entry). of_source s e.0) (λ e. S e.0) (entries world.contents)
        (all_of (λ e. of_source s e.0 ≡ true → S e.0 ≡ true) (entries world.contents) (λ e i y. eq-eqb (share e.0.source) (share s) (ap share (sym (eqb-true s e.0.source y))))) in
        is_ok_of (rows_of world (of_source s)) own.0 (ap (λ fs. apply_all world.schema fs world.opening_rows) (sym same) ∙ own.1)

share_applies : (world : World) (p : ℕ → Bool) → IsSound world → IsOk (rows_of world (of_sources p))
share_applies world p sound =
    let all = all_histories world sound in
    let own = chosen_applies world.schema (of_sources p) (entries world.contents) world.opening_rows all.0 (sources_closed world sound.keys p (entries world.contents) (found world)) all.1 in
    is_ok_of (rows_of world (of_sources p)) own.0 own.1

holds_share : (world : World) (whole rows : Rows) (p : ℕ → Bool) → AreKeysSound world → rows_of world (λ g. true) ≡ Ok whole → rows_of world (of_sources p) ≡ Ok rows → HoldsShare world whole (of_sources p) rows
holds_share world whole rows p keys all e = record {
  own = λ k t. touched_own world (of_sources p) rows k e (only_own world keys p k t)
      ∙ sym (touched_own world (λ g. true) whole k all (all_of (λ e. touches world.schema e.1 k ≡ true → true ≡ true) (entries world.contents) (λ e i y. refl)));
  rest = λ k n. untouched_rest world (of_sources p) rows k e n;
}

changed_apart : (world : World) (whole a b : Rows) (p q : ℕ → Bool) → AreKeysSound world → AreDisjoint p q → HoldsShare world whole (of_sources p) a → HoldsShare world whole (of_sources q) b → ChangedApart world.opening_rows a b
changed_apart world whole a b p q keys disjoint h g k = elim (cases_Bool (is_touched_in world (of_sources p) k)) [
  | inl y ↦ inr (g.rest k (untouched_by_others world keys p q k disjoint y))
  | inr n ↦ inl (h.rest k n)
]

-- one of the sources whose transactions touch the key
toucher : (world : World) (share : ℕ → ℕ) (k : Key) (es : List Entry) → list_any (λ e. touches world.schema e.1 k) es ≡ true
    → (s : ℕ) × (list_any (λ e. (share e.0.source == share s) && touches world.schema e.1 k) es ≡ true)
toucher world share k [] t = cc
toucher world share k (e ∷ es) t = elim (or_cases (touches world.schema e.1 k) (list_any (λ e. touches world.schema e.1 k) es) t) [
  | inl here ↦ (
    e.0.source,
    or_left ((share e.0.source == share e.0.source) && touches world.schema e.1 k) _
        (and_from (share e.0.source == share e.0.source) (touches world.schema e.1 k) (eq-eqb (share e.0.source) (share e.0.source) refl) here),
  )
  | inr later ↦ let one = toucher world share k es later in (one.0, or_right ((share e.0.source == share one.0) && touches world.schema e.1 k) _ one.1)
]

there_at : (parts : List Rows) (i : ℕ) → i < length parts → (part : Rows) × (slice_get parts i ≡ Some part)
there_at [] i within = absurd (omega arith)
there_at (p ∷ parts) zero within = (p, refl)
there_at (p ∷ parts) (suc i) within = there_at parts i (omega arith)

module _ (world : World) (share : ℕ → ℕ) (parts : List Rows) (keys : AreKeysSound world) (are : AreShares world share parts) where
  abbrev test : ℕ → ℕ → Bool
  test i s = share s == i

  shares_sound : IsSound world
  shares_sound = sound_by_shares world share (length parts) keys are.below
      (λ i within. let part = there_at parts i within in is_ok_of (rows_of world (of_sources (test i))) part.0 (are.each i part.0 part.1))

  module _ (whole : Rows) (all : rows_of world (λ g. true) ≡ Ok whole) where
    holds : (i : ℕ) (part : Rows) → slice_get parts i ≡ Some part → HoldsShare world whole (of_sources (test i)) part
    holds i part at = holds_share world whole part (test i) keys all (are.each i part at)

    each_part : (k : Key) (i : ℕ) (part : Rows) → slice_get parts i ≡ Some part → (get part k ≡ get world.opening_rows k) ⊎ (get part k ≡ get whole k)
    each_part k i part at = elim (cases_Bool (is_touched_in world (of_sources (test i)) k)) [
      | inl y ↦ inr ((holds i part at).own k y)
      | inr n ↦ inl ((holds i part at).rest k n)
    ]

    some_part : (k : Key) → (get whole k ≡ get world.opening_rows k) ⊎ ((i : ℕ) × (part : Rows) × (slice_get parts i ≡ Some part) × (get part k ≡ get whole k))
    some_part k = elim (cases_Bool (is_touched_in world (λ g. true) k)) [
      | inl y ↦ (
          let one = toucher world share k (entries world.contents) y in
          let part = there_at parts (share one.0) (are.below one.0) in
          inr (share one.0, part.0, part.1, (holds (share one.0) part.0 part.1).own k one.1)
          )
      | inr n ↦ inl (untouched_rest world (λ g. true) whole k all n)
    ]

    two_parts : (i j : ℕ) (a b : Rows) → (i ≡ j → ⊥) → slice_get parts i ≡ Some a → slice_get parts j ≡ Some b → ChangedApart world.opening_rows a b
    two_parts i j a b differ at bt =
        changed_apart world whole a b (test i) (test j) keys
        (λ s y. not_same (share s) i j differ y)
        (holds i a at) (holds j b bt)

    pub are_parts : AreParts world.opening_rows parts whole
    are_parts = record {
      each = each_part;
      some = some_part;
      apart = two_parts;
    }

pub shares_are_parts : SharesAreParts
shares_are_parts = record {
  sound = shares_sound;
  applies = λ world sound. share_applies world (λ s. true) sound;
  parts = λ world share parts whole keys are all. are_parts world share parts keys are whole all;
}
