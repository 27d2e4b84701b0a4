-- The line of a change without its hidden values is the line of the change without them.
use Rattle.std.proofs.Common.{◌≡◌, ℕ, zero, suc, ◌+◌, ◌-◌, ◌≤◌, ◌<◌, Bool, true, false, cond, not, List, [], ◌∷◌, ◌++◌, map, length, take, drop, Option, Some, None, refl, sym, ap, subst, ◌∙◌, append_assoc, arith, codes}
use Rattle.std.specs.Prelude.{◌==◌, ◌&&◌, nat_lt, nat_le}
use Rattle.std.specs.List.{list_all, list_any, join_with_byte, before_first, after_first, position_or_len}
use Rattle.std.proofs.lemmas.List.{append-nil, take-map, take-append-le, take_at, length-map}
use Rattle.std.proofs.lemmas.Bool.{eq-eqb, and_parts, and_from}
use Rattle.std.proofs.lemmas.Bool.Decides.{nat_tests}
use Rattle.row_images.specs.declared.value.Value.{Value}
use Rattle.row_images.specs.Values.{value_text}
use Rattle.row_images.specs.Parts.{joined_by}
use Rattle.row_images.specs.Images.{values_text, AreValues}
use Rattle.fault_places.specs.HiddenValues.{first_words, second_image, first_values, shown_columns, shown_line}
use Rattle.txn_journal.specs.Spelling.{image_text, change_text}
use Rattle.gtid_report.specs.State.{shown_values}
use Rattle.fault_places.specs.LeftOut.{shown_change, is_word, HasValues, HiddenValuesAreLeftOut}
use Rattle.rows.specs.declared.schema.Table.{Table}
use Rattle.rows.specs.declared.change.Change.{Change}
use Rattle.rows.specs.declared.change.Change.TheVariants.{Insert, Delete, Update}
use Rattle.rows.specs.declared.change.Misfit.TheVariants.{Columns, NullInPrimary, TooLong}
use Rattle.rows.specs.Fits.{rank, first_cause, row_misfit, has_primary_null, images_misfit, table_of, misfit_in}
use Rattle.rows.specs.Keys.{find_table}
use Rattle.rows.specs.Limits.{most_columns, most_uniques, most_bytes}
use Rattle.rows.specs.Tables.{is_table, is_within_limits, has_column_lists, has_its_columns}
use Rattle.row_images.specs.Values.{is_longer}
use Rattle.std.specs.Ordering.{nat_cmp, eq_by_cmp}
use Rattle.std.specs.Cmp.Lexicographic.{slice_cmp}
use Rattle.std.proofs.lemmas.Option.{same_Some}
use Rattle.std.proofs.Math.Seq.{take-length}
use Rattle.rows.specs.declared.change.Misfit.{Misfit}
use Rattle.fault_places.proofs.Worded.{lacks, AllLack, lacks_parts, split_again, no_blanks, no_bars}
use Rattle.lemmas.proofs.Lists.{all_true_append}
use Rattle.fault_places.specs.Lines.{second_word, behind_word}

-- ---- first words

same_join : (ws : List (List ℕ)) → join_with_byte 32 ws ≡ joined_by 32 ws
same_join [] = refl
same_join (w ∷ []) = refl
same_join (w ∷ x ∷ ws) = ap (λ (t : List ℕ). w ++ 32 ∷ t) (same_join (x ∷ ws))

-- the first of these words
first_of : (k : ℕ) (w : List ℕ) (ws : List (List ℕ)) → AllLack 32 (w ∷ ws) → first_words k (joined_by 32 (w ∷ ws)) ≡ joined_by 32 (take k (w ∷ ws))
first_of k w ws lack = ap (λ (l : List (List ℕ)). join_with_byte 32 (take k l)) (split_again w ws lack) ∙ same_join (take k (w ∷ ws))

joined_more : (w : List ℕ) (ws : List (List ℕ)) (y : List ℕ) (ys : List (List ℕ)) → joined_by 32 ((w ∷ ws) ++ (y ∷ ys)) ≡ joined_by 32 (w ∷ ws) ++ 32 ∷ joined_by 32 (y ∷ ys)
joined_more w [] y ys = refl
joined_more w (x ∷ ws) y ys = ap (λ (t : List ℕ). w ++ 32 ∷ t) (joined_more x ws y ys) ∙ sym (append_assoc w (32 ∷ joined_by 32 (x ∷ ws)) (32 ∷ joined_by 32 (y ∷ ys)))

all_more : (ws xs : List (List ℕ)) → AllLack 32 ws → AllLack 32 xs → AllLack 32 (ws ++ xs)
all_more [] xs h k = k
all_more (w ∷ ws) xs h k = (h.0, all_more ws xs h.1 k)

-- of a kind, a name, an image and what may follow it
module _ (word name : List ℕ) (free : lacks 32 word ≡ true) (named : lacks 32 name ≡ true) where
  image_words : (v : Value) (vs : List Value) (rest : List (List ℕ)) (k : ℕ) → AreValues (v ∷ vs) → AllLack 32 rest → 1 ≤ k → k ≤ length (v ∷ vs)
      → first_words (2 + k) (joined_by 32 (word ∷ name ∷ (map value_text (v ∷ vs) ++ rest))) ≡ image_text word name (take k (v ∷ vs))
  image_words v vs rest zero fits lack some few = absurd (omega (arith, some))
  image_words v vs rest (suc k) fits lack some few =
      first_of (2 + suc k) word (name ∷ (map value_text (v ∷ vs) ++ rest)) (free, (named, all_more (map value_text (v ∷ vs)) rest (no_blanks (v ∷ vs) fits) lack))
      ∙ ap (λ (n : ℕ). joined_by 32 (take n (word ∷ name ∷ (map value_text (v ∷ vs) ++ rest)))) (let e : 2 + suc k ≡ suc (suc (suc k)) = omega arith in e)
      ∙ ap (λ (ws : List (List ℕ)). joined_by 32 (word ∷ name ∷ ws))
      (take-append-le (suc k) (map value_text (v ∷ vs)) rest (let e : length (map value_text (v ∷ vs)) ≡ length (v ∷ vs) = length-map (v ∷ vs) value_text in omega (arith, e, few)) ∙ take-map value_text (suc k) (v ∷ vs))

-- ---- before and behind the first separator

place_of : (c : ℕ) (w r : List ℕ) → lacks c w ≡ true → position_or_len (λ b. b == c) (w ++ c ∷ r) ≡ length w
place_of c [] r lack = ap (λ (v : Bool). cond (not v) (1 + position_or_len (λ b. b == c) r) 0) (eq-eqb c c refl)
place_of c (b ∷ w) r lack =
    let p = lacks_parts c b w lack in
    ap (λ (v : Bool). cond (not v) (1 + position_or_len (λ b. b == c) (w ++ c ∷ r)) 0) p.0 ∙ ap (λ (n : ℕ). 1 + n) (place_of c w r p.1)
    ∙ (let e : 1 + length w ≡ suc (length w) = omega arith in e)

front : (c : ℕ) (w r : List ℕ) → lacks c w ≡ true → before_first (λ b. b == c) (w ++ c ∷ r) ≡ w
front c w r lack = ap (λ (n : ℕ). take n (w ++ c ∷ r)) (place_of c w r lack) ∙ take_at w (c ∷ r) (length w) refl

dropped : (w : List ℕ) (c : ℕ) (r : List ℕ) → drop (length w + 1) (w ++ c ∷ r) ≡ r
dropped [] c r = refl
dropped (b ∷ w) c r = ap (λ (n : ℕ). drop n (b ∷ (w ++ c ∷ r))) (let e : length (b ∷ w) + 1 ≡ suc (length w + 1) = omega arith in e) ∙ dropped w c r

back : (c : ℕ) (w r : List ℕ) → lacks c w ≡ true → after_first (λ b. b == c) (w ++ c ∷ r) ≡ r
back c w r lack = ap (λ (n : ℕ). drop (n + 1) (w ++ c ∷ r)) (place_of c w r lack) ∙ dropped w c r

-- ---- a line of one image

module _ (word name : List ℕ) (free : lacks 32 word ≡ true) (named : lacks 32 name ≡ true) where
  one_image : (image : List Value) (k : ℕ) → AreValues image → 1 ≤ k → k ≤ length image → first_words (2 + k) (image_text word name image) ≡ image_text word name (take k image)
  one_image [] k fits some few = absurd (omega (arith, some, few))
  one_image (v ∷ vs) k fits some few =
      ap (λ (ws : List (List ℕ)). first_words (2 + k) (joined_by 32 (word ∷ name ∷ ws))) (sym (append-nil (map value_text (v ∷ vs))))
      ∙ image_words word name free named v vs [] k fits tt some few

-- ---- a line of two images

joined_lacks : (ws : List (List ℕ)) → AllLack 124 ws → lacks 124 (joined_by 32 ws) ≡ true
joined_lacks [] lack = refl
joined_lacks (w ∷ []) lack = lack.0
joined_lacks (w ∷ x ∷ ws) lack = all_true_append (λ b. not (b == 124)) w (32 ∷ joined_by 32 (x ∷ ws)) lack.0 (joined_lacks (x ∷ ws) lack.1)

joins : (c : ℕ) (xs ys : List ℕ) → lacks c xs ≡ true → lacks c ys ≡ true → lacks c (xs ++ ys) ≡ true
joins c xs ys h k = all_true_append (λ b. not (b == c)) xs ys h k

module _ (name : List ℕ) (named : lacks 32 name ≡ true) (unbarred : lacks 124 name ≡ true) where
  abbrev line_of : List Value → List Value → List ℕ
  line_of before after = codes "upd" ++ 32 ∷ (name ++ 32 ∷ (values_text before ++ 32 ∷ (124 ∷ 32 ∷ values_text after)))

  first_image : (before after : List Value) (k : ℕ) → AreValues before → AreValues after → 1 ≤ k → k ≤ length before → 0 < length after
      → first_words (2 + k) (line_of before after) ≡ image_text (codes "upd") name (take k before)
  first_image [] after k fits others some few full = absurd (omega (arith, some, few))
  first_image before [] k fits others some few full = absurd (omega (arith, full))
  first_image (v ∷ vs) (w ∷ ws) k fits others some few full =
      ap (λ (t : List ℕ). first_words (2 + k) (codes "upd" ++ 32 ∷ (name ++ 32 ∷ t)))
      (sym (joined_more (value_text v) (map value_text vs) (codes "|") (map value_text (w ∷ ws))))
      ∙ image_words (codes "upd") name refl named v vs (codes "|" ∷ map value_text (w ∷ ws)) k fits (refl, no_blanks (w ∷ ws) others) some few

  abbrev before_bar : List Value → List ℕ
  before_bar before = codes "upd" ++ 32 ∷ (name ++ 32 ∷ (values_text before ++ 32 ∷ []))

  no_bar : (before : List Value) → AreValues before → lacks 124 (before_bar before) ≡ true
  no_bar before fits =
      joins 124 name (32 ∷ (values_text before ++ 32 ∷ [])) unbarred
      (joins 124 (values_text before) (32 ∷ []) (joined_lacks (map value_text before) (no_bars before fits)) refl)

  at_bar : (before after : List Value) → line_of before after ≡ before_bar before ++ 124 ∷ (32 ∷ values_text after)
  at_bar before after =
      ap (λ (t : List ℕ). codes "upd" ++ 32 ∷ (name ++ 32 ∷ t)) (sym (append_assoc (values_text before) (32 ∷ []) (124 ∷ 32 ∷ values_text after)))
      ∙ ap (λ (t : List ℕ). codes "upd" ++ 32 ∷ t) (sym (append_assoc name (32 ∷ (values_text before ++ 32 ∷ [])) (124 ∷ 32 ∷ values_text after)))

  second_is : (before after : List Value) → AreValues before → second_image (line_of before after) ≡ values_text after
  second_is before after fits =
      ap second_image (at_bar before after) ∙ ap behind_word (back 124 (before_bar before) (32 ∷ values_text after) (no_bar before fits)) ∙ back 32 [] (values_text after) refl

  second_words : (after : List Value) (k : ℕ) → AreValues after → first_words k (values_text after) ≡ values_text (take k after)
  second_words [] zero fits = refl
  second_words [] (suc zero) fits = refl
  second_words [] (suc (suc k)) fits = refl
  second_words (v ∷ vs) k fits = first_of k (value_text v) (map value_text vs) (no_blanks (v ∷ vs) fits) ∙ ap (joined_by 32) (take-map value_text k (v ∷ vs))

  two_images : (before after : List Value) (k : ℕ) → AreValues before → AreValues after → 1 ≤ k → k ≤ length before → 0 < length after
      → first_values k (line_of before after) ≡ line_of (take k before) (take k after)
  two_images before after k fits others some few full =
      (λ i. first_image before after k fits others some few full i
      ++ (codes " | " ++ (ap (first_words k) (second_is before after fits) ∙ second_words after k others) i))
      ∙ ap (λ (t : List ℕ). codes "upd" ++ 32 ∷ t) (append_assoc name (32 ∷ values_text (take k before)) (codes " | " ++ values_text (take k after)))

-- ---- tables

-- a table that is found has a column that isn't hidden
some_shown : (name : List ℕ) (tables : List Table) (t : Table) → list_all is_table tables ≡ true → find_table name tables ≡ Some t → nat_lt t.hidden t.columns ≡ true
some_shown name [] t each e = absurd cc
some_shown name (x ∷ tables) t each e =
    let here = and_parts (is_table x) (list_all is_table tables) each in
    let limits = and_parts (has_column_lists x) (is_within_limits x) (and_parts (has_column_lists x && is_within_limits x) (has_its_columns x) here.0).0 in
    let columns = and_parts (nat_lt x.hidden x.columns && nat_le x.columns (most_columns x.limits)) (nat_le (length x.uniques) (most_uniques x.limits)) limits.1 in
    elim (eq_by_cmp (slice_cmp nat_cmp) name x.name) as (λ b. cond b (Some x) (find_table name tables) ≡ Some t → nat_lt t.hidden t.columns ≡ true) [
      | true ↦ λ f. subst (λ (y : Table). nat_lt y.hidden y.columns ≡ true) (same_Some x t f) (and_parts (nat_lt x.hidden x.columns) (nat_le x.columns (most_columns x.limits)) columns.0).0
      | false ↦ λ f. some_shown name tables t here.1 f
    ] e

-- a row has as many values as its table has columns
row_length : (t : Table) (row : List Value) → row_misfit t row ≡ None → length row ≡ t.columns
row_length t row e = by (length row == t.columns) refl e
  where
    by : (b : Bool) → (length row == t.columns) ≡ b → cond (not b) (Some Columns) (cond (has_primary_null t row) (Some NullInPrimary) (cond (list_any (is_longer (most_bytes t.limits)) row) (Some TooLong) None)) ≡ None
        → length row ≡ t.columns
    by true is f = grind (arith, nat_tests, is)
    by false is f = absurd cc

some_cause : (b : Bool) (x y : Misfit) → cond b (Some x) (Some y) ≡ None → ⊥
some_cause true x y e = cc
some_cause false x y e = cc

no_cause : (a b : Option Misfit) → first_cause a b ≡ None → (a ≡ None) × (b ≡ None)
no_cause None b e = (refl, e)
no_cause (Some x) None e = absurd cc
no_cause (Some x) (Some y) e = absurd (some_cause (nat_le (rank x) (rank y)) x y e)

-- ---- the line of a change

second_of : (word name rest : List ℕ) → lacks 32 word ≡ true → lacks 32 name ≡ true → second_word (word ++ 32 ∷ (name ++ 32 ∷ rest)) ≡ name
second_of word name rest free named = ap (before_first (λ b. b == 32)) (back 32 word (name ++ 32 ∷ rest) free) ∙ front 32 name rest named

its_table : (c : Change) → lacks 32 (table_of c) ≡ true → second_word (change_text c) ≡ table_of c
its_table (Insert name after) named = second_of (codes "ins") name (values_text after) refl named
its_table (Delete name before) named = second_of (codes "del") name (values_text before) refl named
its_table (Update name before after) named = second_of (codes "upd") name (values_text before ++ 32 ∷ (124 ∷ 32 ∷ values_text after)) refl named

-- an image is shown as far as its table shows columns
module _ (t : Table) (hides : nat_lt t.hidden t.columns ≡ true) where
  abbrev shown : ℕ
  shown = t.columns - t.hidden

  some : 1 ≤ shown
  some = grind (arith, nat_tests, hides)

  fewer : (row : List Value) → length row ≡ t.columns → shown ≤ length row
  fewer row e = omega (arith, e)

  full : (row : List Value) → length row ≡ t.columns → 0 < length row
  full row e = grind (arith, nat_tests, hides, e)

  cut : (row : List Value) → length row ≡ t.columns → take shown row ≡ shown_values (Some t) row
  cut row e = ap (λ (n : ℕ). take (n - t.hidden) row) (sym e)

  by_change : (c : Change) → lacks 32 (table_of c) ≡ true → lacks 124 (table_of c) ≡ true → HasValues c → images_misfit t c ≡ None → first_values shown (change_text c) ≡ change_text (shown_change (Some t) c)
  by_change (Insert name after) named unbarred fits takes =
      let e = row_length t after takes in
      append-nil (first_words (2 + shown) (image_text (codes "ins") name after))
      ∙ one_image (codes "ins") name refl named after shown fits some (fewer after e) ∙ ap (image_text (codes "ins") name) (cut after e)
  by_change (Delete name before) named unbarred fits takes =
      let e = row_length t before takes in
      append-nil (first_words (2 + shown) (image_text (codes "del") name before))
      ∙ one_image (codes "del") name refl named before shown fits some (fewer before e) ∙ ap (image_text (codes "del") name) (cut before e)
  by_change (Update name before after) named unbarred fits takes =
      let each = no_cause (row_misfit t before) (row_misfit t after) takes in
      let e = row_length t before each.0 in
      let f = row_length t after each.1 in
      two_images name named unbarred before after shown fits.0 fits.1 some (fewer before e) (full after f)
      ∙ (λ i. line_of name named unbarred (cut before e i) (cut after f i))

nothing_hidden : (row : List Value) (hidden : ℕ) → hidden ≡ 0 → row ≡ take (length row - hidden) row
nothing_hidden row hidden none = sym (take-length row) ∙ ap (λ m. take m row) (let k : length row ≡ length row - hidden = omega (arith, none) in k)

-- where nothing is hidden the change is shown whole
whole : (t : Table) (c : Change) → t.hidden ≡ 0 → change_text c ≡ change_text (shown_change (Some t) c)
whole t (Insert name after) e = ap (image_text (codes "ins") name) (nothing_hidden after t.hidden e)
whole t (Delete name before) e = ap (image_text (codes "del") name) (nothing_hidden before t.hidden e)
whole t (Update name before after) e = λ i. change_text (Update name (nothing_hidden before t.hidden e i) (nothing_hidden after t.hidden e i))

by_table : (o : Option Table) (c : Change) → ((t : Table) → o ≡ Some t → nat_lt t.hidden t.columns ≡ true) → lacks 32 (table_of c) ≡ true → lacks 124 (table_of c) ≡ true → HasValues c → misfit_in o c ≡ None
    → shown_line (shown_columns o) (change_text c) ≡ change_text (shown_change o c)
by_table None c hides named unbarred fits takes = absurd cc
by_table (Some t) c hides named unbarred fits takes =
    elim (t.hidden == 0) as (λ b. (t.hidden == 0) ≡ b → shown_line (cond b None (Some (t.columns - t.hidden))) (change_text c) ≡ change_text (shown_change (Some t) c)) [
      | true ↦ λ is. whole t c (grind (arith, nat_tests, is))
      | false ↦ λ is. by_change t (hides t refl) c named unbarred fits takes
    ] refl

-- what is in no name
is_free : (name : List ℕ) → is_word name ≡ true → (lacks 32 name ≡ true) × (lacks 124 name ≡ true)
is_free [] e = (refl, refl)
is_free (b ∷ bs) e =
    let p = and_parts (not (b == 32) && not (b == 124)) (is_word bs) e in
    let q = and_parts (not (b == 32)) (not (b == 124)) p.0 in
    let rest = is_free bs p.1 in
    (and_from (not (b == 32)) (lacks 32 bs) q.0 rest.0, and_from (not (b == 124)) (lacks 124 bs) q.1 rest.1)

pub line_left : HiddenValuesAreLeftOut
line_left tables c are word fits takes =
    let free = is_free (table_of c) word in
    ap (λ (name : List ℕ). shown_line (shown_columns (find_table name tables)) (change_text c)) (its_table c free.0)
    ∙ by_table (find_table (table_of c) tables) c (λ t e. some_shown (table_of c) tables t are.each e) free.0 free.1 fits takes
