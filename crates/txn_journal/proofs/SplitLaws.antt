-- Lists of column numbers in a text.
use Rattle.std.proofs.Common.{◌≡◌, ℕ, ◌<◌, ◌^◌, Bool, true, false, not, eqb, List, [], ◌∷◌, length, refl, sym, ap, subst, ◌∙◌, arith}
use Rattle.std.specs.Prelude.{◌||◌, decimal}
use Rattle.std.specs.List.{list_all, list_any, AllByRecursion}
use Rattle.std.specs.Char.{is_ascii_digit}
use Rattle.std.specs.Str.{bytes_eq}
use Rattle.std.proofs.lemmas.Bool.{false_from_ne_true, eqb-true, eq-eqb, and_parts, or_parts, not-true}
use Rattle.std.proofs.lemmas.Bool.Decides.{nat_tests}
use Rattle.std.proofs.lemmas.Slice.Eq.{bytes_eq-Decides}
use Rattle.gtid_set.proofs.SpanLemmas.{all_weaker}
use Rattle.rows.specs.Tables.{are_distinct}
use Rattle.row_images.specs.Words.{is_count}
use Rattle.row_images.proofs.Numerals.{digits_in}
use Rattle.row_images.proofs.Counts.{lacks, is_count_decimal}
use Rattle.row_images.specs.Parts.{parts_of, joined_by}
use Rattle.row_images.proofs.PartLaws.{AllLack, parts_joined, parts_again}
use Rattle.txn_journal.specs.Splits.{are_new_to, are_columns, is_columns_text, column_words, columns_text}
use Rattle.std.proofs.lemmas.Fmt.{decimal_injective}
use Rattle.lemmas.proofs.Lists.{all_true_append as joins}
use Rattle.row_images.proofs.ValueLaws.{same_bytes}

-- a byte that is in no part, and is not the separator
pub joined_lacks : (c d : ℕ) (ws : List (List ℕ)) → eqb c d ≡ false → AllLack d ws → lacks d (joined_by c ws) ≡ true
joined_lacks c d [] ne h = refl
joined_lacks c d (w ∷ []) ne h = h.0
joined_lacks c d (w ∷ x ∷ ws) ne h = joins (λ b. not (eqb b d)) w (c ∷ joined_by c (x ∷ ws)) h.0 (rw ne (joined_lacks c d (x ∷ ws) ne h.1))

-- ---- numbers

no_blank : (b : ℕ) → is_ascii_digit b ≡ true → not (eqb b 32) ≡ true
no_blank b e = grind (arith, nat_tests)

no_feed : (b : ℕ) → is_ascii_digit b ≡ true → not (eqb b 10) ≡ true
no_feed b e = grind (arith, nat_tests)

no_comma : (b : ℕ) → is_ascii_digit b ≡ true → not (eqb b 44) ≡ true
no_comma b e = grind (arith, nat_tests)

pub count_no_blank : (w : List ℕ) → is_count w ≡ true → lacks 32 w ≡ true
count_no_blank w e = all_weaker is_ascii_digit (λ b. not (eqb b 32)) w no_blank (digits_in w e).1

pub count_no_feed : (w : List ℕ) → is_count w ≡ true → lacks 10 w ≡ true
count_no_feed w e = all_weaker is_ascii_digit (λ b. not (eqb b 10)) w no_feed (digits_in w e).1

count_no_comma : (w : List ℕ) → is_count w ≡ true → lacks 44 w ≡ true
count_no_comma w e = all_weaker is_ascii_digit (λ b. not (eqb b 44)) w no_comma (digits_in w e).1

counts_lack : (c : ℕ) (ws : List (List ℕ)) → ((w : List ℕ) → is_count w ≡ true → lacks c w ≡ true) → list_all is_count ws ≡ true → AllLack c ws
counts_lack c [] none e = tt
counts_lack c (w ∷ ws) none e = let p = and_parts (is_count w) (list_all is_count ws) e in (none w p.0, counts_lack c ws none p.1)

columns_lack : (c : ℕ) (t : List ℕ) → eqb 44 c ≡ false → ((w : List ℕ) → is_count w ≡ true → lacks c w ≡ true) → is_columns_text t ≡ true → lacks c t ≡ true
columns_lack c t ne none e =
    let p = and_parts (list_all is_count (parts_of 44 t)) (are_new_to (λ v. false) (parts_of 44 t)) e in
    subst (λ (x : List ℕ). lacks c x ≡ true) (parts_joined 44 t) (joined_lacks 44 c (parts_of 44 t) ne (counts_lack c (parts_of 44 t) none p.0))

pub columns_no_blank : (t : List ℕ) → is_columns_text t ≡ true → lacks 32 t ≡ true
columns_no_blank t e = columns_lack 32 t refl count_no_blank e

pub columns_no_feed : (t : List ℕ) → is_columns_text t ≡ true → lacks 10 t ≡ true
columns_no_feed t e = columns_lack 10 t refl count_no_feed e

-- ---- columns as numbers

-- each is a number that is stored
abbrev pub are_small : List ℕ → Type 0
are_small cs = AllByRecursion (λ (c : ℕ). c < 2 ^ 64) cs

words_counts : (cs : List ℕ) → are_small cs → list_all is_count (column_words cs) ≡ true
words_counts [] h = refl
words_counts (c ∷ cs) h = rw (is_count_decimal c h.0) (words_counts cs h.1)

-- a new column's word was not seen
any_apart : (seen : List ℕ → Bool) (c : ℕ) (cs : List ℕ) → list_any (λ x. bytes_eq (decimal x) (decimal c) || seen (decimal x)) cs ≡ false → (list_any (λ x. eqb x c) cs ≡ false) × (list_any (λ x. seen (decimal x)) cs ≡ false)
any_apart seen c [] e = (refl, refl)
any_apart seen c (x ∷ xs) e =
    let p = or_parts (bytes_eq (decimal x) (decimal c) || seen (decimal x)) (list_any (λ x. bytes_eq (decimal x) (decimal c) || seen (decimal x)) xs) e in
    let q = or_parts (bytes_eq (decimal x) (decimal c)) (seen (decimal x)) p.0 in
    let more = any_apart seen c xs p.1 in
    let apart = false_from_ne_true (eqb x c) (λ h. let k = sym (same_bytes (decimal c)) ∙ ap (λ (y : ℕ). bytes_eq (decimal y) (decimal c)) (sym (eqb-true x c h)) ∙ q.0 in cc) in
    (rw apart more.0, rw q.1 more.1)

pub new_distinct : (seen : List ℕ → Bool) (cs : List ℕ) → are_new_to seen (column_words cs) ≡ true → (are_distinct cs ≡ true) × (list_any (λ x. seen (decimal x)) cs ≡ false)
unfolding are_new_to
new_distinct seen [] e = (refl, refl)
new_distinct seen (c ∷ cs) e =
    let p = and_parts (not (seen (decimal c))) (are_new_to (λ v. bytes_eq v (decimal c) || seen v) (column_words cs)) e in
    let more = new_distinct (λ v. bytes_eq v (decimal c) || seen v) cs p.1 in
    let apart = any_apart seen c cs more.1 in
    (rw (apart.0, more.0) refl, rw (not-true (seen (decimal c)) p.0, apart.1) refl)

any_together : (seen : List ℕ → Bool) (c : ℕ) (cs : List ℕ) → c < 2 ^ 64 → are_small cs → list_any (λ x. eqb x c) cs ≡ false → list_any (λ x. seen (decimal x)) cs ≡ false → list_any (λ x. bytes_eq (decimal x) (decimal c) || seen (decimal x)) cs ≡ false
any_together seen c [] lt small a b = refl
any_together seen c (x ∷ xs) lt small a b =
    let p = or_parts (eqb x c) (list_any (λ x. eqb x c) xs) a in
    let q = or_parts (seen (decimal x)) (list_any (λ x. seen (decimal x)) xs) b in
    let apart = false_from_ne_true (bytes_eq (decimal x) (decimal c)) (λ h. let k = sym (eq-eqb x c (decimal_injective x c small.0 lt ((bytes_eq-Decides (decimal x) (decimal c)).0 h))) ∙ p.0 in cc) in
    rw (apart, q.0) (any_together seen c xs lt small.1 p.1 q.1)

pub distinct_new : (seen : List ℕ → Bool) (cs : List ℕ) → are_small cs → are_distinct cs ≡ true → list_any (λ x. seen (decimal x)) cs ≡ false → are_new_to seen (column_words cs) ≡ true
unfolding are_new_to
distinct_new seen [] small e f = refl
distinct_new seen (c ∷ cs) small e f =
    let p = and_parts (not (list_any (λ x. eqb x c) cs)) (are_distinct cs) e in
    let q = or_parts (seen (decimal c)) (list_any (λ x. seen (decimal x)) cs) f in
    rw q.0 (distinct_new (λ v. bytes_eq v (decimal c) || seen v) cs small.1 p.1 (any_together seen c cs small.0 small.1 (not-true (list_any (λ x. eqb x c) cs) p.0) q.1))

none_seen : (cs : List ℕ) → list_any (λ x. false) cs ≡ false
none_seen [] = refl
none_seen (c ∷ cs) = none_seen cs

words_no_comma : (cs : List ℕ) → are_small cs → AllLack 44 (column_words cs)
words_no_comma cs h = counts_lack 44 (column_words cs) count_no_comma (words_counts cs h)

-- the parts of columns as text are their words
pub columns_parts : (cs : List ℕ) → are_small cs → 0 < length cs → parts_of 44 (columns_text cs) ≡ column_words cs
columns_parts [] h some = absurd (omega arith)
columns_parts (c ∷ cs) h some = parts_again 44 (decimal c) (column_words cs) (words_no_comma (c ∷ cs) h)

pub columns_written : (cs : List ℕ) → are_small cs → 0 < length cs → are_distinct cs ≡ true → is_columns_text (columns_text cs) ≡ true
columns_written cs h some e =
    ap are_columns (columns_parts cs h some) ∙ rw (words_counts cs h, distinct_new (λ v. false) cs h e (none_seen cs)) refl
