-- How many sources the set has that a word parses as.
use Rattle.std.proofs.Common.{◌≡◌, ℕ, ◌≤◌, ◌<◌, ◌+◌, Bool, true, false, cond, ◌&&◌, ◌||◌, List, [], ◌∷◌, Option, Some, None, Result, Ok, Err, refl, sym, ap, subst, ◌∙◌, arith}
use Rattle.std.specs.Prelude.{◌==◌, option_map, codes}
use Rattle.std.specs.List.{list_all, list_any}
use Rattle.std.specs.Str.{bytes_eq}
use Rattle.std.specs.FinSet as set
use Rattle.std.specs.Ordering.{nat_cmp}
use Rattle.std.specs.Cmp.{nat_cmp_total}
use Rattle.std.proofs.lemmas.Bool.{and_parts}
use Rattle.std.proofs.lemmas.Bool.Decides.{nat_tests}
use Rattle.gtid_text.specs.declared.Span.{Span}
use Rattle.gtid_text.specs.declared.scan.ScanFault.{ScanFault}
use Rattle.gtid_text.specs.Canonical.{spans_text}
use Rattle.gtid_text.specs.Counting.{is_behind, are_tidy_behind, sources_behind, count_tidy, count_read}
use Rattle.gtid_text.specs.Reading.{spans_in}
use Rattle.gtid_text.proofs.Found.{read_spells}
use Rattle.gtid_set.specs.Sets.{Gtids, source_count, most_sources}
use Rattle.gtid_set.specs.Sweep.{sources_in}
use Rattle.gtid_set.specs.Full.{HasManySources}
use Rattle.gtid_set.proofs.SourceLemmas.{contains-sources_in}
use Rattle.gtid_set.proofs.SetSources.{sources_of-set_of, no_sources}
use Rattle.gtid_set.proofs.TextLemmas.{spelled_filled}
use Rattle.journal_words.specs.Gtids.{is_ascii_byte, tidy_or_none, spans_of_word, set_with, set_of_word, OfParsed}
use Rattle.journal_words.proofs.SpanLaws.{with_none}

-- ---- intervals in order

-- no later one is of a lesser source
later_sources : (q : ℕ) (t : Span) (ts : List Span) → are_tidy_behind (Some t) ts ≡ true → q < t.source → list_any (λ u. q == u.source) ts ≡ false
later_sources q t [] e lt = refl
later_sources q t (u ∷ us) e lt =
    let p = and_parts (is_behind t u) (are_tidy_behind (Some u) us) e in
    let less = later_source p.0 in
    ap (λ (b : Bool). b || list_any (λ v. q == v.source) us) (other less) ∙ later_sources q u us p.1 less
  where
    later_source : is_behind t u ≡ true → q < u.source
    later_source h = grind (arith, nat_tests)

    other : q < u.source → (q == u.source) ≡ false
    other less = grind (arith, nat_tests)

-- the source of the first is among the others where it is the next one's
among : (s t : Span) (ts : List Span) → are_tidy_behind (Some s) (t ∷ ts) ≡ true → set.contains (sources_in (t ∷ ts)) s.source ≡ (s.source == t.source)
among s t ts e =
    let p = and_parts (is_behind s t) (are_tidy_behind (Some t) ts) e in
    contains-sources_in (t ∷ ts) s.source ∙ cases (s.source == t.source) refl p.0 p.1
  where
    lesser : is_behind s t ≡ true → (s.source == t.source) ≡ false → s.source < t.source
    lesser h k = grind (arith, nat_tests)

    cases : (b : Bool) → (s.source == t.source) ≡ b → is_behind s t ≡ true → are_tidy_behind (Some t) ts ≡ true → (b || list_any (λ u. s.source == u.source) ts) ≡ b
    cases true k h tidy = refl
    cases false k h tidy = later_sources s.source t ts tidy (lesser h k)

one_more : (b : Bool) (n : ℕ) → cond b (1 + n) (1 + n + 1) ≡ 1 + (cond b 0 1 + n)
one_more true n = omega arith
one_more false n = omega arith

sources_counted : (s : Span) (ss : List Span) → are_tidy_behind (Some s) ss ≡ true → set.len (sources_in (s ∷ ss)) ≡ 1 + sources_behind (Some s) ss
sources_counted s [] e = set.len-insert nat_cmp_total set.empty s.source ∙ ap (λ b. cond b (set.len none) (set.len none + 1)) (set.contains-empty nat_cmp s.source) ∙ ap (λ n. n + 1) (set.len-empty nat_cmp) ∙ alone
  where
    none : set.FinSet nat_cmp
    none = set.empty

    alone : 0 + 1 ≡ 1 + 0
    alone = omega arith
sources_counted s (t ∷ ts) e =
    let p = and_parts (is_behind s t) (are_tidy_behind (Some t) ts) e in
    let rest = sources_in (t ∷ ts) in
    set.len-insert nat_cmp_total rest s.source
    ∙ ap (λ b. cond b (set.len rest) (set.len rest + 1)) (among s t ts e)
    ∙ ap (λ n. cond (s.source == t.source) n (n + 1)) (sources_counted t ts p.1)
    ∙ one_more (s.source == t.source) (sources_behind (Some t) ts)

-- ---- a word

-- the count of a word is that of the sources of the set that it parses as, and there is one exactly where it parses as one with an interval
abbrev pub Counts : Option ℕ → Option Gtids → Type 0
Counts None found = found ≡ None
Counts (Some n) found = OfParsed (λ s. source_count s ≡ n) found

abbrev set_or_none : Option (List Span) → Option Gtids
set_or_none found = option_map (set_with set.empty) found

tidy_counts : (w : List ℕ) (us : List Span) → spans_in w ≡ Ok us → Counts (count_tidy w us) (set_or_none (tidy_or_none w (Ok us)))
tidy_counts w [] read = refl
tidy_counts w (u ∷ us) read = ordered (are_tidy_behind None (u ∷ us)) refl (bytes_eq (spans_text (u ∷ us)) w)
  where
    ordered : (a : Bool) → are_tidy_behind None (u ∷ us) ≡ a → (b : Bool)
        → Counts (cond (a && b) (Some (sources_behind None (u ∷ us))) None) (set_or_none (cond a (cond b (Some (u ∷ us)) None) None))
    ordered true tidy true =
        ap source_count (with_none (u ∷ us))
        ∙ ap set.len (sources_of-set_of (u ∷ us) (spelled_filled w (u ∷ us) (read_spells w (u ∷ us) read)))
        ∙ sources_counted u us tidy
    ordered true tidy false = refl
    ordered false tidy b = refl

read_counts : (w : List ℕ) (r : Result (List Span) ScanFault) → spans_in w ≡ r → Counts (count_read w r) (set_or_none (tidy_or_none w r))
read_counts w (Ok us) read = tidy_counts w us read
read_counts w (Err x) read = refl

pub word_counts : (w : List ℕ) → bytes_eq w (codes "-") ≡ false → list_all is_ascii_byte w ≡ true → Counts (count_read w (spans_in w)) (set_of_word w)
word_counts w other ascii =
    let is : spans_of_word w ≡ tidy_or_none w (spans_in w) = rw (other, ascii) refl in
    subst (λ (found : Option (List Span)). Counts (count_read w (spans_in w)) (set_or_none found)) (sym is) (read_counts w (spans_in w) refl)

-- what is not ASCII parses as no set, and `-` as one without a source
pub no_set : (w : List ℕ) → bytes_eq w (codes "-") ≡ false → list_all is_ascii_byte w ≡ false → OfParsed HasManySources (set_of_word w) → ⊥
no_set w other ascii many = absurd (let is : spans_of_word w ≡ None = rw (other, ascii) refl in subst (λ (found : Option (List Span)). OfParsed HasManySources (set_or_none found)) is many)

pub empty_set : (w : List ℕ) → bytes_eq w (codes "-") ≡ true → OfParsed HasManySources (set_of_word w) → ⊥
empty_set w dash many =
    let is : spans_of_word w ≡ Some [] = rw dash refl in
    let over : most_sources < source_count set.empty = subst (λ (found : Option (List Span)). OfParsed HasManySources (set_or_none found)) is many in
    let none = no_sources in
    omega (arith, over, none)

counted_many : (n : ℕ) (found : Option Gtids) → OfParsed (λ s. source_count s ≡ n) found → most_sources < n → OfParsed HasManySources found
counted_many n (Some s) h over = omega (arith, h, over)
counted_many n None h over = h

counted_few : (n : ℕ) (found : Option Gtids) → OfParsed (λ s. source_count s ≡ n) found → n ≤ most_sources → OfParsed HasManySources found → ⊥
counted_few n (Some s) h few many = omega (arith, h, few, many)
counted_few n None h few many = h

-- what a count says of the set
pub many_counted : (w : List ℕ) (n : ℕ) → bytes_eq w (codes "-") ≡ false → list_all is_ascii_byte w ≡ true → count_read w (spans_in w) ≡ Some n → most_sources < n → OfParsed HasManySources (set_of_word w)
many_counted w n other ascii e over = counted_many n (set_of_word w) (subst (λ (c : Option ℕ). Counts c (set_of_word w)) e (word_counts w other ascii)) over

pub few_counted : (w : List ℕ) (n : ℕ) → bytes_eq w (codes "-") ≡ false → list_all is_ascii_byte w ≡ true → count_read w (spans_in w) ≡ Some n → n ≤ most_sources → OfParsed HasManySources (set_of_word w) → ⊥
few_counted w n other ascii e few = counted_few n (set_of_word w) (subst (λ (c : Option ℕ). Counts c (set_of_word w)) e (word_counts w other ascii)) few

pub none_counted : (w : List ℕ) → bytes_eq w (codes "-") ≡ false → list_all is_ascii_byte w ≡ true → count_read w (spans_in w) ≡ None → OfParsed HasManySources (set_of_word w) → ⊥
none_counted w other ascii e many =
    let none : set_of_word w ≡ None = subst (λ (c : Option ℕ). Counts c (set_of_word w)) e (word_counts w other ascii) in
    absurd (subst (λ (found : Option Gtids). OfParsed HasManySources found) none many)
