-- A set that a word parses as, as its intervals are added one after another.
use Rattle.std.proofs.Common.{◌≡◌, ℕ, ◌≤◌, ◌<◌, ◌+◌, Bool, true, ◌&&◌, ◌||◌, refl, List, [], ◌∷◌, ◌++◌, length, take, drop, get_or, Option, Some, None, Result, Ok, Err, inl, inr, arith, ap, sym, ◌∙◌}
use Rattle.std.specs.Prelude.{codes, nat_le}
use Rattle.std.specs.List.{list_all}
use Rattle.std.specs.Str.{bytes_eq}
use Rattle.std.specs.FinSet as set
use Rattle.std.proofs.lemmas.Bool.{and_parts, and_from}
use Rattle.std.proofs.lemmas.List.{take_more, take-append-drop, length-take}
use Rattle.std.proofs.lemmas.Option.{same_Some}
use Rattle.lemmas.proofs.SameGtid.{gtid_total}
use Rattle.gtid_text.specs.declared.Span.{Span}
use Rattle.gtid_text.specs.declared.scan.ScanFault.{ScanFault}
use Rattle.gtid_text.specs.Canonical.{spans_text}
use Rattle.gtid_text.specs.Counting.{are_tidy_behind}
use Rattle.gtid_text.specs.Reading.{spans_in}
use Rattle.gtid_text.proofs.Found.{read_spells}
use Rattle.gtid_text.proofs.Turns.{chosen}
use Rattle.gtid_set.specs.declared.fault.SetFault.{SetFault}
use Rattle.gtid_set.specs.Sets.{Gtids, interval, source_count}
use Rattle.gtid_set.specs.Spans.{set_of, is_before, is_merged}
use Rattle.gtid_set.specs.Full.{IsFullExactly}
use Rattle.gtid_set.specs.Runs.{runs}
use Rattle.gtid_set.proofs.FaultLemmas.{full_fault, fault_map}
use Rattle.gtid_set.proofs.LawLemmas.{union_swap}
use Rattle.gtid_set.proofs.RunLemmas.{runs_merged}
use Rattle.gtid_set.proofs.SetLemmas.{same_members, union_empty}
use Rattle.gtid_set.proofs.SetSources.{fewer_sources}
use Rattle.gtid_set.proofs.SpanLemmas.{all_weaker, before_trans, merged_front}
use Rattle.gtid_set.proofs.TextLemmas.{spelled_filled}
use Rattle.journal_words.specs.Gtids.{is_ascii_byte, if_ascii, some_tidy, tidy_or_none, spans_of_word, set_with, IsWordFault}
use Rattle.row_images.specs.Values.{where_same}
use Rattle.row_images.proofs.ValueLaws.{where_same-found}

-- ---- tidy intervals are a merged list

abbrev are_filled : List Span → Bool
are_filled ss = list_all (λ s. nat_le s.lo s.hi) ss

all_behind : (s : Span) (ss : List Span) → are_tidy_behind (Some s) ss ≡ true → are_filled ss ≡ true → list_all (is_before s) ss ≡ true
all_behind s [] e f = refl
all_behind s (t ∷ ts) e f =
    let p = and_parts (is_before s t) (are_tidy_behind (Some t) ts) e in
    let q = and_parts (nat_le t.lo t.hi) (are_filled ts) f in
    and_from (is_before s t) (list_all (is_before s) ts) p.0 (all_weaker (is_before t) (is_before s) ts (λ v c. before_trans s t v p.0 q.0 c) (all_behind t ts p.1 q.1))

tidy_merged : (s : Span) (ss : List Span) → are_tidy_behind (Some s) ss ≡ true → are_filled (s ∷ ss) ≡ true → is_merged (s ∷ ss) ≡ true
tidy_merged s [] e f = and_from (nat_le s.lo s.hi) true (and_parts (nat_le s.lo s.hi) true f).0 refl
tidy_merged s (t ∷ ts) e f =
    let p = and_parts (is_before s t) (are_tidy_behind (Some t) ts) e in
    let q = and_parts (nat_le s.lo s.hi) (are_filled (t ∷ ts)) f in
    and_from (nat_le s.lo s.hi) (list_all (is_before s) (t ∷ ts) && is_merged (t ∷ ts)) q.0
    (and_from (list_all (is_before s) (t ∷ ts)) (is_merged (t ∷ ts)) (all_behind s (t ∷ ts) e q.1) (tidy_merged t ts p.1 q.1))

tidy_found : (w : List ℕ) (us ss : List Span) → spans_in w ≡ Ok us → some_tidy w us ≡ Some ss → is_merged ss ≡ true
tidy_found w [] ss read e = absurd cc
tidy_found w (u ∷ us) ss read e =
    elim (chosen (are_tidy_behind None (u ∷ us)) (where_same spans_text w (u ∷ us)) None (Some ss) e) [
      | inl p ↦ sym (ap is_merged (where_same-found spans_text w (u ∷ us) ss p.1).1) ∙ tidy_merged u us p.0 (spelled_filled w (u ∷ us) (read_spells w (u ∷ us) read))
      | inr p ↦ absurd cc
    ]

read_tidy : (w : List ℕ) (r : Result (List Span) ScanFault) (ss : List Span) → spans_in w ≡ r → tidy_or_none w r ≡ Some ss → is_merged ss ≡ true
read_tidy w (Ok us) ss read e = tidy_found w us ss read e
read_tidy w (Err x) ss read e = absurd cc

ascii_found : {A : Type 0} (w : List ℕ) (o : Option A) (x : A) → if_ascii w o ≡ Some x → o ≡ Some x
ascii_found w o x e = elim (chosen (list_all is_ascii_byte w) o None (Some x) e) [ inl p ↦ p.1 | inr p ↦ absurd cc ]

-- the intervals that a word parses as
pub word_merged : (w : List ℕ) (ss : List Span) → spans_of_word w ≡ Some ss → is_merged ss ≡ true
word_merged w ss e =
    elim (chosen (bytes_eq w (codes "-")) (Some []) (if_ascii w (tidy_or_none w (spans_in w))) (Some ss) e) [
      | inl p ↦ sym (ap is_merged (same_Some [] ss p.1))
      | inr p ↦ read_tidy w (spans_in w) ss refl (ascii_found w (tidy_or_none w (spans_in w)) ss p.1)
    ]

-- ---- the set of intervals, one after another

or_turned : (a b c : Bool) → ((a || b) || c) ≡ (a || (c || b))
or_turned a b c = grind arith

turned : (s t u : Gtids) → set.union (set.union s t) u ≡ set.union s (set.union u t)
turned s t u = same_members _ _ (λ g.
    set.contains-union gtid_total (set.union s t) u g
    ∙ ap (λ b. b || set.contains u g) (set.contains-union gtid_total s t g)
    ∙ or_turned (set.contains s g) (set.contains t g) (set.contains u g)
    ∙ sym (set.contains-union gtid_total s (set.union u t) g ∙ ap (λ b. set.contains s g || b) (set.contains-union gtid_total u t g)))

none_before : (s : Gtids) → set.union set.empty s ≡ s
none_before s = union_swap set.empty s ∙ sym (union_empty s)

with_all : (s : Gtids) (ts : List Span) → set_with s ts ≡ set.union s (set_of ts)
with_all s [] = union_empty s
with_all s (t ∷ ts) = with_all (set.union s (interval t.source t.lo t.hi)) ts ∙ turned s (interval t.source t.lo t.hi) (set_of ts)

pub with_none : (ts : List Span) → set_with set.empty ts ≡ set_of ts
with_none ts = with_all set.empty ts ∙ none_before (set_of ts)

with_append : (s : Gtids) (xs ys : List Span) → set_with s (xs ++ ys) ≡ set_with (set_with s xs) ys
with_append s [] ys = refl
with_append s (x ∷ xs) ys = with_append (set.union s (interval x.source x.lo x.hi)) xs ys

-- one more
pub with_more : (s : Gtids) (all : List Span) (i : ℕ) (t : Span) → i < length all → t ≡ get_or all i t → set.union (set_with s (take i all)) (interval t.source t.lo t.hi) ≡ set_with s (take (i + 1) all)
with_more s all i t few is =
    sym (with_append s (take i all) (t ∷ [])) ∙ ap (set_with s) (sym (take_more all i t few ∙ ap (λ (x : Span). take i all ++ x ∷ []) (sym is)))

-- ---- what is too much for the first intervals is too much for all

merged_take : (n : ℕ) (ss : List Span) → is_merged ss ≡ true → is_merged (take n ss) ≡ true
merged_take n ss m = merged_front (take n ss) (drop n ss) (ap is_merged (take-append-drop n ss) ∙ m)

more_sources : (n : ℕ) (ss : List Span) → source_count (set_with set.empty (take n ss)) ≤ source_count (set_with set.empty ss)
more_sources n ss = fewer_sources (set_with set.empty (take n ss)) (set_with set.empty ss) (λ q e.
    ap (λ s. set.contains s q) (ap (set_with set.empty) (sym (take-append-drop n ss)) ∙ with_append set.empty (take n ss) (drop n ss) ∙ with_all (set_with set.empty (take n ss)) (drop n ss))
    ∙ set.contains-union gtid_total (set_with set.empty (take n ss)) (set_of (drop n ss)) q ∙ rw e refl)

more_runs : (n : ℕ) (ss : List Span) → is_merged ss ≡ true → length (runs (set_with set.empty (take n ss))) ≤ length (runs (set_with set.empty ss))
more_runs n ss m =
    let front = ap length (ap runs (with_none (take n ss)) ∙ runs_merged (take n ss) (merged_take n ss m)) in
    let all = ap length (ap runs (with_none ss) ∙ runs_merged ss m) in
    let short = length-take n ss in
    omega (arith, front, all, short)

pub fault_behind : (f : SetFault) (n : ℕ) (ss : List Span) → is_merged ss ≡ true → IsFullExactly {T = Unit {0}} (Err f) (set_with set.empty (take n ss)) → IsWordFault f (Some (set_with set.empty ss))
fault_behind f n ss m h =
    fault_map f
    (λ over. let low = more_sources n ss in omega (arith, over, low))
    (λ over. let low = more_runs n ss m in omega (arith, over, low))
    (full_fault f (set_with set.empty (take n ss)) h)
