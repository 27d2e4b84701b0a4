-- The spans that a text parses as are filled, and sorted they are of the set that it parses as.
use Rattle.std.proofs.Common.{◌≡◌, ◌⊎◌, ◌≤◌, ℕ, Bool, true, cond, nat_le, nat_lt, List, [], ◌∷◌, length, refl, sym, ap, ◌∙◌, arith, inl, inr}
use Rattle.std.specs.Prelude.{Option, Some, None, Result, Ok, Err}
use Rattle.std.specs.List.{list_all}
use Rattle.std.specs.List.Sorted.{IsPermutation}
use Rattle.std.proofs.lemmas.Bool.Decides.{nat_tests}
use Rattle.gtid_text.specs.declared.Span.{Span}
use Rattle.gtid_text.specs.declared.SourceId.{SourceId}
use Rattle.gtid_text.specs.Grammar.{Number, Interval, Element, IsUpper, AreIntervals, IsElement, AreElements, ParsesAs}
use Rattle.gtid_text.specs.Reading.{answer, spans_in, IsAccepted}
use Rattle.gtid_text.specs.declared.scan.ScanFault.{ScanFault}
use Rattle.gtid_text.specs.declared.fault.TextFault.{TextFault}
use Rattle.gtid_text.specs.declared.fault.TextFault.TheVariants as faults
use Rattle.gtid_set.specs.declared.fault.SetFault.{SetFault}
use Rattle.gtid_set.specs.declared.fault.SetFault.TheVariants.{Memory, PoolFull, SourcesFull}
use Rattle.gtid_set.specs.declared.fault.SetTextFault.TheVariants.{Text, Set}
use Rattle.gtid_set.specs.Sets.{Gtids, source_count, most_sources}
use Rattle.gtid_set.specs.Spans.{set_of}
use Rattle.gtid_set.specs.Full.{IsFullExactly, interval_count, most_intervals, HasManySources, HasManyIntervals}
use Rattle.gtid_set.specs.Texts.{check_size, set_from, set_in}
use Rattle.gtid_set.proofs.SortLemmas.{same_set_sorted}
use Rattle.gtid_set.proofs.SpanLemmas.{all_joined}
use Rattle.std.proofs.lemmas.Bool.{and_from}
use Rattle.lemmas.proofs.Numbers.{lt_false, below_test}

abbrev pub are_filled : List Span → Bool
are_filled ss = list_all (λ s. nat_le s.lo s.hi) ss

upper_filled : (u : Option (List ℕ × Number)) (s : Span) → IsUpper u s → nat_le s.lo s.hi ≡ true
upper_filled None s h = let le : s.lo ≤ s.hi = omega (arith, h) in grind (arith, nat_tests)
upper_filled (Some u) s h = let le = h.2 in grind (arith, nat_tests)

intervals_filled : (id : SourceId) (ps : List (List ℕ × Interval)) (ss : List Span) → AreIntervals id ps ss → are_filled ss ≡ true
intervals_filled id [] [] h = refl
intervals_filled id [] (s ∷ ss) h = absurd h
intervals_filled id (p ∷ ps) [] h = refl
intervals_filled id (p ∷ ps) (s ∷ ss) h = and_from (nat_le s.lo s.hi) (are_filled ss) (upper_filled p.1.upper s h.1.upper) (intervals_filled id ps ss h.2)

element_filled : (e : Element) (ss : List Span) → IsElement e ss → are_filled ss ≡ true
element_filled (None, gap) ss h = ap are_filled h.1
element_filled (Some n, gap) ss h = intervals_filled h.1.id (n.first ∷ n.more) ss h.1.intervals

elements_filled : (es : List Element) (ss : List Span) → AreElements es ss → are_filled ss ≡ true
elements_filled [] ss h = ap are_filled h
elements_filled (e ∷ es) ss h = ap are_filled h.2 ∙ all_joined (λ s. nat_le s.lo s.hi) h.0 h.1 (element_filled e h.0 h.3) (elements_filled es h.1 h.4)

pub spelled_filled : (text : List ℕ) (ss : List Span) → ParsesAs text ss → are_filled ss ≡ true
spelled_filled text ss h = elements_filled h.elements ss h.says

-- what reading answers
abbrev pub ReadSpans : Type 0
ReadSpans = Result (List Span) ScanFault

abbrev pub as_read : List Span → ReadSpans
as_read spans = Ok spans

pub same_read : (spans read : List Span) → as_read spans ≡ as_read read → spans ≡ read
same_read spans read e = cc

-- intervals that are read want no fault but memory
pub memory_alone : (spans : List Span) (len : ℕ) (f : TextFault) → (f ≡ faults.Memory × IsAccepted (as_read spans)) ⊎ (answer len (as_read spans) ≡ Err f) → f ≡ faults.Memory
memory_alone spans len f (inl e) = e.0
memory_alone spans len f (inr e) = absurd cc

-- the set of what was read is that of any reading
pub set_read : (spans read sorted : List Span) (s : Gtids) → as_read spans ≡ as_read read → IsPermutation read sorted → set_of spans ≡ s → set_of sorted ≡ s
set_read spans read sorted s e p view = same_set_sorted read sorted p ∙ ap set_of (sym (same_read spans read e)) ∙ view

pub fits_sized : (s : Gtids) → source_count s ≤ most_sources → interval_count s ≤ most_intervals → check_size s ≡ Ok s
fits_sized s few small =
    ap (λ b. cond b (Err (Set SourcesFull)) (cond (nat_lt most_intervals (interval_count s)) (Err (Set PoolFull)) (Ok s))) (lt_false most_sources (source_count s) few)
    ∙ ap (λ b. cond b (Err (Set PoolFull)) (Ok s)) (lt_false most_intervals (interval_count s) small)

pub full_sized : (s : Gtids) → HasManySources s → check_size s ≡ Err (Set SourcesFull)
full_sized s many = ap (λ b. cond b (Err (Set SourcesFull)) (cond (nat_lt most_intervals (interval_count s)) (Err (Set PoolFull)) (Ok s))) (below_test most_sources (source_count s) many)

pub crowded_sized : (s : Gtids) → source_count s ≤ most_sources → HasManyIntervals s → check_size s ≡ Err (Set PoolFull)
crowded_sized s few many =
    ap (λ b. cond b (Err (Set SourcesFull)) (cond (nat_lt most_intervals (interval_count s)) (Err (Set PoolFull)) (Ok s))) (lt_false most_sources (source_count s) few)
    ∙ ap (λ b. cond b (Err (Set PoolFull)) (Ok s)) (below_test most_intervals (interval_count s) many)

given_sized : (text : List ℕ) (spans : List Span) → spans_in text ≡ as_read spans → set_in text ≡ check_size (set_of spans)
unfolding set_in
given_sized text spans e = ap (λ r. set_from (answer (length text) r)) e

pub given_set : (text : List ℕ) (spans : List Span) (s : Gtids) → spans_in text ≡ as_read spans → source_count s ≤ most_sources → interval_count s ≤ most_intervals → set_of spans ≡ s → set_in text ≡ Ok s
given_set text spans s e few small view = given_sized text spans e ∙ ap check_size view ∙ fits_sized s few small

pub given_full : (text : List ℕ) (spans : List Span) → spans_in text ≡ as_read spans → HasManySources (set_of spans) → set_in text ≡ Err (Set SourcesFull)
given_full text spans e many = given_sized text spans e ∙ full_sized (set_of spans) many

pub given_crowded : (text : List ℕ) (spans : List Span) → spans_in text ≡ as_read spans → source_count (set_of spans) ≤ most_sources → HasManyIntervals (set_of spans) → set_in text ≡ Err (Set PoolFull)
given_crowded text spans e few many = given_sized text spans e ∙ crowded_sized (set_of spans) few many

-- the answer, where the set was not made
pub given_fault : (text : List ℕ) (spans : List Span) (f : SetFault) → spans_in text ≡ as_read spans → IsFullExactly {T = Unit {0}} (Err f) (set_of spans) → (f ≡ Memory) ⊎ (set_in text ≡ Err (Set f))
given_fault text spans Memory e full = inl refl
given_fault text spans PoolFull e full = inr (given_crowded text spans e full.0 full.1)
given_fault text spans SourcesFull e full = inr (given_full text spans e full)

-- the answer, where the text was refused
pub given_refusal : (text : List ℕ) (f : TextFault) → (f ≡ faults.Memory × IsAccepted (spans_in text)) ⊎ (answer (length text) (spans_in text) ≡ Err f) → (f ≡ faults.Memory) ⊎ (set_in text ≡ Err (Text f))
unfolding set_in
given_refusal text f (inl e) = inl e.0
given_refusal text f (inr e) = inr (ap set_from e)
