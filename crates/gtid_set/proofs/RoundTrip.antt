-- A set's canonical text parses as it.
use Rattle.std.proofs.Common.{◌≡◌, ◌≤◌, ℕ, Bool, true, false, cond, ◌&&◌, ◌||◌, nat_le, List, [], ◌∷◌, ◌++◌, refl, sym, ap, subst, ◌∙◌, arith}
use Rattle.std.specs.Prelude.{Option, Some, None, Result, Ok, Err, length, nat_lt}
use Rattle.std.specs.FinSet as set
use Rattle.std.specs.Str.Parse.{digits_value}
use Rattle.std.proofs.lemmas.Bool.Decides.{nat_tests}
use Rattle.gtid_text.specs.Scan.{number_of}
use Rattle.gtid_text.specs.Grammar.{Number, Interval, Element, IsUpper, AreIntervals, IsElement, AreElements, ParsesAs}
use Rattle.gtid_text.specs.Written.{IsNumbered, IsUsable, spans_tokens, text_of_tokens, AreUsable as AreUsableSpans}
use Rattle.gtid_text.specs.declared.Gtid.{Gtid}
use Rattle.gtid_text.specs.declared.Span.{Span}
use Rattle.gtid_text.specs.declared.SourceId.{SourceId}
use Rattle.gtid_text.specs.Reading.{answer, spans_in}
use Rattle.gtid_text.proofs.Spelled.{spells_read}
use Rattle.gtid_text.proofs.Found.{read_spells}
use Rattle.gtid_text.proofs.Shown.{spans_shown, joined_spans, spaced_joined}
use Rattle.gtid_set.specs.declared.fault.SetFault.TheVariants.{PoolFull, SourcesFull}
use Rattle.gtid_set.specs.declared.fault.SetTextFault.{SetTextFault}
use Rattle.gtid_set.specs.declared.fault.SetTextFault.TheVariants.{Set}
use Rattle.gtid_set.specs.Sets.{Gtids, gtid, source_count, most_sources}
use Rattle.gtid_set.specs.Spans.{set_of, has, is_merged}
use Rattle.gtid_set.specs.Sweep.{within}
use Rattle.gtid_set.specs.Runs.{runs, canonical}
use Rattle.gtid_set.specs.Full.{interval_count, most_intervals, HasManySources, HasManyIntervals}
use Rattle.gtid_set.specs.Texts.{ParsesAsSet, check_size, set_from, set_in}
use Rattle.gtid_set.specs.Laws.{AreUsable, HaveSources, HaveNumbers}
use Rattle.gtid_set.proofs.SetLemmas.{contains-set_of}
use Rattle.gtid_set.proofs.SpanLemmas.{merged_head}
use Rattle.gtid_set.proofs.RunLemmas.{runs_are_merged, set_of_runs}
use Rattle.gtid_set.proofs.TextLemmas.{ReadSpans, same_read, given_set, given_full, given_crowded}
use Rattle.std.proofs.lemmas.Bool.{or_left, or_right}

-- a filled span has its first number and its last
pub has_low : (s : Span) → s.lo ≤ s.hi → within s (gtid s.source s.lo) ≡ true
has_low s f = grind (arith, nat_tests)

pub has_high : (s : Span) → s.lo ≤ s.hi → within s (gtid s.source s.hi) ≡ true
has_high s f = grind (arith, nat_tests)

-- the spans of usable GTIDs are usable
usable_spans : (ss : List Span) → is_merged ss ≡ true → ((q : Gtid) → has ss q ≡ true → IsUsable q) → AreUsableSpans ss
usable_spans [] m u = tt
usable_spans (s ∷ ss) m u =
    let h = merged_head s ss m in
    let low = u (gtid s.source s.lo) (or_left (within s (gtid s.source s.lo)) (has ss (gtid s.source s.lo)) (has_low s h.filled)) in
    let high = u (gtid s.source s.hi) (or_left (within s (gtid s.source s.hi)) (has ss (gtid s.source s.hi)) (has_high s h.filled)) in (
      record { source = low.source; low = low.number; high = high.number; ordered = h.filled },
      usable_spans ss h.tail (λ q e. u q (or_right (within s q) (has ss q) e)),
    )

pub canonical_spells : (s : Gtids) → AreUsable s → ParsesAsSet (canonical s) s
canonical_spells s u =
    let P : List ℕ → Type 0 = λ text. ParsesAs text (runs s) in
    let usable = usable_spans (runs s) (runs_are_merged s) (λ q e. u q (sym (ap (λ t. set.contains t q) (set_of_runs s)) ∙ contains-set_of (runs s) q ∙ e)) in
    (runs s, subst P (joined_spans (runs s)) (spans_shown (runs s) usable (text_of_tokens (spans_tokens (runs s))) (spaced_joined (spans_tokens (runs s)))), set_of_runs s)

pub spells_one : (text : List ℕ) (s t : Gtids) → ParsesAsSet text s → ParsesAsSet text t → s ≡ t
spells_one text s t h k = sym h.2 ∙ ap set_of (same_read h.0 k.0 (sym (spells_read text h.0 h.1) ∙ spells_read text k.0 k.1)) ∙ k.2

pub canonical_tells : (s t : Gtids) → AreUsable s → AreUsable t → canonical s ≡ canonical t → s ≡ t
canonical_tells s t u v e =
    let P : List ℕ → Type 0 = λ text. ParsesAsSet text t in
    spells_one (canonical s) s t (canonical_spells s u) (subst P (sym e) (canonical_spells t v))

-- ---- what a text parses as has numbers that transactions may have

numbered_by : (v value : ℕ) (b : Bool) → (nat_le 1 v && nat_le v 9223372036854775807) ≡ b → cond b (Some v) None ≡ Some value → IsNumbered value
numbered_by v value true e h =
    let same : v ≡ value = cc in
    let low : 1 ≤ v = grind (arith, nat_tests) in
    let high : v ≤ 9223372036854775807 = grind (arith, nat_tests) in
    subst IsNumbered same (low, high)
numbered_by v value false e h = absurd cc

pub numbered : (digits : List ℕ) (value : ℕ) → number_of digits ≡ Some value → IsNumbered value
numbered digits value h = numbered_by (digits_value 10 digits) value (nat_le 1 (digits_value 10 digits) && nat_le (digits_value 10 digits) 9223372036854775807) refl h

abbrev pub AreNumbered : List Span → Type 0
AreNumbered [] = Unit {0}
AreNumbered (s ∷ ss) = IsNumbered s.lo × IsNumbered s.hi × AreNumbered ss

upper_numbered : (u : Option (List ℕ × Number)) (s : Span) → IsNumbered s.lo → IsUpper u s → IsNumbered s.hi
upper_numbered None s low h = subst IsNumbered (sym h) low
upper_numbered (Some u) s low h = numbered u.1.digits s.hi h.1.parses

intervals_numbered : (id : SourceId) (ps : List (List ℕ × Interval)) (ss : List Span) → AreIntervals id ps ss → AreNumbered ss
intervals_numbered id [] [] h = tt
intervals_numbered id [] (s ∷ ss) h = absurd h
intervals_numbered id (p ∷ ps) [] h = tt
intervals_numbered id (p ∷ ps) (s ∷ ss) h =
    let low = numbered p.1.lo.digits s.lo h.1.lo.parses in
    (low, upper_numbered p.1.upper s low h.1.upper, intervals_numbered id ps ss h.2)

joined_numbered : (xs ys : List Span) → AreNumbered xs → AreNumbered ys → AreNumbered (xs ++ ys)
joined_numbered [] ys h k = k
joined_numbered (x ∷ xs) ys h k = (h.0, h.1, joined_numbered xs ys h.2 k)

element_numbered : (e : Element) (ss : List Span) → IsElement e ss → AreNumbered ss
element_numbered (None, gap) ss h = subst AreNumbered (sym h.1) tt
element_numbered (Some n, gap) ss h = intervals_numbered h.1.id (n.first ∷ n.more) ss h.1.intervals

elements_numbered : (es : List Element) (ss : List Span) → AreElements es ss → AreNumbered ss
elements_numbered [] ss h = subst AreNumbered (sym h) tt
elements_numbered (e ∷ es) ss h = subst AreNumbered (sym h.2) (joined_numbered h.0 h.1 (element_numbered e h.0 h.3) (elements_numbered es h.1 h.4))

between : (s : Span) (q : Gtid) → IsNumbered s.lo → IsNumbered s.hi → within s q ≡ true → IsNumbered q.number
between s q low high e = (above low.0, below high.1)
  where
    above : 1 ≤ s.lo → 1 ≤ q.number
    above a = grind (arith, nat_tests)

    below : s.hi ≤ 9223372036854775807 → q.number ≤ 9223372036854775807
    below a = grind (arith, nat_tests)

pub member_numbered : (ss : List Span) (q : Gtid) → AreNumbered ss → has ss q ≡ true → IsNumbered q.number
member_numbered [] q n e = absurd cc
member_numbered (s ∷ ss) q n e = split (within s q) refl (member_numbered ss q n.2)
  where
    split : (b : Bool) → within s q ≡ b → (has ss q ≡ true → IsNumbered q.number) → IsNumbered q.number
    split true w later = between s q n.0 n.1 w
    split false w later = later (sym (ap (λ b. b || has ss q) w) ∙ e)

pub spelled_in_range : (text : List ℕ) (s : Gtids) → ParsesAsSet text s → HaveNumbers s
spelled_in_range text s h g e =
    member_numbered h.0 g (elements_numbered h.1.elements h.0 h.1.says) (sym (contains-set_of h.0 g) ∙ ap (λ t. set.contains t g) h.2 ∙ e)

pub spelled_again : (text : List ℕ) (s : Gtids) → HaveSources s → ParsesAsSet text s → ParsesAsSet (canonical s) s
spelled_again text s sources h =
    canonical_spells s (λ g e. record { source = sources g e; number = spelled_in_range text s h g e })

-- ---- the answer to a text

abbrev pub as_set : Gtids → Result Gtids SetTextFault
as_set s = Ok s

abbrev pub Fits : Gtids → Type 0
Fits s = (source_count s ≤ most_sources) × (interval_count s ≤ most_intervals)

sized_fits : (t s : Gtids) → check_size t ≡ as_set s → (t ≡ s) × Fits s
sized_fits t s h = by_sources (nat_lt most_sources (source_count t)) refl h
  where
    small : (most n : ℕ) → nat_lt most n ≡ false → n ≤ most
    small most n e = grind (arith, nat_tests)

    by_intervals : (b : Bool) → nat_lt most_intervals (interval_count t) ≡ b → source_count t ≤ most_sources → cond b (Err (Set PoolFull)) (as_set t) ≡ as_set s → (t ≡ s) × Fits s
    by_intervals true e few h = absurd cc
    by_intervals false e few h =
        let same : t ≡ s = cc in
        (same, subst Fits same (few, small most_intervals (interval_count t) e))

    by_sources : (b : Bool) → nat_lt most_sources (source_count t) ≡ b → cond b (Err (Set SourcesFull)) (cond (nat_lt most_intervals (interval_count t)) (Err (Set PoolFull)) (as_set t)) ≡ as_set s → (t ≡ s) × Fits s
    by_sources true e h = absurd cc
    by_sources false e h = by_intervals (nat_lt most_intervals (interval_count t)) refl (small most_sources (source_count t) e) h

answered_by : (text : List ℕ) (s : Gtids) (r : ReadSpans) → spans_in text ≡ r → set_from (answer (length text) r) ≡ as_set s → ParsesAsSet text s × Fits s
answered_by text s (Ok spans) e h =
    let made = sized_fits (set_of spans) s h in
    ((spans, read_spells text spans e, made.0), made.1)
answered_by text s (Err f) e h = absurd cc

pub answers_spelled : (text : List ℕ) (s : Gtids) → set_in text ≡ as_set s → ParsesAsSet text s × Fits s
unfolding set_in
answers_spelled text s e = answered_by text s (spans_in text) refl e

pub spelled_answered : (text : List ℕ) (s : Gtids) → ParsesAsSet text s → source_count s ≤ most_sources → interval_count s ≤ most_intervals → set_in text ≡ as_set s
spelled_answered text s h few small = given_set text h.0 s (spells_read text h.0 h.1) few small h.2

pub spelled_full : (text : List ℕ) (s : Gtids) → ParsesAsSet text s → HasManySources s → set_in text ≡ Err (Set SourcesFull)
spelled_full text s h over = given_full text h.0 (spells_read text h.0 h.1) (subst HasManySources (sym h.2) over)

pub spelled_crowded : (text : List ℕ) (s : Gtids) → ParsesAsSet text s → source_count s ≤ most_sources → HasManyIntervals s → set_in text ≡ Err (Set PoolFull)
spelled_crowded text s h few over = given_crowded text h.0 (spells_read text h.0 h.1) (subst (λ t. source_count t ≤ most_sources) (sym h.2) few) (subst HasManyIntervals (sym h.2) over)
