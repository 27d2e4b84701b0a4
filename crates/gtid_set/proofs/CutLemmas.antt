-- One pass over two merged lists: the parts of a span outside and inside others, and what a pass keeps.
use Rattle.std.proofs.Common.{[], ◌≡◌, ◌≤◌, ◌<◌, ◌+◌, ℕ, Bool, true, false, not, ◌&&◌, ◌||◌, nat_le, nat_lt, List, ◌∷◌, ◌++◌, refl, sym, ap, ◌∙◌, arith, max}
use Rattle.std.specs.Prelude.{if◌then◌else◌}
use Rattle.std.specs.List.{list_all}
use Rattle.std.proofs.lemmas.Bool.Decides.{nat_tests}
use Rattle.gtid_text.specs.declared.Gtid.{Gtid}
use Rattle.gtid_text.specs.declared.Span.{Span}
use Rattle.gtid_set.specs.Sets.{gtid}
use Rattle.gtid_set.specs.Spans.{is_before, ends_before, is_merged, has}
use Rattle.gtid_set.specs.Sweep.{is_kept, AddsFront, front_of, common_of, all_before_common, is_inside, Meets, all_before, all_reach, is_met, IsWithin, IsNotWithin, start_of, within, is_from}
use Rattle.gtid_set.proofs.SpanLemmas.{all_weaker, all_weaker2, all_push, IsHead, merged_head, merged_filled, merged_push, has_push, has_later, from_other}
use Rattle.std.proofs.lemmas.Bool.{and_parts, or_right}

-- a span put before a hole
pub adds_front : (old new : List Span) (t hole : Span) → new ≡ old ++ front_of t hole ∷ [] → is_merged old ≡ true → all_before old t ≡ true → is_met hole t ≡ true → t.lo < hole.lo → AddsFront old t hole new
adds_front old new t hole e m b met lt = record {
  merged = ap is_merged e ∙ merged_push old (front_of t hole) m b (omega arith);
  later = λ u f a. ap (λ ss. all_before ss u) e ∙ all_push (λ s. is_before s u) old (front_of t hole) a (f lt);
  has = λ q. ap (λ ss. has ss q) e ∙ has_push old (front_of t hole) q ∙ ap (λ b. has old q || b) (front q met lt);
}
  where
    front : (q : Gtid) → is_met hole t ≡ true → t.lo < hole.lo → within (front_of t hole) q ≡ (within t q && nat_lt q.number hole.lo)
    front q met lt = grind (arith, nat_tests)

-- what later spans have is from the end of an earlier one on
pub later_from : (s : Span) (ss : List Span) (q : Gtid) → list_all (is_before s) ss ≡ true → has ss q ≡ true → is_from (gtid s.source (s.hi + 1)) q ≡ true
later_from s ss q all h = cases (is_from (gtid s.source (s.hi + 1)) q) refl
  where
    cases : (b : Bool) → is_from (gtid s.source (s.hi + 1)) q ≡ b → is_from (gtid s.source (s.hi + 1)) q ≡ true
    cases true e = e
    cases false e = let none = has_later s ss q all (from_other (gtid s.source (s.hi + 1)) q e) in absurd cc

-- what of a span is behind a hole
abbrev pub behind : Span → Span → Span
behind t hole = record { source = t.source; lo = hole.hi + 1; hi = t.hi }

cut_on : (o m : Bool) (t hole : Span) (q : Gtid) → is_met hole t ≡ true → not (ends_before (start_of t) hole) ≡ true → hole.lo ≤ hole.hi → hole.hi < t.hi → (m ≡ true → is_from (gtid hole.source (hole.hi + 1)) q ≡ true)
    → ((o || (within t q && nat_lt q.number hole.lo)) || (within (behind t hole) q && not m)) ≡ (o || (within t q && not (within hole q || m)))
cut_on true m t hole q a b c d e = refl
cut_on false true t hole q a b c d e = let f = e refl in grind (arith, nat_tests)
cut_on false false t hole q a b c d e = grind (arith, nat_tests)

cut_off : (o m : Bool) (t hole : Span) (q : Gtid) → is_met hole t ≡ true → not (ends_before (start_of t) hole) ≡ true → hole.lo ≤ hole.hi → t.hi ≤ hole.hi → (m ≡ true → is_from (gtid hole.source (hole.hi + 1)) q ≡ true)
    → (o || (within t q && nat_lt q.number hole.lo)) ≡ (o || (within t q && not (within hole q || m)))
cut_off true m t hole q a b c d e = refl
cut_off false true t hole q a b c d e = let f = e refl in grind (arith, nat_tests)
cut_off false false t hole q a b c d e = grind (arith, nat_tests)

-- what is in the way of a cut: the list is merged, its first span is met, and is not before the span
pub record IsHole (rest : List Span) (t hole : Span) (more : List Span) : Type 0 where
  pub parts : rest ≡ hole ∷ more
  pub met : is_met hole t ≡ true
  pub reached : not (ends_before (start_of t) hole) ≡ true
  pub head : IsHead hole more
  pub reach : all_reach t more ≡ true

pub hole_of : (rest : List Span) (t hole : Span) (more : List Span) → Meets rest t hole more → is_merged rest ≡ true → all_reach t rest ≡ true → IsHole rest t hole more
hole_of rest t hole more meets m r =
    let v = and_parts (not (ends_before (start_of t) hole)) (all_reach t more) (sym (ap (all_reach t) meets.parts) ∙ r) in
    record { parts = meets.parts; met = meets.met; reached = v.0; head = merged_head hole more (sym (ap is_merged meets.parts) ∙ m); reach = v.1 }

-- the step of a cut
pub cut_step : (old new rest : List Span) (t hole : Span) (more : List Span) (q : Gtid) → IsHole rest t hole more → AddsFront old t hole new → hole.hi < t.hi
    → (has new q || (within (behind t hole) q && not (has more q))) ≡ (has old q || (within t q && not (has rest q)))
cut_step old new rest t hole more q h adds lt =
    ap (λ b. b || (within (behind t hole) q && not (has more q))) (adds.has q)
    ∙ cut_on (has old q) (has more q) t hole q h.met h.reached h.head.filled lt (later_from hole more q h.head.after)
    ∙ ap (λ ss. has old q || (within t q && not (has ss q))) (sym h.parts)

-- its end at a hole that goes past the span
pub cut_end : (old new rest : List Span) (t hole : Span) (more : List Span) (q : Gtid) → IsHole rest t hole more → AddsFront old t hole new → t.hi ≤ hole.hi
    → has new q ≡ (has old q || (within t q && not (has rest q)))
cut_end old new rest t hole more q h adds le =
    adds.has q
    ∙ cut_off (has old q) (has more q) t hole q h.met h.reached h.head.filled le (later_from hole more q h.head.after)
    ∙ ap (λ ss. has old q || (within t q && not (has ss q))) (sym h.parts)

-- what is behind a hole: the later spans reach it, and what was before the span is before it
pub behind_reach : (rest : List Span) (t hole : Span) (more : List Span) → IsHole rest t hole more → all_reach (behind t hole) more ≡ true
behind_reach rest t hole more h =
    all_weaker2 (λ s. nat_le s.lo s.hi) (is_before hole) (λ s. not (ends_before (start_of (behind t hole)) s)) more (λ s f b. reaches s f b h.met) (merged_filled more h.head.tail) h.head.after
  where
    reaches : (s : Span) → nat_le s.lo s.hi ≡ true → is_before hole s ≡ true → is_met hole t ≡ true → not (ends_before (start_of (behind t hole)) s) ≡ true
    reaches s f b e = grind (arith, nat_tests)

pub behind_before : (old new rest : List Span) (t hole : Span) (more : List Span) → IsHole rest t hole more → AddsFront old t hole new → all_before old t ≡ true → all_before new (behind t hole) ≡ true
behind_before old new rest t hole more h adds b =
    let f = h.head.filled in
    adds.later (behind t hole) (λ lt. apart lt f) (all_weaker (λ s. is_before s t) (λ s. is_before s (behind t hole)) old (λ s k. after s k h.reached h.met f) b)
  where
    apart : t.lo < hole.lo → hole.lo ≤ hole.hi → is_before (front_of t hole) (behind t hole) ≡ true
    apart lt f = grind (arith, nat_tests)

    after : (s : Span) → is_before s t ≡ true → not (ends_before (start_of t) hole) ≡ true → is_met hole t ≡ true → hole.lo ≤ hole.hi → is_before s (behind t hole) ≡ true
    after s k r e f = grind (arith, nat_tests)

-- what is after the whole span is after its front
pub front_before : (x t hole u : Span) → t.source ≡ x.source → t.hi ≡ x.hi → is_met hole t ≡ true → t.lo < hole.lo → is_before x u ≡ true → is_before (front_of t hole) u ≡ true
front_before x t hole u s e met lt b = grind (arith, nat_tests)

-- the rest of a span, where nothing is in the way
pub cut_rest : (old new rest : List Span) (t : Span) (q : Gtid) → new ≡ old ++ t ∷ [] → ((q : Gtid) → within t q ≡ true → has rest q ≡ false) → has new q ≡ (has old q || (within t q && not (has rest q)))
cut_rest old new rest t q e none = ap (λ ss. has ss q) e ∙ has_push old t q ∙ ap (λ b. has old q || b) (whole (within t q) (has rest q) (none q))
  where
    whole : (w m : Bool) → (w ≡ true → m ≡ false) → w ≡ (w && not m)
    whole true m h = ap not (sym (h refl))
    whole false m h = refl

pub full_before : (x t u : Span) → t.source ≡ x.source → t.hi ≡ x.hi → is_before x u ≡ true → is_before t u ≡ true
full_before x t u s e b = grind (arith, nat_tests)

-- what a span and the later ones have is from its start on
pub within_from : (t : Span) (q : Gtid) → within t q ≡ true → is_from (start_of t) q ≡ true
within_from t q w = grind (arith, nat_tests)

pub more_from : (t : Span) (more : List Span) (q : Gtid) → IsHead t more → has more q ≡ true → is_from (start_of t) q ≡ true
more_from t more q h m = start (later_from t more q h.after m) h.filled
  where
    start : is_from (gtid t.source (t.hi + 1)) q ≡ true → t.lo ≤ t.hi → is_from (start_of t) q ≡ true
    start a b = grind (arith, nat_tests)

-- what is before each of two lists' spans is before what is after the first
pub before_later : (old new : List Span) (t : Span) (more : List Span) → ((u : Span) → is_before t u ≡ true → all_before old u ≡ true → all_before new u ≡ true)
    → list_all (is_before t) more ≡ true → list_all (all_before old) (t ∷ more) ≡ true → list_all (all_before new) more ≡ true
before_later old new t more later after all = all_weaker2 (is_before t) (all_before old) (all_before new) more later after (and_parts (all_before old t) (list_all (all_before old) more) all).1

-- one turn of a pass: what the test keeps of the first span goes to the result
pub kept_less : (o o' w m r r' g : Bool) → o' ≡ (o || (w && not r')) → (w ≡ true → r' ≡ r) → (m ≡ true → r' ≡ r) → (o || ((w || m) && not r)) ≡ g → (o' || (m && not r')) ≡ g
kept_less o o' true true r r' g e a b h = let k = a refl in ap (λ x. x || not r') e ∙ twice o (not r') ∙ ap (λ x. o || not x) k ∙ h
  where
    twice : (a b : Bool) → ((a || b) || b) ≡ (a || b)
    twice true b = refl
    twice false true = refl
    twice false false = refl
kept_less o o' true false r r' g e a b h = ap (λ x. x || false) e ∙ or-none (o || not r') ∙ ap (λ x. o || not x) (a refl) ∙ h
  where
    or-none : (a : Bool) → (a || false) ≡ a
    or-none true = refl
    or-none false = refl
kept_less o o' false true r r' g e a b h = ap (λ x. x || not r') e ∙ ap (λ x. x || not r') (or-none o) ∙ ap (λ x. o || not x) (b refl) ∙ h
  where
    or-none : (a : Bool) → (a || false) ≡ a
    or-none true = refl
    or-none false = refl
kept_less o o' false false r r' g e a b h = ap (λ x. x || false) e ∙ ap (λ x. x || false) (or-none o) ∙ h
  where
    or-none : (a : Bool) → (a || false) ≡ a
    or-none true = refl
    or-none false = refl

pub kept_more : (o o' w m r r' g : Bool) → o' ≡ (o || (w && r')) → (w ≡ true → r' ≡ r) → (m ≡ true → r' ≡ r) → (o || ((w || m) && r)) ≡ g → (o' || (m && r')) ≡ g
kept_more o o' w m r r' g e a b h =
    ap (λ x. o' || (m && x)) (sym (twice-not r')) ∙ kept_less o o' w m (not r) (not r') g (e ∙ ap (λ x. o || (w && x)) (sym (twice-not r'))) (λ k. ap not (a k)) (λ k. ap not (b k)) (ap (λ x. o || ((w || m) && x)) (twice-not r) ∙ h)
  where
    twice-not : (a : Bool) → not (not a) ≡ a
    twice-not true = refl
    twice-not false = refl

-- a span inside the first of a list, and one that is not
pub covered : (spans : List Span) (t first : Span) (more : List Span) → spans ≡ first ∷ more → is_inside t first ≡ true → IsWithin (within t) (has spans)
covered spans t first more e i q w = ap (λ ss. has ss q) e ∙ ap (λ b. b || has more q) (inside q i w)
  where
    inside : (q : Gtid) → is_inside t first ≡ true → within t q ≡ true → within first q ≡ true
    inside q i w = grind (arith, nat_tests)

pub start_within : (t : Span) → t.lo ≤ t.hi → within t (start_of t) ≡ true
start_within t f = grind (arith, nat_tests)

pub uncovered : (spans : List Span) (t first : Span) (more : List Span) → spans ≡ first ∷ more → t.lo ≤ t.hi → is_merged spans ≡ true → all_reach t spans ≡ true → is_inside t first ≡ false → IsNotWithin (within t) (has spans)
uncovered spans t first more e f m r i = cases (within first (start_of t)) refl
  where
    head : IsHead first more
    head = merged_head first more (sym (ap is_merged e) ∙ m)

    reached : not (ends_before (start_of t) first) ≡ true
    reached = (and_parts (not (ends_before (start_of t) first)) (all_reach t more) (sym (ap (all_reach t) e) ∙ r)).0

    next : Gtid
    next = gtid t.source (first.hi + 1)

    next_within : t.lo ≤ t.hi → is_inside t first ≡ false → within first (start_of t) ≡ true → within t (gtid t.source (first.hi + 1)) ≡ true
    next_within f i w = grind (arith, nat_tests)

    next_past : (n : ℕ) (w : within first (start_of t) ≡ true) → n ≡ first.hi + 1 → within first (gtid t.source n) ≡ false
    next_past n w e = grind (arith, nat_tests)

    next_from : within first (start_of t) ≡ true → is_from (gtid t.source (first.hi + 1)) (gtid first.source (first.hi + 1)) ≡ true
    next_from w = grind (arith, nat_tests)

    start_from : not (ends_before (start_of t) first) ≡ true → is_from (start_of t) (gtid first.source (first.hi + 1)) ≡ true
    start_from a = grind (arith, nat_tests)

    cases : (b : Bool) → within first (start_of t) ≡ b → IsNotWithin (within t) (has spans)
    cases true w = (
      gtid t.source (first.hi + 1),
      next_within f i w,
      ap (λ ss. has ss (gtid t.source (first.hi + 1))) e ∙ ap (λ b. b || has more (gtid t.source (first.hi + 1))) (next_past (first.hi + 1) w refl) ∙ has_later first more (gtid t.source (first.hi + 1)) head.after (next_from w),
    )
    cases false w = (
      start_of t,
      start_within t f,
      ap (λ ss. has ss (start_of t)) e ∙ ap (λ b. b || has more (start_of t)) w ∙ has_later first more (start_of t) head.after (start_from reached),
    )

pub all_before_head : (out left : List Span) (t : Span) (more : List Span) → left ≡ t ∷ more → list_all (all_before out) left ≡ true → all_before out t ≡ true
all_before_head out left t more e b = (and_parts (all_before out t) (list_all (all_before out) more) (sym (ap (list_all (all_before out)) e) ∙ b)).0

-- what a list has: its first span, or the later ones
pub has_first : (left : List Span) (t : Span) (more : List Span) (q : Gtid) → left ≡ t ∷ more → within t q ≡ true → has left q ≡ true
has_first left t more q e w = ap (λ ss. has ss q) e ∙ ap (λ b. b || has more q) w

pub has_more : (left : List Span) (t : Span) (more : List Span) (q : Gtid) → left ≡ t ∷ more → has more q ≡ true → has left q ≡ true
has_more left t more q e m = ap (λ ss. has ss q) e ∙ or_right (within t q) (has more q) m

-- what is left to look at, once the first span has passed
pub looked : (left : List Span) (t : Span) (more : List Span) (q : Gtid) (P : Type 0) → left ≡ t ∷ more → has more q ≡ false → (within t q ≡ true → P) → (has left q ≡ false → P) → P
looked left t more q P e m first none = cases (within t q) refl
  where
    cases : (b : Bool) → within t q ≡ b → P
    cases true w = first w
    cases false w = none (ap (λ ss. has ss q) e ∙ ap (λ b. b || has more q) w ∙ m)

-- a GTID that two spans have in common, where one meets the other
pub common_gtid : (t s : Span) → t.lo ≤ t.hi → s.lo ≤ s.hi → is_met s t ≡ true → not (ends_before (start_of t) s) ≡ true → (within t (gtid t.source (max t.lo s.lo)) ≡ true) × (within s (gtid t.source (max t.lo s.lo)) ≡ true)
common_gtid t s f g m r = (grind (arith, nat_tests), grind (arith, nat_tests))

-- the common parts of a span with others
pub common_start : (out : List Span) (t : Span) (others : List Span) → all_before out t ≡ true → all_reach t others ≡ true → all_before_common out t others ≡ true
common_start out t others b r =
    all_weaker (λ s. not (ends_before (start_of t) s)) (λ s. all_before out (common_of t s)) others
    (λ s k. all_weaker (λ u. is_before u t) (λ u. is_before u (common_of t s)) out (λ u h. later s u k h) b) r
  where
    later : (s u : Span) → not (ends_before (start_of t) s) ≡ true → is_before u t ≡ true → is_before u (common_of t s) ≡ true
    later s u k h = grind (arith, nat_tests)

overlap_on : (o w c v m : Bool) → c ≡ (w && v) → ((o || c) || (w && m)) ≡ (o || (w && (v || m)))
overlap_on true w c v m e = refl
overlap_on false true c true m e = ap (λ x. x || m) e
overlap_on false true c false m e = ap (λ x. x || m) e
overlap_on false false c v m e = ap (λ x. x || false) e

-- the step of an overlap
pub overlap_step : (old new rest : List Span) (t other : Span) (more : List Span) (q : Gtid) → IsHole rest t other more → new ≡ old ++ common_of t other ∷ []
    → (has new q || (within t q && has more q)) ≡ (has old q || (within t q && has rest q))
overlap_step old new rest t other more q h e =
    ap (λ b. b || (within t q && has more q)) (ap (λ ss. has ss q) e ∙ has_push old (common_of t other) q)
    ∙ overlap_on (has old q) (within t q) (within (common_of t other) q) (within other q) (has more q) (both_in h.met)
    ∙ ap (λ ss. has old q || (within t q && has ss q)) (sym h.parts)
  where
    both_in : is_met other t ≡ true → within (common_of t other) q ≡ (within t q && within other q)
    both_in m = grind (arith, nat_tests)

-- a common part is filled, before the next ones, and before what is after the span
pub common_filled : (rest : List Span) (t other : Span) (more : List Span) → t.lo ≤ t.hi → IsHole rest t other more → (common_of t other).lo ≤ (common_of t other).hi
common_filled rest t other more f h = filled f h.head.filled h.met h.reached
  where
    filled : t.lo ≤ t.hi → other.lo ≤ other.hi → is_met other t ≡ true → not (ends_before (start_of t) other) ≡ true → (common_of t other).lo ≤ (common_of t other).hi
    filled a b c d = grind (arith, nat_tests)

pub common_next : (old new rest : List Span) (t other : Span) (more : List Span) → IsHole rest t other more → new ≡ old ++ common_of t other ∷ [] → all_before_common old t rest ≡ true → all_before_common new t more ≡ true
common_next old new rest t other more h e b =
    all_weaker2 (is_before other) (λ s. all_before old (common_of t s)) (λ s. all_before new (common_of t s)) more
    (λ s k a. ap (λ ss. all_before ss (common_of t s)) e ∙ all_push (λ u. is_before u (common_of t s)) old (common_of t other) a (apart s k h.met))
    h.head.after (and_parts (all_before old (common_of t other)) (all_before_common old t more) (sym (ap (all_before_common old t) h.parts) ∙ b)).1
  where
    apart : (s : Span) → is_before other s ≡ true → is_met other t ≡ true → is_before (common_of t other) (common_of t s) ≡ true
    apart s k m = grind (arith, nat_tests)

pub common_first : (old rest : List Span) (t other : Span) (more : List Span) → rest ≡ other ∷ more → all_before_common old t rest ≡ true → all_before old (common_of t other) ≡ true
common_first old rest t other more e b = (and_parts (all_before old (common_of t other)) (all_before_common old t more) (sym (ap (all_before_common old t) e) ∙ b)).0

pub common_before : (t other u : Span) → is_met other t ≡ true → is_before t u ≡ true → is_before (common_of t other) u ≡ true
common_before t other u m b = grind (arith, nat_tests)

pub overlap_end : (o w m g : Bool) → (w ≡ true → m ≡ false) → (o || (w && m)) ≡ g → o ≡ g
overlap_end true w m g h e = e
overlap_end false true m g h e = sym (h refl) ∙ e
overlap_end false false m g h e = e

-- a span of a merged list that goes to the result, or not
pub record IsKeptStep (old new : List Span) (source : ℕ) (wanted : Bool) (span : Span) (more : List Span) : Type 0 where
  pub merged : is_merged new ≡ true
  pub before : list_all (all_before new) more ≡ true
  pub has : (q : Gtid) → (has new q || (has more q && is_kept source wanted q.source)) ≡ (has old q || (has (span ∷ more) q && is_kept source wanted q.source))

-- the numbers of a span have its source
within_source : (span : Span) (source : ℕ) (wanted : Bool) (q : Gtid) → within span q ≡ true → is_kept source wanted q.source ≡ is_kept source wanted span.source
within_source span source wanted q w = ap (is_kept source wanted) (same w)
  where
    same : within span q ≡ true → q.source ≡ span.source
    same w = grind (arith, nat_tests)

kept_has : (o w m t : Bool) → (w ≡ true → t ≡ true) → ((o || w) || (m && t)) ≡ (o || ((w || m) && t))
kept_has true w m t h = refl
kept_has false true m t h = sym (h refl)
kept_has false false m t h = refl

left_has : (o w m t : Bool) → (w ≡ true → t ≡ false) → (o || (m && t)) ≡ (o || ((w || m) && t))
left_has true w m t h = refl
left_has false true true t h = refl
left_has false true false t h = sym (h refl)
left_has false false m t h = refl

pub kept_step : (old new : List Span) (source : ℕ) (wanted : Bool) (span : Span) (more : List Span) (keep : Bool) → IsHead span more → list_all (all_before old) (span ∷ more) ≡ true → is_merged old ≡ true
    → new ≡ (if keep then old ++ span ∷ [] else old) → keep ≡ is_kept source wanted span.source → IsKeptStep old new source wanted span more
kept_step old new source wanted span more true h b m e k =
    let w = and_parts (all_before old span) (list_all (all_before old) more) b in
    record {
      merged = ap is_merged e ∙ merged_push old span m w.0 h.filled;
      before = ap (λ ss. list_all (all_before ss) more) e
          ∙ all_weaker2 (is_before span) (all_before old) (all_before (old ++ span ∷ [])) more (λ u c d. all_push (λ s. is_before s u) old span d c) h.after w.1;
      has = λ q. ap (λ ss. has ss q || (has more q && is_kept source wanted q.source)) e
          ∙ ap (λ x. x || (has more q && is_kept source wanted q.source)) (has_push old span q)
          ∙ kept_has (has old q) (within span q) (has more q) (is_kept source wanted q.source) (λ v. within_source span source wanted q v ∙ sym k);
    }
kept_step old new source wanted span more false h b m e k = record {
  merged = ap is_merged e ∙ m;
  before = ap (λ ss. list_all (all_before ss) more) e ∙ (and_parts (all_before old span) (list_all (all_before old) more) b).1;
  has = λ q. ap (λ ss. has ss q || (has more q && is_kept source wanted q.source)) e
      ∙ left_has (has old q) (within span q) (has more q) (is_kept source wanted q.source) (λ v. within_source span source wanted q v ∙ sym k);
}
