-- Sets whose numbers are in range, and whose sources have 128 bits.
use Rattle.std.proofs.Common.{◌≡◌, ◌≤◌, Bool, true, false, ◌||◌, nat_le, List, [], ◌∷◌, refl, sym, ap, subst, ◌∙◌, arith}
use Rattle.std.specs.Prelude.{◌↔◌, IsTrue}
use Rattle.std.specs.FinSet as set
use Rattle.std.specs.List.{list_all, AllByRecursion}
use Rattle.std.proofs.lemmas.Bool.{and_parts, and_from, eqb-true, or_left, or_right}
use Rattle.std.proofs.lemmas.Bool.Decides.{nat_tests}
use Rattle.gtid_text.specs.Written.{IsSource, IsNumbered}
use Rattle.gtid_text.specs.declared.Gtid.{Gtid}
use Rattle.gtid_text.specs.declared.Span.{Span}
use Rattle.gtid_set.specs.Sets.{Gtids, gtid}
use Rattle.gtid_set.specs.Spans.{set_of, has, is_merged}
use Rattle.gtid_set.specs.Sweep.{within, is_in_range, HasSource}
use Rattle.gtid_set.specs.Laws.{HaveSources, HaveNumbers}
use Rattle.gtid_set.proofs.SetLemmas.{contains-set_of}
use Rattle.gtid_set.proofs.SpanLemmas.{merged_head}
use Rattle.gtid_set.proofs.RoundTrip.{AreNumbered, has_low, has_high, member_numbered}

-- what a set has, its spans have
among : (ss : List Span) (s : Gtids) (q : Gtid) → set_of ss ≡ s → set.contains s q ≡ has ss q
among ss s q is = sym (ap (λ t. set.contains t q) is) ∙ contains-set_of ss q

-- ---- numbers

span_numbered : (s : Span) → s.lo ≤ s.hi → is_in_range s ≡ true → IsNumbered s.lo × IsNumbered s.hi
span_numbered s filled e =
    let p = and_parts (nat_le 1 s.lo) (nat_le s.hi 9223372036854775807) e in
    ((some p.0, below p.1), (above p.0, most p.1))
  where
    some : nat_le 1 s.lo ≡ true → 1 ≤ s.lo
    some a = grind (arith, nat_tests)

    most : nat_le s.hi 9223372036854775807 ≡ true → s.hi ≤ 9223372036854775807
    most a = grind (arith, nat_tests)

    below : nat_le s.hi 9223372036854775807 ≡ true → s.lo ≤ 9223372036854775807
    below a = grind (arith, nat_tests)

    above : nat_le 1 s.lo ≡ true → 1 ≤ s.hi
    above a = grind (arith, nat_tests)

spans_numbered : (ss : List Span) → is_merged ss ≡ true → list_all is_in_range ss ≡ true → AreNumbered ss
spans_numbered [] m e = tt
spans_numbered (s ∷ ss) m e =
    let h = merged_head s ss m in
    let p = and_parts (is_in_range s) (list_all is_in_range ss) e in
    let both = span_numbered s h.filled p.0 in
    (both.0, both.1, spans_numbered ss h.tail p.1)

span_in_range : (s : Span) → IsNumbered s.lo → IsNumbered s.hi → is_in_range s ≡ true
span_in_range s low high = and_from (nat_le 1 s.lo) (nat_le s.hi 9223372036854775807) (some low.0) (most high.1)
  where
    some : 1 ≤ s.lo → nat_le 1 s.lo ≡ true
    some a = grind (arith, nat_tests)

    most : s.hi ≤ 9223372036854775807 → nat_le s.hi 9223372036854775807 ≡ true
    most a = grind (arith, nat_tests)

spans_in_range : (ss : List Span) → is_merged ss ≡ true → ((q : Gtid) → has ss q ≡ true → IsNumbered q.number) → list_all is_in_range ss ≡ true
spans_in_range [] m u = refl
spans_in_range (s ∷ ss) m u =
    let h = merged_head s ss m in
    let low = u (gtid s.source s.lo) (or_left (within s (gtid s.source s.lo)) (has ss (gtid s.source s.lo)) (has_low s h.filled)) in
    let high = u (gtid s.source s.hi) (or_left (within s (gtid s.source s.hi)) (has ss (gtid s.source s.hi)) (has_high s h.filled)) in
    and_from (is_in_range s) (list_all is_in_range ss) (span_in_range s low high) (spans_in_range ss h.tail (λ q e. u q (or_right (within s q) (has ss q) e)))

pub numbers_in_range : (ss : List Span) (s : Gtids) (b : Bool) → is_merged ss ≡ true → set_of ss ≡ s → b ≡ list_all is_in_range ss → IsTrue b ↔ HaveNumbers s
numbers_in_range ss s b m is tests = (
  λ t. λ g e. member_numbered ss g (spans_numbered ss m (sym tests ∙ t)) (sym (among ss s g is) ∙ e),
  λ u. tests ∙ spans_in_range ss m (λ q e. u q (among ss s q is ∙ e)),
)

-- ---- sources

span_source : (s : Span) (q : Gtid) → HasSource s → within s q ≡ true → IsSource q.source
span_source s q source e = subst IsSource (sym (eqb-true q.source s.source (and_parts _ _ e).0)) source

member_source : (ss : List Span) (q : Gtid) → AllByRecursion HasSource ss → has ss q ≡ true → IsSource q.source
member_source [] q fit e = absurd cc
member_source (s ∷ ss) q fit e = elim (within s q) as (λ v. within s q ≡ v → (v || has ss q) ≡ true → IsSource q.source) [
  | true ↦ λ is f. span_source s q fit.0 is
  | false ↦ λ is f. member_source ss q fit.1 f
] refl e

pub have_sources : (ss : List Span) (s : Gtids) → set_of ss ≡ s → AllByRecursion HasSource ss → HaveSources s
have_sources ss s is fit g e = member_source ss g fit (sym (among ss s g is) ∙ e)
