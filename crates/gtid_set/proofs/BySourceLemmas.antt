-- Sets gone over source by source.
use Rattle.std.proofs.Common.{◌≡◌, ◌≢◌, ◌≤◌, ℕ, true, nat_le, nat_lt, List, [], ◌∷◌, ◌++◌, length, map, refl, sym, ap, subst, ◌∙◌, arith}
use Rattle.std.specs.List.{list_all}
use Rattle.std.proofs.lemmas.Bool.{and_parts, and_from}
use Rattle.std.proofs.lemmas.Bool.Decides.{nat_tests}
use Rattle.interval_pool.specs.declared.interval.Interval.{Interval}
use Rattle.interval_pool.specs.Values.{PoolValue, is_list, spans}
use Rattle.gtid_text.specs.declared.Span.{Span}
use Rattle.gtid_set.specs.declared.sources.SourceList.{SourceList}
use Rattle.gtid_set.specs.Kept.{span_of, spans_as, spans_of, spans_in, source_at, sources_at, are_ascending, is_filled, flat}
use Rattle.gtid_set.specs.BySource.{are_from, are_above, AreLists, BeginsWith, IsFirstSource, TakesSource}
use Rattle.gtid_set.proofs.SpanLemmas.{all_weaker}
use Rattle.gtid_set.proofs.KeptLemmas.{all_of}

-- ---- the first source

from_less : (id : ℕ) (s : SourceList) → nat_lt id s.id ≡ true → nat_le id s.id ≡ true
from_less id s lt = grind (arith, nat_tests)

from_itself : (id : ℕ) → nat_le id id ≡ true
from_itself id = grind (arith, nat_tests)

begins_listed : (p : PoolValue) (s : SourceList) (more : List Span) → is_filled p s ≡ true → BeginsWith (spans_in p s ++ more) s.id
begins_listed p s more filled = some (spans p s.list) (and_parts (is_list p s.list) (nat_lt 0 (length (spans p s.list))) filled).1
  where
    some : (is : List Interval) → nat_lt 0 (length is) ≡ true → BeginsWith (map (span_of s.id) is ++ more) s.id
    some [] h = absurd cc
    some (i ∷ is) h = record { first = span_of s.id i; more = map (span_of s.id) is ++ more; parts = refl; source = refl }

first_listed : (p : PoolValue) (s : SourceList) (ss : List SourceList) → are_ascending (s ∷ ss) ≡ true → list_all (is_filled p) (s ∷ ss) ≡ true → IsFirstSource (spans_of p (s ∷ ss)) s.id
first_listed p s ss rising filled =
    let r = and_parts (list_all (λ t. nat_lt s.id t.id) ss) (are_ascending ss) rising in
    let f = and_parts (is_filled p s) (list_all (is_filled p) ss) filled in
    record {
      begins = begins_listed p s (spans_of p ss) f.0;
      from = all_of (λ n. nat_le s.id n) p (s ∷ ss) (and_from (nat_le s.id s.id) (list_all (λ t. nat_le s.id t.id) ss) (from_itself s.id) (all_weaker (λ t. nat_lt s.id t.id) (λ t. nat_le s.id t.id) ss (λ t lt. from_less s.id t lt) r.0));
    }

pub first_source : (p : PoolValue) (sources : List SourceList) (order : List ℕ) (at : ℕ) (behind : List ℕ) (ss : List Span) → order ≡ at ∷ behind → AreLists p sources order → flat p sources order ≡ ss → IsFirstSource ss (source_at sources at).id
first_source p sources order at behind ss e h view =
    let k = subst (AreLists p sources) e h in
    subst (λ xs. IsFirstSource xs (source_at sources at).id) (sym (ap (flat p sources) e) ∙ view)
    (first_listed p (source_at sources at) (sources_at sources behind) k.rising k.filled)

-- ---- a source is taken

-- it is not the first one
pub takes_none : (p : PoolValue) (sources : List SourceList) (order : List ℕ) (at : ℕ) (behind : List ℕ) (ss : List Span) (id : ℕ) (none : List Interval) → order ≡ at ∷ behind → AreLists p sources order → flat p sources order ≡ ss
    → are_from id ss ≡ true → (source_at sources at).id ≢ id → none ≡ [] → TakesSource ss id none ss
takes_none p sources order at behind ss id none e h view from other empty =
    let k = subst (AreLists p sources) e h in
    let s = source_at sources at in
    let whole : flat p sources (at ∷ behind) ≡ ss = sym (ap (flat p sources) e) ∙ view in
    let f = and_parts (is_filled p s) (list_all (is_filled p) (sources_at sources behind)) k.filled in
    let r = and_parts (list_all (λ t. nat_lt s.id t.id) (sources_at sources behind)) (are_ascending (sources_at sources behind)) k.rising in
    let begins = begins_listed p s (spans_of p (sources_at sources behind)) f.0 in
    let less : nat_lt id s.id ≡ true = least begins (ap (are_from id) whole ∙ from) in
    record {
      parts = ap (λ is. spans_as id is ++ ss) (sym empty);
      above = sym (ap (are_above id) whole) ∙ all_of (λ n. nat_lt id n) p (s ∷ sources_at sources behind)
          (and_from (nat_lt id s.id) (list_all (λ t. nat_lt id t.id) (sources_at sources behind)) less (all_weaker (λ t. nat_lt s.id t.id) (λ t. nat_lt id t.id) (sources_at sources behind) (λ t lt. later t less lt) r.0));
    }
  where
    later : (t : SourceList) → nat_lt id (source_at sources at).id ≡ true → nat_lt (source_at sources at).id t.id ≡ true → nat_lt id t.id ≡ true
    later t a b = grind (arith, nat_tests)

    differs : (n : ℕ) → nat_le id n ≡ true → n ≢ id → nat_lt id n ≡ true
    differs n a b = grind (arith, nat_tests)

    least : BeginsWith (flat p sources (at ∷ behind)) (source_at sources at).id → are_from id (flat p sources (at ∷ behind)) ≡ true → nat_lt id (source_at sources at).id ≡ true
    least begins all =
        let w = and_parts (nat_le id begins.first.source) (are_from id begins.more) (sym (ap (are_from id) begins.parts) ∙ all) in
        differs (source_at sources at).id (sym (ap (nat_le id) begins.source) ∙ w.0) other

-- it is
pub takes_first : (p : PoolValue) (sources : List SourceList) (order : List ℕ) (at : ℕ) (behind : List ℕ) (ss : List Span) (id : ℕ) (numbers : List Interval) → order ≡ at ∷ behind → AreLists p sources order → flat p sources order ≡ ss
    → (source_at sources at).id ≡ id → numbers ≡ spans p (source_at sources at).list → TakesSource ss id numbers (flat p sources behind)
takes_first p sources order at behind ss id numbers e h view same is =
    let k = subst (AreLists p sources) e h in
    let s = source_at sources at in
    let r = and_parts (list_all (λ t. nat_lt s.id t.id) (sources_at sources behind)) (are_ascending (sources_at sources behind)) k.rising in
    record {
      parts = sym view ∙ ap (flat p sources) e ∙ (λ i. spans_as (same i) (sym is i) ++ flat p sources behind);
      above = sym (ap (λ n. are_above n (flat p sources behind)) same) ∙ all_of (λ n. nat_lt s.id n) p (sources_at sources behind) r.0;
    }

-- ---- the least source of two

pub from_more : (id other : ℕ) (ss : List Span) → id ≤ other → are_from other ss ≡ true → are_from id ss ≡ true
from_more id other ss le from = all_weaker (λ s. nat_le other s.source) (λ s. nat_le id s.source) ss (λ s a. lower s a) from
  where
    lower : (s : Span) → nat_le other s.source ≡ true → nat_le id s.source ≡ true
    lower s a = grind (arith, nat_tests)
