-- Two sets compared source by source.
use Rattle.std.proofs.Common.{◌≡◌, ℕ, Bool, true, false, ◌&&◌, ◌||◌, ◌==◌, List, refl, sym, ap, ◌∙◌, arith}
use Rattle.std.proofs.lemmas.Bool.{and_parts, or_right, or_left}
use Rattle.std.proofs.lemmas.Bool.Decides.{nat_tests}
use Rattle.lemmas.proofs.Tests.{or_none}
use Rattle.interval_pool.specs.declared.interval.Interval.{Interval}
use Rattle.interval_pool.specs.Intervals.{has as has_number}
use Rattle.gtid_text.specs.declared.Gtid.{Gtid}
use Rattle.gtid_text.specs.declared.Span.{Span}
use Rattle.gtid_set.specs.Sets.{gtid}
use Rattle.gtid_set.specs.Spans.{is_merged, has}
use Rattle.gtid_set.specs.Kept.{spans_as}
use Rattle.gtid_set.specs.Numbers.{all_numbered}
use Rattle.gtid_set.specs.BySource.{are_above, TakesSource}
use Rattle.gtid_set.proofs.KeptLemmas.{has_span_of}
use Rattle.gtid_set.proofs.CombineLemmas.{HasParts, parts_of, taken_merged, has_here, has_there, has_above}

-- What is left of two sets. What the first has of the rest, the second has, or has not.
pub record IsPassing (b : Bool) (left right left' right' : List Span) : Type 0 where
  pub left_merged : is_merged left' ≡ true
  pub right_merged : is_merged right' ≡ true
  pub still : (q : Gtid) → has left' q ≡ true → has left q ≡ true
  pub same : (q : Gtid) → has left' q ≡ true → has right' q ≡ has right q
  pub done : (q : Gtid) → has left q ≡ true → has left' q ≡ false → has right q ≡ b

pub passing : (b : Bool) (left right : List Span) → is_merged left ≡ true → is_merged right ≡ true → IsPassing b left right left right
passing b left right l r = record { left_merged = l; right_merged = r; still = λ q e. e; same = λ q e. refl; done = λ q e none. absurd (let n = sym e ∙ none in cc) }

-- what is left has no number of the source that is taken
other_source : (id : ℕ) (ss : List Span) (q : Gtid) → are_above id ss ≡ true → has ss q ≡ true → (q.source == id) ≡ false
other_source id ss q above e = told (q.source == id) refl
  where
    told : (b : Bool) → (q.source == id) ≡ b → b ≡ false
    told true k = absurd (let n = sym e ∙ has_above id ss q above k in cc)
    told false k = refl

own_source : (id : ℕ) (is : List Interval) (q : Gtid) → has (spans_as id is) q ≡ true → (q.source == id) ≡ true
own_source id is q e = (and_parts (q.source == id) (has_number is q.number) (sym (has_span_of id is q) ∙ e)).0

-- a source is taken of which the second has the numbers of the first, or none
pub passed_more : (b : Bool) (left right left' right' left'' right'' : List Span) (id : ℕ) (mine theirs : List Interval) → IsPassing b left right left' right' → TakesSource left' id mine left'' → TakesSource right' id theirs right''
    → ((q : Gtid) → has (all_numbered mine) q ≡ true → has (all_numbered theirs) q ≡ b) → IsPassing b left right left'' right''
passed_more b left right left' right' left'' right'' id mine theirs h l r all = record {
  left_merged = (taken_merged left' id mine left'' l h.left_merged).1;
  right_merged = (taken_merged right' id theirs right'' r h.right_merged).1;
  still = λ q e. h.still q (more q e);
  same = λ q e. sym (rest.has q ∙ ap (λ c. c || has right'' q) (has_there id theirs q (other_source id left'' q l.above e))) ∙ h.same q (more q e);
  done = λ q a none. split q (has (spans_as id mine) q) refl a none;
}
  where
    first : HasParts left' id mine left''
    first = parts_of left' id mine left'' l

    rest : HasParts right' id theirs right''
    rest = parts_of right' id theirs right'' r

    more : (q : Gtid) → has left'' q ≡ true → has left' q ≡ true
    more q e = first.has q ∙ or_right (has (spans_as id mine) q) (has left'' q) e

    split : (q : Gtid) (c : Bool) → has (spans_as id mine) q ≡ c → has left q ≡ true → has left'' q ≡ false → has right q ≡ b
    split q true c a none =
        let own = own_source id mine q c in
        let there = all (gtid 0 q.number) (sym (has_here id mine q own) ∙ c) in
        sym (h.same q (first.has q ∙ or_left (has (spans_as id mine) q) (has left'' q) c)) ∙ rest.has q
        ∙ (λ i. has_here id theirs q own i || has_above id right'' q r.above own i) ∙ or_none (has (all_numbered theirs) (gtid 0 q.number)) ∙ there
    split q false c a none = h.done q a (first.has q ∙ (λ i. c i || none i))

-- a number of the source of which that is not so
pub passed_found : (b x : Bool) (left right left' right' left'' right'' : List Span) (id : ℕ) (mine theirs : List Interval) → IsPassing b left right left' right' → TakesSource left' id mine left'' → TakesSource right' id theirs right''
    → (q : Gtid) → has (all_numbered mine) q ≡ true → has (all_numbered theirs) q ≡ x → (g : Gtid) × (has left g ≡ true) × (has right g ≡ x)
passed_found b x left right left' right' left'' right'' id mine theirs h l r q a n =
    let own = own_source 0 mine q a in
    let g = gtid id q.number in
    let hit : (g.source == id) ≡ true = itself id in
    let mine_has = has_span_of id mine g ∙ (λ i. (hit ∙ sym own) i && has_number mine q.number) ∙ sym (has_span_of 0 mine q) ∙ a in
    let theirs_has = has_span_of id theirs g ∙ (λ i. (hit ∙ sym own) i && has_number theirs q.number) ∙ sym (has_span_of 0 theirs q) ∙ n in
    let first = (parts_of left' id mine left'' l).has g ∙ or_left (has (spans_as id mine) g) (has left'' g) mine_has in
    let rest = (parts_of right' id theirs right'' r).has g ∙ (λ i. theirs_has i || has_above id right'' g r.above hit i) ∙ or_none x in
    (g, h.still g first, sym (h.same g first) ∙ rest)
  where
    itself : (m : ℕ) → (m == m) ≡ true
    itself m = grind (arith, nat_tests)

-- nothing is left
pub passed_all : (b : Bool) (left right left' right' : List Span) → IsPassing b left right left' right' → ((q : Gtid) → has left' q ≡ false) → (q : Gtid) → has left q ≡ true → has right q ≡ b
passed_all b left right left' right' h none q e = h.done q e (none q)
