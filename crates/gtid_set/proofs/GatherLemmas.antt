-- A set made of spans in order.
use Rattle.std.proofs.Common.{◌≡◌, ◌≢◌, ◌<◌, ◌⊎◌, inl, inr, ℕ, Bool, true, false, ◌&&◌, ◌||◌, ◌==◌, nat_le, nat_lt, List, [], ◌∷◌, ◌++◌, length, refl, sym, ap, subst, ◌∙◌, arith}
use Rattle.std.specs.List.{list_all}
use Rattle.std.proofs.lemmas.Bool.{and_parts, and_from}
use Rattle.std.proofs.lemmas.Bool.Decides.{nat_tests}
use Rattle.lemmas.proofs.Tests.{or_assoc, or_none}
use Rattle.interval_pool.specs.declared.interval.Interval.{Interval}
use Rattle.gtid_text.specs.declared.Gtid.{Gtid}
use Rattle.gtid_text.specs.declared.Span.{Span}
use Rattle.gtid_set.specs.declared.combine.Operation.TheVariants.{Union}
use Rattle.gtid_set.specs.Sets.{Gtids, gtid}
use Rattle.gtid_set.specs.Spans.{is_merged, has}
use Rattle.gtid_set.specs.Sweep.{Joins, all_start_by, is_sorted, is_from, start_of, within}
use Rattle.gtid_set.specs.Kept.{span_of, spans_as, interval_of}
use Rattle.gtid_set.specs.Numbers.{numbered, all_numbered}
use Rattle.gtid_set.specs.BySource.{are_from, are_above, BeginsWith, JoinsSource}
use Rattle.gtid_set.proofs.SpanLemmas.{all_weaker, starts_later}
use Rattle.gtid_set.proofs.CombineLemmas.{IsMaking, has_here, has_there, made_more, nothing_left, begins_from}

-- what was joined of a source, and what is left
pub record IsJoining (spans : List Span) (id : ℕ) (run : List Interval) (rest : List Span) : Type 0 where
  pub merged : is_merged (all_numbered run) ≡ true
  pub has : (q : Gtid) → has spans q ≡ (has (spans_as id run) q || has rest q)
  pub rising : is_sorted rest ≡ true
  pub from : are_from id rest ≡ true
  pub order : list_all (all_start_by (spans_as id run)) rest ≡ true
  pub gone : (length rest < length spans) ⊎ (rest ≡ spans)

pub joining : (spans : List Span) (id : ℕ) (run : List Interval) → run ≡ [] → is_sorted spans ≡ true → are_from id spans ≡ true → IsJoining spans id run spans
joining spans id run none r f = record {
  merged = ap (λ is. is_merged (all_numbered is)) none;
  has = λ q. ap (λ is. has (spans_as id is) q || has spans q) (sym none);
  rising = r;
  from = f;
  order = ap (λ is. list_all (all_start_by (spans_as id is)) spans) none ∙ all spans;
  gone = inr refl;
}
  where
    all : (ss : List Span) → list_all (all_start_by []) ss ≡ true
    all [] = refl
    all (s ∷ ss) = all ss

-- ---- names of the source

starts_as : (id : ℕ) (is : List Interval) (i : Interval) → all_start_by (spans_as id is) (span_of id i) ≡ all_start_by (all_numbered is) (numbered i)
starts_as id [] i = refl
starts_as id (j ∷ is) i = λ p. one p && starts_as id is i p
  where
    same_bool : (a b c d : Bool) → a ≡ false → b ≡ true → (a || (b && c)) ≡ (false || (true && c))
    same_bool a b c d e f = λ p. e p || (f p && c)

    less : nat_lt id id ≡ false
    less = grind (arith, nat_tests)

    same : (id == id) ≡ true
    same = grind (arith, nat_tests)

    one : is_from (start_of (span_of id j)) (start_of (span_of id i)) ≡ is_from (start_of (numbered j)) (start_of (numbered i))
    one = λ p. less p || (same p && nat_le j.lo i.lo)

joined_as : (id : ℕ) (old new : List Interval) (i : Interval) → Joins (all_numbered old) (numbered i) (all_numbered new) → (q : Gtid) → has (spans_as id new) q ≡ (has (spans_as id old) q || within (span_of id i) q)
joined_as id old new i joins q = split (q.source == id) refl
  where
    split : (b : Bool) → (q.source == id) ≡ b → has (spans_as id new) q ≡ (has (spans_as id old) q || within (span_of id i) q)
    split true e = has_here id new q e ∙ joins.has (gtid 0 q.number) ∙ (λ p. sym (has_here id old q e) p || (sym e p && (nat_le i.lo q.number && nat_le q.number i.hi)))
    split false e = has_there id new q e ∙ (λ p. sym (has_there id old q e) p || (sym e p && (nat_le i.lo q.number && nat_le q.number i.hi)))

-- ---- one span more

pub next_order : (spans : List Span) (id : ℕ) (run : List Interval) (rest : List Span) (span : Span) (more : List Span) → IsJoining spans id run rest → rest ≡ span ∷ more → span.source ≡ id → all_start_by (all_numbered run) (numbered (interval_of span)) ≡ true
next_order spans id run rest span more h e same =
    sym (starts_as id run (interval_of span))
    ∙ (λ p. all_start_by (spans_as id run) (record { source = sym same p; lo = span.lo; hi = span.hi }))
    ∙ (and_parts (all_start_by (spans_as id run) span) (list_all (all_start_by (spans_as id run)) more) (sym (ap (list_all (all_start_by (spans_as id run))) e) ∙ h.order)).0

pub joined_more : (spans : List Span) (id : ℕ) (run run' : List Interval) (rest : List Span) (span : Span) (more : List Span) → IsJoining spans id run rest → rest ≡ span ∷ more → span.source ≡ id
    → Joins (all_numbered run) (numbered (interval_of span)) (all_numbered run') → IsJoining spans id run' more
joined_more spans id run run' rest span more h e same joins = record {
  merged = joins.merged;
  has = λ q. h.has q ∙ ap (λ ss. has (spans_as id run) q || has ss q) e ∙ or_assoc (has (spans_as id run) q) (within span q) (has more q)
      ∙ ap (λ b. b || has more q) ((λ p. has (spans_as id run) q || within (record { source = same p; lo = span.lo; hi = span.hi }) q) ∙ sym (joined_as id run run' (interval_of span) joins q));
  rising = r.1;
  from = (and_parts (nat_le id span.source) (are_from id more) (sym (ap (are_from id) e) ∙ h.from)).1;
  order = starts_later (spans_as id run') span more
      ((λ p. all_start_by (spans_as id run') (record { source = same p; lo = span.lo; hi = span.hi })) ∙ starts_as id run' (interval_of span) ∙ joins.order) r.0;
  gone = inl (less h.gone);
}
  where
    r : (list_all (λ t. is_from (start_of span) (start_of t)) more ≡ true) × (is_sorted more ≡ true)
    r = and_parts (list_all (λ t. is_from (start_of span) (start_of t)) more) (is_sorted more) (sym (ap is_sorted e) ∙ h.rising)

    less : (length rest < length spans) ⊎ (rest ≡ spans) → length more < length spans
    less (inl lt) = let long = ap length e in omega (arith, long, lt)
    less (inr all) = let long = ap length e in let whole = ap length all in omega (arith, long, whole)

-- ---- the end

made_of_it : (spans : List Span) (id : ℕ) (run : List Interval) (rest : List Span) → IsJoining spans id run rest → are_above id rest ≡ true → (BeginsWith rest id → ⊥) → JoinsSource spans id run rest
made_of_it spans id run rest h above none = record {
  merged = h.merged;
  has = h.has;
  above = above;
  rises = h.rising;
  begun = λ begins. less begins h.gone;
}
  where
    less : BeginsWith spans id → (length rest < length spans) ⊎ (rest ≡ spans) → length rest < length spans
    less begins (inl lt) = lt
    less begins (inr all) = absurd (none (record { first = begins.first; more = begins.more; parts = all ∙ begins.parts; source = begins.source }))

pub joined_all : (spans : List Span) (id : ℕ) (run : List Interval) (rest : List Span) → IsJoining spans id run rest → rest ≡ [] → JoinsSource spans id run rest
joined_all spans id run rest h e = made_of_it spans id run rest h (ap (are_above id) e) (λ begins. absurd (let n = sym e ∙ begins.parts in cc))

pub joined_upto : (spans : List Span) (id : ℕ) (run : List Interval) (rest : List Span) (span : Span) (more : List Span) → IsJoining spans id run rest → rest ≡ span ∷ more → span.source ≢ id → JoinsSource spans id run rest
joined_upto spans id run rest span more h e other =
    made_of_it spans id run rest h
    (ap (are_above id) e ∙ and_from (nat_lt id span.source) (are_above id more) least (all_weaker (λ t. is_from (start_of span) (start_of t)) (λ t. nat_lt id t.source) more (λ t f. later t least f) r.0))
    (λ begins. differs begins (sym e ∙ begins.parts))
  where
    r : (list_all (λ t. is_from (start_of span) (start_of t)) more ≡ true) × (is_sorted more ≡ true)
    r = and_parts (list_all (λ t. is_from (start_of span) (start_of t)) more) (is_sorted more) (sym (ap is_sorted e) ∙ h.rising)

    above : nat_le id span.source ≡ true → span.source ≢ id → nat_lt id span.source ≡ true
    above a b = grind (arith, nat_tests)

    least : nat_lt id span.source ≡ true
    least = above (and_parts (nat_le id span.source) (are_from id more) (sym (ap (are_from id) e) ∙ h.from)).0 other

    later : (t : Span) → nat_lt id span.source ≡ true → is_from (start_of span) (start_of t) ≡ true → nat_lt id t.source ≡ true
    later t lt f = grind (arith, nat_tests)

    differs : (begins : BeginsWith rest id) → span ∷ more ≡ begins.first ∷ begins.more → ⊥
    differs begins same = absurd (let s : span ≡ begins.first = cc in other (ap (λ (t : Span). t.source) s ∙ begins.source))

-- ---- a source more of a set that is being made

pub rises_from : (rest : List Span) (first : Span) (more : List Span) → rest ≡ first ∷ more → is_sorted rest ≡ true → are_from first.source rest ≡ true
rises_from rest first more e r =
    let w = and_parts (list_all (λ t. is_from (start_of first) (start_of t)) more) (is_sorted more) (sym (ap is_sorted e) ∙ r) in
    ap (are_from first.source) e ∙ and_from (nat_le first.source first.source) (are_from first.source more) itself (all_weaker (λ t. is_from (start_of first) (start_of t)) (λ t. nat_le first.source t.source) more (λ t f. later t f) w.0)
  where
    itself : nat_le first.source first.source ≡ true
    itself = grind (arith, nat_tests)

    later : (t : Span) → is_from (start_of first) (start_of t) ≡ true → nat_le first.source t.source ≡ true
    later t f = grind (arith, nat_tests)

pub gathered_more : (s : Gtids) (out rest behind : List Span) (first : Span) (more : List Span) (run run' : List Interval) → IsMaking Union s out rest [] → rest ≡ first ∷ more → JoinsSource rest first.source run behind → run' ≡ run
    → IsMaking Union s (out ++ spans_as first.source run') behind []
gathered_more s out rest behind first more run run' h e joins same =
    subst (λ is. IsMaking Union s (out ++ spans_as first.source is) behind []) (sym same)
    (made_more Union s out rest [] behind [] first.source run [] run h
    (begins_from rest first.source h.bound (record { first = first; more = more; parts = e; source = refl }) h.left_from)
    (record { has = joins.has; above = joins.above }) (nothing_left first.source)
    (record { merged = joins.merged; has = λ q. sym (or_none (has (all_numbered run) q)) }))

pub gathered_shorter : (rest behind : List Span) (first : Span) (more : List Span) (run : List Interval) → rest ≡ first ∷ more → JoinsSource rest first.source run behind → length behind < length rest
gathered_shorter rest behind first more run e joins = joins.begun (record { first = first; more = more; parts = e; source = refl })
