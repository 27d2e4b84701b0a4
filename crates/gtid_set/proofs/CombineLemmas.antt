-- What is made of two sets, source by source.
use Rattle.std.proofs.Common.{◌≡◌, ◌<◌, ◌≤◌, ◌+◌, ◌⊎◌, inl, inr, ℕ, Bool, true, false, not, ◌&&◌, ◌||◌, ◌==◌, nat_le, nat_lt, List, [], ◌∷◌, ◌++◌, length, length-append, refl, sym, ap, ◌∙◌, arith}
use Rattle.std.specs.FinSet as set
use Rattle.std.specs.Prelude.{Err}
use Rattle.std.specs.List.{list_all}
use Rattle.std.proofs.lemmas.Bool.{and_parts, and_from, or_right}
use Rattle.std.proofs.lemmas.Bool.Decides.{nat_tests}
use Rattle.std.proofs.lemmas.List.Folds.{list_any-append}
use Rattle.lemmas.proofs.SameGtid.{gtid_total}
use Rattle.lemmas.proofs.Tests.{or_none}
use Rattle.interval_pool.specs.declared.interval.Interval.{Interval}
use Rattle.interval_pool.specs.Intervals.{has as has_number}
use Rattle.gtid_text.specs.declared.Gtid.{Gtid}
use Rattle.gtid_text.specs.declared.Span.{Span}
use Rattle.gtid_set.specs.declared.combine.Operation.{Operation}
use Rattle.gtid_set.specs.declared.combine.Operation.TheVariants.{Union, Difference, Intersection}
use Rattle.gtid_set.specs.declared.fault.SetFault.{SetFault}
use Rattle.gtid_set.specs.declared.fault.SetFault.TheVariants.{Memory, PoolFull, SourcesFull}
use Rattle.gtid_set.specs.Sets.{Gtids, gtid, source_count, most_sources}
use Rattle.gtid_set.specs.Runs.{runs}
use Rattle.gtid_set.specs.Spans.{is_before, is_merged, has, set_of}
use Rattle.gtid_set.specs.Sweep.{IsListOf, IsRest, within, start_of, is_from, all_before}
use Rattle.gtid_set.specs.Full.{IsCrowdedExactly, IsKept, interval_count, most_intervals}
use Rattle.gtid_set.specs.Kept.{spans_as}
use Rattle.gtid_set.specs.Numbers.{all_numbered}
use Rattle.gtid_set.specs.BySource.{are_from, are_above, are_below, BeginsWith, IsNextSource, TakesSource, combines, combination, IsTooLong}
use Rattle.gtid_set.proofs.CutLemmas.{start_within, within_from, more_from}
use Rattle.gtid_set.proofs.KeptLemmas.{merged_append, has_span_of, merged_of}
use Rattle.gtid_set.proofs.SpanLemmas.{merged_head, all_weaker, all_joined, any_none, merged_front, merged_back}
use Rattle.gtid_set.proofs.SetLemmas.{same_members, contains-set_of}
use Rattle.gtid_set.proofs.SetSources.{fewer_sources}
use Rattle.gtid_set.proofs.RunLemmas.{runs_merged, runs_are_merged, set_of_runs}
use Rattle.gtid_set.proofs.KeptRuns.{merged_numbers}

-- ---- an operation on what two sets have

pub combines_none : (o : Operation) → combines o false false ≡ false
combines_none Union = refl
combines_none Difference = refl
combines_none Intersection = refl

combines_some : (o : Operation) (a b : Bool) → combines o a b ≡ true → (a ≡ true) ⊎ (b ≡ true)
combines_some o true b e = inl refl
combines_some o false true e = inr refl
combines_some o false false e = absurd (let n = sym (combines_none o) ∙ e in cc)

-- of the source that is taken, and of the others
taken_here : (o : Operation) (h a b : Bool) → (h || combines o (a || false) (b || false)) ≡ ((h || combines o a b) || combines o false false)
taken_here o h a b =
    (λ i. h || combines o (or_none a i) (or_none b i)) ∙ sym (or_none (h || combines o a b)) ∙ ap (λ c. (h || combines o a b) || c) (sym (combines_none o))

taken_there : (o : Operation) (h l r : Bool) → (h || combines o l r) ≡ ((h || false) || combines o l r)
taken_there o h l r = ap (λ b. b || combines o l r) (sym (or_none h))

-- ---- numbers of a source as its spans

pub renamed : (id : ℕ) (is : List Interval) → is_merged (all_numbered is) ≡ true → is_merged (spans_as id is) ≡ true
renamed id is m = merged_of id is (merged_numbers 0 is m)

pub unnamed : (id : ℕ) (is : List Interval) → is_merged (spans_as id is) ≡ true → is_merged (all_numbered is) ≡ true
unnamed id is m = merged_of 0 is (merged_numbers id is m)

pub has_here : (id : ℕ) (is : List Interval) (q : Gtid) → (q.source == id) ≡ true → has (spans_as id is) q ≡ has (all_numbered is) (gtid 0 q.number)
has_here id is q e = has_span_of id is q ∙ ap (λ b. b && has_number is q.number) e ∙ sym (has_span_of 0 is (gtid 0 q.number))

pub has_there : (id : ℕ) (is : List Interval) (q : Gtid) → (q.source == id) ≡ false → has (spans_as id is) q ≡ false
has_there id is q e = has_span_of id is q ∙ ap (λ b. b && has_number is q.number) e

pub has_above : (id : ℕ) (ss : List Span) (q : Gtid) → are_above id ss ≡ true → (q.source == id) ≡ true → has ss q ≡ false
has_above id ss q above e = any_none (λ s. within s q) (λ s. nat_lt id s.source) ss (λ s lt. outside s lt) above
  where
    outside : (s : Span) → nat_lt id s.source ≡ true → within s q ≡ false
    outside s lt = grind (arith, nat_tests)

all_as : (test : ℕ → Bool) (id : ℕ) (is : List Interval) → test id ≡ true → list_all (λ (s : Span). test s.source) (spans_as id is) ≡ true
all_as test id [] e = refl
all_as test id (i ∷ is) e = and_from (test id) (list_all (λ (s : Span). test s.source) (spans_as id is)) e (all_as test id is e)

-- spans of lesser sources come before
before_from : (bound : ℕ) (xs ys : List Span) → are_below bound xs ≡ true → are_from bound ys ≡ true → list_all (λ x. list_all (is_before x) ys) xs ≡ true
before_from bound xs ys below from = all_weaker (λ s. nat_lt s.source bound) (λ x. list_all (is_before x) ys) xs (λ x lt. all_weaker (λ s. nat_le bound s.source) (is_before x) ys (λ y le. less x y lt le) from) below
  where
    less : (x y : Span) → nat_lt x.source bound ≡ true → nat_le bound y.source ≡ true → is_before x y ≡ true
    less x y lt le = grind (arith, nat_tests)

-- a list whose sources are from one on has no number of a lesser one
source_from : (bound : ℕ) (ss : List Span) (q : Gtid) → are_from bound ss ≡ true → has ss q ≡ true → nat_le bound q.source ≡ true
source_from bound [] q from e = absurd cc
source_from bound (t ∷ ss) q from e = split (within t q) refl (source_from bound ss q w.1)
  where
    w : (nat_le bound t.source ≡ true) × (are_from bound ss ≡ true)
    w = and_parts (nat_le bound t.source) (are_from bound ss) from

    its : within t q ≡ true → nat_le bound t.source ≡ true → nat_le bound q.source ≡ true
    its a b = grind (arith, nat_tests)

    split : (b : Bool) → within t q ≡ b → (has ss q ≡ true → nat_le bound q.source ≡ true) → nat_le bound q.source ≡ true
    split true b later = its b w.0
    split false b later = later (sym (ap (λ c. c || has ss q) b) ∙ e)

-- ---- a set that is being made

-- what is written has the sources below a bound, and what is left of both sets those from there on
pub record IsMaking (o : Operation) (s : Gtids) (out left right : List Span) : Type 0 where
  pub bound : ℕ
  pub merged : is_merged out ≡ true
  pub below : are_below bound out ≡ true
  pub left_from : are_from bound left ≡ true
  pub right_from : are_from bound right ≡ true
  pub has : (q : Gtid) → set.contains s q ≡ (has out q || combines o (has left q) (has right q))

-- a source's numbers in a list of spans, and the spans of greater sources
pub record HasParts (old : List Span) (id : ℕ) (numbers : List Interval) (new : List Span) : Type 0 where
  pub has : (q : Gtid) → has old q ≡ (has (spans_as id numbers) q || has new q)
  pub above : are_above id new ≡ true

pub parts_of : (old : List Span) (id : ℕ) (numbers : List Interval) (new : List Span) → TakesSource old id numbers new → HasParts old id numbers new
parts_of old id numbers new takes = record { has = λ q. ap (λ ss. has ss q) takes.parts ∙ list_any-append (λ s. within s q) (spans_as id numbers) new; above = takes.above }

pub nothing_left : (id : ℕ) → HasParts [] id [] []
nothing_left id = record { has = λ q. refl; above = refl }

-- a source is written
pub made_more : (o : Operation) (s : Gtids) (out left right left' right' : List Span) (id : ℕ) (mine theirs run : List Interval) (h : IsMaking o s out left right) → h.bound ≤ id
    → HasParts left id mine left' → HasParts right id theirs right' → IsListOf (λ q. combines o (has (all_numbered mine) q) (has (all_numbered theirs) q)) (all_numbered run)
    → IsMaking o s (out ++ spans_as id run) left' right'
made_more o s out left right left' right' id mine theirs run h le l r list = record {
  bound = id + 1;
  merged = merged_append out (spans_as id run) h.merged (renamed id run list.merged) (before_from h.bound out (spans_as id run) h.below (all_as (λ n. nat_le h.bound n) id run (within_bound h.bound le)));
  below = all_joined (λ t. nat_lt t.source (id + 1)) out (spans_as id run) (all_weaker (λ t. nat_lt t.source h.bound) (λ t. nat_lt t.source (id + 1)) out (λ t lt. still t.source h.bound lt le) h.below)
      (all_as (λ n. nat_lt n (id + 1)) id run next);
  left_from = behind left' l.above;
  right_from = behind right' r.above;
  has = λ q. split q (q.source == id) refl;
}
  where
    within_bound : (bound : ℕ) → bound ≤ id → nat_le bound id ≡ true
    within_bound bound le = grind (arith, nat_tests)

    still : (n bound : ℕ) → nat_lt n bound ≡ true → bound ≤ id → nat_lt n (id + 1) ≡ true
    still n bound lt le = grind (arith, nat_tests)

    next : nat_lt id (id + 1) ≡ true
    next = grind (arith, nat_tests)

    later : (t : Span) → nat_lt id t.source ≡ true → nat_le (id + 1) t.source ≡ true
    later t lt = grind (arith, nat_tests)

    behind : (ss : List Span) → are_above id ss ≡ true → are_from (id + 1) ss ≡ true
    behind ss above = all_weaker (λ t. nat_lt id t.source) (λ t. nat_le (id + 1) t.source) ss (λ t lt. later t lt) above

    split : (q : Gtid) (b : Bool) → (q.source == id) ≡ b → set.contains s q ≡ (has (out ++ spans_as id run) q || combines o (has left' q) (has right' q))
    split q true e =
        h.has q
        ∙ (λ i. has out q || combines o ((l.has q ∙ (λ j. has_here id mine q e j || has_above id left' q l.above e j)) i) ((r.has q ∙ (λ j. has_here id theirs q e j || has_above id right' q r.above e j)) i))
        ∙ taken_here o (has out q) (has (all_numbered mine) (gtid 0 q.number)) (has (all_numbered theirs) (gtid 0 q.number))
        ∙ (λ i. (has out q || (sym (list.has (gtid 0 q.number)) ∙ sym (has_here id run q e)) i) || combines o (sym (has_above id left' q l.above e) i) (sym (has_above id right' q r.above e) i))
        ∙ ap (λ b. b || combines o (has left' q) (has right' q)) (sym (list_any-append (λ t. within t q) out (spans_as id run)))
    split q false e =
        h.has q
        ∙ (λ i. has out q || combines o ((l.has q ∙ ap (λ b. b || has left' q) (has_there id mine q e)) i) ((r.has q ∙ ap (λ b. b || has right' q) (has_there id theirs q e)) i))
        ∙ taken_there o (has out q) (has left' q) (has right' q)
        ∙ (λ i. (has out q || sym (has_there id run q e) i) || combines o (has left' q) (has right' q))
        ∙ ap (λ b. b || combines o (has left' q) (has right' q)) (sym (list_any-append (λ t. within t q) out (spans_as id run)))

-- what is written has no more sources than the set
pub made_fits : (o : Operation) (s : Gtids) (out left right : List Span) → IsMaking o s out left right → source_count s ≤ most_sources → source_count (set_of out) ≤ most_sources
made_fits o s out left right h fits =
    let less = fewer_sources (set_of out) s (λ q e. h.has q ∙ ap (λ b. b || combines o (has left q) (has right q)) (sym (contains-set_of out q) ∙ e)) in
    omega (arith, less, fits)

-- and no more intervals: those of the others stand behind
made_short : (o : Operation) (s : Gtids) (out left right : List Span) → IsMaking o s out left right → length out ≤ interval_count s
made_short o s out left right h =
    let whole = out ++ runs others in
    let merged = merged_append out (runs others) h.merged (runs_are_merged others) (before_from h.bound out (runs others) h.below from) in
    let same : set_of whole ≡ s = same_members (set_of whole) s (λ q. contains-set_of whole q ∙ list_any-append (λ t. within t q) out (runs others) ∙ ap (λ b. has out q || b) (behind q) ∙ both (has out q) (set.contains s q) (λ e. h.has q ∙ ap (λ b. b || combines o (has left q) (has right q)) e)) in
    let count = ap length (sym (runs_merged whole merged) ∙ ap runs same) in
    let long = length-append out (runs others) in
    omega (arith, count, long)
  where
    others : Gtids
    others = set.difference s (set_of out)

    behind : (q : Gtid) → has (runs others) q ≡ (set.contains s q && not (has out q))
    behind q = sym (contains-set_of (runs others) q) ∙ ap (λ (t : Gtids). set.contains t q) (set_of_runs others) ∙ set.contains-difference gtid_total s (set_of out) q ∙ ap (λ b. set.contains s q && not b) (contains-set_of out q)

    both : (a b : Bool) → (a ≡ true → b ≡ true) → (a || (b && not a)) ≡ b
    both true b e = sym (e refl)
    both false true e = refl
    both false false e = refl

    left_over : (a b c : Bool) → b ≡ (a || c) → (b && not a) ≡ true → c ≡ true
    left_over true true c e k = absurd cc
    left_over true false c e k = absurd cc
    left_over false b c e k = sym e ∙ (let t : (b && true) ≡ true = k in and_parts b true t).0

    either : (q : Gtid) → (has left q ≡ true) ⊎ (has right q ≡ true) → nat_le h.bound q.source ≡ true
    either q (inl e) = source_from h.bound left q h.left_from e
    either q (inr e) = source_from h.bound right q h.right_from e

    within_from : (q : Gtid) → has (runs others) q ≡ true → nat_le h.bound q.source ≡ true
    within_from q e = either q (combines_some o (has left q) (has right q) (left_over (has out q) (set.contains s q) (combines o (has left q) (has right q)) (h.has q) (sym (behind q) ∙ e)))

    each : (ss : List Span) → is_merged ss ≡ true → ((q : Gtid) → has ss q ≡ true → nat_le h.bound q.source ≡ true) → are_from h.bound ss ≡ true
    each [] m all = refl
    each (t ∷ ss) m all =
        let head = merged_head t ss m in
        and_from (nat_le h.bound t.source) (are_from h.bound ss) (all (start_of t) (ap (λ b. b || has ss (start_of t)) (start_within t head.filled)))
        (each ss head.tail (λ q e. all q (or_right (within t q) (has ss q) e)))

    from : are_from h.bound (runs others) ≡ true
    from = each (runs others) (runs_are_merged others) within_from

-- ---- where it begins and ends

pub made_of : (o : Operation) (xs ys : List Span) (q : Gtid) → set.contains (combination o (set_of xs) (set_of ys)) q ≡ combines o (has xs q) (has ys q)
made_of Union xs ys q = set.contains-union gtid_total (set_of xs) (set_of ys) q ∙ (λ i. contains-set_of xs q i || contains-set_of ys q i)
made_of Difference xs ys q = set.contains-difference gtid_total (set_of xs) (set_of ys) q ∙ (λ i. contains-set_of xs q i && not (contains-set_of ys q i))
made_of Intersection xs ys q = set.contains-intersection gtid_total (set_of xs) (set_of ys) q ∙ (λ i. contains-set_of xs q i && contains-set_of ys q i)

pub none_made : (o : Operation) (s : Gtids) (out left right : List Span) → out ≡ [] → ((q : Gtid) → set.contains s q ≡ combines o (has left q) (has right q)) → IsMaking o s out left right
none_made o s out left right none has_all = record {
  bound = 0;
  merged = ap is_merged none;
  below = ap (are_below 0) none;
  left_from = from left;
  right_from = from right;
  has = λ q. has_all q ∙ ap (λ ss. has ss q || combines o (has left q) (has right q)) (sym none);
}
  where
    least : (n : ℕ) → nat_le 0 n ≡ true
    least n = grind (arith, nat_tests)

    from : (ss : List Span) → are_from 0 ss ≡ true
    from [] = refl
    from (t ∷ ss) = and_from (nat_le 0 t.source) (are_from 0 ss) (least t.source) (from ss)

pub all_made : (o : Operation) (s : Gtids) (out left right : List Span) → IsMaking o s out left right → left ≡ [] → right ≡ [] → set_of out ≡ s
all_made o s out left right h l r = sym (same_members s (set_of out) (λ q.
    h.has q ∙ (λ i. has out q || combines o (has (l i) q) (has (r i) q)) ∙ ap (λ b. has out q || b) (combines_none o) ∙ or_none (has out q) ∙ sym (contains-set_of out q)))

-- what is refused, and what is answered
pub made_long : (o : Operation) (s : Gtids) (out left right : List Span) (f : SetFault) → IsMaking o s out left right → IsTooLong out f → IsCrowdedExactly {T = Unit {0}} (Err f) s
made_long o s out left right Memory h long = tt
made_long o s out left right PoolFull h long = let short = made_short o s out left right h in let l = long in omega (arith, short, l)
made_long o s out left right SourcesFull h long = long

pub kept_short : (s : Gtids) (out : List Span) → IsKept out → set_of out ≡ s → interval_count s ≤ most_intervals
kept_short s out kept same =
    let count = ap length (sym (runs_merged out kept.merged) ∙ ap runs same) in
    let small = kept.small in
    omega (arith, count, small)

-- the sources of what begins with one are from it on
pub begins_from : (ss : List Span) (id bound : ℕ) → BeginsWith ss id → are_from bound ss ≡ true → bound ≤ id
begins_from ss id bound begins from =
    lower (sym (ap (nat_le bound) begins.source) ∙ (and_parts (nat_le bound begins.first.source) (are_from bound begins.more) (sym (ap (are_from bound) begins.parts) ∙ from)).0)
  where
    lower : nat_le bound id ≡ true → bound ≤ id
    lower e = grind (arith, nat_tests)

-- what begins with a source gets shorter where that is taken
pub begins_shorter : (old : List Span) (id : ℕ) (numbers : List Interval) (new : List Span) → TakesSource old id numbers new → BeginsWith old id → length new < length old
begins_shorter old id [] new takes begins = absurd (let e = sym (ap (are_above id) (sym takes.parts ∙ begins.parts)) ∙ takes.above in
    let w = (and_parts (nat_lt id begins.first.source) (are_above id begins.more) e).0 in let same = begins.source in grind (arith, nat_tests))
begins_shorter old id (i ∷ is) new takes begins =
    let long = ap length takes.parts in
    let more = length-append (spans_as id is) new in
    omega (arith, long, more)

pub takes_no_more : (old : List Span) (id : ℕ) (numbers : List Interval) (new : List Span) → TakesSource old id numbers new → length new ≤ length old
takes_no_more old id numbers new takes =
    let long = ap length takes.parts in
    let more = length-append (spans_as id numbers) new in
    omega (arith, long, more)

pub next_shorter : (left right left' right' : List Span) (id : ℕ) (mine theirs : List Interval) → IsNextSource left right id → TakesSource left id mine left' → TakesSource right id theirs right'
    → length left' + length right' < length left + length right
next_shorter left right left' right' id mine theirs next l r = either next.begins
  where
    either : BeginsWith left id ⊎ BeginsWith right id → length left' + length right' < length left + length right
    either (inl b) =
        let one = begins_shorter left id mine left' l b in
        let other = takes_no_more right id theirs right' r in
        omega (arith, one, other)
    either (inr b) =
        let one = begins_shorter right id theirs right' r b in
        let other = takes_no_more left id mine left' l in
        omega (arith, one, other)

pub next_from : (o : Operation) (s : Gtids) (out left right : List Span) (id : ℕ) (h : IsMaking o s out left right) → IsNextSource left right id → h.bound ≤ id
next_from o s out left right id h next = either next.begins
  where
    either : BeginsWith left id ⊎ BeginsWith right id → h.bound ≤ id
    either (inl b) = begins_from left id h.bound b h.left_from
    either (inr b) = begins_from right id h.bound b h.right_from

-- the numbers of a source are merged, and the spans after them
pub taken_merged : (old : List Span) (id : ℕ) (numbers : List Interval) (new : List Span) → TakesSource old id numbers new → is_merged old ≡ true → (is_merged (all_numbered numbers) ≡ true) × (is_merged new ≡ true)
taken_merged old id numbers new takes merged =
    let whole = sym (ap is_merged takes.parts) ∙ merged in
    (unnamed id numbers (merged_front (spans_as id numbers) new whole), merged_back (spans_as id numbers) new whole)

-- ---- where there are no more holes

keeps : (o m r t : Bool) → (m ≡ true → r ≡ false) → (o || (m && not r)) ≡ t → (o || m) ≡ t
keeps o true r t f h = sym (ap (λ x. o || not x) (f refl)) ∙ h
keeps o false r t f h = h

pub without_holes : (out left right rest new : List Span) (x : Span) (more : List Span) (test : Gtid → Bool) → left ≡ x ∷ more → is_merged left ≡ true → is_merged out ≡ true → list_all (all_before out) left ≡ true
    → IsRest x right rest → rest ≡ [] → ((q : Gtid) → (has out q || (has left q && not (has right q))) ≡ test q) → new ≡ out ++ left → IsListOf test new
without_holes out left right rest new x more test parts merged made before holes none same e = record {
  merged = ap is_merged e ∙ merged_append out left made merged (turned out before);
  has = λ q. ap (λ ss. has ss q) e ∙ list_any-append (λ t. within t q) out left ∙ keeps (has out q) (has left q) (has right q) (test q) (λ h. missed q h) (same q);
}
  where
    turned : (xs : List Span) → list_all (all_before xs) left ≡ true → list_all (λ y. list_all (is_before y) left) xs ≡ true
    turned [] h = refl
    turned (y ∷ ys) h = and_from (list_all (is_before y) left) (list_all (λ y. list_all (is_before y) left) ys)
        (all_weaker (all_before (y ∷ ys)) (is_before y) left (λ t a. (and_parts (is_before y t) (all_before ys t) a).0) h)
        (turned ys (all_weaker (all_before (y ∷ ys)) (all_before ys) left (λ t a. (and_parts (is_before y t) (all_before ys t) a).1) h))

    reached : (q : Gtid) (b : Bool) → within x q ≡ b → (b || has more q) ≡ true → is_from (start_of x) q ≡ true
    reached q true w h = within_from x q w
    reached q false w h = more_from x more q (merged_head x more (sym (ap is_merged parts) ∙ merged)) h

    missed : (q : Gtid) → has left q ≡ true → has right q ≡ false
    missed q h = sym (holes.same q (reached q (within x q) refl (sym (ap (λ ss. has ss q) parts) ∙ h))) ∙ ap (λ ss. has ss q) none
