-- A finished node leaves the head of a chain.
use Rattle.std.proofs.Common.{◌≡◌, ℕ, zero, suc, ◌+◌, ◌-◌, ◌<◌, ◌≤◌, ◌⊎◌, Bool, true, false, not, ◌&&◌, ◌||◌, cond, List, [], ◌∷◌, ◌++◌, map, length, replicate, Option, Some, refl, sym, ap, subst, ◌∙◌, ⊎_elim, inl, inr, arith}
use Rattle.std.proofs.lemmas.Bool.{lt-ltb, le-ltb, cases_eq, cases_lt, or_parts, both_ways}
use Rattle.std.proofs.lemmas.List.{get_or-set_same, get_or-set_other, get_or_past}
use Rattle.std.specs.Prelude.{slice_index_or, slice_set}
use Rattle.std.specs.List.{AllByRecursion, IsDistinct}
use Rattle.lemmas.proofs.Tests.{not_and_parts}
use Rattle.rows.specs.declared.change.Key.{Key}
use Rattle.rows.specs.Order.{key_eq}
use Rattle.rows.specs.Total.{key_eq_same, key_eq_self}
use Rattle.rows.specs.WriteSet.{is_among}
use Rattle.dependency_graph.specs.Graphs.{Point, gone, point_at, is_open_at}
use Rattle.dependency_graph.specs.Chains.{Holds, IsAscending, first_number, with_chain}
use Rattle.dependency_graph.specs.Kept.{points, point_of, is_below, waiting, is_finished_at, Has, StartsOpen, IsChained, IsKept}
use Rattle.dependency_graph.specs.declared.graph.GraphNode.{GraphNode}
use Rattle.dependency_graph.specs.declared.chains.Chains.{Chains}
use Rattle.dependency_graph.proofs.Entries.{flip}
use Rattle.dependency_graph.proofs.Chained.{has_cases, all_has}
use Rattle.dependency_graph.proofs.Kept.{kept_at, gone_at, length_points}

-- ---- what one key counts
abbrev pub bit : ℕ → Option ℕ → ℕ
bit n o = cond (is_below n o) 1 0

waiting_apart : (f g : Key → Option ℕ) (n : ℕ) (k : Key) → ((q : Key) → key_eq q k ≡ false → g q ≡ f q) → (ks : List Key) → is_among ks k ≡ false → waiting f n ks ≡ waiting g n ks
waiting_apart f g n k h [] out = refl
waiting_apart f g n k h (x ∷ ks) out =
    let both = or_parts (key_eq k x) (is_among ks k) out in
    let here : g x ≡ f x = h x (flip x k ∙ both.0) in
    ap (λ w. cond (is_below n (f x)) 1 0 + w) (waiting_apart f g n k h ks both.1) ∙ ap (λ o. cond (is_below n o) 1 0 + waiting g n ks) (sym here)

none_among : (x : Key) (ks : List Key) → AllByRecursion (λ y. key_eq x y ≡ false) ks → is_among ks x ≡ false
none_among x [] h = refl
none_among x (k ∷ ks) h = ap (λ b. b || is_among ks x) h.0 ∙ none_among x ks h.1

pub distinct_rest : (x : Key) (ks : List Key) → IsDistinct key_eq (x ∷ ks) → IsDistinct key_eq ks
unfolding IsDistinct
distinct_rest x ks h = h.1

pub distinct_first : (x : Key) (ks : List Key) → IsDistinct key_eq (x ∷ ks) → is_among ks x ≡ false
unfolding IsDistinct
distinct_first x ks h = none_among x ks h.0

once_here : (f g : Key → Option ℕ) (n : ℕ) (k x : Key) (ks : List Key) → k ≡ x → waiting f n ks ≡ waiting g n ks → waiting f n (x ∷ ks) + bit n (g k) ≡ waiting g n (x ∷ ks) + bit n (f k)
once_here f g n k x ks same rest =
    let a : bit n (f k) ≡ bit n (f x) = ap (λ q. bit n (f q)) same in
    let b : bit n (g k) ≡ bit n (g x) = ap (λ q. bit n (g q)) same in
    omega (a, b, rest, arith)

once_later : (f g : Key → Option ℕ) (n : ℕ) (k x : Key) (ks : List Key) → g x ≡ f x → waiting f n ks + bit n (g k) ≡ waiting g n ks + bit n (f k) → waiting f n (x ∷ ks) + bit n (g k) ≡ waiting g n (x ∷ ks) + bit n (f k)
once_later f g n k x ks same rest =
    let a : bit n (g x) ≡ bit n (f x) = ap (bit n) same in
    omega (a, rest, arith)

once_by : (f g : Key → Option ℕ) (n : ℕ) (k : Key) → ((q : Key) → key_eq q k ≡ false → g q ≡ f q) → (x : Key) (ks : List Key) → IsDistinct key_eq (x ∷ ks) → (b : Bool) → key_eq k x ≡ b → (b || is_among ks k) ≡ true
    → (is_among ks k ≡ true → waiting f n ks + bit n (g k) ≡ waiting g n ks + bit n (f k)) → waiting f n (x ∷ ks) + bit n (g k) ≡ waiting g n (x ∷ ks) + bit n (f k)
once_by f g n k h x ks d true e inside rest =
    let same : k ≡ x = key_eq_same k x e in
    once_here f g n k x ks same (waiting_apart f g n k h ks (ap (is_among ks) same ∙ distinct_first x ks d))
once_by f g n k h x ks d false e inside rest = once_later f g n k x ks (h x (flip x k ∙ e)) (rest inside)

waiting_once : (f g : Key → Option ℕ) (n : ℕ) (k : Key) → ((q : Key) → key_eq q k ≡ false → g q ≡ f q) → (ks : List Key) → IsDistinct key_eq ks → is_among ks k ≡ true → waiting f n ks + bit n (g k) ≡ waiting g n ks + bit n (f k)
waiting_once f g n k h [] d inside = absurd (both_ways false refl inside)
waiting_once f g n k h (x ∷ ks) d inside = once_by f g n k h x ks d (key_eq k x) refl inside (waiting_once f g n k h ks (distinct_rest x ks d))

pub open_parts : (k : Key) (p : Point) → is_open_at k p ≡ true → (p.finished ≡ false) × (is_among p.keys k ≡ true)
open_parts k p h = not_and_parts p.finished (is_among p.keys k) h

pub open_made : (k : Key) (p : Point) → p.finished ≡ false → is_among p.keys k ≡ true → is_open_at k p ≡ true
open_made k p a b = ap (λ x. not x && is_among p.keys k) a ∙ b

pub same_some : (m n : ℕ) → Some m ≡ Some n → m ≡ n
same_some m n h = cc

module _ (ps : List Point) (chain : Key → List ℕ) (late : List Key) (chained : IsChained ps chain late)
    (k : Key) (n : ℕ) (ns : List ℕ) (is : chain k ≡ n ∷ ns) (done : is_finished_at ps n ≡ true) where
  abbrev before : Key → Option ℕ
  before q = first_number (chain q)

  abbrev after : Key → Option ℕ
  after q = first_number (with_chain chain k ns q)

  apart : (q : Key) → key_eq q k ≡ false → after q ≡ before q
  apart q e = ap (λ b. first_number (cond b ns (chain q))) e

  at_key : after k ≡ first_number ns
  at_key = ap (λ b. first_number (cond b ns (chain k))) (key_eq_self k)

  key_rising : IsAscending (n ∷ ns)
  key_rising = subst IsAscending is (chained.rising k)

  key_members : AllByRecursion (λ m. is_finished_at ps m ≡ false → is_open_at k (point_at ps m) ≡ true) (n ∷ ns)
  key_members = subst (λ xs. AllByRecursion (λ m. is_finished_at ps m ≡ false → is_open_at k (point_at ps m) ≡ true) xs) is (chained.members k)

  found_rest : (m : ℕ) → is_open_at k (point_at ps m) ≡ true → Has ns m
  found_rest m h =
      ⊎_elim (λ same. absurd (both_ways (is_finished_at ps m) (open_parts k (point_at ps m) h).0 (ap (is_finished_at ps) same ∙ done))) (λ e. e)
      (has_cases m n ns (subst (λ xs. Has xs m) is (chained.found k m h)))

  first_in : (P : ℕ → Type 0) (m : ℕ) (xs : List ℕ) → first_number xs ≡ Some m → AllByRecursion P xs → P m
  first_in P m [] e h = cc
  first_in P m (x ∷ xs) e h = subst P (same_some x m e) h.0

  later_first : (m x : ℕ) (xs : List ℕ) → Has (x ∷ xs) m → IsAscending (x ∷ xs) → (Some x ≡ Some m → ⊥) → x < m
  later_first m x xs h r ne = ⊎_elim (λ same. absurd (ne (ap Some (sym same)))) (all_has (λ j. x < j) xs m r.0) (has_cases m x xs h)

  rest_bit : (m : ℕ) (xs : List ℕ) → Has xs m → IsAscending xs → (first_number xs ≡ Some m → ⊥) → bit m (first_number xs) ≡ 1
  rest_bit m [] h r ne = absurd (both_ways false refl h)
  rest_bit m (x ∷ xs) h r ne = ap (λ b. cond b 1 0) (lt-ltb x m (later_first m x xs h r ne))

  here_bit : (m : ℕ) (o : Option ℕ) → o ≡ Some m → bit m o ≡ 0
  here_bit m o e = ap (bit m) e ∙ ap (λ b. cond b 1 0) (le-ltb m m (omega arith))

  module _ (m : ℕ) (ks : List Key) (distinct : IsDistinct key_eq ks) (open_one : is_finished_at ps m ≡ false) (keys : (point_at ps m).keys ≡ ks) where
    abbrev Steps : Type 0
    Steps = (first_number ns ≡ Some m → waiting before m ks ≡ waiting after m ks + 1) × ((first_number ns ≡ Some m → ⊥) → waiting before m ks ≡ waiting after m ks)

    among_step : is_among ks k ≡ true → Steps
    among_step inside =
        let open_key : is_open_at k (point_at ps m) ≡ true = open_made k (point_at ps m) open_one (ap (λ xs. is_among xs k) keys ∙ inside) in
        let rest : Has ns m = found_rest m open_key in
        let once : waiting before m ks + bit m (after k) ≡ waiting after m ks + bit m (before k) = waiting_once before after m k apart ks distinct inside in
        let old : bit m (before k) ≡ 1 = ap (λ xs. bit m (first_number xs)) is ∙ ap (λ b. cond b 1 0) (lt-ltb n m (all_has (λ j. n < j) ns m key_rising.0 rest)) in (
          (λ first. let new : bit m (after k) ≡ 0 = here_bit m (after k) (at_key ∙ first) in omega (once, old, new, arith)),
          (λ other. let new : bit m (after k) ≡ 1 = ap (bit m) at_key ∙ rest_bit m ns rest key_rising.1 other in omega (once, old, new, arith)),
        )

    apart_step : is_among ks k ≡ false → Steps
    apart_step out = (
      (λ first. absurd (both_ways (is_among ks k) out
          (ap (λ xs. is_among xs k) (sym keys) ∙ (open_parts k (point_at ps m) (first_in (λ j. is_finished_at ps j ≡ false → is_open_at k (point_at ps j) ≡ true) m ns first key_members.1 open_one)).1))),
      (λ other. waiting_apart before after m k apart ks out),
    )

    by_among : (b : Bool) → is_among ks k ≡ b → Steps
    by_among true e = among_step e
    by_among false e = apart_step e

    count_step : Steps
    count_step = by_among (is_among ks k) refl

  -- ---- the chains
  rising_popped : (b : Bool) (q : Key) → IsAscending (cond b ns (chain q))
  rising_popped true q = key_rising.1
  rising_popped false q = chained.rising q

  below_popped : (b : Bool) (q : Key) → AllByRecursion (λ j. j < length ps) (cond b ns (chain q))
  below_popped true q = (subst (λ xs. AllByRecursion (λ j. j < length ps) xs) is (chained.below k)).1
  below_popped false q = chained.below q

  members_popped : (b : Bool) (q : Key) → key_eq q k ≡ b → AllByRecursion (λ j. is_finished_at ps j ≡ false → is_open_at q (point_at ps j) ≡ true) (cond b ns (chain q))
  members_popped true q e = subst (λ x. AllByRecursion (λ j. is_finished_at ps j ≡ false → is_open_at x (point_at ps j) ≡ true) ns) (sym (key_eq_same q k e)) key_members.1
  members_popped false q e = chained.members q

  found_popped : (b : Bool) (q : Key) → key_eq q k ≡ b → (j : ℕ) → is_open_at q (point_at ps j) ≡ true → Has (cond b ns (chain q)) j
  found_popped true q e j h = found_rest j (ap (λ x. is_open_at x (point_at ps j)) (sym (key_eq_same q k e)) ∙ h)
  found_popped false q e j h = chained.found q j h

  starts_late : (xs : List ℕ) (q : Key) → is_among late q ≡ true → StartsOpen ps (is_among late q) xs
  starts_late [] q e = tt
  starts_late (x ∷ xs) q e = inr e

  starts_popped : is_among late k ≡ true → (b : Bool) (q : Key) → key_eq q k ≡ b → StartsOpen ps (is_among late q) (cond b ns (chain q))
  starts_popped l true q e = starts_late ns q (ap (is_among late) (key_eq_same q k e) ∙ l)
  starts_popped l false q e = chained.starts q

  pub chained_popped : is_among late k ≡ true → IsChained ps (with_chain chain k ns) late
  chained_popped l = record {
    rising = λ q. rising_popped (key_eq q k) q;
    below = λ q. below_popped (key_eq q k) q;
    members = λ q. members_popped (key_eq q k) q refl;
    found = λ q. found_popped (key_eq q k) q refl;
    starts = λ q. starts_popped l (key_eq q k) q refl;
  }

-- ---- the nodes
pub node_in_set : (nodes : List GraphNode) (j i : ℕ) (x y : GraphNode) → j < length nodes → y ≡ slice_index_or (slice_set nodes j x) i y → ((i ≡ j) × (y ≡ x)) ⊎ ((i ≡ j → ⊥) × (y ≡ slice_index_or nodes i y))
node_in_set nodes j i x y lt h =
    ⊎_elim (λ same. inl (same, h ∙ ap (λ n. slice_index_or (slice_set nodes j x) n y) same ∙ get_or-set_same nodes j x y lt))
    (λ other. inr (other, h ∙ get_or-set_other nodes j i x y other)) (cases_eq i j)

pub length_set : (nodes : List GraphNode) (j : ℕ) (x : GraphNode) → length (slice_set nodes j x) ≡ length nodes
length_set [] j x = refl
length_set (n ∷ nodes) zero x = refl
length_set (n ∷ nodes) (suc j) x = ap suc (length_set nodes j x)

pub same_points : (nodes : List GraphNode) (j : ℕ) (x y : GraphNode) → x ≡ slice_index_or nodes j x → j < length nodes → point_of y ≡ point_of x → map point_of (slice_set nodes j y) ≡ map point_of nodes
same_points [] j x y h lt e = absurd (omega (lt, arith))
same_points (n ∷ nodes) zero x y h lt e = ap (λ p. p ∷ map point_of nodes) (e ∙ ap point_of h)
same_points (n ∷ nodes) (suc j) x y h lt e = ap (λ qs. point_of n ∷ qs) (same_points nodes j x y h (omega (lt, arith)) e)

unfinished_by : (d : ℕ) (nodes : List GraphNode) (m : ℕ) → (m < d) ⊎ (d ≤ m) → ((m - d) < length nodes) ⊎ (length nodes ≤ (m - d)) → is_finished_at (points d nodes) m ≡ false → (d ≤ m) × ((m - d) < length nodes)
unfinished_by d nodes m (inl lt) b e = absurd (both_ways (is_finished_at (points d nodes) m) e (ap (λ (p : Point). p.finished) (gone_at d m (map point_of nodes) lt)))
unfinished_by d nodes m (inr le) (inl lt) e = (le, lt)
unfinished_by d nodes m (inr le) (inr past) e =
    let size = length_points d nodes in
    absurd (both_ways (is_finished_at (points d nodes) m) e (ap (λ (p : Point). p.finished) (get_or_past (points d nodes) m gone (omega (size, past, le, arith)))))

pub unfinished_kept : (d : ℕ) (nodes : List GraphNode) (m : ℕ) → is_finished_at (points d nodes) m ≡ false → (d ≤ m) × ((m - d) < length nodes)
unfinished_kept d nodes m e = unfinished_by d nodes m (cases_lt m d) (cases_lt (m - d) (length nodes)) e

module _ (d : ℕ) (nodes : List GraphNode) (c new : Chains) (late : List Key) (kept : IsKept d nodes c late)
    (k : Key) (n : ℕ) (ns : List ℕ) (is : kept.chain k ≡ n ∷ ns) (done : is_finished_at (points d nodes) n ≡ true) (inside : is_among late k ≡ true)
    (holds : Holds new (with_chain kept.chain k ns)) where
  abbrev old_first : Key → Option ℕ
  old_first q = first_number (kept.chain q)

  abbrev new_first : Key → Option ℕ
  new_first q = first_number (with_chain kept.chain k ns q)

  steps : (i : ℕ) (x : GraphNode) → i < length nodes → x ≡ slice_index_or nodes i x → x.finished ≡ false
      → (first_number ns ≡ Some (d + i) → waiting old_first (d + i) x.keys.items ≡ waiting new_first (d + i) x.keys.items + 1)
      × ((first_number ns ≡ Some (d + i) → ⊥) → waiting old_first (d + i) x.keys.items ≡ waiting new_first (d + i) x.keys.items)
  steps i x lt at open_one =
      let here : point_at (points d nodes) (d + i) ≡ point_of x = kept_at d i nodes x (sym at) lt in
      count_step (points d nodes) kept.chain late kept.chained k n ns is done (d + i) x.keys.items (kept.distinct i x lt at)
      (ap (λ (p : Point). p.finished) here ∙ open_one) (ap (λ (p : Point). p.keys) here)

  pub waits_one : (m : ℕ) (x : GraphNode) → first_number ns ≡ Some m → is_finished_at (points d nodes) m ≡ false → x ≡ slice_index_or nodes (m - d) x → 1 ≤ x.waits
  waits_one m x first open_one at =
      let within = unfinished_kept d nodes m open_one in
      let same : d + (m - d) ≡ m = omega (within.0, arith) in
      let here : point_at (points d nodes) (d + (m - d)) ≡ point_of x = kept_at d (m - d) nodes x (sym at) within.1 in
      let unfinished : x.finished ≡ false = sym (ap (λ (p : Point). p.finished) here) ∙ ap (is_finished_at (points d nodes)) same ∙ open_one in
      let step = (steps (m - d) x within.1 at unfinished).0 (first ∙ ap Some (sym same)) in
      let waits = kept.counted (m - d) x within.1 at unfinished in
      omega (step, waits, arith)

  pub popped_same : ((m : ℕ) → first_number ns ≡ Some m → is_finished_at (points d nodes) m ≡ true) → IsKept d nodes new late
  popped_same all_done = record {
    chain = with_chain kept.chain k ns;
    holds = holds;
    small = kept.small;
    distinct = kept.distinct;
    chained = chained_popped (points d nodes) kept.chain late kept.chained k n ns is done inside;
    counted = λ i x lt at open_one.
        kept.counted i x lt at open_one
        ∙ (steps i x lt at open_one).1 (λ first. both_ways (is_finished_at (points d nodes) (d + i))
        (ap (λ (p : Point). p.finished) (kept_at d i nodes x (sym at) lt) ∙ open_one) (all_done (d + i) first));
  }

  module _ (m : ℕ) (x : GraphNode) (first : first_number ns ≡ Some m) (open_one : is_finished_at (points d nodes) m ≡ false) (at : x ≡ slice_index_or nodes (m - d) x) where
    abbrev lowered : GraphNode
    lowered = record x { waits = x.waits - 1 }

    within : (d ≤ m) × ((m - d) < length nodes)
    within = unfinished_kept d nodes m open_one

    points_same : points d (slice_set nodes (m - d) lowered) ≡ points d nodes
    points_same = ap (λ qs. replicate d gone ++ qs) (same_points nodes (m - d) x lowered at within.1 refl)

    counted_here : (i : ℕ) → i ≡ m - d → x.finished ≡ false → (x.waits - 1) ≡ waiting new_first (d + i) x.keys.items
    counted_here i e unfinished =
        let le = within.0 in
        let same : d + i ≡ m = omega (e, le, arith) in
        let lt : i < length nodes = let w = within.1 in omega (w, e, arith) in
        let read : x ≡ slice_index_or nodes i x = at ∙ ap (λ j. slice_index_or nodes j x) (sym e) in
        let step = (steps i x lt read unfinished).0 (first ∙ ap Some (sym same)) in
        let waits = kept.counted i x lt read unfinished in
        omega (step, waits, arith)

    counted_other : (i : ℕ) (y : GraphNode) → (i ≡ m - d → ⊥) → i < length nodes → y ≡ slice_index_or nodes i y → y.finished ≡ false → y.waits ≡ waiting new_first (d + i) y.keys.items
    counted_other i y ne lt read unfinished =
        kept.counted i y lt read unfinished
        ∙ (steps i y lt read unfinished).1 (λ e. ne (let same = same_some m (d + i) (sym first ∙ e) in omega (same, arith)))

    pub popped_less : IsKept d (slice_set nodes (m - d) lowered) new late
    popped_less = record {
      chain = with_chain kept.chain k ns;
      holds = holds;
      small = let size = length_set nodes (m - d) lowered in let old = kept.small in omega (size, old, arith);
      distinct = λ i y lt read.
          let size = length_set nodes (m - d) lowered in
          let lt_old : i < length nodes = omega (lt, size, arith) in
          ⊎_elim (λ here. subst (λ (z : GraphNode). IsDistinct key_eq z.keys.items) (sym here.1) (kept.distinct (m - d) x within.1 at))
          (λ other. kept.distinct i y lt_old other.1) (node_in_set nodes (m - d) i lowered y within.1 read);
      chained = subst (λ qs. IsChained qs (with_chain kept.chain k ns) late) (sym points_same) (chained_popped (points d nodes) kept.chain late kept.chained k n ns is done inside);
      counted = λ i y lt read unfinished.
          let size = length_set nodes (m - d) lowered in
          let lt_old : i < length nodes = omega (lt, size, arith) in
          ⊎_elim (λ here. subst (λ (z : GraphNode). z.waits ≡ waiting new_first (d + i) z.keys.items) (sym here.1)
          (counted_here i here.0 (sym (ap (λ (z : GraphNode). z.finished) here.1) ∙ unfinished)))
          (λ other. counted_other i y other.0 lt_old other.1 unfinished) (node_in_set nodes (m - d) i lowered y within.1 read);
    }
