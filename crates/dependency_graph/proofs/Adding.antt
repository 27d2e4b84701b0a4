-- A node is added after the others, and linked at each of its keys.
use Rattle.std.proofs.Common.{◌≡◌, ℕ, zero, suc, ◌+◌, ◌-◌, ◌<◌, ◌≤◌, ◌⊎◌, Bool, true, false, ◌||◌, cond, List, [], ◌∷◌, ◌++◌, map, length, replicate, Option, is_some, refl, sym, ap, subst, ◌∙◌, ⊎_elim, inl, inr, arith, take, drop, append_assoc, nat_eq, eq-eqb}
use Rattle.std.proofs.lemmas.Bool.{lt-ltb, le-ltb, cases_lt, both_ways}
use Rattle.std.proofs.lemmas.List.{take_more, drop_more, map-append, length_push, get_or_append_left, get_or_push, get_or_past}
use Rattle.std.specs.Prelude.{slice_index_or, slice_set}
use Rattle.std.specs.List.{AllByRecursion, IsDistinct, list_any}
use Rattle.rows.specs.declared.change.Key.{Key}
use Rattle.rows.specs.Order.{key_eq}
use Rattle.rows.specs.Total.{key_eq_same}
use Rattle.rows.specs.WriteSet.{is_among}
use Rattle.dependency_graph.specs.Graphs.{Awaiting, Point, gone, point_at, is_open_at, unfinished}
use Rattle.dependency_graph.specs.Chains.{Holds, HasEntry, HasLast, HasRoom, KeepsRoom, Pushes, IsSame, IsAscending, ends_at, with_chain, with_node, first_number}
use Rattle.dependency_graph.specs.Kept.{points, point_of, is_below, waiting, is_finished_at, Has, StartsOpen, IsChained, IsKept, IsBelow, LinksAll, CountsAll, awaiting_of, keys_at}
use Rattle.dependency_graph.specs.declared.graph.GraphNode.{GraphNode}
use Rattle.dependency_graph.specs.declared.chains.Chains.{Chains}
use Rattle.dependency_graph.proofs.Entries.{flip, all_stay}
use Rattle.dependency_graph.proofs.Linked.{push_holds, same_holds, has_last, had_one_is, holds_alike, rising_push, all_both}
use Rattle.dependency_graph.proofs.Chained.{waiting_same}
use Rattle.dependency_graph.proofs.Popping.{open_parts, open_made}
use Rattle.dependency_graph.proofs.Kept.{length_points}
use mathlib.Core.Bool.{or-false}
use Rattle.lemmas.proofs.Lists.{all_push}

-- ---- one key more
all_at : (P : Key → Type 0) (ks : List Key) (i : ℕ) (k : Key) → AllByRecursion P ks → i < length ks → k ≡ slice_index_or ks i k → P k
all_at P [] i k h lt at = absurd (omega (lt, arith))
all_at P (x ∷ ks) zero k h lt at = subst P (sym at) h.0
all_at P (x ∷ ks) (suc i) k h lt at = all_at P ks i k h.1 (omega (lt, arith)) at

not_before : (ks : List Key) (i : ℕ) (k : Key) → IsDistinct key_eq ks → i < length ks → k ≡ slice_index_or ks i k → is_among (take i ks) k ≡ false
unfolding IsDistinct
not_before [] i k d lt at = absurd (omega (lt, arith))
not_before (x ∷ ks) zero k d lt at = refl
not_before (x ∷ ks) (suc i) k d lt at =
    ap (λ b. b || is_among (take i ks) k) (flip k x ∙ all_at (λ y. key_eq x y ≡ false) ks i k d.0 (omega (lt, arith)) at)
    ∙ not_before ks i k d.1 (omega (lt, arith)) at

among_push : (ks : List Key) (k q : Key) → is_among (ks ++ k ∷ []) q ≡ (is_among ks q || key_eq q k)
among_push [] k q = or_false (key_eq q k)
  where
    or_false : (b : Bool) → (b || false) ≡ b
    or_false true = refl
    or_false false = refl
among_push (x ∷ ks) k q = ap (λ b. key_eq q x || b) (among_push ks k q) ∙ or_assoc (key_eq q x) (is_among ks q) (key_eq q k)
  where
    or_assoc : (a b c : Bool) → (a || (b || c)) ≡ ((a || b) || c)
    or_assoc true b c = refl
    or_assoc false b c = refl

or_true : (b : Bool) → (b || true) ≡ true
or_true true = refl
or_true false = refl

module _ (f : Key → List ℕ) (ks : List Key) (k : Key) (node : ℕ) (out : is_among ks k ≡ false) where
  key_free : with_node f ks node k ≡ f k
  key_free = ap (λ b. cond b (f k ++ node ∷ []) (f k)) out

  same_by : (q : Key) (b : Bool) → key_eq q k ≡ b → cond b (with_node f ks node k ++ node ∷ []) (with_node f ks node q) ≡ cond (is_among ks q || b) (f q ++ node ∷ []) (f q)
  same_by q true e =
      ap (λ ns. ns ++ node ∷ []) (key_free ∙ ap f (sym (key_eq_same q k e)))
      ∙ ap (λ b. cond b (f q ++ node ∷ []) (f q)) (sym (or_true (is_among ks q)))
  same_by q false e = ap (λ b. cond b (f q ++ node ∷ []) (f q)) (sym (or-false (is_among ks q)))

  more_same : (q : Key) → with_chain (with_node f ks node) k (with_node f ks node k ++ node ∷ []) q ≡ with_node f (ks ++ k ∷ []) node q
  more_same q = same_by q (key_eq q k) refl ∙ ap (λ b. cond b (f q ++ node ∷ []) (f q)) (sym (among_push ks k q))

pub links_more : (c0 c1 c2 : Chains) (ks : List Key) (i : ℕ) (k : Key) (node : ℕ) → IsDistinct key_eq ks → i < length ks → k ≡ slice_index_or ks i k
    → LinksAll c0 c1 (take i ks) node → (HasLast c1 k → Pushes c1 c2 k node) → LinksAll c0 c2 (take (i + 1) ks) node
links_more c0 c1 c2 ks i k node d lt at links push = λ f h below.
    let out = not_before ks i k d lt at in
    let held = links f h below in
    let g : Key → List ℕ = with_node f (take i ks) node in
    let free : g k ≡ f k = key_free f (take i ks) k node out in
    let less : AllByRecursion (λ n. n < node) (g k) = subst (λ ns. AllByRecursion (λ n. n < node) ns) (sym free) (below k) in
    let pushed = push_holds c1 c2 k node g (push (has_last c1 g held k)) held less in
    let all : with_node f (take i ks ++ k ∷ []) node ≡ with_node f (take (i + 1) ks) node =
    ap (λ xs. with_node f (take i ks ++ xs ∷ []) node) at ∙ ap (λ xs. with_node f xs node) (sym (take_more ks i k lt)) in
    subst (Holds c2) all (holds_alike c2 (with_chain g k (g k ++ node ∷ [])) (with_node f (take i ks ++ k ∷ []) node) (more_same f (take i ks) k node out) pushed)

waiting_push : (first : Key → Option ℕ) (n : ℕ) (ks : List Key) (k : Key) → waiting first n (ks ++ k ∷ []) ≡ waiting first n ks + cond (is_below n (first k)) 1 0
waiting_push first n [] k = omega arith
waiting_push first n (x ∷ ks) k = let more = waiting_push first n ks k in omega (more, arith)

below_some : (n : ℕ) (ns : List ℕ) → AllByRecursion (λ m. m < n) ns → is_below n (first_number ns) ≡ is_some (first_number ns)
below_some n [] h = refl
below_some n (m ∷ ns) h = lt-ltb m n h.0

-- the count after one key more
pub counts_more : (c0 c1 : Chains) (ks : List Key) (i : ℕ) (k : Key) (node waits now : ℕ) (had : Bool) → IsDistinct key_eq ks → i < length ks → k ≡ slice_index_or ks i k
    → LinksAll c0 c1 (take i ks) node → CountsAll c0 (take i ks) node waits → had ≡ is_some (ends_at c1 k) → now ≡ waits + cond had 1 0 → CountsAll c0 (take (i + 1) ks) node now
counts_more c0 c1 ks i k node waits now had d lt at links counts had_is is = λ f h below.
    let out = not_before ks i k d lt at in
    let g : Key → List ℕ = with_node f (take i ks) node in
    let held : Holds c1 g = links f h below in
    let one : had ≡ is_below node (first_number (f k)) =
    had_is ∙ had_one_is c1 g held k ∙ ap (λ ns. is_some (first_number ns)) (key_free f (take i ks) k node out) ∙ sym (below_some node (f k) (below k)) in
    let so_far = counts f h below in
    let bit : ◌≡◌ {A = ℕ} (cond had 1 0) (cond (is_below node (first_number (f k))) 1 0) = ap (λ b. cond b 1 0) one in
    let pushed = waiting_push (λ q. first_number (f q)) node (take i ks) k in
    let sum : now ≡ waiting (λ q. first_number (f q)) node (take i ks ++ k ∷ []) = omega (is, so_far, bit, pushed, arith) in
    sum ∙ ap (λ xs. waiting (λ q. first_number (f q)) node (take i ks ++ xs ∷ [])) at ∙ ap (waiting (λ q. first_number (f q)) node) (sym (take_more ks i k lt))

pub room_more : (c1 c2 : Chains) (ks : List Key) (i : ℕ) (d : Key) → i < length ks → KeepsRoom c1 c2 → HasRoom c1 (drop i ks) → HasRoom c2 (drop (i + 1) ks)
room_more c1 c2 ks i d lt keeps room =
    let parts = drop_more ks i d lt in
    let all : HasRoom c1 (slice_index_or ks i d ∷ drop (i + 1) ks) = subst (HasRoom c1) parts room in
    record {
      edges = keeps.edges (length (drop (i + 1) ks)) all.edges;
      entries = all_stay c1 c2 keeps.entries (drop (i + 1) ks) all.entries.1;
    }

pub room_here : (c : Chains) (ks : List Key) (i : ℕ) (k : Key) → i < length ks → k ≡ slice_index_or ks i k → HasRoom c (drop i ks) → HasRoom c (k ∷ [])
room_here c ks i k lt at room =
    let parts = drop_more ks i k lt in
    let all : HasRoom c (slice_index_or ks i k ∷ drop (i + 1) ks) = subst (HasRoom c) parts room in
    record {
      edges = let edges = all.edges in omega (edges, arith);
      entries = (subst (HasEntry c) (sym at) all.entries.0, tt);
    }

-- ---- the node
pub points_push : (d : ℕ) (nodes : List GraphNode) (x : GraphNode) → points d (nodes ++ x ∷ []) ≡ points d nodes ++ point_of x ∷ []
points_push d nodes x = ap (λ qs. replicate d gone ++ qs) (map-append point_of nodes (x ∷ [])) ∙ sym (append_assoc (replicate d gone) (map point_of nodes) (point_of x ∷ []))

pub set_last : (nodes : List GraphNode) (x y : GraphNode) (at : ℕ) → at ≡ length nodes → slice_set (nodes ++ x ∷ []) at y ≡ nodes ++ y ∷ []
set_last [] x y zero e = refl
set_last [] x y (suc at) e = absurd (omega (e, arith))
set_last (n ∷ nodes) x y zero e = absurd (omega (e, arith))
set_last (n ∷ nodes) x y (suc at) e = ap (λ ns. n ∷ ns) (set_last nodes x y at (omega (e, arith)))

has_by : (n m : ℕ) (ns : List ℕ) (b : Bool) → (Has ns m → Has (ns ++ n ∷ []) m) → (b || list_any (λ j. nat_eq j m) ns) ≡ true → (b || list_any (λ j. nat_eq j m) (ns ++ n ∷ [])) ≡ true
has_by n m ns true more e = refl
has_by n m ns false more e = more e

has_push : (ns : List ℕ) (n m : ℕ) → Has ns m → Has (ns ++ n ∷ []) m
has_push [] n m h = absurd (both_ways false refl h)
has_push (x ∷ ns) n m h = has_by n m ns (nat_eq x m) (has_push ns n m) h

has_last_one : (ns : List ℕ) (n : ℕ) → Has (ns ++ n ∷ []) n
has_last_one [] n = ap (λ b. b || false) (eq-eqb n n refl)
has_last_one (x ∷ ns) n = ap (λ b. nat_eq x n || b) (has_last_one ns n) ∙ or_true (nat_eq x n)

no_later : (n m : ℕ) (ns : List ℕ) (b : Bool) → m ≤ n → is_below m (first_number (cond b (ns ++ n ∷ []) ns)) ≡ is_below m (first_number ns)
no_later n m [] true le = le-ltb n m le
no_later n m (x ∷ ns) true le = refl
no_later n m ns false le = refl

-- a node more, in each of the chains of its keys
module _ (d : ℕ) (nodes : List GraphNode) (c new : Chains) (kept : IsKept d nodes c []) (keys : List Key) (n : ℕ) (n_is : n ≡ d + length nodes) (few : n < 4294967294)
    (distinct : IsDistinct key_eq keys) (links : LinksAll c new keys n) (waits : ℕ) (counts : CountsAll c keys n waits)
    (x : GraphNode) (open_one : x.finished ≡ false) (waits_is : x.waits ≡ waits) (keys_are : x.keys.items ≡ keys) where
  abbrev ps : List Point
  ps = points d nodes

  abbrev qs : List Point
  qs = points d nodes ++ point_of x ∷ []

  size : n ≡ length ps
  size = n_is ∙ sym (length_points d nodes)

  below : IsBelow kept.chain n
  below k = subst (λ m. AllByRecursion (λ j. j < m) (kept.chain k)) (sym size) (kept.chained.below k)

  older : (m : ℕ) → m < n → point_at qs m ≡ point_at ps m
  older m lt = get_or_append_left ps (point_of x ∷ []) gone m (let s = size in omega (s, lt, arith))

  newest : point_at qs n ≡ point_of x
  newest = get_or_push ps (point_of x) gone n (sym size)

  past : (m : ℕ) → n < m → point_at qs m ≡ gone
  past m lt = get_or_past qs m gone (let s = size in let more = length_push ps (point_of x) in omega (s, lt, more, arith))

  below_both : (k : Key) (P : ℕ → Type 0) → AllByRecursion P (kept.chain k) → P n → (b : Bool) → AllByRecursion P (cond b (kept.chain k ++ n ∷ []) (kept.chain k))
  below_both k P h g true = all_push P (kept.chain k) n h g
  below_both k P h g false = h

  rising_added : (k : Key) (b : Bool) → IsAscending (cond b (kept.chain k ++ n ∷ []) (kept.chain k))
  rising_added k true = rising_push (kept.chain k) n (below k) (kept.chained.rising k)
  rising_added k false = kept.chained.rising k

  below_added : (k : Key) → AllByRecursion (λ m. m < length qs) (kept.chain k)
  below_added k =
      all_both (λ m. m < n) (λ m. m < n) (λ m. m < length qs) (kept.chain k)
      (λ m lt again. let s = size in let more = length_push ps (point_of x) in omega (s, lt, more, arith)) (below k) (below k)

  abbrev Fits : Key → ℕ → Type 0
  Fits k m = is_finished_at qs m ≡ false → is_open_at k (point_at qs m) ≡ true

  members_older : (k : Key) → AllByRecursion (Fits k) (kept.chain k)
  members_older k =
      all_both (λ m. m < n) (λ m. is_finished_at ps m ≡ false → is_open_at k (point_at ps m) ≡ true) (Fits k) (kept.chain k)
      (λ m lt h unfinished_one. ap (is_open_at k) (older m lt) ∙ h (sym (ap (λ (p : Point). p.finished) (older m lt)) ∙ unfinished_one)) (below k) (kept.chained.members k)

  members_added : (k : Key) (b : Bool) → is_among keys k ≡ b → AllByRecursion (Fits k) (cond b (kept.chain k ++ n ∷ []) (kept.chain k))
  members_added k true e =
      all_push (Fits k) (kept.chain k) n (members_older k)
      (λ unfinished_one. open_made k (point_at qs n) unfinished_one (ap (λ (p : Point). is_among p.keys k) newest ∙ ap (λ ks. is_among ks k) keys_are ∙ e))
  members_added k false e = members_older k

  has_both : (k : Key) (m : ℕ) → Has (kept.chain k) m → (b : Bool) → Has (cond b (kept.chain k ++ n ∷ []) (kept.chain k)) m
  has_both k m h true = has_push (kept.chain k) n m h
  has_both k m h false = h

  has_newest : (k : Key) (b : Bool) → is_among keys k ≡ b → is_among keys k ≡ true → Has (cond b (kept.chain k ++ n ∷ []) (kept.chain k)) n
  has_newest k true e h = has_last_one (kept.chain k) n
  has_newest k false e h = absurd (both_ways (is_among keys k) e h)

  found_added : (k : Key) (m : ℕ) → is_open_at k (point_at qs m) ≡ true → Has (with_node kept.chain keys n k) m
  found_added k m h =
      ⊎_elim (λ lt. has_both k m (kept.chained.found k m (ap (is_open_at k) (sym (older m lt)) ∙ h)) (is_among keys k))
      (λ le. ⊎_elim (λ far. absurd (both_ways (is_open_at k gone) refl (ap (is_open_at k) (sym (past m far)) ∙ h)))
      (λ near.
      let same : m ≡ n = omega (le, near, arith) in
      let inside : is_among keys k ≡ true =
      ap (λ ks. is_among ks k) (sym keys_are) ∙ (open_parts k (point_of x) (ap (is_open_at k) (sym newest) ∙ ap (λ j. is_open_at k (point_at qs j)) (sym same) ∙ h)).1 in
      subst (Has (with_node kept.chain keys n k)) (sym same) (has_newest k (is_among keys k) refl inside))
      (cases_lt n m))
      (cases_lt m n)

  starts_by : (ns : List ℕ) → AllByRecursion (λ m. m < n) ns → StartsOpen ps false ns → (b : Bool) → StartsOpen qs false (cond b (ns ++ n ∷ []) ns)
  starts_by [] less h true = inl (ap (λ (p : Point). p.finished) newest ∙ open_one)
  starts_by [] less h false = tt
  starts_by (m ∷ ns) less h true = ⊎_elim (λ e. inl (ap (λ (p : Point). p.finished) (older m less.0) ∙ e)) inr h
  starts_by (m ∷ ns) less h false = ⊎_elim (λ e. inl (ap (λ (p : Point). p.finished) (older m less.0) ∙ e)) inr h

  chained_added : IsChained qs (with_node kept.chain keys n) []
  chained_added = record {
    rising = λ k. rising_added k (is_among keys k);
    below = λ k. below_both k (λ m. m < length qs) (below_added k) (let s = size in let more = length_push ps (point_of x) in omega (s, more, arith)) (is_among keys k);
    members = λ k. members_added k (is_among keys k) refl;
    found = found_added;
    starts = λ k. starts_by (kept.chain k) (below k) (kept.chained.starts k) (is_among keys k);
  }

  old_or_new : (i : ℕ) (y : GraphNode) → i < length (nodes ++ x ∷ []) → y ≡ slice_index_or (nodes ++ x ∷ []) i y → ((i < length nodes) × (y ≡ slice_index_or nodes i y)) ⊎ ((i ≡ length nodes) × (y ≡ x))
  old_or_new i y lt at =
      ⊎_elim (λ less. inl (less, at ∙ get_or_append_left nodes (x ∷ []) y i less))
      (λ le. let more = length_push nodes x in let same : i ≡ length nodes = omega (le, more, lt, arith) in inr (same, at ∙ get_or_push nodes x y i (sym same))) (cases_lt i (length nodes))

  counts_same : (m : ℕ) → m ≤ n → (ks : List Key) → waiting (λ k. first_number (kept.chain k)) m ks ≡ waiting (λ k. first_number (with_node kept.chain keys n k)) m ks
  counts_same m le ks = waiting_same (λ k. first_number (kept.chain k)) (λ k. first_number (with_node kept.chain keys n k)) m (λ k. sym (no_later n m (kept.chain k) (is_among keys k) le)) ks

  pub kept_added : IsKept d (nodes ++ x ∷ []) new []
  kept_added = record {
    chain = with_node kept.chain keys n;
    holds = links kept.chain kept.holds below;
    small = let more = length_push nodes x in let is = n_is in omega (more, is, few, arith);
    distinct = λ i y lt at.
        ⊎_elim (λ old. kept.distinct i y old.0 old.1) (λ last. subst (λ (z : GraphNode). IsDistinct key_eq z.keys.items) (sym last.1) (subst (IsDistinct key_eq) (sym keys_are) distinct)) (old_or_new i y lt at);
    chained = subst (λ rs. IsChained rs (with_node kept.chain keys n) []) (sym (points_push d nodes x)) chained_added;
    counted = λ i y lt at unfinished_one.
        ⊎_elim (λ old. kept.counted i y old.0 old.1 unfinished_one ∙ counts_same (d + i) (let is = n_is in let less = old.0 in omega (is, less, arith)) y.keys.items)
        (λ last.
        let itself : n ≤ n = omega arith in
        let here : n ≡ d + i = let is = n_is in let same = last.0 in omega (is, same, arith) in
        subst (λ (z : GraphNode). z.waits ≡ waiting (λ k. first_number (with_node kept.chain keys n k)) (d + i) z.keys.items) (sym last.1)
        (waits_is ∙ counts kept.chain kept.holds below ∙ counts_same n itself keys
        ∙ ap (waiting (λ k. first_number (with_node kept.chain keys n k)) n) (sym keys_are)
        ∙ ap (λ m. waiting (λ k. first_number (with_node kept.chain keys n k)) m x.keys.items) here))
        (old_or_new i y lt at);
  }

pub kept_reserved : (d : ℕ) (nodes : List GraphNode) (c new : Chains) → IsSame c new → IsKept d nodes c [] → IsKept d nodes new []
kept_reserved d nodes c new same kept = record {
  chain = kept.chain;
  holds = same_holds c new same kept.chain kept.holds;
  small = kept.small;
  distinct = kept.distinct;
  chained = kept.chained;
  counted = kept.counted;
}

pub read_last : (nodes now : List GraphNode) (x y : GraphNode) (at : ℕ) → at ≡ length nodes → now ≡ nodes ++ x ∷ [] → y ≡ slice_index_or now at y → y ≡ x
read_last nodes now x y at at_is now_is read = read ∙ ap (λ ns. slice_index_or ns at y) now_is ∙ get_or_push nodes x y at (sym at_is)

module _ (d : ℕ) (nodes now : List GraphNode) (x y : GraphNode) (at : ℕ) (keys : List Key) (waits : ℕ) (at_is : at ≡ length nodes) (now_is : now ≡ nodes ++ x ∷ [])
    (read : y ≡ slice_index_or now at y) (open_one : x.finished ≡ false) (keys_are : x.keys.items ≡ keys) where
  abbrev counting : GraphNode
  counting = record y { waits = waits }

  pushed_here : y ≡ x
  pushed_here = read_last nodes now x y at at_is now_is read

  set_now : slice_set now at counting ≡ nodes ++ counting ∷ []
  set_now = ap (λ ns. slice_set ns at counting) now_is ∙ set_last nodes x counting at at_is

  open_now : y.finished ≡ false
  open_now = ap (λ (n : GraphNode). n.finished) pushed_here ∙ open_one

  keys_now : y.keys.items ≡ keys
  keys_now = ap (λ (n : GraphNode). n.keys.items) pushed_here ∙ keys_are

  pub kept_pushed : (mid new : Chains) → IsKept d nodes mid [] → d + at < 4294967294 → IsDistinct key_eq keys → LinksAll mid new keys (d + at) → CountsAll mid keys (d + at) waits → IsKept d (slice_set now at counting) new []
  kept_pushed mid new kept few distinct links counts =
      let here : d + at ≡ d + length nodes = ap (λ j. d + j) at_is in
      subst (λ ns. IsKept d ns new []) (sym set_now) (kept_added d nodes mid new kept keys (d + at) here few distinct links waits counts counting open_now refl keys_now)

  pub points_pushed : points d (slice_set now at counting) ≡ points d nodes ++ unfinished keys ∷ []
  points_pushed =
      ap (points d) set_now ∙ points_push d nodes counting
      ∙ ap (λ b. points d nodes ++ (record { finished = b; keys = y.keys.items }) ∷ []) open_now
      ∙ ap (λ ks. points d nodes ++ (unfinished ks) ∷ []) keys_now

-- ---- a node that is still to come
take_front : (nodes : List GraphNode) (x : GraphNode) → take (length nodes) (nodes ++ x ∷ []) ≡ nodes
take_front [] x = refl
take_front (n ∷ nodes) x = ap (λ ns. n ∷ ns) (take_front nodes x)

keys_last : (nodes : List GraphNode) (x : GraphNode) → keys_at (nodes ++ x ∷ []) (length nodes) ≡ x.keys.items
keys_last [] x = refl
keys_last (n ∷ nodes) x = keys_last nodes x

made : List Point → List Key → Awaiting
made ps ks = record { nodes = ps; keys = ks }

pub awaiting_is : (d : ℕ) (nodes old : List GraphNode) (x : GraphNode) → nodes ≡ old ++ x ∷ [] → awaiting_of d nodes ≡ record { nodes = points d old; keys = x.keys.items }
unfolding made
awaiting_is d nodes old x is =
    let more = length_push old x in
    let same : length (old ++ x ∷ []) - 1 ≡ length old = omega (more, arith) in
    let front : points d (take (length old) (old ++ x ∷ [])) ≡ points d old = ap (points d) (take_front old x) in
    let last : keys_at (old ++ x ∷ []) (length old) ≡ x.keys.items = keys_last old x in
    ap (awaiting_of d) is
    ∙ ap (λ n. made (points d (take n (old ++ x ∷ []))) (keys_at (old ++ x ∷ []) n)) same
    ∙ (λ j. made (front j) (last j))
