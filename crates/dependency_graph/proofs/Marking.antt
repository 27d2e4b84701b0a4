-- A node is marked as finished, its keys are settled one by one, and the finished prefix is dropped.
use Rattle.std.proofs.Common.{◌≡◌, ℕ, zero, suc, ◌+◌, ◌<◌, Bool, true, false, not, ◌&&◌, ◌||◌, cond, List, [], ◌∷◌, ◌++◌, map, length, replicate, Some, refl, sym, ap, subst, ◌∙◌, ⊎_elim, inl, inr, arith, drop}
use Rattle.std.proofs.lemmas.Bool.{cases_eq, both_ways}
use Rattle.std.proofs.lemmas.List.{get_or-set_same, get_or-set_other}
use Rattle.std.specs.Prelude.{slice_index_or, slice_set}
use Rattle.std.specs.List.{AllByRecursion, IsDistinct}
use Rattle.rows.specs.declared.change.Key.{Key}
use Rattle.rows.specs.Order.{key_eq}
use Rattle.rows.specs.Total.{key_eq_same}
use Rattle.rows.specs.WriteSet.{is_among}
use Rattle.dependency_graph.specs.Graphs.{Point, gone, point_at, is_open_at, drop_finished}
use Rattle.dependency_graph.specs.Chains.{first_number}
use Rattle.dependency_graph.specs.Kept.{points, point_of, waiting, is_finished_at, is_finished_first, StartsOpen, IsChained, IsCounted, IsKept, keys_at, IsFrontOpen}
use Rattle.dependency_graph.specs.declared.graph.GraphNode.{GraphNode}
use Rattle.dependency_graph.specs.declared.chains.Chains.{Chains}
use Rattle.dependency_graph.proofs.Linked.{first_is}
use Rattle.dependency_graph.proofs.Popping.{open_parts, node_in_set, length_set}
use Rattle.dependency_graph.proofs.Kept.{kept_at, length_points}

-- ---- the mark
-- one node is finished, the others stay
record IsMarked (ps qs : List Point) (n : ℕ) : Type 0 where
  size : length qs ≡ length ps
  here : (point_at qs n).finished ≡ true
  others : (m : ℕ) → (m ≡ n → ⊥) → point_at qs m ≡ point_at ps m

module _ (ps qs : List Point) (n : ℕ) (mark : IsMarked ps qs n) (chain : Key → List ℕ) (chained : IsChained ps chain []) where
  other : (m : ℕ) → is_finished_at qs m ≡ false → m ≡ n → ⊥
  other m open_one same = both_ways (is_finished_at qs m) open_one (ap (is_finished_at qs) same ∙ mark.here)

  all_marked : (k : Key) (ns : List ℕ) → AllByRecursion (λ m. is_finished_at ps m ≡ false → is_open_at k (point_at ps m) ≡ true) ns
      → AllByRecursion (λ m. is_finished_at qs m ≡ false → is_open_at k (point_at qs m) ≡ true) ns
  all_marked k [] h = tt
  all_marked k (m ∷ ns) h = (
    (λ open_one.
        let same = mark.others m (other m open_one) in
        ap (is_open_at k) same ∙ h.0 (sym (ap (λ (p : Point). p.finished) same) ∙ open_one)),
    all_marked k ns h.1,
  )

  starts_marked : (k : Key) (ns : List ℕ) → StartsOpen ps false ns
      → AllByRecursion (λ m. is_finished_at ps m ≡ false → is_open_at k (point_at ps m) ≡ true) ns → StartsOpen qs (is_among (point_at ps n).keys k) ns
  starts_marked k [] h members = tt
  starts_marked k (m ∷ ns) h members =
      let open_one : is_finished_at ps m ≡ false = ⊎_elim (λ e. e) (λ e. absurd (both_ways false refl e)) h in
      ⊎_elim (λ same. inr (ap (λ j. is_among (point_at ps j).keys k) (sym same) ∙ (open_parts k (point_at ps m) (members.0 open_one)).1))
      (λ far. inl (ap (λ (p : Point). p.finished) (mark.others m far) ∙ open_one)) (cases_eq m n)

  chained_marked : IsChained qs chain (point_at ps n).keys
  chained_marked = record {
    rising = chained.rising;
    below = λ k. subst (λ size. AllByRecursion (λ m. m < size) (chain k)) (sym mark.size) (chained.below k);
    members = λ k. all_marked k (chain k) (chained.members k);
    found = λ k m h. chained.found k m (ap (is_open_at k) (sym (mark.others m (other m (open_parts k (point_at qs m) h).0))) ∙ h);
    starts = λ k. starts_marked k (chain k) (chained.starts k) (chained.members k);
  }

points_set_kept : (nodes : List GraphNode) (i : ℕ) (x : GraphNode) → map point_of (slice_set nodes i x) ≡ slice_set (map point_of nodes) i (point_of x)
points_set_kept [] i x = refl
points_set_kept (n ∷ nodes) zero x = refl
points_set_kept (n ∷ nodes) (suc i) x = ap (λ qs. point_of n ∷ qs) (points_set_kept nodes i x)

set_behind : (d i : ℕ) (ps : List Point) (p : Point) → replicate d gone ++ slice_set ps i p ≡ slice_set (replicate d gone ++ ps) (d + i) p
set_behind zero i ps p = let same : i ≡ 0 + i = omega arith in ap (λ j. slice_set ps j p) same
set_behind (suc d) i ps p =
    let same : suc (d + i) ≡ suc d + i = omega arith in
    ap (λ qs. gone ∷ qs) (set_behind d i ps p) ∙ ap (λ j. slice_set (gone ∷ (replicate d gone ++ ps)) j p) same

pub points_set : (d i : ℕ) (nodes : List GraphNode) (x : GraphNode) → points d (slice_set nodes i x) ≡ slice_set (points d nodes) (d + i) (point_of x)
points_set d i nodes x = ap (λ qs. replicate d gone ++ qs) (points_set_kept nodes i x) ∙ set_behind d i (map point_of nodes) (point_of x)

pub point_here : (nodes : List GraphNode) (i : ℕ) (x : GraphNode) → x ≡ slice_index_or nodes i x → i < length nodes → point_at (map point_of nodes) i ≡ point_of x
point_here [] i x h lt = absurd (omega (lt, arith))
point_here (n ∷ nodes) zero x h lt = ap point_of (sym h)
point_here (n ∷ nodes) (suc i) x h lt = point_here nodes i x h (omega (lt, arith))

pub keys_here : (nodes : List GraphNode) (i : ℕ) (x : GraphNode) → x ≡ slice_index_or nodes i x → i < length nodes → keys_at nodes i ≡ x.keys.items
keys_here nodes i x h lt = ap (λ (p : Point). p.keys) (point_here nodes i x h lt)

module _ (d : ℕ) (nodes : List GraphNode) (c : Chains) (kept : IsKept d nodes c []) (i : ℕ) (x : GraphNode) (at : x ≡ slice_index_or nodes i x) (lt : i < length nodes) where
  abbrev marked : GraphNode
  marked = record x { finished = true }

  here_now : point_at (points d nodes) (d + i) ≡ point_of x
  here_now = kept_at d i nodes x (sym at) lt

  size_now : (d + i) < length (points d nodes)
  size_now = let size = length_points d nodes in omega (size, lt, arith)

  is_marked : IsMarked (points d nodes) (points d (slice_set nodes i marked)) (d + i)
  is_marked = record {
    size = let a = length_points d nodes in let b = length_points d (slice_set nodes i marked) in let e = length_set nodes i marked in omega (a, b, e, arith);
    here = ap (λ qs. (point_at qs (d + i)).finished) (points_set d i nodes marked) ∙ ap (λ (p : Point). p.finished) (get_or-set_same (points d nodes) (d + i) (point_of marked) gone size_now);
    others = λ m far. ap (λ qs. point_at qs m) (points_set d i nodes marked) ∙ get_or-set_other (points d nodes) (d + i) m (point_of marked) gone far;
  }

  counted_marked : IsCounted d (slice_set nodes i marked) kept.chain
  counted_marked j y in_range read unfinished =
      let size = length_set nodes i marked in
      ⊎_elim (λ here. absurd (both_ways y.finished unfinished (ap (λ (z : GraphNode). z.finished) here.1)))
      (λ far. kept.counted j y (omega (in_range, size, arith)) far.1 unfinished) (node_in_set nodes i j marked y lt read)

  pub kept_marked : IsKept d (slice_set nodes i marked) c (keys_at (slice_set nodes i marked) i)
  kept_marked =
      let size = length_set nodes i marked in
      let lt_now : i < length (slice_set nodes i marked) = omega (size, lt, arith) in
      let keys_now : keys_at (slice_set nodes i marked) i ≡ x.keys.items = keys_here (slice_set nodes i marked) i marked (sym (get_or-set_same nodes i marked marked lt)) lt_now in
      let keys_old : (point_at (points d nodes) (d + i)).keys ≡ x.keys.items = ap (λ (p : Point). p.keys) here_now in
      record {
        chain = kept.chain;
        holds = kept.holds;
        small = let old = kept.small in omega (size, old, arith);
        distinct = λ j y in_range read.
            let in_old : j < length nodes = omega (in_range, size, arith) in
            ⊎_elim (λ here. subst (λ (z : GraphNode). IsDistinct key_eq z.keys.items) (sym here.1) (kept.distinct i x lt at))
            (λ far. kept.distinct j y in_old far.1) (node_in_set nodes i j marked y lt read);
        chained = subst (IsChained (points d (slice_set nodes i marked)) kept.chain) (keys_old ∙ sym keys_now)
            (chained_marked (points d nodes) (points d (slice_set nodes i marked)) (d + i) is_marked kept.chain kept.chained);
        counted = counted_marked;
      }

-- ---- a key is settled
starts_settled : (ps : List Point) (ns : List ℕ) (b c : Bool) → ((n : ℕ) → b ≡ true → first_number ns ≡ Some n → is_finished_at ps n ≡ false) → StartsOpen ps (b || c) ns → StartsOpen ps c ns
starts_settled ps [] b c front h = tt
starts_settled ps (n ∷ ns) true c front h = inl (front n refl refl)
starts_settled ps (n ∷ ns) false c front h = h

pub kept_settled : (d : ℕ) (nodes : List GraphNode) (c : Chains) (k : Key) (late : List Key) → IsKept d nodes c (k ∷ late) → IsFrontOpen (points d nodes) c (k ∷ late) → IsKept d nodes c late
kept_settled d nodes c k late kept front = record {
  chain = kept.chain;
  holds = kept.holds;
  small = kept.small;
  distinct = kept.distinct;
  chained = record {
    rising = kept.chained.rising;
    below = kept.chained.below;
    members = kept.chained.members;
    found = kept.chained.found;
    starts = λ q. starts_settled (points d nodes) (kept.chain q) (key_eq q k) (is_among late q)
        (λ n e first. front n (first_is c kept.chain kept.holds k ∙ ap (λ x. first_number (kept.chain x)) (sym (key_eq_same q k e)) ∙ first)) (kept.chained.starts q);
  };
  counted = kept.counted;
}

-- ---- the finished prefix
one_gone : (d : ℕ) (ps : List Point) → replicate (suc d) gone ++ ps ≡ replicate d gone ++ gone ∷ ps
one_gone zero ps = refl
one_gone (suc d) ps = ap (λ qs. gone ∷ qs) (one_gone d ps)

more_gone : (d : ℕ) (ps : List Point) → replicate (d + 1) gone ++ ps ≡ replicate d gone ++ gone ∷ ps
more_gone d ps = let same : d + 1 ≡ suc d = omega arith in ap (λ n. replicate n gone ++ ps) same ∙ one_gone d ps

behind_gone : (d : ℕ) (ps : List Point) → drop_finished (replicate d gone ++ ps) ≡ replicate d gone ++ drop_finished ps
behind_gone zero ps = refl
behind_gone (suc d) ps = ap (λ qs. gone ∷ qs) (behind_gone d ps)

goes : (d : ℕ) (n : GraphNode) (rest : List GraphNode) → n.finished ≡ true → drop_finished (points (d + 1) rest) ≡ drop_finished (points d (n ∷ rest))
goes d n rest e =
    ap drop_finished (more_gone d (map point_of rest))
    ∙ behind_gone d (gone ∷ map point_of rest)
    ∙ ap (λ b. replicate d gone ++ cond b (gone ∷ drop_finished (map point_of rest)) (point_of n ∷ map point_of rest)) (sym e)
    ∙ sym (behind_gone d (point_of n ∷ map point_of rest))

stays : (d : ℕ) (n : GraphNode) (rest : List GraphNode) → n.finished ≡ false → points d (n ∷ rest) ≡ drop_finished (points d (n ∷ rest))
stays d n rest e =
    sym (behind_gone d (point_of n ∷ map point_of rest)
    ∙ ap (λ b. replicate d gone ++ cond b (gone ∷ drop_finished (map point_of rest)) (point_of n ∷ map point_of rest)) e)

pub nothing_goes : (d : ℕ) (nodes : List GraphNode) → is_finished_first nodes ≡ false → points d nodes ≡ drop_finished (points d nodes)
nothing_goes d [] e = sym (behind_gone d [])
nothing_goes d (n ∷ rest) e = stays d n rest e

pub drop_goes : (d : ℕ) (nodes new : List GraphNode) → is_finished_first nodes ≡ true → new ≡ drop 1 nodes → drop_finished (points (d + 1) new) ≡ drop_finished (points d nodes)
drop_goes d [] new e is = cc
drop_goes d (n ∷ rest) new e is = ap (λ ns. drop_finished (points (d + 1) ns)) is ∙ goes d n rest e

-- two lists of nodes that are open and finished alike
record IsAlike (ps qs : List Point) : Type 0 where
  size : length qs ≡ length ps
  finished : (m : ℕ) → is_finished_at qs m ≡ is_finished_at ps m
  open_at : (k : Key) (m : ℕ) → is_open_at k (point_at qs m) ≡ is_open_at k (point_at ps m)

module _ (ps qs : List Point) (a : IsAlike ps qs) (chain : Key → List ℕ) (late : List Key) (chained : IsChained ps chain late) where
  all_alike : (k : Key) (ns : List ℕ) → AllByRecursion (λ m. is_finished_at ps m ≡ false → is_open_at k (point_at ps m) ≡ true) ns
      → AllByRecursion (λ m. is_finished_at qs m ≡ false → is_open_at k (point_at qs m) ≡ true) ns
  all_alike k [] h = tt
  all_alike k (m ∷ ns) h = ((λ open_one. a.open_at k m ∙ h.0 (sym (a.finished m) ∙ open_one)), all_alike k ns h.1)

  starts_alike : (b : Bool) (ns : List ℕ) → StartsOpen ps b ns → StartsOpen qs b ns
  starts_alike b [] h = tt
  starts_alike b (n ∷ ns) h = ⊎_elim (λ e. inl (a.finished n ∙ e)) inr h

  chained_alike : IsChained qs chain late
  chained_alike = record {
    rising = chained.rising;
    below = λ k. subst (λ size. AllByRecursion (λ m. m < size) (chain k)) (sym a.size) (chained.below k);
    members = λ k. all_alike k (chain k) (chained.members k);
    found = λ k m h. chained.found k m (sym (a.open_at k m) ∙ h);
    starts = λ k. starts_alike (is_among late k) (chain k) (chained.starts k);
  }

finished_swap : (xs : List Point) (p q : Point) (zs : List Point) → q.finished ≡ p.finished → (m : ℕ) → is_finished_at (xs ++ q ∷ zs) m ≡ is_finished_at (xs ++ p ∷ zs) m
finished_swap [] p q zs e zero = e
finished_swap [] p q zs e (suc m) = refl
finished_swap (x ∷ xs) p q zs e zero = refl
finished_swap (x ∷ xs) p q zs e (suc m) = finished_swap xs p q zs e m

open_swap : (k : Key) (xs : List Point) (p q : Point) (zs : List Point) → is_open_at k q ≡ is_open_at k p → (m : ℕ) → is_open_at k (point_at (xs ++ q ∷ zs) m) ≡ is_open_at k (point_at (xs ++ p ∷ zs) m)
open_swap k [] p q zs e zero = e
open_swap k [] p q zs e (suc m) = refl
open_swap k (x ∷ xs) p q zs e zero = refl
open_swap k (x ∷ xs) p q zs e (suc m) = open_swap k xs p q zs e m

size_swap : (xs : List Point) (p q : Point) (zs : List Point) → length (xs ++ q ∷ zs) ≡ length (xs ++ p ∷ zs)
size_swap [] p q zs = refl
size_swap (x ∷ xs) p q zs = ap suc (size_swap xs p q zs)

not_open : (k : Key) (p : Point) → p.finished ≡ true → is_open_at k gone ≡ is_open_at k p
not_open k p e = sym (ap (λ b. not b && is_among p.keys k) e)

kept_without : (d : ℕ) (n : GraphNode) (rest : List GraphNode) (c : Chains) → n.finished ≡ true → IsKept d (n ∷ rest) c [] → IsKept (d + 1) rest c []
kept_without d n rest c e kept = record {
  chain = kept.chain;
  holds = kept.holds;
  small = let old = kept.small in omega (old, arith);
  distinct = λ i x lt read. kept.distinct (suc i) x (omega (lt, arith)) read;
  chained = subst (λ qs. IsChained qs kept.chain []) (sym (more_gone d (map point_of rest)))
      (chained_alike (points d (n ∷ rest)) (replicate d gone ++ gone ∷ map point_of rest)
      (record {
        size = size_swap (replicate d gone) (point_of n) gone (map point_of rest);
        finished = finished_swap (replicate d gone) (point_of n) gone (map point_of rest) (sym e);
        open_at = λ k. open_swap k (replicate d gone) (point_of n) gone (map point_of rest) (not_open k (point_of n) e);
      })
      kept.chain [] kept.chained);
  counted = λ i x lt read unfinished.
      let same : d + suc i ≡ d + 1 + i = omega arith in
      kept.counted (suc i) x (omega (lt, arith)) read unfinished ∙ ap (λ j. waiting (λ k. first_number (kept.chain k)) j x.keys.items) same;
}

pub drop_kept : (d : ℕ) (nodes new : List GraphNode) (c : Chains) → is_finished_first nodes ≡ true → new ≡ drop 1 nodes → IsKept d nodes c [] → IsKept (d + 1) new c []
drop_kept d [] new c e is s = cc
drop_kept d (n ∷ rest) new c e is s = subst (λ ns. IsKept (d + 1) ns c []) (sym is) (kept_without d n rest c e s)
