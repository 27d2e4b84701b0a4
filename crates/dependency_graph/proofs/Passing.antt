-- A finished node more, where all are finished: nothing is kept.
use Rattle.std.proofs.Common.{◌≡◌, ℕ, zero, suc, ◌+◌, ◌<◌, true, false, cond, List, [], ◌∷◌, ◌++◌, length, replicate, refl, sym, ap, ◌∙◌, ⊎_elim, inr, arith}
use Rattle.std.proofs.lemmas.Bool.{and_parts, both_ways}
use Rattle.dependency_graph.specs.Graphs.{Point, gone, point_at, are_finished, drop_finished, is_open_at}
use Rattle.dependency_graph.specs.Kept.{points, is_finished_at, IsKept, StartsOpen}
use Rattle.dependency_graph.specs.declared.graph.GraphNode.{GraphNode}
use Rattle.dependency_graph.specs.declared.chains.Chains.{Chains}
use Rattle.dependency_graph.proofs.Linked.{all_both}
use Rattle.dependency_graph.proofs.Kept.{length_points}

gone_alone : (d : ℕ) → replicate d gone ++ [] ≡ replicate d gone
gone_alone zero = refl
gone_alone (suc d) = ap (λ ps. gone ∷ ps) (gone_alone d)

all_gone : (ps : List Point) → are_finished ps ≡ true → drop_finished (ps ++ gone ∷ []) ≡ replicate (suc (length ps)) gone
all_gone [] h = refl
all_gone (p ∷ ps) h =
    let both = and_parts p.finished (are_finished ps) h in
    ap (λ b. cond b (gone ∷ drop_finished (ps ++ gone ∷ [])) (p ∷ (ps ++ gone ∷ []))) both.0 ∙ ap (λ qs. gone ∷ qs) (all_gone ps both.1)

-- what its callers see then
pub passed_is : (d : ℕ) (nodes : List GraphNode) (n : ℕ) → n ≡ length nodes → are_finished (points d nodes) ≡ true → points (d + (n + 1)) [] ≡ drop_finished (points d nodes ++ gone ∷ [])
passed_is d nodes n at h =
    let size = length_points d nodes in
    let same : d + (n + 1) ≡ suc (length (points d nodes)) = omega (size, at, arith) in
    gone_alone (d + (n + 1)) ∙ ap (λ m. replicate m gone) same ∙ sym (all_gone (points d nodes) h)

gone_here : (d n : ℕ) → point_at (replicate d gone ++ []) n ≡ gone
gone_here zero n = refl
gone_here (suc d) zero = refl
gone_here (suc d) (suc n) = gone_here d n

finished_here : (ps : List Point) (n : ℕ) → are_finished ps ≡ true → is_finished_at ps n ≡ true
finished_here [] n h = refl
finished_here (p ∷ ps) zero h = (and_parts p.finished (are_finished ps) h).0
finished_here (p ∷ ps) (suc n) h = finished_here ps n (and_parts p.finished (are_finished ps) h).1

-- what is kept then
module _ (d : ℕ) (nodes : List GraphNode) (c : Chains) (n : ℕ) (at : n ≡ length nodes) (few : d + length nodes < 4294967294) (done : are_finished (points d nodes) ≡ true) (kept : IsKept d nodes c []) where
  abbrev qs : List Point
  qs = points (d + (n + 1)) []

  size : length qs ≡ d + (n + 1) + 0
  size = length_points (d + (n + 1)) []

  starts_by : (ns : List ℕ) → StartsOpen (points d nodes) false ns → StartsOpen qs false ns
  starts_by [] h = tt
  starts_by (m ∷ ns) h = ⊎_elim (λ e. absurd (both_ways (is_finished_at (points d nodes) m) e (finished_here (points d nodes) m done))) inr h

  pub kept_passed : IsKept (d + (n + 1)) [] c []
  kept_passed = record {
    chain = kept.chain;
    holds = kept.holds;
    small = omega (few, at, arith);
    distinct = λ i x lt. absurd (omega (lt, arith));
    chained = record {
      rising = kept.chained.rising;
      below = λ k. all_both (λ m. m < length (points d nodes)) (λ m. m < length (points d nodes)) (λ m. m < length qs) (kept.chain k) (λ m lt again. let was = length_points d nodes in let now = size in omega (lt, was, now, at, arith)) (kept.chained.below k) (kept.chained.below k);
      members = λ k. all_both (λ m. m < length (points d nodes)) (λ m. m < length (points d nodes)) (λ m. is_finished_at qs m ≡ false → is_open_at k (point_at qs m) ≡ true) (kept.chain k)
          (λ m lt again open_one. absurd (both_ways (is_finished_at qs m) open_one (ap (λ (p : Point). p.finished) (gone_here (d + (n + 1)) m)))) (kept.chained.below k) (kept.chained.below k);
      found = λ k m open_one. absurd (both_ways (is_open_at k gone) refl (ap (is_open_at k) (sym (gone_here (d + (n + 1)) m)) ∙ open_one));
      starts = λ k. starts_by (kept.chain k) (kept.chained.starts k);
    };
    counted = λ i x lt. absurd (omega (lt, arith));
  }
