-- The nodes after those that were dropped.
use Rattle.std.proofs.Common.{◌≡◌, ℕ, zero, suc, ◌+◌, ◌-◌, ◌<◌, ◌≤◌, Bool, true, false, List, [], ◌∷◌, ◌++◌, map, length, replicate, refl, sym, ap, ◌∙◌, arith, not, ◌&&◌, take}
use Rattle.std.proofs.Math.Dec.{ltb, eqb-suc-zero}
use Rattle.std.proofs.lemmas.Bool.{ltb-true, ltb-false}
use Rattle.std.specs.Prelude.{slice_index_or, nat_eq, is_none, Option, None}
use Rattle.std.proofs.lemmas.List.{take_more}
use Rattle.lemmas.proofs.Options.{none_if}
use Rattle.lemmas.proofs.Tests.{and_second}
use Rattle.rows.specs.declared.change.Key.{Key}
use Rattle.dependency_graph.specs.Graphs.{Point, gone, point_at, least, holds_back, is_open_at, is_ready, may_go, blocker}
use Rattle.dependency_graph.specs.Chains.{first_of}
use Rattle.dependency_graph.specs.Kept.{points, point_of, IsSound}
use Rattle.dependency_graph.specs.declared.chains.Chains.{Chains}
use Rattle.dependency_graph.proofs.Least.{ready_count, none_at, key_more, earlier}
use Rattle.dependency_graph.specs.declared.graph.GraphNode.{GraphNode}

point_of_at : (nodes : List GraphNode) (i : ℕ) (n : GraphNode) → slice_index_or nodes i n ≡ n → i < length nodes → slice_index_or (map point_of nodes) i gone ≡ point_of n
point_of_at (x ∷ nodes) zero n e h = ap point_of e
point_of_at (x ∷ nodes) (suc i) n e h = point_of_at nodes i n e (omega (h, arith))
point_of_at [] i n e h = absurd (omega (h, arith))

behind : (d i : ℕ) (ps : List Point) → point_at (replicate d gone ++ ps) (d + i) ≡ point_at ps i
behind zero i ps = let same : 0 + i ≡ i = omega arith in ap (point_at ps) same
behind (suc d) i ps = let same : suc d + i ≡ suc (d + i) = omega arith in ap (point_at (gone ∷ (replicate d gone ++ ps))) same ∙ behind d i ps

pub kept_at : (d i : ℕ) (nodes : List GraphNode) (n : GraphNode) → slice_index_or nodes i n ≡ n → i < length nodes → point_at (points d nodes) (d + i) ≡ point_of n
kept_at d i nodes n e h = behind d i (map point_of nodes) ∙ point_of_at nodes i n e h

pub gone_at : (d n : ℕ) (ps : List Point) → n < d → point_at (replicate d gone ++ ps) n ≡ gone
gone_at (suc d) zero ps h = refl
gone_at (suc d) (suc n) ps h = gone_at d n ps (omega (h, arith))
gone_at zero n ps h = absurd (omega (h, arith))

pub gone_free : (d n : ℕ) (ps : List Point) → n < d → blocker (replicate d gone ++ ps) n ≡ None
gone_free d n ps h = ap (λ (p : Point). least (holds_back p.keys) 0 (take n (replicate d gone ++ ps))) (gone_at d n ps h) ∙ none_at 0 (take n (replicate d gone ++ ps))

pub gone_stays : (d n : ℕ) (ps : List Point) → n < d → may_go (replicate d gone ++ ps) n ≡ false
gone_stays d n ps h = ap (λ (p : Point). not p.finished && is_ready (replicate d gone ++ ps) n) (gone_at d n ps h)

module _ (d : ℕ) (nodes : List GraphNode) (c : Chains) (s : IsSound d nodes c) where
  ready_at : (i : ℕ) (n : GraphNode) → i < length nodes → n ≡ slice_index_or nodes i n → n.finished ≡ false → is_ready (points d nodes) (d + i) ≡ nat_eq n.waits 0
  ready_at i n h at open_one =
      ap (λ (p : Point). is_none (least (holds_back p.keys) 0 (take (d + i) (points d nodes)))) (kept_at d i nodes n (sym at) h)
      ∙ ready_count (first_of c) (d + i) (points d nodes) s.front n.keys.items
      ∙ ap (λ w. nat_eq w 0) (sym (s.counted i n h at open_one))

  pub ready_kept : (node : ℕ) (n : GraphNode) → d ≤ node → (node - d) < length nodes → n ≡ slice_index_or nodes (node - d) n → n.finished ≡ false → is_ready (points d nodes) node ≡ nat_eq n.waits 0
  ready_kept node n le h at open_one =
      let same : d + (node - d) ≡ node = omega (le, arith) in
      ap (is_ready (points d nodes)) (sym same) ∙ ready_at (node - d) n h at open_one

  by_flag : (b : Bool) (i : ℕ) (n : GraphNode) → i < length nodes → n ≡ slice_index_or nodes i n → n.finished ≡ b → may_go (points d nodes) (d + i) ≡ (not n.finished && nat_eq n.waits 0)
  by_flag true i n h at e =
      ap (λ (p : Point). not p.finished && is_ready (points d nodes) (d + i)) (kept_at d i nodes n (sym at) h)
      ∙ ap (λ b. not b && is_ready (points d nodes) (d + i)) e
      ∙ sym (ap (λ b. not b && nat_eq n.waits 0) e)
  by_flag false i n h at e =
      ap (λ (p : Point). not p.finished && is_ready (points d nodes) (d + i)) (kept_at d i nodes n (sym at) h)
      ∙ ap (λ r. not n.finished && r) (ready_at i n h at e)

  pub may_go_kept : (node : ℕ) (n : GraphNode) → d ≤ node → (node - d) < length nodes → n ≡ slice_index_or nodes (node - d) n → may_go (points d nodes) node ≡ (not n.finished && nat_eq n.waits 0)
  may_go_kept node n le h at =
      let same : d + (node - d) ≡ node = omega (le, arith) in
      ap (may_go (points d nodes)) (sym same) ∙ by_flag n.finished (node - d) n h at refl

pub kept_now : (d : ℕ) (nodes : List GraphNode) (node : ℕ) (n : GraphNode) → d ≤ node → (node - d) < length nodes → n ≡ slice_index_or nodes (node - d) n → point_at (points d nodes) node ≡ point_of n
kept_now d nodes node n le h at =
    let same : d + (node - d) ≡ node = omega (le, arith) in
    ap (point_at (points d nodes)) (sym same) ∙ kept_at d (node - d) nodes n (sym at) h

length_append : (xs ys : List Point) → length (xs ++ ys) ≡ length xs + length ys
length_append [] ys = omega arith
length_append (x ∷ xs) ys = let more = length_append xs ys in omega (more, arith)

length_map : (nodes : List GraphNode) → length (map point_of nodes) ≡ length nodes
length_map [] = refl
length_map (x ∷ nodes) = let more = length_map nodes in omega (more, arith)

length_gone : (d : ℕ) → length (replicate d gone) ≡ d
length_gone zero = refl
length_gone (suc d) = let more = length_gone d in omega (more, arith)

pub length_points : (d : ℕ) (nodes : List GraphNode) → length (points d nodes) ≡ d + length nodes
length_points d nodes =
    let joined = length_append (replicate d gone) (map point_of nodes) in
    let front = length_gone d in
    let back = length_map nodes in
    omega (joined, front, back, arith)

-- one key more
pub touch_more : (d : Key) (c : Chains) (ks : List Key) (i n : ℕ) (ps qs : List Point) (best first : Option ℕ)
    → ((k : Key) → first_of c k ≡ least (is_open_at k) 0 ps) → ps ≡ qs → i < length ks → first ≡ first_of c (slice_index_or ks i d)
    → best ≡ least (holds_back (take i ks)) 0 (take n qs)
    → earlier n best first ≡ least (holds_back (take (i + 1) ks)) 0 (take n qs)
touch_more d c ks i n ps qs best first front same lt at so_far =
    let k = slice_index_or ks i d in
    ap (λ b. earlier n b first) so_far
    ∙ ap (earlier n (least (holds_back (take i ks)) 0 (take n qs))) (at ∙ front k ∙ ap (least (is_open_at k) 0) same)
    ∙ sym (key_more (take i ks) k n qs)
    ∙ ap (λ xs. least (holds_back xs) 0 (take n qs)) (sym (take_more ks i d lt))

by_order : (b : Bool) (f : ℕ → Bool) (from node m : ℕ) → ltb m node ≡ b → ((k : ℕ) → from ≤ k → k < node → f k ≡ false) → f node ≡ false → from ≤ m → m < node + 1 → f m ≡ false
by_order true f from node m e old new le lt = old m le (ltb-true m node e)
by_order false f from node m e old new le lt = let far = ltb-false m node e in let same : m ≡ node = omega (far, lt, arith) in ap f same ∙ new

-- one number more that fails
pub fails_more : (f : ℕ → Bool) (from node : ℕ) → ((k : ℕ) → from ≤ k → k < node → f k ≡ false) → f node ≡ false → (m : ℕ) → from ≤ m → m < node + 1 → f m ≡ false
fails_more f from node old new m le lt = by_order (ltb m node) f from node m refl old new le lt

pub is_not_zero : (w : ℕ) → (w ≡ 0 → ⊥) → nat_eq w 0 ≡ false
is_not_zero zero h = absurd (h refl)
is_not_zero (suc n) h = eqb-suc-zero n

pub waits_on : (finished : Bool) (w : ℕ) → (w ≡ 0 → ⊥) → (not finished && nat_eq w 0) ≡ false
waits_on true w h = refl
waits_on false w h = is_not_zero w h

pub goes_now : (finished : Bool) (w : ℕ) → finished ≡ false → w ≡ 0 → (not finished && nat_eq w 0) ≡ true
goes_now finished w f e = ap (λ b. not b && nat_eq w 0) f ∙ ap (λ n. nat_eq n 0) e

-- nothing holds a node back that may go
pub may_go_free : (ps : List Point) (n : ℕ) → may_go ps n ≡ true → blocker ps n ≡ None
may_go_free ps n e = none_if (blocker ps n) (and_second (not (point_at ps n).finished) (is_ready ps n) e)
