-- The steps of a finish: a chain loses its first node, and a node counts one key less.
use Rattle.std.proofs.Common.{◌≡◌, ℕ, zero, suc, ◌+◌, ◌-◌, ◌<◌, ◌||◌, Bool, true, false, cond, List, [], ◌∷◌, ◌++◌, map, length, replicate, Option, Some, None, refl, sym, ap, subst, ◌∙◌, arith, drop}
use Rattle.std.proofs.lemmas.List.{drop_more}
use Rattle.std.specs.Prelude.{slice_index_or, slice_set}
use Rattle.rows.specs.declared.change.Key.{Key}
use Rattle.rows.specs.Order.{key_eq}
use Rattle.rows.specs.Total.{key_eq_self}
use Rattle.rows.specs.WriteSet.{is_among}
use Rattle.slab.specs.Slab.{slab_len}
use Rattle.dependency_graph.specs.Graphs.{Point, gone, mark_at, point_at}
use Rattle.std.specs.Bool.{OnTrue, OnFalse}
use Rattle.dependency_graph.specs.Chains.{Holds, with_chain, first_number, first_of, PopsFirst}
use Rattle.dependency_graph.specs.Kept.{points, point_of, is_finished_at, IsKept, keys_at, IsFrontOpen, Releases, CanRelease}
use Rattle.dependency_graph.specs.declared.graph.GraphNode.{GraphNode}
use Rattle.dependency_graph.specs.declared.chains.Chains.{Chains}
use Rattle.dependency_graph.proofs.Entries.{some_key}
use Rattle.dependency_graph.proofs.Linked.{first_is, pop_holds, pop_fewer}
use Rattle.dependency_graph.proofs.Kept.{kept_at}
use Rattle.dependency_graph.proofs.Popping.{unfinished_kept, waits_one, popped_same, popped_less, same_points, same_some}
use Rattle.dependency_graph.proofs.Marking.{kept_settled, keys_here, points_set}
use Rattle.std.proofs.lemmas.Bool.{both_ways}

pub releases_at : (d : ℕ) (old : List GraphNode) (x : GraphNode) (node : ℕ) (first : Option ℕ) → first ≡ Some node → x ≡ slice_index_or old (node - d) x → is_finished_at (points d old) node ≡ false
    → Releases d old (slice_set old (node - d) (record x { waits = x.waits - 1 })) first
releases_at d old x node first is at open_one = record {
  unfinished = λ n e unf.
      let same : n ≡ node = same_some n node (sym e ∙ is) in
      record {
        node = x;
        at = at ∙ ap (λ m. slice_index_or old (m - d) x) (sym same);
        is = ap (λ m. slice_set old (m - d) (record x { waits = x.waits - 1 })) (sym same);
      };
  others = λ h. absurd (both_ways (is_finished_at (points d old) node) open_one (h node is));
}

first_rest : (n : ℕ) (xs : List ℕ) → first_number xs ≡ Some n → (ns : List ℕ) × (xs ≡ n ∷ ns)
first_rest n [] e = cc
first_rest n (x ∷ xs) e = (xs, ap (λ m. m ∷ xs) (same_some x n e))

module _ (d : ℕ) (nodes : List GraphNode) (c new : Chains) (late : List Key) (kept : IsKept d nodes c late)
    (k : Key) (n : ℕ) (first : first_of c k ≡ Some n) (done : is_finished_at (points d nodes) n ≡ true) (inside : is_among late k ≡ true) (pops : PopsFirst c new k) where
  front : first_number (kept.chain k) ≡ Some n
  front = sym (first_is c kept.chain kept.holds k) ∙ first

  rest : (ns : List ℕ) × (kept.chain k ≡ n ∷ ns)
  rest = first_rest n (kept.chain k) front

  holds_now : Holds new (with_chain kept.chain k rest.0)
  holds_now = pop_holds c new k pops kept.chain n rest.0 kept.holds rest.1

  next_is : first_of new k ≡ first_number rest.0
  next_is = first_is new (with_chain kept.chain k rest.0) holds_now k ∙ ap (λ b. first_number (cond b rest.0 (kept.chain k))) (key_eq_self k)

  pub popped_fewer : slab_len new.edges < slab_len c.edges
  popped_fewer = let less = pop_fewer c new k kept.chain n kept.holds front pops in omega (less, arith)

  module _ (next : Option ℕ) (is : next ≡ first_of new k) where
    pub popped_can : CanRelease d nodes next
    popped_can m x e open_one at = waits_one d nodes c new late kept k n rest.0 rest.1 done inside holds_now m x (sym (is ∙ next_is) ∙ e) open_one at

    module _ (now : List GraphNode) (r : Releases d nodes now next) where
      abbrev Goes : Type 0
      Goes = IsKept d now new late × (map point_of now ≡ map point_of nodes)

      stays : now ≡ nodes → ((m : ℕ) → first_number rest.0 ≡ Some m → is_finished_at (points d nodes) m ≡ true) → Goes
      stays e all_done = (
        subst (λ ns. IsKept d ns new late) (sym e) (popped_same d nodes c new late kept k n rest.0 rest.1 done inside holds_now all_done),
        ap (map point_of) e,
      )

      lowers : (m : ℕ) → first_number rest.0 ≡ Some m → is_finished_at (points d nodes) m ≡ false → Goes
      lowers m e open_one =
          let l = r.unfinished m (is ∙ next_is ∙ e) open_one in (
            subst (λ ns. IsKept d ns new late) (sym l.is) (popped_less d nodes c new late kept k n rest.0 rest.1 done inside holds_now m l.node e open_one l.at),
            ap (map point_of) l.is ∙ same_points nodes (m - d) l.node (record l.node { waits = l.node.waits - 1 }) l.at (unfinished_kept d nodes m open_one).1 refl,
          )

      by_flag : (m : ℕ) → first_number rest.0 ≡ Some m → (b : Bool) → is_finished_at (points d nodes) m ≡ b → Goes
      by_flag m e true f =
          let all_done : (j : ℕ) → first_number rest.0 ≡ Some j → is_finished_at (points d nodes) j ≡ true = λ j ej. ap (is_finished_at (points d nodes)) (same_some j m (sym ej ∙ e)) ∙ f in
          stays (r.others (λ j ej. all_done j (sym (is ∙ next_is) ∙ ej))) all_done
      by_flag m e false f = lowers m e f

      by_next : (o : Option ℕ) → first_number rest.0 ≡ o → Goes
      by_next None e =
          let none_such : (j : ℕ) → first_number rest.0 ≡ Some j → is_finished_at (points d nodes) j ≡ true = λ j ej. let bad : None ≡ Some j = sym e ∙ ej in cc in
          stays (r.others (λ j ej. none_such j (sym (is ∙ next_is) ∙ ej))) none_such
      by_next (Some m) e = by_flag m e (is_finished_at (points d nodes) m) refl

      pub popped_goes : Goes
      popped_goes = by_next (first_number rest.0) refl

pub late_here : (ks : List Key) (i : ℕ) (k : Key) → k ≡ slice_index_or ks i k → i < length ks → is_among (drop i ks) k ≡ true
late_here ks i k at lt =
    ap (λ xs. is_among xs k) (drop_more ks i k lt)
    ∙ ap (λ q. key_eq k q || is_among (drop (i + 1) ks) k) (sym at)
    ∙ ap (λ b. b || is_among (drop (i + 1) ks) k) (key_eq_self k)

pub settled : (d : ℕ) (nodes : List GraphNode) (c : Chains) (ks : List Key) (i : ℕ) → i < length ks → IsKept d nodes c (drop i ks) → IsFrontOpen (points d nodes) c (drop i ks) → IsKept d nodes c (drop (i + 1) ks)
settled d nodes c ks i lt kept front =
    let parts = drop_more ks i some_key lt in
    kept_settled d nodes c (slice_index_or ks i some_key) (drop (i + 1) ks) (subst (IsKept d nodes c) parts kept) (subst (IsFrontOpen (points d nodes) c) parts front)

pub marked_is : (d : ℕ) (nodes now : List GraphNode) (at : ℕ) (x : GraphNode) → x ≡ slice_index_or nodes at x → at < length nodes
    → map point_of now ≡ map point_of (slice_set nodes at (record x { finished = true })) → points d now ≡ mark_at (points d nodes) (d + at)
marked_is d nodes now at x read lt same =
    ap (λ qs. replicate d gone ++ qs) same
    ∙ points_set d at nodes (record x { finished = true })
    ∙ ap (λ (p : Point). slice_set (points d nodes) (d + at) (record p { finished = true })) (sym (kept_at d at nodes x (sym read) lt))

pub at_within : (nodes : List GraphNode) (at i : ℕ) → i < length (keys_at nodes at) → at < length nodes
at_within [] at i lt = absurd (omega (lt, arith))
at_within (n ∷ nodes) zero i lt = omega arith
at_within (n ∷ nodes) (suc at) i lt = let far = at_within nodes at i lt in omega (far, arith)

pub key_inside : (nodes : List GraphNode) (at i : ℕ) (x : GraphNode) (k : Key) → i < length (keys_at nodes at) → x ≡ slice_index_or nodes at x → k ≡ slice_index_or x.keys.items i k → is_among (drop i (keys_at nodes at)) k ≡ true
key_inside nodes at i x k lt node key =
    late_here (keys_at nodes at) i k (key ∙ ap (λ ks. slice_index_or ks i k) (sym (keys_here nodes at x node (at_within nodes at i lt)))) lt

pub front_open : (ps : List Point) (c : Chains) (nodes now : List GraphNode) (at i : ℕ) (x : GraphNode) (k : Key) → i < length (keys_at nodes at) → x ≡ slice_index_or nodes at x → k ≡ slice_index_or x.keys.items i k
    → map point_of now ≡ map point_of nodes → ((n : ℕ) → first_of c k ≡ Some n → is_finished_at ps n ≡ false) → IsFrontOpen ps c (drop i (keys_at now at))
front_open ps c nodes now at i x k lt node key same h =
    let ks = keys_at nodes at in
    let here : k ≡ slice_index_or ks i k = key ∙ ap (λ qs. slice_index_or qs i k) (sym (keys_here nodes at x node (at_within nodes at i lt))) in
    let first : drop i ks ≡ k ∷ drop (i + 1) ks = drop_more ks i k lt ∙ ap (λ q. q ∷ drop (i + 1) ks) (sym here) in
    let list : drop i (keys_at now at) ≡ k ∷ drop (i + 1) ks = ap (λ qs. drop i (point_at qs at).keys) same ∙ first in
    subst (IsFrontOpen ps c) (sym list) h

pub when_false : {P Q : Type 0} (b : Bool) → (P → Q) → OnFalse b P → OnFalse b Q
when_false true h p = tt
when_false false h p = h p

pub when_true : {P : Type 0} (b : Bool) → P → OnTrue b P
when_true true p = p
when_true false p = tt
