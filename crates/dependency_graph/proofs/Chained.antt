-- What the chains show of the unfinished nodes.
use Rattle.std.proofs.Common.{◌≡◌, ℕ, zero, suc, ◌+◌, ◌<◌, ◌⊎◌, Bool, true, false, cond, List, [], ◌∷◌, length, Option, Some, None, refl, sym, ap, subst, ◌∙◌, ⊎_elim, inl, inr, arith, nat_eq}
use Rattle.std.proofs.lemmas.Bool.{eqb-true, both_ways, or_cases}
use Rattle.std.specs.List.{AllByRecursion, list_any}
use Rattle.rows.specs.declared.change.Key.{Key}
use Rattle.dependency_graph.specs.Graphs.{Point, point_at, least, is_open_at}
use Rattle.dependency_graph.specs.Chains.{IsAscending, first_number, first_of}
use Rattle.dependency_graph.specs.Kept.{points, is_below, waiting, is_finished_at, Has, StartsOpen, IsSound, IsKept}
use Rattle.dependency_graph.specs.declared.graph.GraphNode.{GraphNode}
use Rattle.dependency_graph.specs.declared.chains.Chains.{Chains}
use Rattle.dependency_graph.proofs.Linked.{first_is}

least_cond_none : (b : Bool) (at : ℕ) (o : Option ℕ) → (b ≡ true → ⊥) → o ≡ None → cond b (Some at) o ≡ None
least_cond_none true at o h e = absurd (h refl)
least_cond_none false at o h e = e

least_none : (p : Point → Bool) (at : ℕ) (xs : List Point) → ((n : ℕ) → p (point_at xs n) ≡ true → ⊥) → least p at xs ≡ None
least_none p at [] h = refl
least_none p at (x ∷ xs) h = least_cond_none (p x) at (least p (suc at) xs) (h zero) (least_none p (suc at) xs (λ n. h (suc n)))

least_cond_some : (b : Bool) (at : ℕ) (o o' : Option ℕ) → (b ≡ true → ⊥) → o ≡ o' → cond b (Some at) o ≡ o'
least_cond_some true at o o' h e = absurd (h refl)
least_cond_some false at o o' h e = e

least_some : (p : Point → Bool) (at : ℕ) (xs : List Point) (n : ℕ) → n < length xs → p (point_at xs n) ≡ true → ((m : ℕ) → m < n → p (point_at xs m) ≡ true → ⊥) → least p at xs ≡ Some (at + n)
least_some p at [] n lt h before = absurd (omega (lt, arith))
least_some p at (x ∷ xs) zero lt h before = let same : at ≡ at + 0 = omega arith in ap (λ b. cond b (Some at) (least p (suc at) xs)) h ∙ ap Some same
least_some p at (x ∷ xs) (suc n) lt h before =
    let same : suc at + n ≡ at + suc n = omega arith in
    least_cond_some (p x) at (least p (suc at) xs) (Some (at + suc n)) (before zero (omega arith))
    (least_some p (suc at) xs n (omega (lt, arith)) h (λ m less. before (suc m) (omega (less, arith))) ∙ ap Some same)

-- one of the numbers is the first, or among the rest
pub has_cases : (m n : ℕ) (ns : List ℕ) → Has (n ∷ ns) m → (m ≡ n) ⊎ Has ns m
has_cases m n ns h = ⊎_elim (λ e. inl (sym (eqb-true n m e))) inr (or_cases (nat_eq n m) (list_any (λ k. nat_eq k m) ns) h)

pub all_has : (P : ℕ → Type 0) (ns : List ℕ) (m : ℕ) → AllByRecursion P ns → Has ns m → P m
all_has P [] m h e = absurd (both_ways false refl e)
all_has P (n ∷ ns) m h e = ⊎_elim (λ same. subst P (sym same) h.0) (all_has P ns m h.1) (has_cases m n ns e)

-- the first of a chain that starts open is the least unfinished node
chain_front : (ps : List Point) (k : Key) (ns : List ℕ) → IsAscending ns → AllByRecursion (λ n. n < length ps) ns
    → AllByRecursion (λ n. is_finished_at ps n ≡ false → is_open_at k (point_at ps n) ≡ true) ns
    → ((n : ℕ) → is_open_at k (point_at ps n) ≡ true → Has ns n) → StartsOpen ps false ns → first_number ns ≡ least (is_open_at k) 0 ps
chain_front ps k [] rising below members found starts = sym (least_none (is_open_at k) 0 ps (λ n e. both_ways false refl (found n e)))
chain_front ps k (n ∷ ns) rising below members found starts =
    let open_one : is_finished_at ps n ≡ false = ⊎_elim (λ e. e) (λ e. absurd (both_ways false refl e)) starts in
    let same : 0 + n ≡ n = omega arith in
    sym (least_some (is_open_at k) 0 ps n below.0 (members.0 open_one)
    (λ m less e. ⊎_elim (λ is. omega (is, less, arith)) (λ in_rest. let far = all_has (λ j. n < j) ns m rising.0 in_rest in omega (far, less, arith)) (has_cases m n ns (found m e))) ∙ ap Some same)

pub waiting_same : (f g : Key → Option ℕ) (n : ℕ) → ((k : Key) → is_below n (f k) ≡ is_below n (g k)) → (ks : List Key) → waiting f n ks ≡ waiting g n ks
waiting_same f g n h [] = refl
waiting_same f g n h (k ∷ ks) = ap (λ b. cond b 1 0 + waiting f n ks) (h k) ∙ ap (λ w. cond (is_below n (g k)) 1 0 + w) (waiting_same f g n h ks)

pub kept_is_sound : (before : ℕ) (nodes : List GraphNode) (c : Chains) → IsKept before nodes c [] → IsSound before nodes c
kept_is_sound before nodes c kept = record {
  small = kept.small;
  front = λ k. first_is c kept.chain kept.holds k
      ∙ chain_front (points before nodes) k (kept.chain k) (kept.chained.rising k) (kept.chained.below k) (kept.chained.members k) (kept.chained.found k) (kept.chained.starts k);
  counted = λ i n lt at open_one. kept.counted i n lt at open_one
      ∙ waiting_same (λ k. first_number (kept.chain k)) (first_of c) (before + i) (λ k. ap (is_below (before + i)) (sym (first_is c kept.chain kept.holds k))) n.keys.items;
}
