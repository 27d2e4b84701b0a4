-- The entries of a list as a finite map.
use Rattle.std.proofs.Common.{◌≡◌, T, true, ◌||◌, map, subst, cond, List, [], ◌∷◌, Option, Some, refl, sym, ap, ◌∙◌}
use Rattle.std.specs.FinMap.{IsAntisymmetric, same_map, find, get, insert, entries, entries_sorted, get-entries, from_entries, get-from_entries, get-insert}
use Rattle.std.specs.FinMap.Entries.{below_all, is_sorted, same_entries}
use Rattle.std.specs.FinSet.{from_list, same_set, contains-from_list, contains-insert, insert as add}
use Rattle.std.specs.List.{AllByRecursion, list_any}
use Rattle.std.specs.List.Sorted.{IsStrictlySortedBy}
use Rattle.std.specs.Cmp.{IsTotalOrder}
use Rattle.std.specs.Ordering.{is_lt}
use Rattle.std.specs.declared.cmp.Ordering.{Ordering}
use Rattle.std.specs.declared.cmp.Ordering.TheVariants.{Less}
use Rattle.std.specs.Map.{lookup}
use Rattle.std.specs.BTreeMap.{is_at}
use Rattle.std.proofs.lemmas.Cmp.{eq_by_cmp_equiv}
use Rattle.lemmas.proofs.Tests.{cond_or}
use Rattle.rows.proofs.Stored.{both}

module _ {K X : Type 0} (R : K → K → Ordering) where
  -- the value at a key
  abbrev pub at : List (K × X) → K → Option X
  at es q = lookup (is_at (R q)) es

  find_at : (es : List (K × X)) (q : K) → find R q es ≡ at es q
  find_at [] q = refl
  find_at (e ∷ es) q = ap (cond (is_at (R q) e.0) (Some e.1)) (find_at es q)

  ascending : (k : K) (es : List (K × X)) → AllByRecursion (λ y. R k y ≡ Less) (map (λ e. e.0) es) → T (below_all R k es)
  ascending k [] h = tt
  ascending k (e ∷ es) h = both (is_lt (R k e.0)) (below_all R k es) (subst (λ r. T (is_lt r)) (sym h.0) tt) (ascending k es h.1)

  is_ordered : (es : List (K × X)) → IsStrictlySortedBy R (map (λ e. e.0) es) → T (is_sorted R es)
  unfolding IsStrictlySortedBy
  is_ordered [] h = tt
  is_ordered (e ∷ es) h = both (below_all R e.0 es) (is_sorted R es) (ascending e.0 es h.0) (is_ordered es h.1)

  module _ (total : IsTotalOrder R) where
    pub get-stored : (es : List (K × X)) (q : K) → get (from_entries {R = R} es) q ≡ at es q
    get-stored es q = get-from_entries total es q ∙ find_at es q

    module _ (exact : IsAntisymmetric R) where
      pub one_put : (es fs : List (K × X)) (k : K) (x : X) → ((q : K) → at fs q ≡ cond (is_at (R k) q) (Some x) (at es q)) → from_entries {R = R} fs ≡ insert (from_entries es) k x
      one_put es fs k x h = same_map total exact _ _ (λ q.
          get-stored fs q ∙ h q ∙ ap (λ b. cond b (Some x) (at es q)) ((eq_by_cmp_equiv total).symm k q)
          ∙ sym (get-insert total (from_entries es) k x q ∙ ap (cond (is_at (R q) k) (Some x)) (get-stored es q)))

      -- what is stored in order is listed in that order
      pub entries-stored : (es : List (K × X)) → IsStrictlySortedBy R (map (λ e. e.0) es) → entries (from_entries {R = R} es) ≡ es
      entries-stored es h =
          same_entries R total exact (entries (from_entries es)) es (entries_sorted (from_entries es)) (is_ordered es h)
          (λ q. sym (get-entries (from_entries es) q) ∙ get-from_entries total es q)

-- the keys of a list as a finite set
pub one_key : {K : Type 0} (R : K → K → Ordering) → IsTotalOrder R → IsAntisymmetric R → (ks js : List K) (k : K)
    → ((q : K) → list_any (is_at (R q)) js ≡ cond (is_at (R k) q) true (list_any (is_at (R q)) ks)) → from_list {R = R} js ≡ add (from_list ks) k
one_key R total exact ks js k h = same_set total exact _ _ (λ q.
    contains-from_list total js q ∙ h q ∙ cond_or (is_at (R k) q) (list_any (is_at (R q)) ks)
    ∙ (λ i. (eq_by_cmp_equiv total).symm k q i || sym (contains-from_list total ks q) i) ∙ sym (contains-insert total (from_list ks) k q))
