-- The transactions of a list in which no GTID occurs twice, as the order of a world.
use Rattle.std.proofs.Common.{◌≡◌, ◌≢◌, false, ◌||◌, ◌⊎◌, inl, inr, List, [], ◌∷◌, ◌++◌, map, Some, refl, sym, ap, ◌∙◌}
use Rattle.std.proofs.lemmas.Bool.{cases_Bool, or_parts, or_from}
use Rattle.lemmas.proofs.Tests.{not_both}
use Rattle.lemmas.proofs.SameGtid.{same_itself, same_is_equal}
use Rattle.gtid_text.specs.declared.Gtid.{Gtid}
use Rattle.gtid_text.specs.Gtids.{same_gtid}
use Rattle.journal.specs.declared.Entry.{Entry}
use Rattle.history.specs.World as ordered
use Rattle.history.specs.World.{AreDistinct}
use Rattle.history.proofs.Entries.{all_of, found_in}
use Rattle.history.proofs.Covering.{entry_of, entries_append}
use Rattle.convergence.proofs.Invariant.{IsIn}
use Rattle.convergence.proofs.Permuting.{is_in_entry}
use Rattle.network.specs.Sending.{is_entry}
use Rattle.network.specs.Runs.{pair}
use Rattle.network.proofs.Prefixes.{IsOnce}

-- ---- members

pub in_append : (xs ys : List Entry) (x : Entry) → IsIn x (xs ++ ys) → IsIn x xs ⊎ IsIn x ys
in_append [] ys x i = inr i
in_append (e ∷ xs) ys x (inl same) = inl (inl same)
in_append (e ∷ xs) ys x (inr later) = elim (in_append xs ys x later) [ inl i ↦ inl (inr i) | inr j ↦ inr j ]

pub in_left : (xs ys : List Entry) (x : Entry) → IsIn x xs → IsIn x (xs ++ ys)
in_left [] ys x i = absurd i
in_left (e ∷ xs) ys x (inl same) = inl same
in_left (e ∷ xs) ys x (inr later) = inr (in_left xs ys x later)

pub in_right : (xs ys : List Entry) (x : Entry) → IsIn x ys → IsIn x (xs ++ ys)
in_right [] ys x i = i
in_right (e ∷ xs) ys x i = inr (in_right xs ys x i)

-- ---- no GTID twice

pub once_push : (es : List Entry) (x : Entry) → IsOnce es → is_entry es x.gtid ≡ false → IsOnce (es ++ x ∷ [])
once_push [] x once n = (refl, tt)
once_push (e ∷ es) x once n =
    let two = or_parts (same_gtid x.gtid e.gtid) (is_entry es x.gtid) n in
    let other : same_gtid e.gtid x.gtid ≡ false = elim (cases_Bool (same_gtid e.gtid x.gtid)) [
      | inl same ↦ not_both (same_gtid x.gtid e.gtid) (ap (λ (g : Gtid). same_gtid g e.gtid) (sym (same_is_equal e.gtid x.gtid same)) ∙ same_itself e.gtid) two.0
      | inr o ↦ o
    ] in (
      entries_append es (x ∷ []) e.gtid ∙ or_from (is_entry es e.gtid) (same_gtid e.gtid x.gtid || false) once.0 (or_from (same_gtid e.gtid x.gtid) false other refl),
      once_push es x once.1 two.1,
    )

-- ---- the order

-- an entry of the order is one of these
pub pair_from : (es : List Entry) (x : ordered.Entry) → ordered.IsIn x (map pair es) → IsIn (entry_of x.0 x.1) es
pair_from [] x i = absurd i
pair_from (e ∷ es) x (inl same) = inl (λ i. record { gtid = (same i).0; txn = (same i).1 })
pair_from (e ∷ es) x (inr later) = inr (pair_from es x later)

pub pair_there : (es : List Entry) (x : Entry) → IsIn x es → ordered.IsIn (pair x) (map pair es)
pair_there [] x i = absurd i
pair_there (e ∷ es) x (inl same) = inl (ap pair same)
pair_there (e ∷ es) x (inr later) = inr (pair_there es x later)

pub pairs_append : (xs ys : List Entry) → map pair (xs ++ ys) ≡ map pair xs ++ map pair ys
pairs_append [] ys = refl
pairs_append (x ∷ xs) ys = ap (λ (zs : List ordered.Entry). pair x ∷ zs) (pairs_append xs ys)

pub pairs_distinct : (es : List Entry) → IsOnce es → AreDistinct (map pair es)
pairs_distinct [] once = tt
pairs_distinct (e ∷ es) once = (
  all_of (λ (f : ordered.Entry). e.gtid ≢ f.0) (map pair es) (λ f i same.
      not_both (is_entry es e.gtid) (ap (is_entry es) same ∙ is_in_entry es (entry_of f.0 f.1) (pair_from es f i)) once.0),
  pairs_distinct es once.1,
)

pub content_there : (es : List Entry) (x : Entry) → IsOnce es → IsIn x es → ordered.find x.gtid (map pair es) ≡ Some x.txn
content_there es x once i = found_in (map pair es) (pair x) (pairs_distinct es once) (pair_there es x i)
