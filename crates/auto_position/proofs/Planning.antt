-- The places of the entries that are sent.
use Rattle.std.proofs.Common.{◌≡◌, ℕ, ◌+◌, ◌<◌, Bool, true, false, cond, List, [], ◌∷◌, ◌++◌, length, Some, Result, Ok, refl, sym, ap, subst, ◌∙◌, append_assoc, arith}
use Rattle.std.specs.Prelude.{slice_get}
use Rattle.std.specs.List.{filter, AllByRecursion}
use Rattle.std.specs.List.Sorted.{IsStrictlyIncreasing, IsStrictlySortedBy}
use Rattle.std.specs.Ordering.{nat_cmp}
use Rattle.std.specs.declared.cmp.Ordering.TheVariants.{Less}
use Rattle.std.proofs.lemmas.List.{length-append}
use Rattle.std.proofs.lemmas.Map.Keys.{IsStrictlyIncreasing-from_sorted}
use Rattle.gtid_set.specs.Sets.{Gtids}
use Rattle.journal.specs.declared.Entry.{Entry}
use Rattle.auto_position.specs.Sending.{is_wanted, places_from, AreAt, IsPlan}
use Rattle.auto_position.specs.declared.PositionFault.{PositionFault}

stands_at : (front : List Entry) (e : Entry) (back : List Entry) → slice_get (front ++ e ∷ back) (length front) ≡ Some e
stands_at [] e back = refl
stands_at (f ∷ fs) e back = stands_at fs e back

at_from : (t : Entry → Bool) (front entries : List Entry) (k : ℕ) → length front ≡ k → AreAt (front ++ entries) (places_from t k entries) (filter t entries)
at_from t front [] k long = tt
at_from t front (e ∷ es) k long =
    let one : length (front ++ e ∷ []) ≡ k + 1 = length-append front (e ∷ []) ∙ ap (λ (n : ℕ). n + 1) long in
    let rest : AreAt (front ++ e ∷ es) (places_from t (k + 1) es) (filter t es) = subst (λ (all : List Entry). AreAt all (places_from t (k + 1) es) (filter t es)) (append_assoc front (e ∷ []) es) (at_from t (front ++ e ∷ []) es (k + 1) one) in
    elim (t e) as (λ b. AreAt (front ++ e ∷ es) (cond b (k ∷ places_from t (k + 1) es) (places_from t (k + 1) es)) (cond b (e ∷ filter t es) (filter t es))) [
      | true ↦ (ap (slice_get (front ++ e ∷ es)) (sym long) ∙ stands_at front e es, rest)
      | false ↦ rest
    ]

below : (a b : ℕ) → a < b → nat_cmp a b ≡ Less
below a b lt = grind arith

above : (t : Entry → Bool) (m k : ℕ) (entries : List Entry) → m < k → AllByRecursion (λ y. nat_cmp m y ≡ Less) (places_from t k entries)
above t m k [] lt = tt
above t m k (e ∷ es) lt =
    let rest = above t m (k + 1) es (omega arith) in
    elim (t e) as (λ b. AllByRecursion (λ y. nat_cmp m y ≡ Less) (cond b (k ∷ places_from t (k + 1) es) (places_from t (k + 1) es))) [
      | true ↦ (below m k lt, rest)
      | false ↦ rest
    ]

rising : (t : Entry → Bool) (k : ℕ) (entries : List Entry) → IsStrictlySortedBy nat_cmp (places_from t k entries)
unfolding IsStrictlySortedBy
rising t k [] = tt
rising t k (e ∷ es) =
    elim (t e) as (λ b. IsStrictlySortedBy nat_cmp (cond b (k ∷ places_from t (k + 1) es) (places_from t (k + 1) es))) [
      | true ↦ (above t k (k + 1) es (omega arith), rising t (k + 1) es)
      | false ↦ rising t (k + 1) es
    ]

-- the places of what is wanted are the plan, where that is what is sent
pub is_plan : (entries : List Entry) (ask : Gtids) (places : List ℕ) (sending : Result (List Entry) PositionFault)
    → places ≡ places_from (is_wanted ask) 0 entries → sending ≡ Ok (filter (is_wanted ask) entries) → IsPlan entries places sending
is_plan entries ask places sending is s =
    let t = is_wanted ask in
    record {
      sends = filter t entries;
      sent_is = s;
      at = subst (λ (ps : List ℕ). AreAt entries ps (filter t entries)) (sym is) (at_from t [] entries 0 refl);
      rising = subst IsStrictlyIncreasing (sym is) (IsStrictlyIncreasing-from_sorted (places_from t 0 entries) (rising t 0 entries));
    }
