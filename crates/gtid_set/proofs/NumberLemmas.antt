-- Numbers of one source as spans.
use Rattle.std.proofs.Common.{◌≡◌, ◌≤◌, ◌+◌, ◌-◌, ℕ, zero, suc, true, false, List, [], ◌∷◌, ◌++◌, Some, length, max, get_or, set, refl, sym, ap, ◌∙◌, arith}
use Rattle.std.specs.List.{slice_get}
use Rattle.std.proofs.lemmas.List.{length_push}
use Rattle.interval_pool.specs.declared.interval.Interval.{Interval}
use Rattle.gtid_set.specs.Numbers.{numbered, all_numbered}
use Rattle.gtid_set.specs.Spans.{is_before, is_merged}
use Rattle.gtid_set.specs.Sweep.{Joins, all_start_by}
use Rattle.gtid_set.proofs.SpanLemmas.{IsLast, last_got, joins_at, joins_set}

-- an interval more after others
pub pushed : (old new : List Interval) (s : Interval) → new ≡ old ++ s ∷ [] → all_numbered new ≡ all_numbered old ++ numbered s ∷ []
pushed old new s e = ap all_numbered e ∙ behind old
  where
    behind : (old : List Interval) → all_numbered (old ++ s ∷ []) ≡ all_numbered old ++ numbered s ∷ []
    behind [] = refl
    behind (t ∷ old) = ap (λ ss. numbered t ∷ ss) (behind old)

as_many : (is : List Interval) → length (all_numbered is) ≡ length is
as_many [] = refl
as_many (s ∷ is) = ap suc (as_many is)

-- the last of them
pub last_numbered : (is : List Interval) (l : Interval) → slice_get is (length is - 1) ≡ Some l → IsLast (all_numbered is) (numbered l)
last_numbered is l got = last_got (all_numbered is) (numbered l) (ap (λ n. slice_get (all_numbered is) (n - 1)) (as_many is) ∙ here is (length is - 1) got)
  where
    here : (is : List Interval) (n : ℕ) → slice_get is n ≡ Some l → slice_get (all_numbered is) n ≡ Some (numbered l)
    here [] n e = absurd cc
    here (s ∷ is) zero e = ap (λ (x : Interval). Some (numbered x)) (let same : s ≡ l = cc in same)
    here (s ∷ is) (suc n) e = here is n e

-- a write to the last
pub joins_numbered : (is : List Interval) (l x t : Interval) (k hi : ℕ) → slice_get is (length is - 1) ≡ Some l → k ≡ length is - 1 → x ≡ get_or is k x → hi ≡ max l.hi t.hi
    → is_merged (all_numbered is) ≡ true → all_start_by (all_numbered is) (numbered t) ≡ true → t.lo ≤ t.hi → is_before (numbered l) (numbered t) ≡ false
    → Joins (all_numbered is) (numbered t) (all_numbered (set is k (record { lo = x.lo; hi = hi })))
joins_numbered is l x t k hi got at read top m o f b =
    let last = last_numbered is l got in
    let long : length is ≡ length last.front + 1 = sym (as_many is) ∙ ap length last.parts ∙ length_push last.front (numbered l) in
    let place : k ≡ length last.front = omega (arith, long, at) in
    joins_at (all_numbered is) (all_numbered is) (all_numbered (set is k (record { lo = x.lo; hi = hi }))) _ (numbered t) refl (written is k (record { lo = x.lo; hi = hi }))
    (joins_set (all_numbered is) last.front (numbered l) (numbered x) (numbered t) k hi last.parts place (ap numbered read ∙ shown is k x) top m o f b)
  where
    written : (is : List Interval) (k : ℕ) (y : Interval) → all_numbered (set is k y) ≡ set (all_numbered is) k (numbered y)
    written [] k y = refl
    written (s ∷ is) zero y = refl
    written (s ∷ is) (suc k) y = ap (λ ss. numbered s ∷ ss) (written is k y)

    shown : (is : List Interval) (k : ℕ) (y : Interval) → numbered (get_or is k y) ≡ get_or (all_numbered is) k (numbered y)
    shown [] k y = refl
    shown (s ∷ is) zero y = refl
    shown (s ∷ is) (suc k) y = shown is k y
