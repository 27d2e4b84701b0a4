-- The least free number is found from the least unused one on.
use Rattle.std.proofs.Common.{◌≡◌, ℕ, ◌+◌, ◌-◌, zero, suc, Bool, true, false, not, ◌&&◌, cond, refl, ap, ◌∙◌, arith}
use Rattle.std.specs.Prelude.{Some, None, find, is_none}
use Rattle.std.specs.List.{range_with_len}
use Rattle.std.specs.FinSet as set
use Rattle.gtid_set.specs.Sets.{gtid, greatest, least_number, least_unused}
use Rattle.gtid_set.proofs.SetLemmas.{least_from}
use Rattle.replica_core.specs.State.{Site, State, owner}
use Rattle.replica_core.specs.Machine.{is_free, next_number}

-- where one test passes no more than another, its first is to be found from the other's first on
skipped_by : (u f : ℕ → Bool) (m a first : ℕ) (b : Bool) → u a ≡ b → (u a ≡ false → f a ≡ false) → (find u (range_with_len (a + 1) m) ≡ Some first → find f (range_with_len (a + 1) m) ≡ find f (range_with_len first (a + 1 + m - first))) → cond b (Some a) (find u (range_with_len (a + 1) m)) ≡ Some first → cond (f a) (Some a) (find f (range_with_len (a + 1) m)) ≡ find f (range_with_len first (a + suc m - first))
skipped_by u f m a first true is less rest at =
    let same : a ≡ first = cc in
    let count : suc m ≡ a + suc m - a = omega arith in
    ap (λ k. find f (range_with_len a k)) count ∙ ap (λ x. find f (range_with_len x (a + suc m - x))) same
skipped_by u f m a first false is less rest at =
    let count : a + 1 + m - first ≡ a + suc m - first = omega arith in
    ap (λ b. cond b (Some a) (find f (range_with_len (a + 1) m))) (less is) ∙ rest at ∙ ap (λ k. find f (range_with_len first k)) count

pub skipped : (u f : ℕ → Bool) → ((n : ℕ) → u n ≡ false → f n ≡ false) → (m a first : ℕ) → find u (range_with_len a m) ≡ Some first → find f (range_with_len a m) ≡ find f (range_with_len first (a + m - first))
skipped u f less zero a first at = absurd (cc at)
skipped u f less (suc m) a first at = skipped_by u f m a first (u a) refl (less a) (skipped u f less m (a + 1) first) at

none_by : (u f : ℕ → Bool) (m a : ℕ) (b : Bool) → u a ≡ b → (u a ≡ false → f a ≡ false) → (find u (range_with_len (a + 1) m) ≡ None → find f (range_with_len (a + 1) m) ≡ None) → cond b (Some a) (find u (range_with_len (a + 1) m)) ≡ None → cond (f a) (Some a) (find f (range_with_len (a + 1) m)) ≡ None
none_by u f m a true is less rest at = absurd (cc at)
none_by u f m a false is less rest at = ap (λ b. cond b (Some a) (find f (range_with_len (a + 1) m))) (less is) ∙ rest at

pub none_left : (u f : ℕ → Bool) → ((n : ℕ) → u n ≡ false → f n ≡ false) → (m a : ℕ) → find u (range_with_len a m) ≡ None → find f (range_with_len a m) ≡ None
none_left u f less zero a at = refl
none_left u f less (suc m) a at = none_by u f m a (u a) refl (less a) (none_left u f less m (a + 1)) at

pub next_from : (site : Site) (s : State) (first : ℕ) → least_unused s.executed site.own ≡ Some first → next_number site s ≡ least_from (is_free site s) first (1 + greatest - first)
unfolding least_number least_from
next_from site s first at =
    skipped (λ n. not (set.contains s.executed (gtid site.own n))) (is_free site s)
    (λ n used. ap (λ b. b && is_none (owner s (gtid site.own n))) used) greatest 1 first at

pub no_next : (site : Site) (s : State) → least_unused s.executed site.own ≡ None → next_number site s ≡ None
unfolding least_number
no_next site s at =
    none_left (λ n. not (set.contains s.executed (gtid site.own n))) (is_free site s)
    (λ n used. ap (λ b. b && is_none (owner s (gtid site.own n))) used) greatest 1 at
