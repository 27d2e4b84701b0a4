-- The receipts that were found at the places below some number.
use Rattle.std.proofs.Common.{◌≡◌, ◌⊎◌, ℕ, zero, suc, replicate, ◌+◌, ◌<◌, ◌≤◌, List, length, get_or, set, Some, slice_get, sym, ◌∙◌, ap, ⊎_elim, inl, inr, arith, get_or-set_same, get_or-set_other}
use Rattle.std.proofs.lemmas.Bool.{cases_eq}
use Rattle.std.proofs.lemmas.Option.{slice_get_within}
use Rattle.shared_replica.specs.declared.step.Step.{Step}
use Rattle.shared_replica.specs.declared.step.Receipt.{Receipt}
use Rattle.shared_replica.specs.Passes.{PassValue}
use Rattle.shared_replica.specs.Closing.{At, IsMerge}

-- of each pass, the receipts before its cursor are at their places, which are below upto
pub record Merged (passes : List PassValue) (steps : List Step) (upto : ℕ) (cursors : List ℕ) : Type 0 where
  pub below : (i k : ℕ) (r : Receipt) → At passes i k r → k < get_or cursors i 0 → (r.place < upto) × (slice_get steps r.place ≡ Some r.step)
  pub rises : (i j k : ℕ) (r s : Receipt) → At passes i j r → At passes i k s → j < k → k < get_or cursors i 0 → r.place < s.place
  pub apart : (i j k l : ℕ) (r s : Receipt) → At passes i k r → At passes j l s → k < get_or cursors i 0 → l < get_or cursors j 0 → r.place ≡ s.place → (i ≡ j) × (k ≡ l)
  pub covers : (q : ℕ) → q < upto → (i : ℕ) × (k : ℕ) × (r : Receipt) × At passes i k r × (r.place ≡ q)

same_receipt : (passes : List PassValue) (i j k l : ℕ) (r s : Receipt) → i ≡ j → k ≡ l → At passes i k r → At passes j l s → r ≡ s
same_receipt passes i j k l r s e f a b =
    let p : a.0 ≡ b.0 = cc (a.1, b.1, e) in
    cc (a.2, b.2, p, f)

-- a receipt before the moved cursor is an old one, or the one that was passed
before : (cursors : List ℕ) (at i k : ℕ) → at < length cursors → k < get_or (set cursors at (get_or cursors at 0 + 1)) i 0
    → (k < get_or cursors i 0) ⊎ ((i ≡ at) × (k ≡ get_or cursors at 0))
before cursors at i k room h =
    ⊎_elim
    (λ (same : i ≡ at).
    let moved : get_or (set cursors at (get_or cursors at 0 + 1)) i 0 ≡ get_or cursors at 0 + 1 = ap (λ n. get_or (set cursors at (get_or cursors at 0 + 1)) n 0) same ∙ get_or-set_same cursors at (get_or cursors at 0 + 1) 0 room in
    let here : get_or cursors i 0 ≡ get_or cursors at 0 = ap (λ n. get_or cursors n 0) same in
    ⊎_elim (λ (last : k ≡ get_or cursors at 0). inr (same, last)) (λ other. inl (omega (arith, moved, here, h, other))) (cases_eq k (get_or cursors at 0)))
    (λ other. inl (omega (arith, h, get_or-set_other cursors at i (get_or cursors at 0 + 1) 0 other)))
    (cases_eq i at)

pub merged_step : (passes : List PassValue) (steps : List Step) (upto : ℕ) (cursors : List ℕ) (at : ℕ) (new : Receipt)
    → Merged passes steps upto cursors → at < length cursors → At passes at (get_or cursors at 0) new → new.place ≡ upto → slice_get steps upto ≡ Some new.step
    → Merged passes steps (upto + 1) (set cursors at (get_or cursors at 0 + 1))
merged_step passes steps upto cursors at new m room there place stands = record {
  below = λ i k r a h.
      ⊎_elim
      (λ (old : k < get_or cursors i 0). let b = m.below i k r a old in (omega (arith, b.0), b.1))
      (λ (last : (i ≡ at) × (k ≡ get_or cursors at 0)).
      let is = same_receipt passes i at k (get_or cursors at 0) r new last.0 last.1 a there in
      (omega (arith, ap (λ (x : Receipt). x.place) is, place), cc (ap (λ (x : Receipt). x.place) is, place, stands, ap (λ (x : Receipt). x.step) is)))
      (before cursors at i k room h);
  rises = λ i j k r s a b less h.
      ⊎_elim
      (λ (old : k < get_or cursors i 0). m.rises i j k r s a b less old)
      (λ (last : (i ≡ at) × (k ≡ get_or cursors at 0)).
      let is = same_receipt passes i at k (get_or cursors at 0) s new last.0 last.1 b there in
      let here : get_or cursors i 0 ≡ get_or cursors at 0 = ap (λ n. get_or cursors n 0) last.0 in
      let earlier = m.below i j r a (omega (arith, less, last.1, here)) in
      omega (arith, earlier.0, ap (λ (x : Receipt). x.place) is, place))
      (before cursors at i k room h);
  apart = λ i j k l r s a b h h' same.
      ⊎_elim
      (λ (old : k < get_or cursors i 0).
      ⊎_elim
      (λ (old' : l < get_or cursors j 0). m.apart i j k l r s a b old old' same)
      (λ (last : (j ≡ at) × (l ≡ get_or cursors at 0)).
      let is = same_receipt passes j at l (get_or cursors at 0) s new last.0 last.1 b there in
      absurd (omega (arith, (m.below i k r a old).0, ap (λ (x : Receipt). x.place) is, place, same)))
      (before cursors at j l room h'))
      (λ (first : (i ≡ at) × (k ≡ get_or cursors at 0)).
      let is = same_receipt passes i at k (get_or cursors at 0) r new first.0 first.1 a there in
      ⊎_elim
      (λ (old' : l < get_or cursors j 0). absurd (omega (arith, (m.below j l s b old').0, ap (λ (x : Receipt). x.place) is, place, same)))
      (λ (last : (j ≡ at) × (l ≡ get_or cursors at 0)). (first.0 ∙ sym last.0, first.1 ∙ sym last.1))
      (before cursors at j l room h'))
      (before cursors at i k room h);
  covers = λ q less.
      ⊎_elim
      (λ (here : q ≡ upto). (at, get_or cursors at 0, new, there, place ∙ sym here))
      (λ other. m.covers q (omega (arith, less, other)))
      (cases_eq q upto);
}

-- where each cursor is at the end of its pass, that holds of all receipts
pub merged_whole : (passes : List PassValue) (steps : List Step) (upto : ℕ) (cursors : List ℕ)
    → length steps ≤ upto → Merged passes steps upto cursors → ((i : ℕ) (p : PassValue) → slice_get passes i ≡ Some p → get_or cursors i 0 ≡ length p.receipts)
    → IsMerge passes steps
merged_whole passes steps upto cursors all m ends =
    let within : (i k : ℕ) (r : Receipt) → At passes i k r → k < get_or cursors i 0 =
    λ i k r a. omega (arith, slice_get_within a.0.receipts k r a.2, ends i a.0 a.1) in record {
      stands = λ i k r a. (m.below i k r a (within i k r a)).1;
      rises = λ i j k r s a b less. m.rises i j k r s a b less (within i k s b);
      apart = λ i j k l r s a b same. m.apart i j k l r s a b (within i k r a) (within j l s b) same;
      covers = λ q less. m.covers q (omega (arith, less, all));
    }

nothing_before : (n i k : ℕ) → k < get_or (replicate n 0) i 0 → ⊥
nothing_before zero i k h = omega arith
nothing_before (suc n) zero k h = omega arith
nothing_before (suc n) (suc i) k h = nothing_before n i k h

pub merged_none : (n : ℕ) (passes : List PassValue) (steps : List Step) → Merged passes steps 0 (replicate n 0)
merged_none n passes steps = record {
  below = λ i k r a h. absurd (nothing_before n i k h);
  rises = λ i j k r s a b less h. absurd (nothing_before n i k h);
  apart = λ i j k l r s a b h h' same. absurd (nothing_before n i k h);
  covers = λ q less. absurd (omega (arith, less));
}
