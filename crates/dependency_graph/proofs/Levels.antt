-- The blocks of one width, as the numbers change that they count.
use Rattle.std.proofs.Common.{inl, inr, List, [], ◌∷◌, ◌++◌, get_or, get_or-set_same, get_or-set_other, true≢false, ◌≡◌, ℕ, zero, suc, ◌+◌, ◌-◌, ◌*◌, ◌/◌, ◌%◌, ◌<◌, ◌≤◌, ◌⊎◌, Bool, true, false, cond, length, refl, sym, ap, ◌∙◌, arith}
use Rattle.std.specs.Prelude.{nat_lt, nat_eq, slice_set, Result}
use Rattle.std.proofs.Math.Dec.{ltb, eqb}
use Rattle.std.proofs.Math.Nat.{mul-le-mul_right, le_of_mul-le-mul_right}
use Rattle.std.proofs.lemmas.Bool.{ltb-true, ltb-false, eqb-true, eq-eqb}
use Rattle.dependency_graph.specs.Ready.{tally, count_at, IsLevelOf, Turns, IsBlock, Opens, Raises, Lowers, Passes, Restarts}
use Rattle.dependency_graph.specs.declared.ready.Level.{Level}
use Rattle.dependency_graph.proofs.Tally.{tally_same, tally_small, tally_nothing, tally_none, tally_more, in_block, other_block, from_block, below_block, to_block_end}

module _ (w : ℕ) (pos : 0 < w) where
  -- the block of a number that is kept
  pub has_block : (l : Level) (base end n : ℕ) (p : ℕ → Bool) → base ≤ n → n < end → IsLevelOf w l base end p → IsBlock l (n / w)
  has_block l base end n p lo hi h =
      let low = h.low in
      let high = h.high in
      (from_block l.first w n pos (omega (low, lo, arith)), below_block (l.first + length l.counts.items) w n pos (omega (hi, high, arith)))

  same_ends : (old new : Level) (base end : ℕ) (p q : ℕ → Bool) → new.first ≡ old.first → length new.counts.items ≡ length old.counts.items → ((b : ℕ) → count_at new b ≡ tally q (b * w) w) → IsLevelOf w old base end p → IsLevelOf w new base end q
  same_ends old new base end p q first long tells h =
      let low = ap (λ n. n * w) first in
      let was_low = h.low in
      let same : new.first + length new.counts.items ≡ old.first + length old.counts.items = omega (first, long, arith) in
      let high = ap (λ n. n * w) same in
      let was_high = h.high in
      record { low = omega (low, was_low, arith); high = omega (high, was_high, arith); tells = tells }

  module _ (old new : Level) (base end n : ℕ) (p q : ℕ → Bool) (lo : base ≤ n) (hi : n < end) (t : Turns p q n true) where
    here : (b : ℕ) → b ≡ n / w → tally q (b * w) w ≡ tally p (b * w) w + 1
    here b e =
        let inside = in_block w n pos in
        let same = ap (λ x. x * w) e in
        let from = inside.0 in
        let to = inside.1 in
        tally_more p q (b * w) w n t (omega (same, from, arith)) (omega (same, to, arith))

    elsewhere : (b : ℕ) → (b ≡ n / w → ⊥) → tally q (b * w) w ≡ tally p (b * w) w
    elsewhere b ne = tally_same q p (b * w) w (λ m from to. t.others m (other_block w b n m pos ne from to))

    raise_by : (b : ℕ) (here_it_is : Bool) → eqb b (n / w) ≡ here_it_is → (b' : ℕ) → tally p (b * w) w ≡ b' → cond here_it_is (b' + 1) b' ≡ tally q (b * w) w
    raise_by b true e x told = ap (λ n. n + 1) (sym told) ∙ sym (here b (eqb-true b (n / w) e))
    raise_by b false e x told = sym told ∙ sym (elsewhere b (λ same. not_equal b (n / w) e same))
      where
        not_equal : (a c : ℕ) → eqb a c ≡ false → a ≡ c → ⊥
        not_equal a c e same = grind arith

    pub level_raise : w ≤ 262144 → Raises old new (n / w) → IsLevelOf w old base end p → IsLevelOf w new base end q
    level_raise small r h =
        same_ends old new base end p q r.first r.long
        (λ b. r.counts (has_block old base end n p lo hi h) few b ∙ raise_by b (eqb b (n / w)) refl (count_at old b) (sym (h.tells b))) h
      where
        few : count_at old (n / w) < 4294967296
        few = let told = h.tells (n / w) in let most = tally_small p (n / w * w) w in omega (told, most, small, arith)

    lower_by : (b : ℕ) (here_it_is : Bool) → eqb b (n / w) ≡ here_it_is → (b' : ℕ) → tally q (b * w) w ≡ b' → cond here_it_is (b' - 1) b' ≡ tally p (b * w) w
    lower_by b true e x told = let more = here b (eqb-true b (n / w) e) in omega (more, told, arith)
    lower_by b false e x told = sym told ∙ elsewhere b (λ same. not_equal b (n / w) e same)
      where
        not_equal : (a c : ℕ) → eqb a c ≡ false → a ≡ c → ⊥
        not_equal a c e same = grind arith

    pub level_lower : Lowers old new (n / w) → IsLevelOf w old base end q → IsLevelOf w new base end p
    level_lower r h =
        same_ends old new base end q p r.first r.long
        (λ b. r.counts (has_block old base end n q lo hi h) b ∙ lower_by b (eqb b (n / w)) refl (count_at old b) (sym (h.tells b))) h

  module _ {E : Type 0} (old new : Level) (block : ℕ) (result : Result (Unit {0}) E) (o : Opens old new block result) where
    pub level_open : (base end : ℕ) (p : ℕ → Bool) → IsLevelOf w old base end p → IsLevelOf w new base end p
    level_open base end p h =
        let first = o.first in
        let longer = o.longer in
        let low = ap (λ n. n * w) first in
        let was_low = h.low in
        let was_high = h.high in
        let more : (old.first + length old.counts.items) * w ≤ (new.first + length new.counts.items) * w = mul-le-mul_right w (omega (first, longer, arith)) in
        record { low = omega (low, was_low, arith); high = omega (more, was_high, arith); tells = λ b. o.same b ∙ h.tells b }

  -- room for the next number
  pub level_more : (old new : Level) (base n : ℕ) (p : ℕ → Bool) → base ≤ n → IsLevelOf w old base n p → (old.first ≤ n / w → n / w ≤ old.first + length old.counts.items → IsBlock new (n / w)) → IsLevelOf w new base n p → IsLevelOf w new base (n + 1) p
  level_more old new base n p lo was opened h =
      let low = was.low in
      let high = was.high in
      let inside = in_block w n pos in
      let from = inside.0 in
      let to = inside.1 in
      let within : n / w * w ≤ (old.first + length old.counts.items) * w = omega (from, high, arith) in
      let placed = opened (from_block old.first w n pos (omega (low, lo, arith))) (le_of_mul-le-mul_right within pos) in
      let last = placed.1 in
      let room : (n / w + 1) * w ≤ (new.first + length new.counts.items) * w = mul-le-mul_right w (omega (last, arith)) in
      record { low = h.low; high = omega (to, room, arith); tells = h.tells }

  -- fewer numbers
  pub level_less : (l : Level) (base end fewer : ℕ) (p : ℕ → Bool) → fewer ≤ end → IsLevelOf w l base end p → IsLevelOf w l base fewer p
  level_less l base end fewer p le h = record { low = h.low; high = (let high = h.high in omega (high, le, arith)); tells = h.tells }

  module _ (old new : Level) (was base end : ℕ) (p : ℕ → Bool) (le : was ≤ base) (gone : (m : ℕ) → m < base → p m ≡ false) (s : Passes old new (base / w)) (h : IsLevelOf w old was end p) where
    low_now : (new.first ≡ old.first) ⊎ ((new.first ≡ old.first + 1) × (old.first < base / w)) → new.first * w ≤ base
    low_now (inl same) = let low = h.low in let e = ap (λ n. n * w) same in omega (low, e, le, arith)
    low_now (inr both) =
        let e = ap (λ n. n * w) both.0 in
        let next : (old.first + 1) * w ≤ base / w * w = mul-le-mul_right w (let lt = both.1 in omega (lt, arith)) in
        let from = (in_block w base pos).0 in
        omega (e, next, from, arith)

    tells_by : (b : ℕ) (front : Bool) → ltb b new.first ≡ front → count_at new b ≡ tally p (b * w) w
    tells_by b true e =
        let next : (b + 1) * w ≤ new.first * w = mul-le-mul_right w (let lt = ltb-true b new.first e in omega (lt, arith)) in
        let low = low_now s.first in
        ap (λ c. cond c 0 (get_or new.counts.items (b - new.first) 0)) e ∙ sym (tally_nothing p (b * w) w (λ m from to. gone m (omega (to, next, low, arith))))
    tells_by b false e = s.counts b (ltb-false b new.first e) ∙ h.tells b

    pub level_pass : IsLevelOf w new base end p
    level_pass =
        let same = ap (λ n. n * w) s.end in
        let high = h.high in
        record { low = low_now s.first; high = omega (same, high, arith); tells = λ b. tells_by b (ltb b new.first) refl }

  -- no number of a block that counts none
  pub level_bare : (l : Level) (base end n k : ℕ) (p : ℕ → Bool) → IsLevelOf w l base end p → count_at l (n / w) ≡ 0 → k ≡ w - n % w → (m : ℕ) → n ≤ m → m < n + k → p m ≡ false
  level_bare l base end n k p h none e m lo hi =
      let from = (in_block w n pos).0 in
      let to = to_block_end w n k pos e in
      tally_none p (n / w * w) w m (sym (h.tells (n / w)) ∙ none) (omega (from, lo, arith)) (omega (to, hi, arith))

-- one block's count changed
module _ (f : ℕ → ℕ) (old new : Level) (block at v : ℕ) (at_is : at ≡ block - old.first) (first : new.first ≡ old.first) (items : new.counts.items ≡ slice_set old.counts.items at v)
    (inside : IsBlock old block) (v_is : v ≡ f (count_at old block)) where
  kept_here : (b : ℕ) (front : Bool) → ltb b old.first ≡ front → b ≡ block → cond front 0 (get_or (slice_set old.counts.items at v) (b - old.first) 0) ≡ f (count_at old b)
  kept_here b true e same = absurd (let lt = ltb-true b old.first e in let le = inside.0 in omega (lt, le, same, arith))
  kept_here b false e same =
      let place : b - old.first ≡ at = omega (at_is, same, arith) in
      let within : at < length old.counts.items = let lt = inside.1 in let le = inside.0 in omega (lt, le, at_is, arith) in
      ap (λ i. get_or (slice_set old.counts.items at v) i 0) place ∙ get_or-set_same old.counts.items at v 0 within ∙ v_is ∙ ap (λ n. f (count_at old n)) (sym same)

  kept_elsewhere : (b : ℕ) (front : Bool) → ltb b old.first ≡ front → (b ≡ block → ⊥) → cond front 0 (get_or (slice_set old.counts.items at v) (b - old.first) 0) ≡ cond front 0 (get_or old.counts.items (b - old.first) 0)
  kept_elsewhere b true e ne = refl
  kept_elsewhere b false e ne = get_or-set_other old.counts.items at (b - old.first) v 0 (λ same. ne (let le = ltb-false b old.first e in let le' = inside.0 in omega (le, le', at_is, same, arith)))

  changed_by : (b : ℕ) (here_it_is : Bool) → eqb b block ≡ here_it_is → count_at (record { first = old.first; counts = new.counts }) b ≡ cond here_it_is (f (count_at old b)) (count_at old b)
  changed_by b true e = ap (λ xs. cond (nat_lt b old.first) 0 (get_or xs (b - old.first) 0)) items ∙ kept_here b (ltb b old.first) refl (eqb-true b block e)
  changed_by b false e = ap (λ xs. cond (nat_lt b old.first) 0 (get_or xs (b - old.first) 0)) items ∙ kept_elsewhere b (ltb b old.first) refl (λ same. true≢false (sym (eq-eqb b block same) ∙ e))

  pub changed : (b : ℕ) → count_at new b ≡ cond (nat_eq b block) (f (count_at old b)) (count_at old b)
  changed b = ap (λ n. cond (nat_lt b n) 0 (get_or new.counts.items (b - n) 0)) first ∙ changed_by b (eqb b block) refl

push_zero : (xs : List ℕ) (i : ℕ) → get_or (xs ++ 0 ∷ []) i 0 ≡ get_or xs i 0
push_zero [] zero = refl
push_zero [] (suc i) = refl
push_zero (x ∷ xs) zero = refl
push_zero (x ∷ xs) (suc i) = push_zero xs i

-- one block more, which counts none
pub opened_same : (old new : Level) → new.first ≡ old.first → new.counts.items ≡ old.counts.items ++ 0 ∷ [] → (b : ℕ) → count_at new b ≡ count_at old b
opened_same old new first items b =
    ap (λ n. cond (nat_lt b n) 0 (get_or new.counts.items (b - n) 0)) first
    ∙ ap (λ xs. cond (nat_lt b old.first) 0 (get_or xs (b - old.first) 0)) items
    ∙ ap (cond (nat_lt b old.first) 0) (push_zero old.counts.items (b - old.first))

none_at : (xs : List ℕ) (i : ℕ) → length xs ≡ 0 → get_or xs i 0 ≡ 0
none_at [] zero e = refl
none_at [] (suc i) e = refl
none_at (x ∷ xs) i e = absurd (omega (e, arith))

either_way : (b : Bool) (n : ℕ) → n ≡ 0 → cond b 0 n ≡ 0
either_way true n e = refl
either_way false n e = e

-- no numbers and no blocks
pub level_new : (w : ℕ) (l : Level) (p : ℕ → Bool) → l.first ≡ 0 → length l.counts.items ≡ 0 → ((m : ℕ) → p m ≡ false) → IsLevelOf w l 0 0 p
level_new w l p first bare none =
    let low = ap (λ n. n * w) first in
    record {
      low = omega (low, arith);
      high = omega arith;
      tells = λ b. either_way (nat_lt b l.first) (get_or l.counts.items (b - l.first) 0) (none_at l.counts.items (b - l.first) bare) ∙ sym (tally_nothing p (b * w) w (λ m lo hi. none m));
    }

-- one block, where no number passes
pub level_restart : (w : ℕ) → 0 < w → (l : Level) (n : ℕ) (p : ℕ → Bool) → Restarts l (n / w) → ((m : ℕ) → p m ≡ false) → IsLevelOf w l n (n + 1) p
level_restart w pos l n p r none =
    let first = ap (λ b. b * w) r.first in
    let inside = in_block w n pos in
    let from = inside.0 in
    let to = inside.1 in
    let long = ap length r.bare in
    let end : (l.first + length l.counts.items) * w ≡ (n / w + 1) * w = ap (λ b. b * w) (sum r.first long) in
    record {
      low = omega (first, from, arith);
      high = omega (end, to, arith);
      tells = λ b. either_way (nat_lt b l.first) (get_or l.counts.items (b - l.first) 0) (ap (λ xs. get_or xs (b - l.first) 0) r.bare ∙ push_zero [] (b - l.first)) ∙ sym (tally_nothing p (b * w) w (λ m lo hi. none m));
    }
  where
    sum : l.first ≡ n / w → length l.counts.items ≡ 1 → l.first + length l.counts.items ≡ n / w + 1
    sum a b = omega (a, b, arith)
