-- What adding and cutting an interval leaves.
use Rattle.std.proofs.Common.{◌≡◌, ◌≢◌, ℕ, zero, suc, ◌+◌, ◌-◌, ◌<◌, ◌≤◌, ◌⊎◌, Bool, true, false, not, ◌&&◌, ◌||◌, nat_le, nat_lt, List, [], ◌∷◌, ◌++◌, length, map, drop, Option, Some, None, refl, sym, ap, subst, ◌∙◌, ⊎_elim, inl, inr, arith, length-append, append_assoc}
use Rattle.std.specs.Prelude.{option_to_list, if◌then◌else◌}
use Rattle.std.specs.List.{AllByRecursion}
use Rattle.std.proofs.lemmas.Bool.Decides.{nat_tests}
use Rattle.std.proofs.lemmas.List.{map-append, length-map}
use Rattle.interval_pool.specs.declared.cells.Cell.{Cell}
use Rattle.interval_pool.specs.declared.cells.Head.{Head}
use Rattle.interval_pool.specs.declared.interval.Interval.{Interval}
use Rattle.interval_pool.specs.declared.interval.Joined.{Joined}
use Rattle.interval_pool.specs.declared.interval.Pieces.{Pieces}
use Rattle.interval_pool.specs.Links.{most_cells}
use Rattle.interval_pool.specs.Cells.{head_at, after}
use Rattle.interval_pool.specs.Chains.{first_or, last_or, AreLinked}
use Rattle.interval_pool.specs.Intervals.{IsBefore, IsApart, IsSplit, AreMerged, covers, has, meet, list_of_pieces, part_below, part_above}
use Rattle.interval_pool.specs.Pools.{walk, chain_of, rest_of, interval_at, AreWhole}
use Rattle.interval_pool.specs.Places.{AreBelow, Reaches, IsPlace}
use Rattle.interval_pool.specs.Changes.{spans_of, Replaced, Replaces, Changed, Added, Cut, with_more, without}
use Rattle.interval_pool.proofs.Facts.{or_false, or_three, all_weaker, all_parts, all_joined}
use Rattle.interval_pool.proofs.Linking.{in_parts}
use Rattle.interval_pool.proofs.Walking.{after_is}
use Rattle.interval_pool.proofs.Meeting.{Meets, meets}

-- ---- what comes after a cell

walk_more : (cells : List Cell) (k n : ℕ) (is : List ℕ) → AreLinked cells k is None → length is ≤ n → walk cells n (first_or None is) ≡ is
walk_more cells k zero [] linked le = refl
walk_more cells k (suc n) [] linked le = refl
walk_more cells k zero (i ∷ is) linked le = absurd (omega (le, arith))
walk_more cells k (suc n) (i ∷ is) linked le = ap (λ at. i ∷ walk cells n at) linked.0.next_is ∙ ap (λ js. i ∷ js) (walk_more cells k n is linked.1 (omega (le, arith)))

pub rest_is : (cells : List Cell) (heads : List Head) (k : ℕ) (before : Option ℕ) (xs ys : List ℕ) → AreWhole cells heads → chain_of cells heads k ≡ xs ++ ys → before ≡ last_or None xs → rest_of cells heads k before ≡ ys
rest_is cells heads k before xs ys h parts is_before =
    let at : after cells heads k before ≡ first_or None ys = ap (after cells heads k) is_before ∙ after_is cells heads None (chain_of cells heads) k xs ys h parts in
    let linked = (in_parts cells k xs ys None (subst (λ is. AreLinked cells k is None) parts (h.linked k))).1 in
    let count = h.count k in
    let size = ap length parts in
    ap (walk cells (head_at heads k).len) at ∙ walk_more cells k (head_at heads k).len ys linked (omega (count, size, arith, length-append xs ys))

-- ---- merged lists

pub merged_back : (ss ts : List Interval) → AreMerged (ss ++ ts) → AreMerged ts
merged_back [] ts merged = merged
merged_back (s ∷ ss) ts merged = merged_back ss ts merged.2

pub has_append : (ss ts : List Interval) (n : ℕ) → has (ss ++ ts) n ≡ (has ss n || has ts n)
has_append [] ts n = refl
has_append (s ∷ ss) ts n = ap (λ b. covers s n || b) (has_append ss ts n) ∙ sym (or_three (covers s n) (has ss n) (has ts n))

-- what reaches a number is touched by what begins after it
touches : (cells : List Cell) (n lo : ℕ) (ys : List ℕ) → lo ≤ n + 1 → AreMerged (map (interval_at cells) ys) → Reaches cells n ys → AllByRecursion (λ (t : Interval). lo ≤ t.hi + 1) (map (interval_at cells) ys)
touches cells n lo [] le merged reaches = tt
touches cells n lo (y ∷ ys) le merged reaches =
    let filled = merged.0 in (
      omega (le, reaches, arith),
      later ys merged.1 merged.2,
    )
  where
    later : (ys : List ℕ) → AllByRecursion (IsBefore (interval_at cells y)) (map (interval_at cells) ys) → AreMerged (map (interval_at cells) ys) → AllByRecursion (λ (t : Interval). lo ≤ t.hi + 1) (map (interval_at cells) ys)
    later [] before more = tt
    later (z ∷ zs) before more = let b = before.0 in let f = more.0 in (omega (le, reaches, b, f, arith), later zs before.1 more.2)

drop_front : (fs rest : List Interval) → drop (length fs) (fs ++ rest) ≡ rest
drop_front [] rest = refl
drop_front (f ∷ fs) rest = drop_front fs rest

pub below_spans : (cells : List Cell) (n : ℕ) (xs : List ℕ) → AreBelow cells n xs → AllByRecursion (λ u. u.hi < n) (map (interval_at cells) xs)
below_spans cells n [] below = tt
below_spans cells n (x ∷ xs) below = (below.0, below_spans cells n xs below.1)

-- other intervals after the same
merged_with : (P : Interval → Type 0) (us ss ts : List Interval) → AreMerged (us ++ ss) → AllByRecursion P us → AreMerged ts → ((u : Interval) → P u → AllByRecursion (IsBefore u) ss → AllByRecursion (IsBefore u) ts) → AreMerged (us ++ ts)
merged_with P [] ss ts merged all good step = good
merged_with P (u ∷ us) ss ts merged all good step =
    let parts = all_parts (IsBefore u) us ss merged.1 in
    (merged.0, all_joined (IsBefore u) us ts parts.0 (step u all.0 parts.1), merged_with P us ss ts merged.2 all.1 good step)

-- ---- what a joined interval denotes in a list

pub record Stands (cells : List Cell) (heads : List Head) (k n limit : ℕ) (before : Option ℕ) (s : Interval) (j : Joined) : Type 0 where
  pub xs : List ℕ
  pub ys : List ℕ
  pub parts : chain_of cells heads k ≡ xs ++ ys
  pub before_is : before ≡ last_or None xs
  pub spans : spans_of cells heads k ≡ map (interval_at cells) xs ++ map (interval_at cells) ys
  pub merged : AreMerged (map (interval_at cells) xs ++ map (interval_at cells) ys)
  pub below : AllByRecursion (λ u. u.hi < n) (map (interval_at cells) xs)
  pub met : Meets limit s 0 (map (interval_at cells) ys) j
  pub rest : drop j.count (map (interval_at cells) ys) ≡ met.rest
  pub few : j.count ≤ length ys

pub stands : (cells : List Cell) (heads : List Head) (k n limit : ℕ) (before : Option ℕ) (s : Interval) (j : Joined) → AreWhole cells heads → AreMerged (spans_of cells heads k) → s.lo ≤ s.hi → s.lo ≤ n + 1 → limit ≤ s.hi + 1
    → IsPlace cells heads k n before → j ≡ meet limit s 0 (map (interval_at cells) (rest_of cells heads k before)) → Stands cells heads k n limit before s j
stands cells heads k n limit before s j h merged filled from near place is_joined =
    let f : ℕ → Interval = interval_at cells in
    let xs = place.xs in
    let ys = place.ys in
    let spans : spans_of cells heads k ≡ map f xs ++ map f ys = ap (map f) place.parts ∙ map-append f xs ys in
    let both : AreMerged (map f xs ++ map f ys) = subst AreMerged spans merged in
    let back : AreMerged (map f ys) = merged_back (map f xs) (map f ys) both in
    let is : j ≡ meet limit s 0 (map f ys) = is_joined ∙ ap (λ js. meet limit s 0 (map f js)) (rest_is cells heads k before xs ys h place.parts place.before_is) in
    let m : Meets limit s 0 (map f ys) j = subst (Meets limit s 0 (map f ys)) (sym is) (meets limit s 0 (map f ys) filled near back (touches cells n s.lo ys from back place.reaches)) in
    let count = m.count in
    let size = ap length m.parts in
    let sizes = length-map ys f in
    let many = length-append m.front m.rest in
    record {
      xs = xs;
      ys = ys;
      parts = place.parts;
      before_is = place.before_is;
      spans = spans;
      merged = both;
      below = below_spans cells n xs place.below;
      met = m;
      rest = (let e : j.count ≡ length m.front = omega (count, arith) in ap (λ o. drop o (map f ys)) e ∙ (ap (drop (length m.front)) m.parts ∙ drop_front m.front m.rest));
      few = omega (count, size, sizes, many, arith);
    }

-- ---- other intervals in their place

pub changed : (cells cells1 : List Cell) (heads heads1 : List Head) (k n limit : ℕ) (before : Option ℕ) (s : Interval) (j : Joined) (p : Pieces) (among : ℕ → Bool) (t : Stands cells heads k n limit before s j)
    → AreWhole cells heads → length cells ≤ most_cells → k ≢ 0 → k < length heads → length (list_of_pieces p) ≤ j.count + 1 → Replaces cells heads k before j.count p cells1 heads1
    → AreMerged (map (interval_at cells) t.xs ++ (list_of_pieces p ++ t.met.rest)) → ((m : ℕ) → (has (map (interval_at cells) t.xs) m || (has (list_of_pieces p) m || has t.met.rest m)) ≡ among m) → Changed cells heads k among cells1 heads1
changed cells cells1 heads heads1 k n limit before s j p among t h small not_free lt more replaces good same =
    let us = map (interval_at cells) t.xs in
    let r : Replaced cells heads k t.xs t.ys j.count (list_of_pieces p) cells1 heads1 = replaces t.xs t.ys h small not_free lt t.parts t.before_is t.few more in
    let after : spans_of cells1 heads1 k ≡ us ++ (list_of_pieces p ++ t.met.rest) = r.spans ∙ ap (λ ts. us ++ (list_of_pieces p ++ ts)) t.rest in
    let e = ap length after in
    let g = ap length t.spans in
    let l1 = length-append us (list_of_pieces p ++ t.met.rest) in
    let l2 = length-append (list_of_pieces p) t.met.rest in
    let l3 = length-append us (map (interval_at cells) t.ys) in
    let l4 = ap length t.met.parts ∙ length-append t.met.front t.met.rest in
    let c = t.met.count in
    let total = r.total in
    record {
      keeps = r.keeps;
      small = r.small;
      merged = subst AreMerged (sym after) good;
      numbers = λ m. ap (λ ts. has ts m) after ∙ (has_append us (list_of_pieces p ++ t.met.rest) m ∙ (ap (λ b. has us m || b) (has_append (list_of_pieces p) t.met.rest m) ∙ same m));
      few = omega (e, g, l1, l2, l3, l4, c, more, arith);
      total = omega (e, g, l1, l2, l3, l4, c, total, arith);
      more = r.more;
    }

-- ---- an interval is added

or_turn : (a b c d : Bool) → (a || ((b || c) || d)) ≡ ((a || (c || d)) || b)
or_turn true b c d = refl
or_turn false true true d = refl
or_turn false true false true = refl
or_turn false true false false = refl
or_turn false false true d = refl
or_turn false false false true = refl
or_turn false false false false = refl

pub added : (cells cells1 : List Cell) (heads heads1 : List Head) (k n : ℕ) (before : Option ℕ) (s : Interval) (j : Joined) → Stands cells heads k n (s.hi + 1) before s j → AreWhole cells heads → length cells ≤ most_cells → k ≢ 0 → k < length heads
    → s.lo ≤ s.hi → n ≡ s.lo - 1 → Replaces cells heads k before j.count (record { first = Some j.numbers; second = None }) cells1 heads1 → Added cells heads k s cells1 heads1
added cells cells1 heads heads1 k n before s j t h small not_free lt filled from replaces =
    let us = map (interval_at cells) t.xs in
    let ss = map (interval_at cells) t.ys in
    let m = t.met in
    let lo = m.lo in
    let hi = m.hi in
    let later : AllByRecursion (IsBefore j.numbers) m.rest = ⊎_elim (λ (e : j.numbers.hi ≡ s.hi). all_weaker (λ u. s.hi + 1 < u.lo) (IsBefore j.numbers) m.rest (λ u b. omega (e, b, arith)) m.beyond) (λ a. a) m.later in
    let front : (u : Interval) → u.hi < n → AllByRecursion (IsBefore u) ss → AllByRecursion (IsBefore u) (j.numbers ∷ m.rest) = λ u less all.
    let parts = all_parts (IsBefore u) m.front m.rest (subst (AllByRecursion (IsBefore u)) m.parts all) in
    (⊎_elim (λ (e : j.numbers.lo ≡ s.lo). omega (e, less, from, arith)) (λ b. b) (m.lower u parts.0), parts.1) in
    let good = merged_with (λ u. u.hi < n) us ss (j.numbers ∷ m.rest) t.merged t.below (omega (lo, hi, filled, arith), later, m.merged) front in
    changed cells cells1 heads heads1 k n (s.hi + 1) before s j (record { first = Some j.numbers; second = None }) (with_more (spans_of cells heads k) s) t h small not_free lt (omega arith) replaces good
    (λ i.
    ap (λ b. has us i || (b || has m.rest i)) (one_more i)
    ∙ (or_turn (has us i) (covers s i) (has m.front i) (has m.rest i)
    ∙ ap (λ b. b || covers s i) (ap (λ b. has us i || b) (sym (ap (λ ts. has ts i) m.parts ∙ has_append m.front m.rest i)) ∙ (sym (has_append us ss i) ∙ ap (λ ts. has ts i) (sym t.spans)))))
  where
    one_more : (i : ℕ) → has (j.numbers ∷ []) i ≡ (covers s i || has t.met.front i)
    one_more i = sym (or_false (covers j.numbers i)) ∙ t.met.has i

-- ---- an interval is cut out

abbrev low_part : Interval → Interval → Interval
low_part w s = record { lo = w.lo; hi = s.lo - 1 }

abbrev high_part : Interval → Interval → Interval
high_part w s = record { lo = s.hi + 1; hi = w.hi }

-- the part below, if there is one
below_part : (w s : Interval) → ((w.lo < s.lo) × (part_below w s ≡ Some (low_part w s))) ⊎ ((s.lo ≤ w.lo) × (part_below w s ≡ None))
below_part w s = chosen (nat_lt w.lo s.lo) refl
  where
    chosen : (b : Bool) → nat_lt w.lo s.lo ≡ b → ((w.lo < s.lo) × ((if b then Some (low_part w s) else None) ≡ Some (low_part w s))) ⊎ ((s.lo ≤ w.lo) × ((if b then Some (low_part w s) else None) ≡ None))
    chosen true e = inl (grind (arith, nat_tests), refl)
    chosen false e = inr (grind (arith, nat_tests), refl)

above_part : (w s : Interval) → ((s.hi < w.hi) × (part_above w s ≡ Some (high_part w s))) ⊎ ((w.hi ≤ s.hi) × (part_above w s ≡ None))
above_part w s = chosen (nat_lt s.hi w.hi) refl
  where
    chosen : (b : Bool) → nat_lt s.hi w.hi ≡ b → ((s.hi < w.hi) × ((if b then Some (high_part w s) else None) ≡ Some (high_part w s))) ⊎ ((w.hi ≤ s.hi) × ((if b then Some (high_part w s) else None) ≡ None))
    chosen true e = inl (grind (arith, nat_tests), refl)
    chosen false e = inr (grind (arith, nat_tests), refl)

has_below : (w s : Interval) (n : ℕ) → has (option_to_list (part_below w s)) n ≡ (nat_le w.lo n && nat_lt n s.lo)
has_below w s n = ⊎_elim
    (λ (e : (w.lo < s.lo) × (part_below w s ≡ Some (low_part w s))). let lt = e.0 in ap (λ o. has (option_to_list o) n) e.1 ∙ inside w.lo s.lo lt)
    (λ (e : (s.lo ≤ w.lo) × (part_below w s ≡ None)). let le = e.0 in ap (λ o. has (option_to_list o) n) e.1 ∙ outside w.lo s.lo le)
    (below_part w s)
  where
    inside : (a b : ℕ) → a < b → ((nat_le a n && nat_le n (b - 1)) || false) ≡ (nat_le a n && nat_lt n b)
    inside a b lt = grind (arith, nat_tests)

    outside : (a b : ℕ) → b ≤ a → false ≡ (nat_le a n && nat_lt n b)
    outside a b le = grind (arith, nat_tests)

has_above : (w s : Interval) (n : ℕ) → has (option_to_list (part_above w s)) n ≡ (nat_lt s.hi n && nat_le n w.hi)
has_above w s n = ⊎_elim
    (λ (e : (s.hi < w.hi) × (part_above w s ≡ Some (high_part w s))). let lt = e.0 in ap (λ o. has (option_to_list o) n) e.1 ∙ inside s.hi w.hi lt)
    (λ (e : (w.hi ≤ s.hi) × (part_above w s ≡ None)). let le = e.0 in ap (λ o. has (option_to_list o) n) e.1 ∙ outside s.hi w.hi le)
    (above_part w s)
  where
    inside : (a b : ℕ) → a < b → ((nat_le (a + 1) n && nat_le n b) || false) ≡ (nat_lt a n && nat_le n b)
    inside a b lt = grind (arith, nat_tests)

    outside : (a b : ℕ) → b ≤ a → false ≡ (nat_lt a n && nat_le n b)
    outside a b le = grind (arith, nat_tests)

-- a wider interval without one in it
has_parts : (a b c d n : ℕ) → a ≤ c → c ≤ d → d ≤ b → ((nat_le a n && nat_lt n c) || (nat_lt d n && nat_le n b)) ≡ ((nat_le a n && nat_le n b) && not (nat_le c n && nat_le n d))
has_parts a b c d n le le' le'' = grind (arith, nat_tests)

pub has_outside : (w s : Interval) (p : Pieces) (n : ℕ) → p.first ≡ part_below w s → p.second ≡ part_above w s → w.lo ≤ s.lo → s.lo ≤ s.hi → s.hi ≤ w.hi → has (list_of_pieces p) n ≡ (covers w n && not (covers s n))
has_outside w s p n first second lo filled hi =
    has_append (option_to_list p.first) (option_to_list p.second) n
    ∙ ((λ i. has (option_to_list (first i)) n || has (option_to_list (second i)) n)
    ∙ ((λ i. has_below w s n i || has_above w s n i) ∙ has_parts w.lo w.hi s.lo s.hi n lo filled hi))

-- what lies wholly before or after an interval has none of its numbers
none_before : (s : Interval) (n : ℕ) (us : List Interval) → AllByRecursion (λ u. u.hi < s.lo) us → (has us n && covers s n) ≡ false
none_before s n [] all = refl
none_before s n (u ∷ us) all = let lt = all.0 in both (covers u n) (has us n) (covers s n) (apart u.lo u.hi s.lo s.hi lt) (none_before s n us all.1)
  where
    both : (a b c : Bool) → (a && c) ≡ false → (b && c) ≡ false → ((a || b) && c) ≡ false
    both true b c e f = e
    both false b c e f = f

    apart : (a b c d : ℕ) → b < c → ((nat_le a n && nat_le n b) && (nat_le c n && nat_le n d)) ≡ false
    apart a b c d lt = grind (arith, nat_tests)

none_after : (s : Interval) (n : ℕ) (us : List Interval) → AllByRecursion (λ u. s.hi < u.lo) us → (has us n && covers s n) ≡ false
none_after s n [] all = refl
none_after s n (u ∷ us) all = let lt = all.0 in both (covers u n) (has us n) (covers s n) (apart u.lo u.hi s.lo s.hi lt) (none_after s n us all.1)
  where
    both : (a b c : Bool) → (a && c) ≡ false → (b && c) ≡ false → ((a || b) && c) ≡ false
    both true b c e f = e
    both false b c e f = f

    apart : (a b c d : ℕ) → d < a → ((nat_le a n && nat_le n b) && (nat_le c n && nat_le n d)) ≡ false
    apart a b c d lt = grind (arith, nat_tests)

cut_has : (a f r c : Bool) → (a && c) ≡ false → (r && c) ≡ false → (a || (((c || f) && not c) || r)) ≡ ((a || (f || r)) && not c)
cut_has true f r true e g = absurd (cc)
cut_has true f r false e g = refl
cut_has false f true true e g = absurd (cc)
cut_has false true false true e g = refl
cut_has false false false true e g = refl
cut_has false true true false e g = refl
cut_has false true false false e g = refl
cut_has false false true false e g = refl
cut_has false false false false e g = refl

-- the intervals after the part above
above_merged : (w s : Interval) (rest : List Interval) → AreMerged rest → (w.hi ≡ s.hi) ⊎ AllByRecursion (IsBefore w) rest → AreMerged (option_to_list (part_above w s) ++ rest)
above_merged w s rest merged later = ⊎_elim
    (λ (e : (s.hi < w.hi) × (part_above w s ≡ Some (high_part w s))).
    let lt = e.0 in
    let behind : AllByRecursion (IsBefore w) rest = ⊎_elim (λ (same : w.hi ≡ s.hi). absurd (omega (same, lt, arith))) (λ a. a) later in
    subst (λ o. AreMerged (option_to_list o ++ rest)) (sym e.1)
    (omega (lt, arith), all_weaker (IsBefore w) (IsBefore (high_part w s)) rest (λ u b. b) behind, merged))
    (λ (e : (w.hi ≤ s.hi) × (part_above w s ≡ None)). subst (λ o. AreMerged (option_to_list o ++ rest)) (sym e.1) merged)
    (above_part w s)

above_all : (P : Interval → Type 0) (w s : Interval) (rest : List Interval) → P (high_part w s) → AllByRecursion P rest → AllByRecursion P (option_to_list (part_above w s) ++ rest)
above_all P w s rest one all = ⊎_elim
    (λ (e : (s.hi < w.hi) × (part_above w s ≡ Some (high_part w s))). subst (λ o. AllByRecursion P (option_to_list o ++ rest)) (sym e.1) (one, all))
    (λ (e : (w.hi ≤ s.hi) × (part_above w s ≡ None)). subst (λ o. AllByRecursion P (option_to_list o ++ rest)) (sym e.1) all)
    (above_part w s)

-- and the intervals after the part below
parts_merged : (w s : Interval) (rest : List Interval) → s.lo ≤ s.hi → AllByRecursion (λ t. s.hi < t.lo) rest → AreMerged rest → (w.hi ≡ s.hi) ⊎ AllByRecursion (IsBefore w) rest
    → AreMerged (option_to_list (part_below w s) ++ (option_to_list (part_above w s) ++ rest))
parts_merged w s rest filled beyond merged later =
    let back = above_merged w s rest merged later in
    ⊎_elim
    (λ (e : (w.lo < s.lo) × (part_below w s ≡ Some (low_part w s))).
    let lt = e.0 in
    subst (λ o. AreMerged (option_to_list o ++ (option_to_list (part_above w s) ++ rest))) (sym e.1) (
      omega (lt, arith),
      above_all (IsBefore (low_part w s)) w s rest (omega (lt, filled, arith)) (all_weaker (λ t. s.hi < t.lo) (IsBefore (low_part w s)) rest (λ t b. omega (b, filled, lt, arith)) beyond),
      back,
    ))
    (λ (e : (s.lo ≤ w.lo) × (part_below w s ≡ None)). subst (λ o. AreMerged (option_to_list o ++ (option_to_list (part_above w s) ++ rest))) (sym e.1) back)
    (below_part w s)

parts_before : (u w s : Interval) (rest : List Interval) → u.hi < s.lo → s.lo ≤ s.hi → (w.lo ≡ s.lo) ⊎ IsBefore u w → AllByRecursion (IsBefore u) rest
    → AllByRecursion (IsBefore u) (option_to_list (part_below w s) ++ (option_to_list (part_above w s) ++ rest))
parts_before u w s rest less filled lower all =
    let back = above_all (IsBefore u) w s rest (omega (less, filled, arith)) all in
    ⊎_elim
    (λ (e : (w.lo < s.lo) × (part_below w s ≡ Some (low_part w s))).
    let lt = e.0 in
    let before : u.hi + 1 < w.lo = ⊎_elim (λ (same : w.lo ≡ s.lo). absurd (omega (same, lt, arith))) (λ b. b) lower in
    subst (λ o. AllByRecursion (IsBefore u) (option_to_list o ++ (option_to_list (part_above w s) ++ rest))) (sym e.1) (before, back))
    (λ (e : (s.lo ≤ w.lo) × (part_below w s ≡ None)). subst (λ o. AllByRecursion (IsBefore u) (option_to_list o ++ (option_to_list (part_above w s) ++ rest))) (sym e.1) back)
    (below_part w s)

-- ---- how many parts there are

few_parts : (w s : Interval) → length (option_to_list (part_below w s)) ≤ 1
few_parts w s = ⊎_elim
    (λ (e : (w.lo < s.lo) × (part_below w s ≡ Some (low_part w s))). let f = ap (λ o. length (option_to_list o)) e.1 in omega (f, arith))
    (λ (e : (s.lo ≤ w.lo) × (part_below w s ≡ None)). let f = ap (λ o. length (option_to_list o)) e.1 in omega (f, arith))
    (below_part w s)

few_above : (w s : Interval) → length (option_to_list (part_above w s)) ≤ 1
few_above w s = ⊎_elim
    (λ (e : (s.hi < w.hi) × (part_above w s ≡ Some (high_part w s))). let f = ap (λ o. length (option_to_list o)) e.1 in omega (f, arith))
    (λ (e : (w.hi ≤ s.hi) × (part_above w s ≡ None)). let f = ap (λ o. length (option_to_list o)) e.1 in omega (f, arith))
    (above_part w s)

-- where there is a part, some interval was met
part_met : (limit : ℕ) (s : Interval) (spans : List Interval) (j : Joined) → Meets limit s 0 spans j → s.lo ≤ s.hi → j.count ≡ 0 → (part_below j.numbers s ≡ None) × (part_above j.numbers s ≡ None)
part_met limit s spans j m filled none =
    let lo = m.lo in
    let hi = m.hi in
    let count = m.count in
    let same : (n : ℕ) → covers j.numbers n ≡ covers s n = λ n. m.has n ∙ nothing m.front (omega (count, none, arith)) n in (
      ⊎_elim (λ (e : (j.numbers.lo < s.lo) × (part_below j.numbers s ≡ Some (low_part j.numbers s))). absurd (low j.numbers.lo j.numbers.hi s.lo s.hi e.0 (omega (lo, filled, hi, arith)) (same j.numbers.lo)))
          (λ (e : (s.lo ≤ j.numbers.lo) × (part_below j.numbers s ≡ None)). e.1) (below_part j.numbers s),
      ⊎_elim (λ (e : (s.hi < j.numbers.hi) × (part_above j.numbers s ≡ Some (high_part j.numbers s))). absurd (high j.numbers.lo j.numbers.hi s.lo s.hi e.0 (omega (lo, filled, hi, arith)) (same j.numbers.hi)))
          (λ (e : (j.numbers.hi ≤ s.hi) × (part_above j.numbers s ≡ None)). e.1) (above_part j.numbers s),
    )
  where
    nothing : (front : List Interval) → length front ≡ 0 → (n : ℕ) → (covers s n || has front n) ≡ covers s n
    nothing [] e n = sym (or_false (covers s n))
    nothing (t ∷ ts) e n = absurd (omega (e, arith))

    low : (a b c d : ℕ) → a < c → a ≤ b → (nat_le a a && nat_le a b) ≡ (nat_le c a && nat_le a d) → ⊥
    low a b c d lt le e = grind (arith, nat_tests)

    high : (a b c d : ℕ) → d < b → a ≤ b → (nat_le a b && nat_le b b) ≡ (nat_le c b && nat_le b d) → ⊥
    high a b c d lt le e = grind (arith, nat_tests)

pub parts_few : (limit : ℕ) (s : Interval) (spans : List Interval) (j : Joined) (p : Pieces) → Meets limit s 0 spans j → s.lo ≤ s.hi → p.first ≡ part_below j.numbers s → p.second ≡ part_above j.numbers s → length (list_of_pieces p) ≤ j.count + 1
parts_few limit s spans j p m filled first second =
    let size = length-append (option_to_list p.first) (option_to_list p.second) in
    let a = ap (λ o. length (option_to_list o)) first in
    let b = ap (λ o. length (option_to_list o)) second in
    let c = few_parts j.numbers s in
    let d = few_above j.numbers s in
    counted j.count refl (λ none.
    let both = part_met limit s spans j m filled none in
    let e = ap (λ o. length (option_to_list o)) both.0 in
    let f = ap (λ o. length (option_to_list o)) both.1 in
    omega (size, a, b, e, f, arith))
    (omega (size, a, b, c, d, arith))
  where
    counted : (n : ℕ) → j.count ≡ n → (j.count ≡ 0 → length (list_of_pieces p) ≤ 0) → length (list_of_pieces p) ≤ 2 → length (list_of_pieces p) ≤ j.count + 1
    counted zero e none two = let le = none e in omega (le, arith)
    counted (suc n) e none two = omega (e, two, arith)

pub cut_out : (cells cells1 : List Cell) (heads heads1 : List Head) (k : ℕ) (before : Option ℕ) (s : Interval) (j : Joined) (p : Pieces) → Stands cells heads k s.lo s.hi before s j → AreWhole cells heads → length cells ≤ most_cells → k ≢ 0 → k < length heads
    → s.lo ≤ s.hi → p.first ≡ part_below j.numbers s → p.second ≡ part_above j.numbers s → Replaces cells heads k before j.count p cells1 heads1 → Cut cells heads k s cells1 heads1
cut_out cells cells1 heads heads1 k before s j p t h small not_free lt filled first second replaces =
    let us = map (interval_at cells) t.xs in
    let ss = map (interval_at cells) t.ys in
    let m = t.met in
    let shape : list_of_pieces p ++ m.rest ≡ option_to_list (part_below j.numbers s) ++ (option_to_list (part_above j.numbers s) ++ m.rest) =
    (λ i. (option_to_list (first i) ++ option_to_list (second i)) ++ m.rest) ∙ append_assoc (option_to_list (part_below j.numbers s)) (option_to_list (part_above j.numbers s)) m.rest in
    let front : (u : Interval) → u.hi < s.lo → AllByRecursion (IsBefore u) ss → AllByRecursion (IsBefore u) (list_of_pieces p ++ m.rest) = λ u less all.
    let parts = all_parts (IsBefore u) m.front m.rest (subst (AllByRecursion (IsBefore u)) m.parts all) in
    subst (AllByRecursion (IsBefore u)) (sym shape) (parts_before u j.numbers s m.rest less filled (m.lower u parts.0) parts.1) in
    let back : AreMerged (list_of_pieces p ++ m.rest) = subst AreMerged (sym shape) (parts_merged j.numbers s m.rest filled m.beyond m.merged m.later) in
    let good = merged_with (λ u. u.hi < s.lo) us ss (list_of_pieces p ++ m.rest) t.merged t.below back front in
    changed cells cells1 heads heads1 k s.lo s.hi before s j p (without (spans_of cells heads k) s) t h small not_free lt (parts_few s.hi s ss j p m filled first second) replaces good
    (λ i.
    ap (λ b. has us i || (b || has m.rest i)) (has_outside j.numbers s p i first second m.lo filled m.hi ∙ ap (λ b. b && not (covers s i)) (m.has i))
    ∙ (cut_has (has us i) (has m.front i) (has m.rest i) (covers s i) (none_before s i us t.below) (none_after s i m.rest m.beyond)
    ∙ ap (λ b. b && not (covers s i)) (ap (λ b. has us i || b) (sym (ap (λ ts. has ts i) m.parts ∙ has_append m.front m.rest i)) ∙ (sym (has_append us ss i) ∙ ap (λ ts. has ts i) (sym t.spans)))))

-- ---- where a cell more is needed

pub kept_apart : (cells : List Cell) (heads : List Head) (k n : ℕ) (before : Option ℕ) (s : Interval) (j : Joined) → Stands cells heads k n (s.hi + 1) before s j → n ≡ s.lo - 1 → j.count < 1 → IsApart (spans_of cells heads k) s
kept_apart cells heads k n before s j t from none =
    let m = t.met in
    let count = m.count in
    let rest : map (interval_at cells) t.ys ≡ m.rest = m.parts ∙ nothing m.front (omega (count, none, arith)) in
    let Apart : Interval → Type 0 = λ u. IsBefore u s ⊎ IsBefore s u in
    subst (λ ss. IsApart ss s) (sym t.spans)
    (all_joined Apart (map (interval_at cells) t.xs) (map (interval_at cells) t.ys)
    (all_weaker (λ u. u.hi < n) Apart (map (interval_at cells) t.xs) (λ u lt. inl (omega (lt, from, arith))) t.below)
    (subst (AllByRecursion Apart) (sym rest) (all_weaker (λ u. s.hi + 1 < u.lo) Apart m.rest (λ u lt. inr lt) m.beyond)))
  where
    nothing : (front : List Interval) → length front ≡ 0 → front ++ t.met.rest ≡ t.met.rest
    nothing [] e = refl
    nothing (u ∷ us) e = absurd (omega (e, arith))

split_back : (us ss : List Interval) (s : Interval) → IsSplit ss s → IsSplit (us ++ ss) s
split_back [] ss s split = split
split_back (u ∷ us) ss s split = inr (split_back us ss s split)

pub is_split : (cells : List Cell) (heads : List Head) (k : ℕ) (before : Option ℕ) (s : Interval) (j : Joined) (p : Pieces) → Stands cells heads k s.lo s.hi before s j → s.lo ≤ s.hi
    → p.first ≡ part_below j.numbers s → p.second ≡ part_above j.numbers s → j.count < length (list_of_pieces p) → IsSplit (spans_of cells heads k) s
is_split cells heads k before s j p t filled first second more =
    let m = t.met in
    let size = length-append (option_to_list p.first) (option_to_list p.second) in
    let a = ap (λ o. length (option_to_list o)) first in
    let b = ap (λ o. length (option_to_list o)) second in
    let c = few_parts j.numbers s in
    let d = few_above j.numbers s in
    let count = m.count in
    let some : 1 ≤ j.count = counted j.count refl (λ none.
    let both = part_met s.hi s (map (interval_at cells) t.ys) j m filled none in
    let e = ap (λ o. length (option_to_list o)) both.0 in
    let f = ap (λ o. length (option_to_list o)) both.1 in
    omega (size, a, b, e, f, more, none, arith)) in
    let low : j.numbers.lo < s.lo = ⊎_elim (λ (e : (j.numbers.lo < s.lo) × (part_below j.numbers s ≡ Some (low_part j.numbers s))). e.0)
    (λ (e : (s.lo ≤ j.numbers.lo) × (part_below j.numbers s ≡ None)). let f = ap (λ o. length (option_to_list o)) e.1 in absurd (omega (size, a, b, d, f, more, some, arith))) (below_part j.numbers s) in
    let high : s.hi < j.numbers.hi = ⊎_elim (λ (e : (s.hi < j.numbers.hi) × (part_above j.numbers s ≡ Some (high_part j.numbers s))). e.0)
    (λ (e : (j.numbers.hi ≤ s.hi) × (part_above j.numbers s ≡ None)). let f = ap (λ o. length (option_to_list o)) e.1 in absurd (omega (size, a, b, c, f, more, some, arith))) (above_part j.numbers s) in
    let one : length m.front ≡ 1 = omega (count, size, a, b, c, d, more, some, arith) in
    subst (λ ss. IsSplit ss s) (sym t.spans) (split_back (map (interval_at cells) t.xs) (map (interval_at cells) t.ys) s
    (subst (λ ss. IsSplit ss s) (sym m.parts) (single m.front one (λ n. m.has n) low high)))
  where
    counted : (n : ℕ) → j.count ≡ n → (j.count ≡ 0 → ⊥) → 1 ≤ j.count
    counted zero e none = absurd (none e)
    counted (suc n) e none = omega (e, arith)

    wide : (a b c d x y : ℕ) → a < c → d < b → c ≤ d → ((nat_le a a && nat_le a b) ≡ ((nat_le c a && nat_le a d) || ((nat_le x a && nat_le a y) || false)))
        → ((nat_le a b && nat_le b b) ≡ ((nat_le c b && nat_le b d) || ((nat_le x b && nat_le b y) || false))) → (x < c) × (d < y)
    wide a b c d x y lt lt' le e f = (grind (arith, nat_tests), grind (arith, nat_tests))

    single : (front : List Interval) → length front ≡ 1 → ((n : ℕ) → covers j.numbers n ≡ (covers s n || has front n)) → j.numbers.lo < s.lo → s.hi < j.numbers.hi → IsSplit (front ++ t.met.rest) s
    single [] e same low high = absurd (omega (e, arith))
    single (u ∷ []) e same low high = inl (wide j.numbers.lo j.numbers.hi s.lo s.hi u.lo u.hi low high filled (same j.numbers.lo) (same j.numbers.hi))
    single (u ∷ v ∷ us) e same low high = absurd (omega (e, arith))
