-- Marks of keys, and who touched them.
use Rattle.std.proofs.Common.{◌≡◌, ℕ, ◌==◌, Bool, true, false, cond, ◌||◌, nat_eq, List, [], ◌∷◌, ◌++◌, map, Option, Some, None, inl, inr, refl, sym, ap, ◌∙◌}
use Rattle.std.specs.Prelude.{bit_and, slice_get, slice_set}
use Rattle.std.specs.List.{list_all}
use Rattle.std.specs.Option.{option_map_or}
use Rattle.std.specs.FinMap as finmap
use Rattle.std.specs.FinMap.{get-insert}
use Rattle.std.proofs.lemmas.Bool.{eqb-true, eq-eqb, or_cases, or_left, or_right, and_from}
use Rattle.std.proofs.lemmas.Option.{same_Some}
use Rattle.lemmas.proofs.Options.{none_some}
use Rattle.lemmas.proofs.Lists.{get_set_cases, get_set_from}
use Rattle.gtid_text.specs.declared.Gtid.{Gtid}
use Rattle.rows.specs.declared.change.Key.{Key}
use Rattle.rows.specs.Order.{key_cmp, key_eq}
use Rattle.rows.specs.Total.{key_total, key_eq_same, key_eq_self}
use Rattle.rows.specs.WriteSet.{is_among}
use Rattle.world.specs.Folds.{FirstTouch}
use Rattle.audit.specs.Gaps.{touch_last, is_own}
use Rattle.audit.specs.Marks.{AreMarked, TouchesMarks, is_marked, key_mark, owner_by, owner_in}
use Rattle.audit.specs.declared.owners.MarkSlot.{MarkSlot}

-- ---- a source touches marks

pub touches_none : (old : ℕ → Option ℕ) (source : ℕ) → TouchesMarks old [] source old
touches_none old source = record { now = λ mark marked. absurd (cc marked); kept = λ mark owner was. was }

marked_more : (xs : List ℕ) (y mark : ℕ) → is_marked (xs ++ y ∷ []) mark ≡ (is_marked xs mark || nat_eq y mark)
marked_more [] y mark = alone (nat_eq y mark)
  where
    alone : (b : Bool) → (b || false) ≡ b
    alone true = refl
    alone false = refl
marked_more (x ∷ xs) y mark = ap (λ b. nat_eq x mark || b) (marked_more xs y mark) ∙ assoc (nat_eq x mark) (is_marked xs mark) (nat_eq y mark)
  where
    assoc : (p q r : Bool) → (p || (q || r)) ≡ ((p || q) || r)
    assoc true q r = refl
    assoc false q r = refl

pub touches_more : (old mid new : ℕ → Option ℕ) (done : List ℕ) (mark source : ℕ) → TouchesMarks old done source mid → TouchesMarks mid (mark ∷ []) source new → TouchesMarks old (done ++ mark ∷ []) source new
touches_more old mid new done mark source first last = record {
  now = λ m marked. elim (or_cases (is_marked done m) (nat_eq mark m) (sym (marked_more done mark m) ∙ marked)) [
    | inl before ↦ last.kept m source (first.now m before)
    | inr here ↦ last.now m (or_left (nat_eq mark m) false here)
  ];
  kept = λ m owner was. last.kept m owner (first.kept m owner was);
}

-- what was touched before was touched by the same source
pub own_before : (old new : ℕ → Option ℕ) (marks : List ℕ) (source mark owner : ℕ) → TouchesMarks old marks source new → is_marked marks mark ≡ true → old mark ≡ Some owner → owner ≡ source
own_before old new marks source mark owner touched marked was = same_Some owner source (sym (touched.kept mark owner was) ∙ touched.now mark marked)

-- ---- slots

module _ (mask : ℕ) (slots : List MarkSlot) (rest : ℕ → Option ℕ) (mark source : ℕ) where
  one_marked : (m : ℕ) → is_marked (mark ∷ []) m ≡ true → mark ≡ m
  one_marked m marked = elim (or_cases (nat_eq mark m) false marked) [ inl here ↦ eqb-true mark m here | inr later ↦ absurd (never later) ]
    where
      never : false ≡ true → ⊥
      never e = cc

  -- the rest is looked up for a mark, and has it from then on
  module _ (new : ℕ → Option ℕ) (passed : (o : Option ℕ) → owner_by (slice_get slots (bit_and mark mask)) mark o ≡ o)
      (own : (owner : ℕ) → rest mark ≡ Some owner → owner ≡ source) (touched : (m : ℕ) → new m ≡ cond (nat_eq mark m) (Some source) (rest m)) where
    rest_has : new mark ≡ Some source
    rest_has = touched mark ∙ ap (λ b. cond b (Some source) (rest mark)) (eq-eqb mark mark refl)

    here_now : owner_in mask slots new mark ≡ Some source
    here_now = passed (new mark) ∙ rest_has

    kept_by : (m owner : ℕ) (b : Bool) → nat_eq mark m ≡ b → owner_in mask slots rest m ≡ Some owner → owner_in mask slots new m ≡ Some owner
    kept_by m owner true is was =
        let same : mark ≡ m = eqb-true mark m is in
        let before : rest mark ≡ Some owner = sym (passed (rest mark)) ∙ (ap (owner_in mask slots rest) same ∙ was) in
        sym (ap (owner_in mask slots new) same) ∙ (here_now ∙ ap (λ n. Some n) (sym (own owner before)))
    kept_by m owner false is was =
        ap (owner_by (slice_get slots (bit_and m mask)) m) (touched m ∙ ap (λ b. cond b (Some source) (rest m)) is) ∙ was

    pub rest_touched : TouchesMarks (owner_in mask slots rest) (mark ∷ []) source (owner_in mask slots new)
    rest_touched = record {
      now = λ m marked. sym (ap (owner_in mask slots new) (one_marked m marked)) ∙ here_now;
      kept = λ m owner was. kept_by m owner (nat_eq mark m) refl was;
    }

  module _ (slot : MarkSlot) (there : slice_get slots (bit_and mark mask) ≡ Some slot) where
    -- the slot has another mark
    pub passed_other : (slot.owner == 0) ≡ false → (slot.mark == mark) ≡ false → (o : Option ℕ) → owner_by (slice_get slots (bit_and mark mask)) mark o ≡ o
    passed_other taken other o = ap (λ s. owner_by s mark o) there ∙ (ap (λ b. cond b None (cond (slot.mark == mark) (Some slot.owner) o)) taken ∙ ap (λ b. cond b (Some slot.owner) o) other)

    -- the slot has the mark
    pub slot_touched : (slot.owner == 0) ≡ false → (slot.mark == mark) ≡ true → slot.owner ≡ source → TouchesMarks (owner_in mask slots rest) (mark ∷ []) source (owner_in mask slots rest)
    slot_touched taken is own = record {
      now = λ m marked. sym (ap (owner_in mask slots rest) (one_marked m marked))
          ∙ (ap (λ s. owner_by s mark (rest mark)) there ∙ (ap (λ b. cond b None (cond (slot.mark == mark) (Some slot.owner) (rest mark))) taken ∙ (ap (λ b. cond b (Some slot.owner) (rest mark)) is ∙ ap (λ n. Some n) own)));
      kept = λ m owner was. was;
    }

    module _ (free : (slot.owner == 0) ≡ true) (some : (source == 0) ≡ false) where
      abbrev filled : MarkSlot
      filled = record { mark = mark; owner = source }

      abbrev more : List MarkSlot
      more = slice_set slots (bit_and mark mask) filled

      filled_owns : owner_by (Some filled) mark (rest mark) ≡ Some source
      filled_owns = ap (λ b. cond b None (cond (mark == mark) (Some source) (rest mark))) some ∙ ap (λ b. cond b (Some source) (rest mark)) (eq-eqb mark mark refl)

      in_place : slice_get more (bit_and mark mask) ≡ Some filled
      in_place = elim (get_set_from slots (bit_and mark mask) filled (bit_and mark mask) slot there) [
        | inl same ↦ elim (get_set_cases slots (bit_and mark mask) filled (bit_and mark mask) slot same) [ inl p ↦ same ∙ ap (λ s. Some s) (sym p.1) | inr q ↦ absurd (q.0 refl) ]
        | inr at ↦ at.1
      ]

      -- what has an owner has it by another slot
      free_none : (m owner : ℕ) → bit_and m mask ≡ bit_and mark mask → owner_in mask slots rest m ≡ Some owner → ⊥
      free_none m owner same was =
          never (sym (ap (λ (k : ℕ). owner_by (slice_get slots k) m (rest m)) same ∙ (ap (λ s. owner_by s m (rest m)) there ∙ ap (λ b. cond b None (cond (slot.mark == m) (Some slot.owner) (rest m))) free)) ∙ was)
        where
          never : ◌≡◌ {A = Option ℕ} None (Some owner) → ⊥
          never e = cc

      other_slot : (m owner : ℕ) (o : Option MarkSlot) → slice_get slots (bit_and m mask) ≡ o → owner_in mask slots rest m ≡ Some owner → owner_in mask more rest m ≡ Some owner
      other_slot m owner (Some s) at was = elim (get_set_from slots (bit_and mark mask) filled (bit_and m mask) s at) [
        | inl same ↦ ap (λ x. owner_by x m (rest m)) (same ∙ sym at) ∙ was
        | inr here ↦ absurd (free_none m owner here.0 was)
      ]
      other_slot m owner None at was = ap (λ x. owner_by x m (rest m)) (none_there (slice_get more (bit_and m mask)) refl ∙ sym at) ∙ was
        where
          none_there : (o : Option MarkSlot) → slice_get more (bit_and m mask) ≡ o → slice_get more (bit_and m mask) ≡ None
          none_there None is = is
          none_there (Some s) is = elim (get_set_cases slots (bit_and mark mask) filled (bit_and m mask) s is) [
            | inl p ↦ absurd (free_none m owner p.0 was)
            | inr q ↦ none_some s (sym at ∙ q.1)
          ]

      pub free_touched : TouchesMarks (owner_in mask slots rest) (mark ∷ []) source (owner_in mask more rest)
      free_touched = record {
        now = λ m marked. sym (ap (owner_in mask more rest) (one_marked m marked)) ∙ (ap (λ s. owner_by s mark (rest mark)) in_place ∙ filled_owns);
        kept = λ m owner was. other_slot m owner (slice_get slots (bit_and m mask)) refl was;
      }

-- ---- keys and their marks

get_touch_last : (g : Gtid) (keys : List Key) (last : FirstTouch) (k : Key) → finmap.get (touch_last g keys last) k ≡ cond (is_among keys k) (Some g) (finmap.get last k)
get_touch_last g [] last k = refl
get_touch_last g (key ∷ keys) last k =
    get_touch_last g keys (finmap.insert last key g) k ∙ ap (cond (is_among keys k) (Some g)) (get-insert key_total last key g k) ∙ both (key_eq k key) (is_among keys k)
  where
    both : (p q : Bool) → cond q (Some g) (cond p (Some g) (finmap.get last k)) ≡ cond (p || q) (Some g) (finmap.get last k)
    both true true = refl
    both true false = refl
    both false q = refl

pub marked_among : (keys : List Key) (k : Key) → is_among keys k ≡ true → is_marked (map key_mark keys) (key_mark k) ≡ true
marked_among [] k among = absurd cc
marked_among (x ∷ keys) k among = elim (or_cases (key_eq k x) (is_among keys k) among) [
  | inl here ↦ or_left (nat_eq (key_mark x) (key_mark k)) (is_marked (map key_mark keys) (key_mark k)) (eq-eqb (key_mark x) (key_mark k) (ap key_mark (sym (key_eq_same k x here))))
  | inr later ↦ or_right (nat_eq (key_mark x) (key_mark k)) (is_marked (map key_mark keys) (key_mark k)) (marked_among keys k later)
]

module _ (g : Gtid) (last : FirstTouch) (owner new : ℕ → Option ℕ) (marks : List ℕ) (are : AreMarked last owner) (touched : TouchesMarks owner marks g.source new) where
  own_one : (k : Key) → is_marked marks (key_mark k) ≡ true → is_own g last k ≡ true
  own_one k marked = by_case (finmap.get last k) refl
    where
      by_case : (o : Option Gtid) → finmap.get last k ≡ o → option_map_or (λ (before : Gtid). before.source == g.source) o true ≡ true
      by_case None is = refl
      by_case (Some b) is = eq-eqb b.source g.source (own_before owner new marks g.source (key_mark k) b.source touched marked (are k b is))

  own_all : (keys : List Key) → ((k : Key) → is_among keys k ≡ true → is_marked marks (key_mark k) ≡ true) → list_all (is_own g last) keys ≡ true
  own_all [] all = refl
  own_all (k ∷ keys) all =
      and_from (is_own g last k) (list_all (is_own g last) keys) (own_one k (all k (or_left (key_eq k k) (is_among keys k) (key_eq_self k))))
      (own_all keys (λ q among. all q (or_right (key_eq q k) (is_among keys q) among)))

pub own_keys_of : (g : Gtid) (keys : List Key) (last : FirstTouch) (owner new : ℕ → Option ℕ) → AreMarked last owner → TouchesMarks owner (map key_mark keys) g.source new → list_all (is_own g last) keys ≡ true
own_keys_of g keys last owner new are touched = own_all g last owner new (map key_mark keys) are touched keys (marked_among keys)

pub marked_next : (g : Gtid) (keys : List Key) (last : FirstTouch) (owner new : ℕ → Option ℕ) → AreMarked last owner → TouchesMarks owner (map key_mark keys) g.source new → AreMarked (touch_last g keys last) new
marked_next g keys last owner new are touched key h is = by_case (is_among keys key) refl (sym (get_touch_last g keys last key) ∙ is)
  where
    same_gtid : (a b : Gtid) → Some a ≡ Some b → a ≡ b
    same_gtid a b e = cc

    by_case : (b : Bool) → is_among keys key ≡ b → cond b (Some g) (finmap.get last key) ≡ Some h → new (key_mark key) ≡ Some h.source
    by_case true among at = touched.now (key_mark key) (marked_among keys key among) ∙ ap (λ (x : Gtid). Some x.source) (same_gtid g h at)
    by_case false among at = touched.kept (key_mark key) h.source (are key h at)

pub marked_first : (owner : ℕ → Option ℕ) → AreMarked finmap.empty owner
marked_first owner key g is = absurd (never (sym (finmap.get-empty key_cmp key) ∙ is))
  where
    never : ◌≡◌ {A = Option Gtid} None (Some g) → ⊥
    never e = cc
