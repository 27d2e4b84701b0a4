-- What each transaction needs has the last that touched each of its keys.
use Rattle.std.proofs.Common.{◌≡◌, ℕ, zero, suc, ◌<◌, ◌≤◌, Bool, true, false, cond, ◌||◌, ◌⊎◌, inl, inr, List, [], ◌∷◌, ◌++◌, length, Option, Some, None, refl, sym, ap, ◌∙◌, subst, append_assoc, arith}
use Rattle.std.specs.Prelude.{slice_get}
use Rattle.std.specs.List.{list_any}
use Rattle.std.specs.FinMap as finmap
use Rattle.std.specs.FinMap.{get-insert}
use Rattle.std.specs.declared.cmp.Ordering.TheVariants.{Less}
use Rattle.std.proofs.lemmas.Bool.{eq-eqb, cases_Bool, or_cases, or_left, or_right, false_from_ne_true}
use Rattle.gtid_text.specs.declared.Gtid.{Gtid}
use Rattle.gtid_text.specs.Gtids.{gtid_cmp, same_gtid}
use Rattle.gtid_set.proofs.SetLemmas.{gtid_tied}
use Rattle.rows.specs.declared.change.Key.{Key}
use Rattle.rows.specs.declared.schema.Table.{Table}
use Rattle.rows.specs.Order.{key_eq}
use Rattle.rows.specs.Total.{key_total, key_eq_same}
use Rattle.rows.specs.WriteSet.{write_set, touches, is_among}
use Rattle.history.specs.Sources as history
use Rattle.history.proofs.SourceGtids.{number_less}
use Rattle.history.proofs.SourceEntries.{IsAscending}
use Rattle.world.specs.Folds.{FirstTouch}
use Rattle.world.proofs.OnePass.{source_le}
use Rattle.audit.specs.Gaps.{touch_last, of_source, with_some, last_of_keys, Needs, needs_over}
use Rattle.std.proofs.lemmas.Option.{same_Some, slice_get_within}
use Rattle.lemmas.proofs.Options.{none_some}
use Rattle.lemmas.proofs.Tests.{not_both}
use Rattle.lemmas.proofs.SameGtid.{same_itself, same_is_equal, gtid_total}
use Rattle.lemmas.proofs.Lists.{all_at, get_push_cases, get_append_left, get_push}
use Rattle.world.proofs.Touching.{rising_front}

-- ---- places in an ascending list

pub rises : (es : List history.Entry) (i j : ℕ) (a b : history.Entry) → IsAscending es → slice_get es i ≡ Some a → slice_get es j ≡ Some b → i < j → gtid_cmp a.0 b.0 ≡ Less
rises [] i j a b up x y l = none_some a x
rises (e ∷ es) zero zero a b up x y l = absurd (omega arith)
rises (e ∷ es) (suc i) zero a b up x y l = absurd (omega arith)
rises (e ∷ es) zero (suc j) a b up x y l =
    let same : e ≡ a = same_Some e a x in
    subst (λ (z : history.Entry). gtid_cmp z.0 b.0 ≡ Less) same (all_at (λ f. gtid_cmp e.0 f.0 ≡ Less) es j b up.0 y)
rises (e ∷ es) (suc i) (suc j) a b up x y l = rises es i j a b up.1 x y (omega arith)

-- between two of a source are only its own
between_source : (g h e : Gtid) → gtid_cmp g h ≡ Less → gtid_cmp h e ≡ Less → g.source ≡ e.source → h.source ≡ e.source
between_source g h e a b s = elim (source_le g h a) [
  | inr same ↦ sym same ∙ s
  | inl less ↦ elim (source_le h e b) [
    | inr same ↦ same
    | inl more ↦ absurd (omega arith)
  ]
]

-- ---- who touched a key last

cond_or : {A : Type 0} (p q : Bool) (x y : A) → cond q x (cond p x y) ≡ cond (p || q) x y
cond_or true true x y = refl
cond_or true false x y = refl
cond_or false q x y = refl

pub get-touched : (g : Gtid) (keys : List Key) (last : FirstTouch) (key : Key) → finmap.get (touch_last g keys last) key ≡ cond (is_among keys key) (Some g) (finmap.get last key)
get-touched g [] last key = refl
get-touched g (k ∷ keys) last key =
    get-touched g keys (finmap.insert last k g) key
    ∙ ap (cond (is_among keys key) (Some g)) (get-insert key_total last k g key)
    ∙ cond_or (key_eq key k) (is_among keys key) (Some g) (finmap.get last key)

of_source_some : (g t : Gtid) (o : Option Gtid) → o ≡ Some t → t.source ≡ g.source → of_source g o ≡ Some t
of_source_some g t None e s = none_some t e
of_source_some g t (Some u) e s =
    let same : u ≡ t = same_Some u t e in
    ap (λ b. cond b (Some u) None) (eq-eqb u.source g.source (ap (λ (x : Gtid). x.source) same ∙ s)) ∙ ap Some same

with_any : (p : Gtid → Bool) (o : Option Gtid) (gs : List Gtid) → list_any p gs ≡ true → list_any p (with_some o gs) ≡ true
with_any p None gs h = h
with_any p (Some x) gs h = or_right (p x) (list_any p gs) h

-- one of them is what touched one of the keys last
last_among : (g t : Gtid) (keys : List Key) (last : FirstTouch) (key : Key) → is_among keys key ≡ true → finmap.get last key ≡ Some t → t.source ≡ g.source → list_any (same_gtid t) (last_of_keys g keys last) ≡ true
last_among g t [] last key m e s = cc
last_among g t (k ∷ keys) last key m e s = elim (or_cases (key_eq key k) (is_among keys key) m) [
  | inl here ↦
      let same : key ≡ k = key_eq_same key k here in
      let o : of_source g (finmap.get last k) ≡ Some t = of_source_some g t (finmap.get last k) (ap (finmap.get last) (sym same) ∙ e) s in
      ap (λ x. list_any (same_gtid t) (with_some x (last_of_keys g keys last))) o ∙ or_left (same_gtid t t) (list_any (same_gtid t) (last_of_keys g keys last)) (same_itself t)
  | inr later ↦ with_any (same_gtid t) (of_source g (finmap.get last k)) (last_of_keys g keys last) (last_among g t keys last key later e s)
]

module _ (schema : List Table) where
  -- Each key that one of these touched was touched last by one of them that is not earlier.
  pub record TouchedBy (es : List history.Entry) (last : FirstTouch) (key : Key) (i : ℕ) : Type 0 where
    pub place : ℕ
    pub toucher : history.Entry
    pub there : slice_get es place ≡ Some toucher
    pub late : i ≤ place
    pub touching : touches schema toucher.1 key ≡ true
    pub known : finmap.get last key ≡ Some toucher.0

  abbrev LastIs : List history.Entry → FirstTouch → Type 0
  LastIs es last = (key : Key) (i : ℕ) (h : history.Entry) → slice_get es i ≡ Some h → touches schema h.1 key ≡ true → TouchedBy es last key i

  -- One of these GTIDs touched the key between two places, and is of the source of the later.
  pub record Serves (es : List history.Entry) (i : ℕ) (e : history.Entry) (gs : List Gtid) (key : Key) (j : ℕ) : Type 0 where
    pub place : ℕ
    pub toucher : history.Entry
    pub there : slice_get es place ≡ Some toucher
    pub late : j ≤ place
    pub early : place < i
    pub touching : touches schema toucher.1 key ≡ true
    pub source : toucher.0.source ≡ e.0.source
    pub needed : list_any (same_gtid toucher.0) gs ≡ true

  pub record HasNeeds (es : List history.Entry) (needs : Needs) (i : ℕ) (e : history.Entry) : Type 0 where
    pub gtids : List Gtid
    pub known : finmap.get needs e.0 ≡ Some gtids
    pub serves : (key : Key) (j : ℕ) (h : history.Entry) → touches schema e.1 key ≡ true → j < i → slice_get es j ≡ Some h → h.0.source ≡ e.0.source → touches schema h.1 key ≡ true → Serves es i e gtids key j

  abbrev pub NeedsAre : List history.Entry → Needs → Type 0
  NeedsAre es needs = (i : ℕ) (e : history.Entry) → slice_get es i ≡ Some e → HasNeeds es needs i e

  module _ (pre : List history.Entry) (e : history.Entry) (up : IsAscending (pre ++ e ∷ [])) (last : FirstTouch) (needs : Needs) (touched : LastIs pre last) (had : NeedsAre pre needs) where
    less : (i : ℕ) (h : history.Entry) → slice_get pre i ≡ Some h → gtid_cmp h.0 e.0 ≡ Less
    less i h x = rises (pre ++ e ∷ []) i (length pre) h e up (get_append_left pre (e ∷ []) i h x) (get_push pre e) (slice_get_within pre i h x)

    last_on : LastIs (pre ++ e ∷ []) (touch_last e.0 (write_set schema e.1) last)
    last_on key i h x t = elim (cases_Bool (touches schema e.1 key)) [
      | inl now ↦ record {
        place = length pre;
        toucher = e;
        there = get_push pre e;
        late = late_of (get_push_cases pre e i h x);
        touching = now;
        known = get-touched e.0 (write_set schema e.1) last key ∙ ap (λ b. cond b (Some e.0) (finmap.get last key)) now;
      }
      | inr not_now ↦ elim (get_push_cases pre e i h x) [
        | inl before ↦
            let r = touched key i h before t in
            record {
              place = r.place;
              toucher = r.toucher;
              there = get_append_left pre (e ∷ []) r.place r.toucher r.there;
              late = r.late;
              touching = r.touching;
              known = get-touched e.0 (write_set schema e.1) last key ∙ ap (λ b. cond b (Some e.0) (finmap.get last key)) not_now ∙ r.known;
            }
        | inr itself ↦ not_both (touches schema e.1 key) (ap (λ (y : history.Entry). touches schema y.1 key) itself.1 ∙ t) not_now
      ]
    ]
      where
        late_of : ((slice_get pre i ≡ Some h) ⊎ ((i ≡ length pre) × (e ≡ h))) → i ≤ length pre
        late_of (inl y) = let l = slice_get_within pre i h y in omega arith
        late_of (inr y) = let l = y.0 in omega arith

    needs_on : NeedsAre (pre ++ e ∷ []) (finmap.insert needs e.0 (last_of_keys e.0 (write_set schema e.1) last))
    needs_on i x at = elim (get_push_cases pre e i x at) [
      | inl before ↦ earlier before
      | inr itself ↦ subst (λ (y : history.Entry). HasNeeds (pre ++ e ∷ []) (finmap.insert needs e.0 (last_of_keys e.0 (write_set schema e.1) last)) i y) itself.1 (newest itself.0)
    ]
      where
        earlier : slice_get pre i ≡ Some x → HasNeeds (pre ++ e ∷ []) (finmap.insert needs e.0 (last_of_keys e.0 (write_set schema e.1) last)) i x
        earlier before =
            let r = had i x before in
            record {
              gtids = r.gtids;
              known = get-insert gtid_total needs e.0 (last_of_keys e.0 (write_set schema e.1) last) x.0
                  ∙ ap (λ b. cond b (Some (last_of_keys e.0 (write_set schema e.1) last)) (finmap.get needs x.0)) (gtid_tied x.0 e.0 ∙ other) ∙ r.known;
              serves = λ key j h t l y s u. elim (get_push_cases pre e j h y) [
                | inl in_front ↦
                    let v = r.serves key j h t l in_front s u in
                    record {
                      place = v.place;
                      toucher = v.toucher;
                      there = get_append_left pre (e ∷ []) v.place v.toucher v.there;
                      late = v.late;
                      early = v.early;
                      touching = v.touching;
                      source = v.source;
                      needed = v.needed;
                    }
                | inr last_one ↦ let b = slice_get_within pre i x before in let q = last_one.0 in absurd (omega arith)
              ];
            }
          where
            other : same_gtid x.0 e.0 ≡ false
            other = false_from_ne_true (same_gtid x.0 e.0) (λ same.
                let eq : x.0 ≡ e.0 = same_is_equal x.0 e.0 same in
                let l = number_less x.0 e.0 (less i x before) (ap (λ (g : Gtid). g.source) eq) in
                let n : x.0.number ≡ e.0.number = ap (λ (g : Gtid). g.number) eq in
                omega arith)

        newest : i ≡ length pre → HasNeeds (pre ++ e ∷ []) (finmap.insert needs e.0 (last_of_keys e.0 (write_set schema e.1) last)) i e
        newest here = record {
          gtids = last_of_keys e.0 (write_set schema e.1) last;
          known = get-insert gtid_total needs e.0 (last_of_keys e.0 (write_set schema e.1) last) e.0
              ∙ ap (λ b. cond b (Some (last_of_keys e.0 (write_set schema e.1) last)) (finmap.get needs e.0)) (gtid_tied e.0 e.0 ∙ same_itself e.0);
          serves = λ key j h t l y s u. elim (get_push_cases pre e j h y) [
            | inl in_front ↦ serve key j h t in_front s u
            | inr last_one ↦ let q = last_one.0 in absurd (omega arith)
          ];
        }
          where
            place_cases : (a b : ℕ) → a ≤ b → (a < b) ⊎ (a ≡ b)
            place_cases a b l = grind arith

            serve : (key : Key) (j : ℕ) (h : history.Entry) → touches schema e.1 key ≡ true → slice_get pre j ≡ Some h → h.0.source ≡ e.0.source → touches schema h.1 key ≡ true → Serves (pre ++ e ∷ []) i e (last_of_keys e.0 (write_set schema e.1) last) key j
            serve key j h t y s u =
                let r = touched key j h y u in
                let same : r.toucher.0.source ≡ e.0.source = elim (place_cases j r.place r.late) [
                  | inl later ↦ between_source h.0 r.toucher.0 e.0 (rises pre j r.place h r.toucher (rising_front pre (e ∷ []) up) y r.there later) (less r.place r.toucher r.there) s
                  | inr equal ↦ ap (λ (z : history.Entry). z.0.source) (sym (same_Some h r.toucher (sym y ∙ (ap (slice_get pre) equal ∙ r.there)))) ∙ s
                ] in
                let low = slice_get_within pre r.place r.toucher r.there in
                record {
                  place = r.place;
                  toucher = r.toucher;
                  there = get_append_left pre (e ∷ []) r.place r.toucher r.there;
                  late = r.late;
                  early = subst (λ (n : ℕ). r.place < n) (sym here) low;
                  touching = r.touching;
                  source = same;
                  needed = last_among e.0 r.toucher.0 (write_set schema e.1) last key t r.known same;
                }

  over : (es pre : List history.Entry) (last : FirstTouch) (needs : Needs) → IsAscending (pre ++ es) → LastIs pre last → NeedsAre pre needs → NeedsAre (pre ++ es) (needs_over schema last needs es)
  over [] pre last needs up touched had = subst (λ (xs : List history.Entry). NeedsAre xs needs) (sym (nothing_more pre)) had
    where
      nothing_more : (xs : List history.Entry) → xs ++ [] ≡ xs
      nothing_more [] = refl
      nothing_more (x ∷ xs) = ap (λ (zs : List history.Entry). x ∷ zs) (nothing_more xs)
  over (e ∷ es) pre last needs up touched had =
      let parts : (pre ++ e ∷ []) ++ es ≡ pre ++ e ∷ es = append_assoc pre (e ∷ []) es in
      let up_too : IsAscending ((pre ++ e ∷ []) ++ es) = subst (λ (xs : List history.Entry). IsAscending xs) (sym parts) up in
      let up_here = rising_front (pre ++ e ∷ []) es up_too in
      subst (λ (xs : List history.Entry). NeedsAre xs (needs_over schema last needs (e ∷ es))) parts
      (over es (pre ++ e ∷ []) (touch_last e.0 (write_set schema e.1) last) (finmap.insert needs e.0 (last_of_keys e.0 (write_set schema e.1) last)) up_too
      (last_on pre e up_here last needs touched had) (needs_on pre e up_here last needs touched had))

  pub needs_are : (es : List history.Entry) → IsAscending es → NeedsAre es (needs_over schema finmap.empty finmap.empty es)
  needs_are es up = over es [] finmap.empty finmap.empty up (λ key i h x t. none_some h x) (λ i e x. none_some e x)
