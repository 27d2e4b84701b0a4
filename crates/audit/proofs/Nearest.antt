-- What each transaction needs is the nearest earlier one of its source at each of its keys.
use Rattle.std.proofs.Common.{◌≡◌, ℕ, zero, suc, ◌<◌, ◌≤◌, Bool, true, false, cond, ◌⊎◌, inl, inr, List, [], ◌∷◌, ◌++◌, length, Option, Some, None, refl, sym, ap, ◌∙◌, subst, append_assoc, arith}
use Rattle.std.specs.Prelude.{slice_get, ◌==◌}
use Rattle.std.specs.List.{list_any}
use Rattle.std.specs.FinMap as finmap
use Rattle.std.specs.FinMap.{get-insert, get-empty}
use Rattle.std.proofs.lemmas.Bool.{eqb-true, or_left, or_right}
use Rattle.std.proofs.lemmas.Option.{same_Some, slice_get_within}
use Rattle.lemmas.proofs.Tests.{not_both}
use Rattle.lemmas.proofs.Lists.{get_append_left, get_push, get_push_cases}
use Rattle.lemmas.proofs.Options.{none_some}
use Rattle.lemmas.proofs.SameGtid.{same_is_equal, gtid_total}
use Rattle.lemmas.proofs.Numbers.{lt_unless}
use Rattle.gtid_text.specs.declared.Gtid.{Gtid}
use Rattle.gtid_text.specs.Gtids.{gtid_cmp, same_gtid}
use Rattle.gtid_set.proofs.SetLemmas.{gtid_tied}
use Rattle.rows.specs.declared.change.Key.{Key}
use Rattle.rows.specs.declared.change.Transaction.{Transaction}
use Rattle.rows.specs.declared.schema.Table.{Table}
use Rattle.rows.specs.Order.{key_cmp, key_eq}
use Rattle.rows.specs.Total.{key_eq_self}
use Rattle.rows.specs.WriteSet.{write_set, touches, is_among}
use Rattle.history.specs.Sources.{World, content}
use Rattle.history.specs.Sources as history
use Rattle.history.proofs.SourceGtids.{number_less}
use Rattle.history.proofs.SourceEntries.{rising}
use Rattle.world.specs.Folds.{FirstTouch}
use Rattle.world.proofs.Contents.{content_at, at_content}
use Rattle.world.proofs.Meanings.{le_cases}
use Rattle.audit.specs.Gaps.{touch_last, of_source, with_some, last_of_keys, Needs, needs_over, needs_in}
use Rattle.audit.specs.OtherGaps.{IsNearest}
use Rattle.audit.proofs.Needing.{rises, get-touched, needs_are}

-- ---- what touched keys last

-- what is of the source of g
of_source_is : (g h : Gtid) (o : Option Gtid) → of_source g o ≡ Some h → (o ≡ Some h) × (h.source ≡ g.source)
of_source_is g h None e = none_some h e
of_source_is g h (Some x) e = by (x.source == g.source) refl e
  where
    by : (b : Bool) → (x.source == g.source) ≡ b → cond b (Some x) None ≡ Some h → (Some x ≡ Some h) × (h.source ≡ g.source)
    by true s e = (e, ap (λ (y : Gtid). y.source) (sym (same_Some x h e)) ∙ eqb-true x.source g.source s)
    by false s e = none_some h e

with_cases : (o : Option Gtid) (gs : List Gtid) (m : ℕ) (h : Gtid) → slice_get (with_some o gs) m ≡ Some h → (o ≡ Some h) ⊎ ((n : ℕ) × (slice_get gs n ≡ Some h))
with_cases None gs m h e = inr (m, e)
with_cases (Some x) gs zero h e = inl e
with_cases (Some x) gs (suc m) h e = inr (m, e)

-- one of these keys was touched last by it
last_from : (g h : Gtid) (keys : List Key) (last : FirstTouch) (m : ℕ) → slice_get (last_of_keys g keys last) m ≡ Some h → (key : Key) × (is_among keys key ≡ true) × (finmap.get last key ≡ Some h) × (h.source ≡ g.source)
last_from g h [] last m e = none_some h e
last_from g h (k ∷ keys) last m e = elim (with_cases (of_source g (finmap.get last k)) (last_of_keys g keys last) m h e) [
  | inl here ↦ let r = of_source_is g h (finmap.get last k) here in (k, or_left (key_eq k k) (is_among keys k) (key_eq_self k), r.0, r.1)
  | inr later ↦ let r = last_from g h keys last later.0 later.1 in (r.0, or_right (key_eq r.0 k) (is_among keys r.0) r.1, r.2, r.3)
]

module _ (schema : List Table) where
  -- g is the last of these that touches a key
  pub record LastBy (es : List history.Entry) (key : Key) (g : Gtid) : Type 0 where
    pub place : ℕ
    pub toucher : history.Entry
    pub there : slice_get es place ≡ Some toucher
    pub named : toucher.0 ≡ g
    pub touching : touches schema toucher.1 key ≡ true
    pub after : (i : ℕ) (h : history.Entry) → slice_get es i ≡ Some h → place < i → touches schema h.1 key ≡ false

  abbrev LastsAre : List history.Entry → FirstTouch → Type 0
  LastsAre es last = (key : Key) (g : Gtid) → finmap.get last key ≡ Some g → LastBy es key g

  -- h is the last before a place that touches a key of the entry there, and of its source
  pub record NeedBy (es : List history.Entry) (g h : Gtid) : Type 0 where
    pub place : ℕ
    pub entry : history.Entry
    pub there : slice_get es place ≡ Some entry
    pub is : entry.0 ≡ g
    pub key : Key
    pub touched : touches schema entry.1 key ≡ true
    pub earlier : ℕ
    pub toucher : history.Entry
    pub stands : slice_get es earlier ≡ Some toucher
    pub named : toucher.0 ≡ h
    pub touching : touches schema toucher.1 key ≡ true
    pub before : earlier < place
    pub source : h.source ≡ g.source
    pub between : (i : ℕ) (x : history.Entry) → slice_get es i ≡ Some x → earlier < i → i < place → touches schema x.1 key ≡ false

  abbrev NeedsBy : List history.Entry → Needs → Type 0
  NeedsBy es needs = (g h : Gtid) (gs : List Gtid) (m : ℕ) → finmap.get needs g ≡ Some gs → slice_get gs m ≡ Some h → NeedBy es g h

  module _ (pre : List history.Entry) (e : history.Entry) (last : FirstTouch) (needs : Needs) (lasts : LastsAre pre last) (had : NeedsBy pre needs) where
    not_behind : (a b : ℕ) → a < b → b ≡ a → ⊥
    not_behind a b l s = omega arith

    no_later : (i : ℕ) (h : history.Entry) → slice_get (pre ++ e ∷ []) i ≡ Some h → length pre < i → ⊥
    no_later i h x l = elim (get_push_cases pre e i h x) [
      | inl y ↦ let m = slice_get_within pre i h y in omega arith
      | inr y ↦ not_behind (length pre) i l y.0
    ]

    last_by : (key : Key) (g : Gtid) (b : Bool) → touches schema e.1 key ≡ b → cond b (Some e.0) (finmap.get last key) ≡ Some g → LastBy (pre ++ e ∷ []) key g
    last_by key g true t q = record {
      place = length pre;
      toucher = e;
      there = get_push pre e;
      named = same_Some e.0 g q;
      touching = t;
      after = λ i h x l. absurd (no_later i h x l);
    }
    last_by key g false t q =
        let r = lasts key g q in
        record {
          place = r.place;
          toucher = r.toucher;
          there = get_append_left pre (e ∷ []) r.place r.toucher r.there;
          named = r.named;
          touching = r.touching;
          after = λ i h x l. elim (get_push_cases pre e i h x) [
            | inl y ↦ r.after i h y l
            | inr y ↦ ap (λ (z : history.Entry). touches schema z.1 key) (sym y.1) ∙ t
          ];
        }

    lasts_on : LastsAre (pre ++ e ∷ []) (touch_last e.0 (write_set schema e.1) last)
    lasts_on key g q = last_by key g (touches schema e.1 key) refl (sym (get-touched e.0 (write_set schema e.1) last key) ∙ q)

    need_by : (g h : Gtid) (gs : List Gtid) (m : ℕ) (b : Bool) → same_gtid g e.0 ≡ b → cond b (Some (last_of_keys e.0 (write_set schema e.1) last)) (finmap.get needs g) ≡ Some gs → slice_get gs m ≡ Some h → NeedBy (pre ++ e ∷ []) g h
    need_by g h gs m true s q x =
        let list : last_of_keys e.0 (write_set schema e.1) last ≡ gs = same_Some (last_of_keys e.0 (write_set schema e.1) last) gs q in
        let is : g ≡ e.0 = same_is_equal g e.0 s in
        let f = last_from e.0 h (write_set schema e.1) last m (ap (λ (l : List Gtid). slice_get l m) list ∙ x) in
        let r = lasts f.0 h f.2 in
        record {
          place = length pre;
          entry = e;
          there = get_push pre e;
          is = sym is;
          key = f.0;
          touched = f.1;
          earlier = r.place;
          toucher = r.toucher;
          stands = get_append_left pre (e ∷ []) r.place r.toucher r.there;
          named = r.named;
          touching = r.touching;
          before = slice_get_within pre r.place r.toucher r.there;
          source = f.3 ∙ ap (λ (y : Gtid). y.source) (sym is);
          between = λ i y z l k. elim (get_push_cases pre e i y z) [
            | inl w ↦ r.after i y w l
            | inr w ↦ absurd (not_behind i (length pre) k (sym w.0))
          ];
        }
    need_by g h gs m false s q x =
        let r = had g h gs m q x in
        record {
          place = r.place;
          entry = r.entry;
          there = get_append_left pre (e ∷ []) r.place r.entry r.there;
          is = r.is;
          key = r.key;
          touched = r.touched;
          earlier = r.earlier;
          toucher = r.toucher;
          stands = get_append_left pre (e ∷ []) r.earlier r.toucher r.stands;
          named = r.named;
          touching = r.touching;
          before = r.before;
          source = r.source;
          between = λ i y z l k. elim (get_push_cases pre e i y z) [
            | inl w ↦ r.between i y w l k
            | inr w ↦ absurd (beyond i (slice_get_within pre r.place r.entry r.there) k w.0)
          ];
        }
      where
        beyond : {p n : ℕ} (i : ℕ) → p < n → i < p → i ≡ n → ⊥
        beyond i a b c = omega arith

    needs_on : NeedsBy (pre ++ e ∷ []) (finmap.insert needs e.0 (last_of_keys e.0 (write_set schema e.1) last))
    needs_on g h gs m q x =
        need_by g h gs m (same_gtid g e.0) refl
        (ap (λ b. cond b (Some (last_of_keys e.0 (write_set schema e.1) last)) (finmap.get needs g)) (sym (gtid_tied g e.0))
        ∙ (sym (get-insert gtid_total needs e.0 (last_of_keys e.0 (write_set schema e.1) last) g) ∙ q)) x

  by_over : (es pre : List history.Entry) (last : FirstTouch) (needs : Needs) → LastsAre pre last → NeedsBy pre needs → NeedsBy (pre ++ es) (needs_over schema last needs es)
  by_over [] pre last needs lasts had = subst (λ (xs : List history.Entry). NeedsBy xs needs) (sym (nothing_more pre)) had
    where
      nothing_more : (xs : List history.Entry) → xs ++ [] ≡ xs
      nothing_more [] = refl
      nothing_more (x ∷ xs) = ap (λ (zs : List history.Entry). x ∷ zs) (nothing_more xs)
  by_over (e ∷ es) pre last needs lasts had =
      let parts : (pre ++ e ∷ []) ++ es ≡ pre ++ e ∷ es = append_assoc pre (e ∷ []) es in
      subst (λ (xs : List history.Entry). NeedsBy xs (needs_over schema last needs (e ∷ es))) parts
      (by_over es (pre ++ e ∷ []) (touch_last e.0 (write_set schema e.1) last) (finmap.insert needs e.0 (last_of_keys e.0 (write_set schema e.1) last))
      (lasts_on pre e last needs lasts had) (needs_on pre e last needs lasts had))

  needs_by : (es : List history.Entry) → NeedsBy es (needs_over schema finmap.empty finmap.empty es)
  needs_by es = by_over es [] finmap.empty finmap.empty (λ key g q. none_some g (sym (get-empty key_cmp key) ∙ q)) (λ g h gs m q x. none_some gs (sym (get-empty gtid_cmp g) ∙ q))

-- ---- in a world

module _ (world : World) where
  abbrev es0 : List history.Entry
  es0 = finmap.entries world.contents

  -- of two of one source the one with the smaller number comes first
  pub place_before : (i j : ℕ) (a b : history.Entry) → slice_get es0 i ≡ Some a → slice_get es0 j ≡ Some b → a.0.source ≡ b.0.source → a.0.number < b.0.number → i < j
  place_before i j a b x y s l =
      lt_unless i j
      (λ same. let n : a.0.number ≡ b.0.number = ap (λ (z : history.Entry). z.0.number) (same_Some a b (sym x ∙ (ap (slice_get es0) same ∙ y))) in omega arith)
      (λ behind. let n = number_less b.0 a.0 (rises es0 j i b a (rising world) y x behind) (sym s) in omega arith)

  -- what is needed by a GTID is its nearest earlier one at a key
  pub record IsNeed (g h : Gtid) : Type 0 where
    pub t : Transaction
    pub first : content world g ≡ Some t
    pub key : Key
    pub touched : touches world.schema t key ≡ true
    pub nearest : IsNearest world h g key

  pub need_is_nearest : (g h : Gtid) (gs : List Gtid) (m : ℕ) → finmap.get (needs_in world) g ≡ Some gs → slice_get gs m ≡ Some h → IsNeed g h
  need_is_nearest g h gs m q x =
      let r = needs_by world.schema es0 g h gs m q x in
      let same_source : r.toucher.0.source ≡ r.entry.0.source = ap (λ (y : Gtid). y.source) r.named ∙ (r.source ∙ ap (λ (y : Gtid). y.source) (sym r.is)) in
      let less : r.toucher.0.number < r.entry.0.number = number_less r.toucher.0 r.entry.0 (rises es0 r.earlier r.place r.toucher r.entry (rising world) r.stands r.there r.before) same_source in
      record {
        t = r.entry.1;
        first = ap (content world) (sym r.is) ∙ at_content world r.place r.entry r.there;
        key = r.key;
        touched = r.touched;
        nearest = record {
          u = r.toucher.1;
          there = ap (content world) (sym r.named) ∙ at_content world r.earlier r.toucher r.stands;
          touching = r.touching;
          source = r.source;
          smaller = subst (λ (y : Gtid). h.number < y.number) r.is (subst (λ (y : Gtid). y.number < r.entry.0.number) r.named less);
          last = λ n t f s lo hi.
              let at = content_at world n t f in
              r.between at.0 (n, t) at.1
              (place_before r.earlier at.0 r.toucher (n, t) r.stands at.1 (ap (λ (y : Gtid). y.source) r.named ∙ (r.source ∙ sym s)) (subst (λ (y : Gtid). y.number < n.number) (sym r.named) lo))
              (place_before at.0 r.place (n, t) r.entry at.1 r.there (s ∙ ap (λ (y : Gtid). y.source) (sym r.is)) (subst (λ (y : Gtid). n.number < y.number) (sym r.is) hi));
        };
      }

  -- an earlier toucher of a key comes before one that is needed, or is it
  pub record Needed (g : Gtid) (key : Key) (place : ℕ) : Type 0 where
    pub gtids : List Gtid
    pub known : finmap.get (needs_in world) g ≡ Some gtids
    pub later : ℕ
    pub toucher : history.Entry
    pub there : slice_get es0 later ≡ Some toucher
    pub late : place ≤ later
    pub touching : touches world.schema toucher.1 key ≡ true
    pub source : toucher.0.source ≡ g.source
    pub smaller : toucher.0.number < g.number
    pub needed : list_any (same_gtid toucher.0) gtids ≡ true

  pub need_at : (g : Gtid) (t : Transaction) (key : Key) (j : ℕ) (h : history.Entry) → content world g ≡ Some t → touches world.schema t key ≡ true
      → slice_get es0 j ≡ Some h → h.0.source ≡ g.source → h.0.number < g.number → touches world.schema h.1 key ≡ true → Needed g key j
  need_at g t key j h f touched x s l touching =
      let at = content_at world g t f in
      let has = needs_are world.schema es0 (rising world) at.0 (g, t) at.1 in
      let r = has.serves key j h touched (place_before j at.0 h (g, t) x at.1 s l) x s touching in
      record {
        gtids = has.gtids;
        known = has.known;
        later = r.place;
        toucher = r.toucher;
        there = r.there;
        late = r.late;
        touching = r.touching;
        source = r.source;
        smaller = number_less r.toucher.0 g (rises es0 r.place at.0 r.toucher (g, t) (rising world) r.there at.1 r.early) r.source;
        needed = r.needed;
      }

  -- the nearest earlier one at a key is needed
  pub nearest_is_needed : (g h : Gtid) (t : Transaction) (key : Key) → content world g ≡ Some t → touches world.schema t key ≡ true → IsNearest world h g key
      → (gs : List Gtid) × (finmap.get (needs_in world) g ≡ Some gs) × (list_any (same_gtid h) gs ≡ true)
  nearest_is_needed g h t key f touched near =
      let at = content_at world h near.u near.there in
      let r = need_at g t key at.0 (h, near.u) f touched at.1 near.source near.smaller near.touching in
      let is : r.toucher.0 ≡ h = elim (le_cases at.0 r.later r.late) [
        | inl l ↦
            let n = number_less h r.toucher.0 (rises es0 at.0 r.later (h, near.u) r.toucher (rising world) at.1 r.there l) (near.source ∙ sym r.source) in
            not_both (touches world.schema r.toucher.1 key) r.touching (near.last r.toucher.0 r.toucher.1 (at_content world r.later r.toucher r.there) r.source n r.smaller)
        | inr same ↦ ap (λ (z : history.Entry). z.0) (same_Some r.toucher (h, near.u) (sym r.there ∙ (ap (slice_get es0) (sym same) ∙ at.1)))
      ] in
      (r.gtids, r.known, subst (λ (y : Gtid). list_any (same_gtid y) r.gtids ≡ true) is r.needed)
