-- When a world is that of journals, and what is missing of journals by what they bring.
use Rattle.std.proofs.Common.{◌≡◌, ◌<◌, ◌≤◌, ◌+◌, ℕ, zero, suc, ◌⊎◌, inl, inr, take, map, length, set, get_or, get_or-set_other, replicate, eqb, Bool, true, false, cond, not, List, [], ◌∷◌, ◌++◌, Option, Some, None, refl, sym, ap, ◌∙◌, subst, arith}
use Rattle.std.specs.Prelude.{slice_get}
use Rattle.std.specs.List.{list_all}
use Rattle.std.specs.FinMap as finmap
use Rattle.std.specs.FinMap.{same_map, get-empty, get-insert}
use Rattle.std.specs.FinSet as finset
use Rattle.std.proofs.lemmas.Bool.{eqb-true, eq-eqb, and_from, and_parts, true_from_ne_false, not_from_false}
use Rattle.gtid_text.specs.declared.Gtid.{Gtid}
use Rattle.rows.specs.declared.change.Transaction.{Transaction}
use Rattle.journal.specs.declared.Entry.{Entry}
use Rattle.journal.specs.Journals.{JournalValue}
use Rattle.history.specs.Sources.{World, content, is_opened}
use Rattle.history.specs.Sources as history
use Rattle.world.specs.declared.verdict.Verdict.TheVariants.{Unequal}
use Rattle.world.specs.Audit.{all_entries, first_contents, is_recorded_in, is_content, is_unequal, unequal}
use Rattle.world.proofs.Finding.{when_none, first_none}
use Rattle.world.proofs.Contents.{content_at, entry_at, entry_from, entry_content, in_all, of_all, some_of}
use Rattle.world.proofs.Meanings.{content_is_by}
use Rattle.audit.specs.Contents.{Contents, as_entry, in_order}
use Rattle.audit.specs.Worlds.{AreAllIn, AreMarkedMore, IsPlaceOf, IsWorldOf, LieBeyond}
use Rattle.std.proofs.lemmas.Option.{same_Some, slice_get_within}
use Rattle.lemmas.proofs.Options.{none_some}
use Rattle.lemmas.proofs.Lists.{taken, get_take}
use Rattle.lemmas.proofs.Tests.{not_both}
use Rattle.lemmas.proofs.SameGtid.{gtid_total, gtid_exact, same_is_equal}
use Rattle.gtid_text.specs.Gtids.{gtid_cmp, same_gtid}
use Rattle.gtid_set.specs.Sets.{Gtids}
use Rattle.gtid_set.proofs.SetLemmas.{gtid_tied}

-- options that give the same
pub same_options : (o p : Option Transaction) → ((t : Transaction) → o ≡ Some t → p ≡ Some t) → ((t : Transaction) → p ≡ Some t → o ≡ Some t) → o ≡ p
same_options None None f b = refl
same_options (Some x) p f b = sym (f x refl)
same_options None (Some y) f b = b y refl

-- ---- what is the world's, whatever came first

module _ (opened : Gtids) (m : Contents) where
  -- entries beyond the opening set are in the map
  abbrev AreKnown : List Entry → Type 0
  AreKnown es = (k : ℕ) (x : Entry) → slice_get es k ≡ Some x → finset.contains opened x.gtid ≡ false → finmap.get m x.gtid ≡ Some x.txn

  known_by : (e : Entry) (o : Option Transaction) (g : Gtid) (t : Transaction) (b c : Bool) → same_gtid g e.gtid ≡ c → (b ≡ false → finmap.get m e.gtid ≡ Some e.txn) → (o ≡ Some t → finmap.get m g ≡ Some t)
      → cond b o (cond c (Some e.txn) o) ≡ Some t → finmap.get m g ≡ Some t
  known_by e o g t true c q known rest h = rest h
  known_by e o g t false true q known rest h = ap (finmap.get m) (same_is_equal g e.gtid q) ∙ (known refl ∙ h)
  known_by e o g t false false q known rest h = rest h

  get_more : (e : Entry) (es : List Entry) (g : Gtid) (b : Bool) → finmap.get (cond b (first_contents opened es) (finmap.insert (first_contents opened es) e.gtid e.txn)) g ≡ cond b (finmap.get (first_contents opened es) g) (cond (same_gtid g e.gtid) (Some e.txn) (finmap.get (first_contents opened es) g))
  get_more e es g true = refl
  get_more e es g false = get-insert gtid_total (first_contents opened es) e.gtid e.txn g ∙ ap (λ b. cond b (Some e.txn) (finmap.get (first_contents opened es) g)) (gtid_tied g e.gtid)

  first_known : (es : List Entry) → AreKnown es → (g : Gtid) (t : Transaction) → finmap.get (first_contents opened es) g ≡ Some t → finmap.get m g ≡ Some t
  first_known [] known g t h = none_some t (sym (get-empty gtid_cmp g) ∙ h)
  first_known (e ∷ es) known g t h =
      known_by e (finmap.get (first_contents opened es) g) g t (finset.contains opened e.gtid) (same_gtid g e.gtid) refl (known 0 e refl) (first_known es (λ k x. known (suc k) x) g t)
      (sym (get_more e es g (finset.contains opened e.gtid)) ∙ h)

  pub firsts_are : (es : List Entry) → AreKnown es → AreAllIn m es → ((g : Gtid) (t : Transaction) → finmap.get m g ≡ Some t → finset.contains opened g ≡ false) → m ≡ first_contents opened es
  firsts_are es known all outside = same_map gtid_total gtid_exact m (first_contents opened es) (λ g.
      same_options (finmap.get m g) (finmap.get (first_contents opened es) g)
      (λ t h.
      let s = some_of (finmap.get (first_contents opened es) g) (entry_content opened es g (all g t h) (outside g t h)) in
      s.1 ∙ sym (first_known es known g s.0 s.1) ∙ h)
      (first_known es known g))

-- ---- an entry of all journals is one of a journal

module _ (P : Entry → Type 0) where
  in_parts : (xs ys : List Entry) → ((k : ℕ) (x : Entry) → slice_get xs k ≡ Some x → P x) → ((k : ℕ) (x : Entry) → slice_get ys k ≡ Some x → P x) → (k : ℕ) (x : Entry) → slice_get (xs ++ ys) k ≡ Some x → P x
  in_parts [] ys f g k x h = g k x h
  in_parts (y ∷ xs) ys f g zero x h = f 0 x h
  in_parts (y ∷ xs) ys f g (suc k) x h = in_parts xs ys (λ n z. f (suc n) z) g k x h

  of_each : (js : List JournalValue) → ((i : ℕ) (j : JournalValue) (k : ℕ) (x : Entry) → slice_get js i ≡ Some j → slice_get j.entries k ≡ Some x → P x) → (k : ℕ) (x : Entry) → slice_get (all_entries js) k ≡ Some x → P x
  of_each [] each k x h = none_some x h
  of_each (j ∷ js) each k x h = in_parts j.entries (all_entries js) (λ n y. each 0 j n y refl) (of_each js (λ i. each (suc i))) k x h

-- ---- the world of journals

-- where nothing is unequal each entry beyond the opening set is the world's
equal_at : (world : World) (journals : List JournalValue) → unequal world journals ≡ None → (i : ℕ) (j : JournalValue) (k : ℕ) (x : Entry) → slice_get journals i ≡ Some j → slice_get j.entries k ≡ Some x
    → is_opened world x.gtid ≡ false → content world x.gtid ≡ Some x.txn
equal_at world journals equal i j k x hj hx new =
    let test : is_unequal world x ≡ false = when_none (is_unequal world x) (Unequal x.gtid) (first_none _ j.entries (first_none _ journals equal i j hj) k x hx) in
    content_is_by x.txn (content world x.gtid) (true_from_ne_false (is_content world x) (λ no.
    not_both (is_unequal world x) (and_from (not (is_opened world x.gtid)) (not (is_content world x)) (not_from_false (is_opened world x.gtid) new) (not_from_false (is_content world x) no)) test))

-- where nothing is unequal, and all that the world has is in the journals, the world is theirs
pub whole_world : (world : World) (journals : List JournalValue) → LieBeyond world.opening_set world.contents → unequal world journals ≡ None → AreAllIn world.contents (all_entries journals) → IsWorldOf world journals
whole_world world journals beyond equal all =
    let same = firsts_are world.opening_set world.contents (all_entries journals)
    (of_each (λ (x : Entry). is_opened world x.gtid ≡ false → content world x.gtid ≡ Some x.txn) journals (equal_at world journals equal)) all beyond.outside in
    λ i. record { schema = world.schema; opening_set = world.opening_set; opening_rows = world.opening_rows; contents = same i }

-- ---- marks

-- the GTIDs whose places are marked are those of these entries
abbrev pub AreMarked : Contents → List Entry → List Bool → Type 0
AreMarked contents es marks = (place : ℕ) (e : Entry) → slice_get (in_order contents) place ≡ Some e → get_or marks place false ≡ true → is_recorded_in es e.gtid ≡ true

-- a GTID of the first entries is one of more entries
later : (es : List Entry) (i : ℕ) (g : Gtid) → is_recorded_in (take i es) g ≡ true → is_recorded_in (take (i + 1) es) g ≡ true
later es i g h =
    let a = entry_at (take i es) g h in
    let b = taken es i a.0 a.1 a.2 in
    subst (λ (x : Gtid). is_recorded_in (take (i + 1) es) x ≡ true) a.3 (entry_from (take (i + 1) es) a.0 a.1 (get_take es (i + 1) a.0 a.1 b.0 (less a.0 i b.1)))
  where
    less : (a b : ℕ) → a < b → a < b + 1
    less a b l = omega arith

arrives : (es : List Entry) (i : ℕ) (x : Entry) → slice_get es i ≡ Some x → is_recorded_in (take (i + 1) es) x.gtid ≡ true
arrives es i x h = entry_from (take (i + 1) es) i x (get_take es (i + 1) i x h (itself i))
  where
    itself : (n : ℕ) → n < n + 1
    itself n = omega arith

module _ (contents : Contents) (es : List Entry) (i : ℕ) (old marks : List Bool) (so_far : AreMarkedMore contents (take i es) old marks) where
  -- an entry that is passed over
  pub passed_over : AreMarkedMore contents (take (i + 1) es) old marks
  passed_over place e there marked = elim (so_far place e there marked) [
    | inl before ↦ inl before
    | inr stands ↦ inr (later es i e.gtid stands)
  ]

  -- an entry whose place is marked
  pub marked_too : (x : Entry) (place : ℕ) (new : List Bool) → slice_get es i ≡ Some x → IsPlaceOf contents x.gtid place → ((k : ℕ) → get_or new k false ≡ true → (k ≡ place) ⊎ (get_or marks k false ≡ true))
      → AreMarkedMore contents (take (i + 1) es) old new
  marked_too x place new here is_place one k e there marked = elim (one k marked) [
    | inl same ↦
        let is : is_place.entry ≡ e = same_Some is_place.entry e (sym is_place.there ∙ (ap (slice_get (in_order contents)) (sym same) ∙ there)) in
        inr (subst (λ (g : Gtid). is_recorded_in (take (i + 1) es) g ≡ true) (sym is_place.named ∙ ap (λ (y : Entry). y.gtid) is) (arrives es i x here))
    | inr before ↦ passed_over k e there before
  ]

pub one_set : (marks : List Bool) (place k : ℕ) → get_or (set marks place true) k false ≡ true → (k ≡ place) ⊎ (get_or marks k false ≡ true)
one_set marks place k h = by (eqb k place) refl
  where
    by : (b : Bool) → eqb k place ≡ b → (k ≡ place) ⊎ (get_or marks k false ≡ true)
    by true e = inl (eqb-true k place e)
    by false e = inr (sym (get_or-set_other marks place k true false (λ same. not_both (eqb k place) (eq-eqb k place same) e)) ∙ h)

-- of journals
later_journal : (js : List JournalValue) (i : ℕ) (g : Gtid) → is_recorded_in (all_entries (take i js)) g ≡ true → is_recorded_in (all_entries (take (i + 1) js)) g ≡ true
later_journal js i g h =
    let a = in_all (take i js) g h in
    let b = taken js i a.0 a.1 a.2 in
    of_all (take (i + 1) js) a.0 a.1 g (get_take js (i + 1) a.0 a.1 b.0 (less a.0 i b.1)) a.3
  where
    less : (a b : ℕ) → a < b → a < b + 1
    less a b l = omega arith

pub marked_all : (contents : Contents) (js : List JournalValue) (i : ℕ) (j : JournalValue) (old new : List Bool) → slice_get js i ≡ Some j → AreMarked contents (all_entries (take i js)) old → AreMarkedMore contents j.entries old new
    → AreMarked contents (all_entries (take (i + 1) js)) new
marked_all contents js i j old new here before more place e there marked = elim (more place e there marked) [
  | inl was ↦ later_journal js i e.gtid (before place e there was)
  | inr stands ↦ of_all (take (i + 1) js) i j e.gtid (get_take js (i + 1) i j here (itself i)) stands
]
  where
    itself : (n : ℕ) → n < n + 1
    itself n = omega arith

get_as_entry : (es : List history.Entry) (i : ℕ) (e : history.Entry) → slice_get es i ≡ Some e → slice_get (map as_entry es) i ≡ Some (as_entry e)
get_as_entry [] i e h = none_some e h
get_as_entry (x ∷ es) zero e h = ap (λ y. Some (as_entry y)) (same_Some x e h)
get_as_entry (x ∷ es) (suc i) e h = get_as_entry es i e h

-- where all places are marked, all GTIDs are those of the entries
pub all_marked : (world : World) (contents : Contents) (es : List Entry) (marks : List Bool) → contents ≡ world.contents → length marks ≡ length (in_order contents) → AreMarked contents es marks
    → ((k : ℕ) → k < length marks → get_or marks k false ≡ true) → AreAllIn contents es
all_marked world contents es marks is same marked all g t h =
    let at = content_at world g t (ap (λ (m : Contents). finmap.get m g) (sym is) ∙ h) in
    let there : slice_get (in_order contents) at.0 ≡ Some (as_entry (g, t)) = ap (λ (m : Contents). slice_get (in_order m) at.0) is ∙ get_as_entry (finmap.entries world.contents) at.0 (g, t) at.1 in
    marked at.0 (as_entry (g, t)) there (all at.0 (subst (λ n. at.0 < n) (sym same) (slice_get_within (in_order contents) at.0 (as_entry (g, t)) there)))

pub all_true : (marks : List Bool) → list_all (λ mark. mark) marks ≡ true → (k : ℕ) → k < length marks → get_or marks k false ≡ true
all_true [] h k l = absurd (omega arith)
all_true (m ∷ marks) h zero l = (and_parts m (list_all (λ mark. mark) marks) h).0
all_true (m ∷ marks) h (suc k) l = all_true marks (and_parts m (list_all (λ mark. mark) marks) h).1 k (omega arith)

pub none_marked : (contents : Contents) (es : List Entry) (n : ℕ) → AreMarked contents es (replicate n false)
none_marked contents es n place e there marked = absurd (never n place marked)
  where
    never : (n k : ℕ) → get_or (replicate n false) k false ≡ true → ⊥
    never zero k h = cc
    never (suc n) zero h = cc
    never (suc n) (suc k) h = never n k h

pub taken_all : {A : Type 0} (xs : List A) (n : ℕ) → length xs ≤ n → take n xs ≡ xs
taken_all [] zero l = refl
taken_all [] (suc n) l = refl
taken_all (x ∷ xs) zero l = absurd (omega arith)
taken_all (x ∷ xs) (suc n) l = ap (λ ys. x ∷ ys) (taken_all xs n (omega arith))
