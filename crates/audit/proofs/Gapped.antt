-- What is reported of GTIDs that are present without what they need is all there is.
use Rattle.std.proofs.Common.{◌≡◌, ℕ, zero, suc, ◌<◌, Bool, true, false, cond, not, ◌||◌, ◌⊎◌, inl, inr, List, [], ◌∷◌, take, Option, Some, None, refl, sym, ap, ◌∙◌, subst, arith}
use Rattle.std.specs.Prelude.{slice_get, find}
use Rattle.std.specs.List.{list_any, AllByRecursion}
use Rattle.std.specs.Option.{option_map_or}
use Rattle.std.specs.FinMap as finmap
use Rattle.std.specs.FinSet as set
use Rattle.std.specs.FinSet.{contains-empty, is_subset-contains}
use Rattle.std.proofs.lemmas.Bool.{and_from, or_cases, or_left, or_right, not-true, not_from_false, false_from_ne_true, true_from_ne_false}
use Rattle.std.proofs.lemmas.Option.{same_Some}
use Rattle.std.proofs.lemmas.Map.Keys.{any_passes_from_place}
use mathlib.Core.Bool.{or_assoc, or-false}
use Rattle.lemmas.proofs.Tests.{not_both}
use Rattle.lemmas.proofs.Lists.{any_at, get_take, all_at, taken}
use Rattle.lemmas.proofs.Options.{none_some}
use Rattle.lemmas.proofs.SameGtid.{same_itself, same_is_equal, gtid_total}
use Rattle.gtid_text.specs.declared.Gtid.{Gtid}
use Rattle.gtid_text.specs.Gtids.{gtid_cmp, same_gtid}
use Rattle.gtid_set.specs.Sets.{Gtids, gtid}
use Rattle.rows.specs.declared.change.Key.{Key}
use Rattle.rows.specs.declared.change.Transaction.{Transaction}
use Rattle.rows.specs.declared.schema.Table.{Table}
use Rattle.rows.specs.Order.{key_eq}
use Rattle.rows.specs.Total.{key_eq_same, key_eq_self}
use Rattle.rows.specs.WriteSet.{write_set, touches}
use Rattle.rows.specs.Conflicts.{conflicts, sharing_is_conflict, conflict_is_sharing}
use Rattle.journal.specs.declared.Entry.{Entry}
use Rattle.journal.specs.Journals.{JournalValue}
use Rattle.history.proofs.Covering.{in_insert}
use Rattle.history.specs.Sources.{World, content, is_opened}
use Rattle.history.specs.Sources as history
use Rattle.history.proofs.SourceGtids.{number_less}
use Rattle.history.proofs.SourceEntries.{rising}
use Rattle.world.specs.declared.verdict.Verdict.{Verdict}
use Rattle.world.specs.declared.verdict.Verdict.TheVariants.{Unequal, Purged, NotClosed}
use Rattle.world.specs.Audit.{is_content, is_unequal, unequal, purged, is_recorded_in, is_recorded_before}
use Rattle.world.specs.Cases.{IsEntryOf, IsLeftOut, NamesFault}
use Rattle.world.proofs.Finding.{when_none, first_none}
use Rattle.world.proofs.Contents.{content_at, at_content, entry_at, entry_from}
use Rattle.world.proofs.Meanings.{content_is_by, le_cases}
use Rattle.audit.specs.Ordered.{is_there, AreInOrder, IsInOrder}
use Rattle.audit.specs.Gaps.{Needs, needs_in, is_recorded}
use Rattle.audit.specs.OtherGaps.{HasGap, IsGapNamed, is_of_gap, is_gap, is_gap_again, AreGapsOnce, AreOtherGaps, Gap, first_absent, with_gap, gaps_among, gaps_in, unreported, gap_of_verdict, other_gaps}
use Rattle.audit.specs.Worlds.{LieBeyond}
use Rattle.audit.proofs.Needing.{rises}
use Rattle.audit.proofs.Nearest.{need_is_nearest, need_at, nearest_is_needed}

-- ---- what is absent

find_by : (p : Gtid → Bool) (x h : Gtid) (gs : List Gtid) (b : Bool) → p x ≡ b → (find p gs ≡ Some h → (m : ℕ) × (slice_get gs m ≡ Some h) × (p h ≡ true)) → cond b (Some x) (find p gs) ≡ Some h → (m : ℕ) × (slice_get (x ∷ gs) m ≡ Some h) × (p h ≡ true)
find_by p x h gs true t rest e = (zero, e, ap p (sym (same_Some x h e)) ∙ t)
find_by p x h gs false t rest e = let r = rest e in (suc r.0, r.1, r.2)

-- what is found is one of them
found_at : (p : Gtid → Bool) (gs : List Gtid) (h : Gtid) → find p gs ≡ Some h → (m : ℕ) × (slice_get gs m ≡ Some h) × (p h ≡ true)
found_at p [] h e = none_some h e
found_at p (x ∷ gs) h e = find_by p x h gs (p x) refl (found_at p gs h) e

any_by : (p : Gtid → Bool) (x : Gtid) (gs : List Gtid) (b : Bool) → (list_any p gs ≡ true → (h : Gtid) × (find p gs ≡ Some h)) → (b || list_any p gs) ≡ true → (h : Gtid) × (cond b (Some x) (find p gs) ≡ Some h)
any_by p x gs true rest e = (x, refl)
any_by p x gs false rest e = rest e

-- where one passes, one is found
any_found : (p : Gtid → Bool) (gs : List Gtid) → list_any p gs ≡ true → (h : Gtid) × (find p gs ≡ Some h)
any_found p [] e = cc
any_found p (x ∷ gs) e = any_by p x gs (p x) (any_found p gs) e

abbrev absent_in : (Gtid → Bool) → Option (List Gtid) → Option Gtid
absent_in stand o = option_map_or (λ gs. find (λ h. not (stand h)) gs) o None

absent_from : (stand : Gtid → Bool) (o : Option (List Gtid)) (h : Gtid) → absent_in stand o ≡ Some h → (gs : List Gtid) × (o ≡ Some gs) × (m : ℕ) × (slice_get gs m ≡ Some h) × (stand h ≡ false)
absent_from stand None h e = none_some h e
absent_from stand (Some gs) h e = let r = found_at (λ x. not (stand x)) gs h e in (gs, refl, r.0, r.1, not-true (stand h) r.2)

absent_any : (stand : Gtid → Bool) (o : Option (List Gtid)) (gs : List Gtid) (h : Gtid) → o ≡ Some gs → list_any (same_gtid h) gs ≡ true → stand h ≡ false → (x : Gtid) × (absent_in stand o ≡ Some x)
absent_any stand o gs h is among out =
    let at = any_at (same_gtid h) gs among in
    let same : h ≡ at.1 = same_is_equal h at.1 at.3 in
    let f = any_found (λ x. not (stand x)) gs (any_passes_from_place (λ x. not (stand x)) gs at.0 at.1 at.2 (not_from_false (stand at.1) (ap stand (sym same) ∙ out))) in
    (f.0, ap (absent_in stand) is ∙ f.1)

-- ---- the pass over a journal

moved : (a b c : Bool) → (a || (b || c)) ≡ ((a || c) || b)
moved true b c = refl
moved false true true = refl
moved false true false = refl
moved false false true = refl
moved false false false = refl

with_cases : (g : Gtid) (o : Option Gtid) (gaps : List Gap) (m : ℕ) (p : Gap) → slice_get (with_gap g o gaps) m ≡ Some p → ((h : Gtid) × (o ≡ Some h) × ((g, h) ≡ p)) ⊎ ((n : ℕ) × (slice_get gaps n ≡ Some p))
with_cases g None gaps m p e = inr (m, e)
with_cases g (Some h) gaps zero p e = inl (h, refl, same_Some (g, h) p e)
with_cases g (Some h) gaps (suc m) p e = inr (m, e)

behind_gap : (g : Gtid) (o : Option Gtid) (gaps : List Gap) (m : ℕ) (p : Gap) → slice_get gaps m ≡ Some p → (n : ℕ) × (slice_get (with_gap g o gaps) n ≡ Some p)
behind_gap g None gaps m p e = (m, e)
behind_gap g (Some h) gaps m p e = (suc m, e)

module _ (needs : Needs) (previous : Gtids) where
  -- an entry lacks something where those before it are present
  record GapAt (stand : Gtid → Bool) (es : List Entry) (p : Gap) : Type 0 where
    pub place : ℕ
    pub entry : Entry
    pub there : slice_get es place ≡ Some entry
    pub named : entry.gtid ≡ p.0
    pub lacks : first_absent needs (λ g. stand g || is_recorded_in (take place es) g) p.0 ≡ Some p.1

  module _ (standing : Gtids) (stand : Gtid → Bool) (same : (g : Gtid) → is_recorded previous standing g ≡ stand g) (e : Entry) where
    here : is_recorded previous standing ≡ (λ g. stand g || false)
    here = λ i g. (same g ∙ sym (or-false (stand g))) i

    next : (g : Gtid) → is_recorded previous (set.insert standing e.gtid) g ≡ (stand g || same_gtid g e.gtid)
    next g =
        ap (λ b. set.contains previous g || b) (in_insert standing e.gtid g)
        ∙ moved (set.contains previous g) (same_gtid g e.gtid) (set.contains standing g)
        ∙ ap (λ b. b || same_gtid g e.gtid) (same g)

    later : (k : ℕ) (es : List Entry) → ◌≡◌ {A = Gtid → Bool} (λ g. (stand g || same_gtid g e.gtid) || is_recorded_in (take k es) g) (λ g. stand g || is_recorded_in (take (suc k) (e ∷ es)) g)
    later k es = λ i g. or_assoc (stand g) (same_gtid g e.gtid) (is_recorded_in (take k es) g) i

  found_gap : (es : List Entry) (standing : Gtids) (stand : Gtid → Bool) (same : (g : Gtid) → is_recorded previous standing g ≡ stand g) (rest : List Gap) (m : ℕ) (p : Gap)
      → slice_get (gaps_among needs previous standing es rest) m ≡ Some p → GapAt stand es p ⊎ ((n : ℕ) × (slice_get rest n ≡ Some p))
  found_gap [] standing stand same rest m p x = inr (m, x)
  found_gap (e ∷ es) standing stand same rest m p x =
      elim (with_cases e.gtid (first_absent needs (is_recorded previous standing) e.gtid) (gaps_among needs previous (set.insert standing e.gtid) es rest) m p x) [
        | inl now ↦ inl (subst (λ (q : Gap). GapAt stand (e ∷ es) q) now.2 (record {
          place = zero;
          entry = e;
          there = refl;
          named = refl;
          lacks = ap (λ (f : Gtid → Bool). first_absent needs f e.gtid) (sym (here standing stand same e)) ∙ now.1;
        }))
        | inr then ↦ elim (found_gap es (set.insert standing e.gtid) (λ g. stand g || same_gtid g e.gtid) (next standing stand same e) rest then.0 p then.1) [
          | inl gap ↦ inl (record {
            place = suc gap.place;
            entry = gap.entry;
            there = gap.there;
            named = gap.named;
            lacks = ap (λ (f : Gtid → Bool). first_absent needs f p.0) (sym (later standing stand same e gap.place es)) ∙ gap.lacks;
          })
          | inr behind ↦ inr behind
        ]
      ]

  listed_gap : (es : List Entry) (standing : Gtids) (stand : Gtid → Bool) (same : (g : Gtid) → is_recorded previous standing g ≡ stand g) (rest : List Gap) (k : ℕ) (e : Entry) (h : Gtid)
      → slice_get es k ≡ Some e → first_absent needs (λ g. stand g || is_recorded_in (take k es) g) e.gtid ≡ Some h → (m : ℕ) × (slice_get (gaps_among needs previous standing es rest) m ≡ Some (e.gtid, h))
  listed_gap [] standing stand same rest k e h x a = none_some e x
  listed_gap (y ∷ es) standing stand same rest zero e h x a =
      let is : y ≡ e = same_Some y e x in
      let now : first_absent needs (is_recorded previous standing) y.gtid ≡ Some h =
      ap (λ (f : Gtid → Bool). first_absent needs f y.gtid) (here standing stand same y) ∙ (ap (λ (z : Entry). first_absent needs (λ g. stand g || false) z.gtid) is ∙ a) in (
        zero,
        ap (λ o. slice_get (with_gap y.gtid o (gaps_among needs previous (set.insert standing y.gtid) es rest)) zero) now ∙ ap (λ (z : Entry). Some (z.gtid, h)) is,
      )
  listed_gap (y ∷ es) standing stand same rest (suc k) e h x a =
      let r = listed_gap es (set.insert standing y.gtid) (λ g. stand g || same_gtid g y.gtid) (next standing stand same y) rest k e h x
      (ap (λ (f : Gtid → Bool). first_absent needs f e.gtid) (later standing stand same y k es) ∙ a) in
      behind_gap y.gtid (first_absent needs (is_recorded previous standing) y.gtid) (gaps_among needs previous (set.insert standing y.gtid) es rest) r.0 (e.gtid, h) r.1

  kept_rest : (es : List Entry) (standing : Gtids) (rest : List Gap) (n : ℕ) (p : Gap) → slice_get rest n ≡ Some p → (m : ℕ) × (slice_get (gaps_among needs previous standing es rest) m ≡ Some p)
  kept_rest [] standing rest n p x = (n, x)
  kept_rest (y ∷ es) standing rest n p x =
      let r = kept_rest es (set.insert standing y.gtid) rest n p x in
      behind_gap y.gtid (first_absent needs (is_recorded previous standing) y.gtid) (gaps_among needs previous (set.insert standing y.gtid) es rest) r.0 p r.1

-- ---- the pass over journals

-- in a journal an entry is present without something that it needs
record GapIn (needs : Needs) (js : List JournalValue) (p : Gap) : Type 0 where
  pub entry : Entry
  pub there : IsEntryOf js entry
  pub named : entry.gtid ≡ p.0
  pub lacks : first_absent needs (is_recorded_before there.journal there.place) p.0 ≡ Some p.1

at_first : (previous : Gtids) (g : Gtid) → is_recorded previous set.empty g ≡ set.contains previous g
at_first previous g = ap (λ b. set.contains previous g || b) (contains-empty gtid_cmp g) ∙ or-false (set.contains previous g)

in_gaps : (needs : Needs) (js : List JournalValue) (m : ℕ) (p : Gap) → slice_get (gaps_in needs js) m ≡ Some p → GapIn needs js p
in_gaps needs [] m p x = none_some p x
in_gaps needs (j ∷ js) m p x = elim (found_gap needs j.previous j.entries set.empty (set.contains j.previous) (at_first j.previous) (gaps_in needs js) m p x) [
  | inl gap ↦ record {
    entry = gap.entry;
    there = record { number = zero; journal = j; place = gap.place; listed = refl; there = gap.there };
    named = gap.named;
    lacks = gap.lacks;
  }
  | inr behind ↦
      let r = in_gaps needs js behind.0 p behind.1 in
      record {
        entry = r.entry;
        there = record { number = suc r.there.number; journal = r.there.journal; place = r.there.place; listed = r.there.listed; there = r.there.there };
        named = r.named;
        lacks = r.lacks;
      }
]

of_gaps : (needs : Needs) (js : List JournalValue) (i : ℕ) (j : JournalValue) (k : ℕ) (e : Entry) (h : Gtid) → slice_get js i ≡ Some j → slice_get j.entries k ≡ Some e
    → first_absent needs (is_recorded_before j k) e.gtid ≡ Some h → (m : ℕ) × (slice_get (gaps_in needs js) m ≡ Some (e.gtid, h))
of_gaps needs [] i j k e h x y a = none_some j x
of_gaps needs (z ∷ js) zero j k e h x y a =
    let is : z ≡ j = same_Some z j x in
    listed_gap needs z.previous z.entries set.empty (set.contains z.previous) (at_first z.previous) (gaps_in needs js) k e h
    (ap (λ (w : JournalValue). slice_get w.entries k) is ∙ y) (ap (λ (w : JournalValue). first_absent needs (is_recorded_before w k) e.gtid) is ∙ a)
of_gaps needs (z ∷ js) (suc i) j k e h x y a =
    let r = of_gaps needs js i j k e h x y a in
    kept_rest needs z.previous z.entries set.empty (gaps_in needs js) r.0 (e.gtid, h) r.1

-- ---- what is reported

abbrev told : Gtids → Gap → List Gap → Bool → List Verdict
told reported q ps b = cond b (unreported reported ps) (NotClosed q.0 q.1 ∷ unreported (set.insert reported q.0) ps)

swapped : (a b c : Bool) → ((a || b) || c) ≡ true → (b || (a || c)) ≡ true
swapped true true c e = refl
swapped true false c e = refl
swapped false true c e = refl
swapped false false c e = e

said_all : (reported : Gtids) (ps : List Gap) (m : ℕ) (p : Gap) → slice_get ps m ≡ Some p → (set.contains reported p.0 || list_any (is_of_gap p.0) (unreported reported ps)) ≡ true
said_all reported [] m p x = none_some p x
said_all reported (q ∷ ps) zero p x =
    subst (λ (y : Gap). (set.contains reported y.0 || list_any (is_of_gap y.0) (told reported q ps (set.contains reported q.0))) ≡ true) (same_Some q p x) (now (set.contains reported q.0) refl)
  where
    now : (b : Bool) → set.contains reported q.0 ≡ b → (set.contains reported q.0 || list_any (is_of_gap q.0) (told reported q ps b)) ≡ true
    now true s = or_left (set.contains reported q.0) (list_any (is_of_gap q.0) (told reported q ps true)) s
    now false s =
        or_right (set.contains reported q.0) (list_any (is_of_gap q.0) (told reported q ps false))
        (or_left (same_gtid q.0 q.0) (list_any (is_of_gap q.0) (unreported (set.insert reported q.0) ps)) (same_itself q.0))
said_all reported (q ∷ ps) (suc m) p x = by (set.contains reported q.0) (said_all reported ps m p x) (said_all (set.insert reported q.0) ps m p x)
  where
    by : (b : Bool) → (set.contains reported p.0 || list_any (is_of_gap p.0) (unreported reported ps)) ≡ true
        → (set.contains (set.insert reported q.0) p.0 || list_any (is_of_gap p.0) (unreported (set.insert reported q.0) ps)) ≡ true
        → (set.contains reported p.0 || list_any (is_of_gap p.0) (told reported q ps b)) ≡ true
    by true old more = old
    by false old more =
        swapped (same_gtid p.0 q.0) (set.contains reported p.0) (list_any (is_of_gap p.0) (unreported (set.insert reported q.0) ps))
        (ap (λ b. b || list_any (is_of_gap p.0) (unreported (set.insert reported q.0) ps)) (sym (in_insert reported q.0 p.0)) ∙ more)

-- what was reported is not reported again
not_again : (reported : Gtids) (ps : List Gap) (g : Gtid) → set.contains reported g ≡ true → list_any (is_of_gap g) (unreported reported ps) ≡ false
not_again reported [] g h = refl
not_again reported (q ∷ ps) g h =
    by (set.contains reported q.0) refl (not_again reported ps g h) (not_again (set.insert reported q.0) ps g (in_insert reported q.0 g ∙ or_right (same_gtid g q.0) (set.contains reported g) h))
  where
    by : (b : Bool) → set.contains reported q.0 ≡ b → list_any (is_of_gap g) (unreported reported ps) ≡ false → list_any (is_of_gap g) (unreported (set.insert reported q.0) ps) ≡ false
        → list_any (is_of_gap g) (told reported q ps b) ≡ false
    by true s old more = old
    by false s old more =
        let other : same_gtid g q.0 ≡ false = false_from_ne_true (same_gtid g q.0) (λ is. not_both (set.contains reported q.0) (ap (set.contains reported) (sym (same_is_equal g q.0 is)) ∙ h) s) in
        ap (λ b. b || list_any (is_of_gap g) (unreported (set.insert reported q.0) ps)) other ∙ more

once_from : (reported : Gtids) (ps : List Gap) → AreGapsOnce (unreported reported ps)
once_from reported [] = tt
once_from reported (q ∷ ps) = by (set.contains reported q.0) (once_from reported ps) (once_from (set.insert reported q.0) ps)
  where
    by : (b : Bool) → AreGapsOnce (unreported reported ps) → AreGapsOnce (unreported (set.insert reported q.0) ps) → AreGapsOnce (told reported q ps b)
    by true old more = old
    by false old more =
        (not_again (set.insert reported q.0) ps q.0 (in_insert reported q.0 q.0 ∙ or_left (same_gtid q.0 q.0) (set.contains reported q.0) (same_itself q.0)), more)

-- what holds of each holds of what is reported
all_told : (Q : Verdict → Type 0) (reported : Gtids) (ps : List Gap) → ((m : ℕ) (p : Gap) → slice_get ps m ≡ Some p → Q (NotClosed p.0 p.1)) → AllByRecursion Q (unreported reported ps)
all_told Q reported [] each = tt
all_told Q reported (q ∷ ps) each =
    by (set.contains reported q.0) (all_told Q reported ps (λ m p x. each (suc m) p x)) (all_told Q (set.insert reported q.0) ps (λ m p x. each (suc m) p x))
  where
    by : (b : Bool) → AllByRecursion Q (unreported reported ps) → AllByRecursion Q (unreported (set.insert reported q.0) ps) → AllByRecursion Q (told reported q ps b)
    by true old more = old
    by false old more = (each zero q refl, more)

-- ---- the GTID of the verdict

said_is : (v : Verdict) (g : Gtid) → set.contains (gap_of_verdict v) g ≡ is_of_gap g v
said_is (NotClosed a b) g = in_insert set.empty a g ∙ (ap (λ x. same_gtid g a || x) (contains-empty gtid_cmp g) ∙ or-false (same_gtid g a))
said_is _ g = contains-empty gtid_cmp g

not_of : (v : Verdict) (g : Gtid) → is_gap v ≡ false → is_of_gap g v ≡ false
not_of (NotClosed a b) g e = cc
not_of _ g e = refl

first_once : (v : Verdict) (ps : List Gap) → is_gap_again v (unreported (gap_of_verdict v) ps) ≡ false
first_once (NotClosed a b) ps = not_again (set.insert set.empty a) ps a (in_insert set.empty a a ∙ or_left (same_gtid a a) (set.contains set.empty a) (same_itself a))
first_once _ ps = refl

-- ---- keys

conflict_key : (schema : List Table) (t u : Transaction) → conflicts schema t u ≡ true → (k : Key) × (touches schema t k ≡ true) × (touches schema u k ≡ true)
conflict_key schema t u h =
    let r = any_at (touches schema u) (write_set schema t) (sym (conflict_is_sharing schema t u) ∙ h) in
    (r.1, any_passes_from_place (key_eq r.1) (write_set schema t) r.0 r.1 r.2 (key_eq_self r.1), r.3)

conflict_by : (schema : List Table) (t u : Transaction) (k : Key) → touches schema t k ≡ true → touches schema u k ≡ true → conflicts schema t u ≡ true
conflict_by schema t u k a b =
    let r = any_at (key_eq k) (write_set schema t) a in
    let same : k ≡ r.1 = key_eq_same k r.1 r.3 in
    sharing_is_conflict schema t u (any_passes_from_place (touches schema u) (write_set schema t) r.0 r.1 r.2 (ap (touches schema u) (sym same) ∙ b))

-- what comes before a place comes before a later one
stands_later : (j : JournalValue) (q place : ℕ) (g : Gtid) → q < place → is_recorded_before j q g ≡ true → is_recorded_before j place g ≡ true
stands_later j q place g l h = elim (or_cases (set.contains j.previous g) (is_recorded_in (take q j.entries) g) h) [
  | inl p ↦ or_left (set.contains j.previous g) (is_recorded_in (take place j.entries) g) p
  | inr e ↦
      let a = entry_at (take q j.entries) g e in
      let b = taken j.entries q a.0 a.1 a.2 in
      or_right (set.contains j.previous g) (is_recorded_in (take place j.entries) g)
      (subst (λ (x : Gtid). is_recorded_in (take place j.entries) x ≡ true) a.3 (entry_from (take place j.entries) a.0 a.1 (get_take j.entries place a.0 a.1 b.0 (less a.0 q place b.1 l))))
]
  where
    less : (a b c : ℕ) → a < b → b < c → a < c
    less a b c x y = omega arith

-- ---- a world

module _ (world : World) (journals : List JournalValue) where
  abbrev gaps : List Gap
  gaps = gaps_in (needs_in world) journals

  -- each that is found is present without its nearest earlier one
  without : (p : Gap) → GapIn (needs_in world) journals p → HasGap world journals p.0 p.1
  without p gap =
      let a = absent_from (is_recorded_before gap.there.journal gap.there.place) (finmap.get (needs_in world) p.0) p.1 gap.lacks in
      let n = need_is_nearest world p.0 p.1 a.0 a.2 a.1 a.3 in
      record { entry = gap.entry; there = gap.there; named = gap.named; t = n.t; first = n.first; key = n.key; touched = n.touched; nearest = n.nearest; left_out = a.4 }

  -- each that is present without its nearest earlier one is found
  is_found : (g h : Gtid) → HasGap world journals g h → (m : ℕ) × (x : Gtid) × (slice_get gaps m ≡ Some (g, x))
  is_found g h w =
      let n = nearest_is_needed world g h w.t w.key w.first w.touched w.nearest in
      let a = absent_any (is_recorded_before w.there.journal w.there.place) (finmap.get (needs_in world) g) n.0 h n.1 n.2 w.left_out in
      let r = of_gaps (needs_in world) journals w.there.number w.there.journal w.there.place w.entry a.0 w.there.listed w.there.there
      (ap (first_absent (needs_in world) (is_recorded_before w.there.journal w.there.place)) w.named ∙ a.1) in
      (r.0, a.0, r.1 ∙ ap (λ (y : Gtid). Some (y, a.0)) w.named)

  -- where nothing is unequal it is the case of a verdict
  left_out : unequal world journals ≡ None → (g h : Gtid) → is_opened world g ≡ false → HasGap world journals g h → IsLeftOut world journals g h
  left_out equal g h new w =
      let x = w.entry in
      let test : is_unequal world x ≡ false = when_none (is_unequal world x) (Unequal x.gtid) (first_none _ w.there.journal.entries (first_none _ journals equal w.there.number w.there.journal w.there.listed) w.there.place x w.there.there) in
      let is : content world x.gtid ≡ Some x.txn = content_is_by x.txn (content world x.gtid) (true_from_ne_false (is_content world x) (λ no.
      not_both (is_unequal world x) (and_from (not (is_opened world x.gtid)) (not (is_content world x)) (not_from_false (is_opened world x.gtid) (ap (is_opened world) w.named ∙ new)) (not_from_false (is_content world x) no)) test)) in
      let txn : w.t ≡ x.txn = same_Some w.t x.txn (sym w.first ∙ (ap (content world) (sym w.named) ∙ is)) in
      record {
        entry = x;
        there = w.there;
        named = w.named;
        u = w.nearest.u;
        content = w.nearest.there;
        source = w.nearest.source;
        smaller = w.nearest.smaller;
        shares = conflict_by world.schema w.nearest.u x.txn w.key w.nearest.touching (ap (λ (t : Transaction). touches world.schema t w.key) (sym txn) ∙ w.touched);
        left_out = w.left_out;
      }

  module _ (beyond : LieBeyond world.opening_set world.contents) where
    outside : (g : Gtid) (t : Transaction) → content world g ≡ Some t → is_opened world g ≡ false
    outside = beyond.outside

    module _ (within : purged world journals ≡ None) (none : (m : ℕ) (p : Gap) → slice_get gaps m ≡ Some p → ⊥) (i : ℕ) (j : JournalValue) (hj : slice_get journals i ≡ Some j) where
      not_previous : (g : Gtid) (t : Transaction) → content world g ≡ Some t → set.contains j.previous g ≡ true → ⊥
      not_previous g t f h =
          let test = when_none (not (set.is_subset j.previous world.opening_set)) (Purged i (set.difference j.previous world.opening_set)) (first_none _ journals within i j hj) in
          let part : set.is_subset j.previous world.opening_set ≡ true = true_from_ne_false (set.is_subset j.previous world.opening_set) (λ no.
          not_both (not (set.is_subset j.previous world.opening_set)) (not_from_false (set.is_subset j.previous world.opening_set) no) test) in
          not_both (is_opened world g) (is_subset-contains gtid_total j.previous world.opening_set part g h) (outside g t f)

      -- where every entry comes after what it needs, it comes after all that precede it and share a key with it
      stands_behind : (n k : ℕ) (e : Entry) (t : Transaction) (h : Gtid) (u : Transaction) → k < n → slice_get j.entries k ≡ Some e → content world e.gtid ≡ Some t → content world h ≡ Some u
          → h.source ≡ e.gtid.source → h.number < e.gtid.number → conflicts world.schema u t ≡ true → is_recorded_before j k h ≡ true
      stands_behind zero k e t h u l he ft fu s less shares = absurd (omega arith)
      stands_behind (suc n) k e t h u l he ft fu s less shares =
          let key = conflict_key world.schema u t shares in
          let at = content_at world h u fu in
          let need = need_at world e.gtid t key.0 at.0 (h, u) ft key.2 at.1 s less key.1 in
          let f = need.toucher in
          let ff : content world f.0 ≡ Some f.1 = at_content world need.later f need.there in
          let stands_f : is_recorded_before j k f.0 ≡ true = true_from_ne_false (is_recorded_before j k f.0) (λ no.
          let a = absent_any (is_recorded_before j k) (finmap.get (needs_in world) e.gtid) need.gtids f.0 need.known need.needed no in
          let r = of_gaps (needs_in world) journals i j k e a.0 hj he a.1 in
          none r.0 (e.gtid, a.0) r.1) in
          elim (le_cases at.0 need.later need.late) [
            | inr same ↦ subst (λ (x : history.Entry). is_recorded_before j k x.0 ≡ true) (same_Some f (h, u) (sym need.there ∙ (ap (slice_get (finmap.entries world.contents)) (sym same) ∙ at.1))) stands_f
            | inl lower ↦ elim (or_cases (set.contains j.previous f.0) (is_recorded_in (take k j.entries) f.0) stands_f) [
              | inl before ↦ absurd (not_previous f.0 f.1 ff before)
              | inr earlier ↦
                  let a = entry_at (take k j.entries) f.0 earlier in
                  let b = taken j.entries k a.0 a.1 a.2 in
                  let same_source : h.source ≡ f.0.source = s ∙ sym need.source in
                  let smaller : h.number < f.0.number = number_less h f.0 (rises (finmap.entries world.contents) at.0 need.later (h, u) f (rising world) at.1 need.there lower) same_source in
                  stands_later j a.0 k h b.1
                  (stands_behind n a.0 a.1 f.1 h u (below a.0 k n b.1 l) b.0 (ap (content world) a.3 ∙ ff) fu
                  (same_source ∙ ap (λ (x : Gtid). x.source) (sym a.3)) (subst (λ (x : Gtid). h.number < x.number) (sym a.3) smaller)
                  (conflict_by world.schema u f.1 key.0 key.1 need.touching))
            ]
          ]
        where
          below : (a k n : ℕ) → a < k → k < suc n → a < n
          below a k n x y = omega arith

    module _ (ordered : AreInOrder world.opening_set journals) where
      -- in a journal that is in order nothing is present without what it needs
      none_without : (g h : Gtid) → HasGap world journals g h → ⊥
      none_without g h w =
          let j = w.there.journal in
          let before : List Entry = take w.there.place j.entries in
          let at : content world h ≡ Some w.nearest.u = w.nearest.there in
          let positive : 0 < h.number = beyond.from_one h w.nearest.u at in
          let less : h.number < w.entry.gtid.number = subst (λ (x : Gtid). h.number < x.number) (sym w.named) w.nearest.smaller in
          let in_order : IsInOrder world.opening_set j.entries = all_at (λ (x : JournalValue). IsInOrder world.opening_set x.entries) journals w.there.number j ordered w.there.listed in
          let source : w.entry.gtid.source ≡ h.source = ap (λ (x : Gtid). x.source) w.named ∙ sym w.nearest.source in
          let is : gtid w.entry.gtid.source h.number ≡ h = λ k. record { source = source k; number = h.number } in
          let there : is_there world.opening_set before h ≡ true = subst (λ (x : Gtid). is_there world.opening_set before x ≡ true) is (in_order w.there.place w.entry w.there.there h.number positive less) in
          elim (or_cases (set.contains world.opening_set h) (is_recorded_in before h) there) [
            | inl opened ↦ not_both (is_opened world h) opened (outside h w.nearest.u at)
            | inr stood ↦ not_both (is_recorded_before j w.there.place h) (or_right (set.contains j.previous h) (is_recorded_in before h) stood) w.left_out
          ]

      pub none_in_order : (v : Verdict) → other_gaps world journals v ≡ []
      none_in_order v = ap (unreported (gap_of_verdict v)) (empty gaps (λ m p x. none_without p.0 p.1 (without p (in_gaps (needs_in world) journals m p x))))
        where
          empty : (ps : List Gap) → ((m : ℕ) (p : Gap) → slice_get ps m ≡ Some p → ⊥) → ps ≡ []
          empty [] none = refl
          empty (q ∷ ps) none = absurd (none zero q refl)

    -- the other GTIDs that are present without what they need are listed, and nothing else
    pub others_gaps : (v : Verdict) → AreOtherGaps world journals v (other_gaps world journals v)
    others_gaps v = record {
      named = all_told (IsGapNamed world journals) (gap_of_verdict v) gaps (λ m p x. without p (in_gaps (needs_in world) journals m p x));
      every = λ g h w.
          let r = is_found g h w in
          ap (λ b. b || list_any (is_of_gap g) (other_gaps world journals v)) (sym (said_is v g)) ∙ said_all (gap_of_verdict v) gaps r.0 (g, r.1) r.2;
      once = (first_once v gaps, once_from (gap_of_verdict v) gaps);
      cases = λ equal. all_told (NamesFault world journals) (gap_of_verdict v) gaps (λ m p x.
          let w = without p (in_gaps (needs_in world) journals m p x) in
          left_out equal p.0 p.1 (outside p.0 w.t w.first) w);
      closed = λ other empty within g h b.
          let none : (m : ℕ) (p : Gap) → slice_get gaps m ≡ Some p → ⊥ = λ m p x.
          let told : (is_of_gap p.0 v || list_any (is_of_gap p.0) (other_gaps world journals v)) ≡ true = ap (λ b. b || list_any (is_of_gap p.0) (other_gaps world journals v)) (sym (said_is v p.0)) ∙ said_all (gap_of_verdict v) gaps m p x in
          not_both (is_of_gap p.0 v || list_any (is_of_gap p.0) (other_gaps world journals v)) told (λ i. not_of v p.0 other i || list_any (is_of_gap p.0) (empty i)) in
          not_both (is_recorded_before b.there.journal b.there.place h)
          (stands_behind within none b.there.number b.there.journal b.there.listed (suc b.there.place) b.there.place b.entry b.t h b.u (itself b.there.place) b.there.there
          (ap (content world) b.named ∙ b.first) b.earlier (b.source ∙ ap (λ (x : Gtid). x.source) (sym b.named)) (subst (λ (x : Gtid). h.number < x.number) (sym b.named) b.smaller) b.shares)
          b.left_out;
    }
      where
        itself : (n : ℕ) → n < suc n
        itself n = omega arith
