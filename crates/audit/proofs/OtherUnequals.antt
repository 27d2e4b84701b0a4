-- What is reported of GTIDs under which journals differ is all there is.
use Rattle.std.proofs.Common.{◌≡◌, ◌≢◌, ℕ, zero, suc, Bool, true, false, cond, not, ◌&&◌, ◌||◌, ◌⊎◌, inl, inr, List, [], ◌∷◌, ◌++◌, Option, Some, None, refl, sym, ap, ◌∙◌, subst}
use Rattle.std.specs.Prelude.{slice_get}
use Rattle.std.specs.List.{list_any, AllByRecursion}
use Rattle.std.specs.Option.{option_map_or, unwrap_or}
use Rattle.std.specs.FinSet as set
use Rattle.std.specs.FinSet.{contains-empty}
use Rattle.std.proofs.lemmas.Bool.{and_parts, and_from, or_left, or_right, not-true, not_from_false, false_from_ne_true, true_from_ne_false}
use Rattle.std.proofs.lemmas.Option.{same_Some}
use Rattle.lemmas.proofs.Tests.{not_both}
use Rattle.lemmas.proofs.Lists.{get_append_left}
use Rattle.lemmas.proofs.Options.{none_some}
use Rattle.lemmas.proofs.SameGtid.{same_itself, same_is_equal}
use Rattle.gtid_text.specs.declared.Gtid.{Gtid}
use Rattle.gtid_text.specs.Gtids.{gtid_cmp, same_gtid}
use Rattle.gtid_set.specs.Sets.{Gtids}
use Rattle.journal.specs.declared.Entry.{Entry}
use Rattle.journal.specs.Journals.{JournalValue}
use Rattle.history.specs.Sources.{World, content, is_opened}
use Rattle.history.proofs.Covering.{in_insert}
use Rattle.world.specs.declared.verdict.Verdict.{Verdict}
use Rattle.world.specs.declared.verdict.Verdict.TheVariants.{Unequal, Purged, Missing, Shared, NotClosed, Reordered, Concurrent, DoesNotApply, Sound}
use Rattle.world.specs.Search.{or_next}
use Rattle.world.specs.Equal.{txn_eq}
use Rattle.world.specs.Audit.{all_entries, is_content, is_unequal, unequal, purged, missing, shared, not_closed, does_not_apply, verdict}
use Rattle.world.specs.Cases.{IsEntryOf, DiffersAt}
use Rattle.world.proofs.Finding.{when_none, when_some, first_none, first_some}
use Rattle.world.proofs.Meanings.{content_is_by}
use Rattle.world.proofs.Same.{txn_self}
use Rattle.audit.specs.OtherUnequal.{IsUnequalNamed, is_of_unequal, is_unequal_again, AreUnequalOnce, AreOtherUnequal, unequal_from, other_unequal}

-- ---- entries of all journals

get_append : (xs ys : List Entry) (m : ℕ) (e : Entry) → slice_get (xs ++ ys) m ≡ Some e → (slice_get xs m ≡ Some e) ⊎ ((n : ℕ) × (slice_get ys n ≡ Some e))
get_append [] ys m e h = inr (m, h)
get_append (x ∷ xs) ys zero e h = inl h
get_append (x ∷ xs) ys (suc m) e h = get_append xs ys m e h

get_behind : (xs ys : List Entry) (n : ℕ) (e : Entry) → slice_get ys n ≡ Some e → (m : ℕ) × (slice_get (xs ++ ys) m ≡ Some e)
get_behind [] ys n e h = (n, h)
get_behind (x ∷ xs) ys n e h = let r = get_behind xs ys n e h in (suc r.0, r.1)

one_more : (js : List JournalValue) (j : JournalValue) (e : Entry) → IsEntryOf js e → IsEntryOf (j ∷ js) e
one_more js j e r = record { number = suc r.number; journal = r.journal; place = r.place; listed = r.listed; there = r.there }

pub entry_of : (js : List JournalValue) (m : ℕ) (e : Entry) → slice_get (all_entries js) m ≡ Some e → IsEntryOf js e
entry_of [] m e h = none_some e h
entry_of (j ∷ js) m e h = elim (get_append j.entries (all_entries js) m e h) [
  | inl here ↦ record { number = zero; journal = j; place = m; listed = refl; there = here }
  | inr later ↦ one_more js j e (entry_of js later.0 e later.1)
]

pub of_entry : (js : List JournalValue) (i : ℕ) (j : JournalValue) (k : ℕ) (e : Entry) → slice_get js i ≡ Some j → slice_get j.entries k ≡ Some e → (m : ℕ) × (slice_get (all_entries js) m ≡ Some e)
of_entry [] i j k e hj he = none_some j hj
of_entry (x ∷ js) zero j k e hj he = (k, get_append_left x.entries (all_entries js) k e (ap (λ (y : JournalValue). slice_get y.entries k) (same_Some x j hj) ∙ he))
of_entry (x ∷ js) (suc i) j k e hj he = let r = of_entry js i j k e hj he in get_behind x.entries (all_entries js) r.0 e r.1

-- ---- one entry

module _ (world : World) where
  is_unequal_at : (e : Entry) → is_opened world e.gtid ≡ false → content world e.gtid ≢ Some e.txn → is_unequal world e ≡ true
  is_unequal_at e new differs =
      and_from (not (is_opened world e.gtid)) (not (is_content world e)) (not_from_false (is_opened world e.gtid) new)
      (not_from_false (is_content world e) (false_from_ne_true (is_content world e) (λ t. differs (content_is_by e.txn (content world e.gtid) t))))

  differs_at : (journals : List JournalValue) (e : Entry) → IsEntryOf journals e → is_unequal world e ≡ true → DiffersAt world journals e.gtid
  differs_at journals e there u =
      let p = and_parts (not (is_opened world e.gtid)) (not (is_content world e)) u in
      record {
        entry = e;
        there = there;
        named = refl;
        new = not-true (is_opened world e.gtid) p.0;
        differs = λ h. not_both (is_content world e) (ap (λ o. option_map_or (txn_eq e.txn) o false) h ∙ txn_self e.txn) (not-true (is_content world e) p.1);
      }

  -- ---- entry after entry

  -- it is reported here
  abbrev says : Gtids → Entry → Bool
  says reported x = is_unequal world x && not (set.contains reported x.gtid)

  abbrev told : Gtids → Entry → List Entry → Bool → List Verdict
  told reported x es b = cond b (Unequal x.gtid ∷ unequal_from world (set.insert reported x.gtid) es) (unequal_from world reported es)

  moved : (a b c : Bool) → ((a || b) || c) ≡ true → (b || (a || c)) ≡ true
  moved true true c e = refl
  moved true false c e = refl
  moved false true c e = refl
  moved false false c e = e

  said_all : (reported : Gtids) (es : List Entry) (m : ℕ) (e : Entry) → slice_get es m ≡ Some e → is_unequal world e ≡ true
      → (set.contains reported e.gtid || list_any (is_of_unequal e.gtid) (unequal_from world reported es)) ≡ true
  said_all reported [] m e h u = none_some e h
  said_all reported (x ∷ es) zero e h u =
      subst (λ (y : Entry). (set.contains reported y.gtid || list_any (is_of_unequal y.gtid) (told reported x es (says reported x))) ≡ true) (same_Some x e h)
      (here (says reported x) refl (ap (is_unequal world) (same_Some x e h) ∙ u))
    where
      here : (b : Bool) → says reported x ≡ b → is_unequal world x ≡ true → (set.contains reported x.gtid || list_any (is_of_unequal x.gtid) (told reported x es b)) ≡ true
      here true s t =
          or_right (set.contains reported x.gtid) (list_any (is_of_unequal x.gtid) (told reported x es true))
          (or_left (same_gtid x.gtid x.gtid) (list_any (is_of_unequal x.gtid) (unequal_from world (set.insert reported x.gtid) es)) (same_itself x.gtid))
      here false s t =
          or_left (set.contains reported x.gtid) (list_any (is_of_unequal x.gtid) (told reported x es false))
          (true_from_ne_false (set.contains reported x.gtid) (λ n. not_both (says reported x) (and_from (is_unequal world x) (not (set.contains reported x.gtid)) t (not_from_false (set.contains reported x.gtid) n)) s))
  said_all reported (x ∷ es) (suc m) e h u = later (says reported x) (said_all (set.insert reported x.gtid) es m e h u) (said_all reported es m e h u)
    where
      later : (b : Bool) → (set.contains (set.insert reported x.gtid) e.gtid || list_any (is_of_unequal e.gtid) (unequal_from world (set.insert reported x.gtid) es)) ≡ true
          → (set.contains reported e.gtid || list_any (is_of_unequal e.gtid) (unequal_from world reported es)) ≡ true → (set.contains reported e.gtid || list_any (is_of_unequal e.gtid) (told reported x es b)) ≡ true
      later true more same =
          moved (same_gtid e.gtid x.gtid) (set.contains reported e.gtid) (list_any (is_of_unequal e.gtid) (unequal_from world (set.insert reported x.gtid) es))
          (ap (λ b. b || list_any (is_of_unequal e.gtid) (unequal_from world (set.insert reported x.gtid) es)) (sym (in_insert reported x.gtid e.gtid)) ∙ more)
      later false more same = same

  -- what was reported is not reported again
  not_again : (reported : Gtids) (es : List Entry) (g : Gtid) → set.contains reported g ≡ true → list_any (is_of_unequal g) (unequal_from world reported es) ≡ false
  not_again reported [] g h = refl
  not_again reported (x ∷ es) g h =
      by (says reported x) refl (not_again (set.insert reported x.gtid) es g (in_insert reported x.gtid g ∙ or_right (same_gtid g x.gtid) (set.contains reported g) h)) (not_again reported es g h)
    where
      by : (b : Bool) → says reported x ≡ b → list_any (is_of_unequal g) (unequal_from world (set.insert reported x.gtid) es) ≡ false → list_any (is_of_unequal g) (unequal_from world reported es) ≡ false
          → list_any (is_of_unequal g) (told reported x es b) ≡ false
      by true s more same =
          let p = and_parts (is_unequal world x) (not (set.contains reported x.gtid)) s in
          let other : same_gtid g x.gtid ≡ false = false_from_ne_true (same_gtid g x.gtid) (λ is.
          not_both (set.contains reported x.gtid) (ap (set.contains reported) (sym (same_is_equal g x.gtid is)) ∙ h) (not-true (set.contains reported x.gtid) p.1)) in
          ap (λ b. b || list_any (is_of_unequal g) (unequal_from world (set.insert reported x.gtid) es)) other ∙ more
      by false s more same = same

  once_from : (reported : Gtids) (es : List Entry) → AreUnequalOnce (unequal_from world reported es)
  once_from reported [] = tt
  once_from reported (x ∷ es) = by (says reported x) (once_from (set.insert reported x.gtid) es) (once_from reported es)
    where
      by : (b : Bool) → AreUnequalOnce (unequal_from world (set.insert reported x.gtid) es) → AreUnequalOnce (unequal_from world reported es) → AreUnequalOnce (told reported x es b)
      by true more same =
          (not_again (set.insert reported x.gtid) es x.gtid (in_insert reported x.gtid x.gtid ∙ or_left (same_gtid x.gtid x.gtid) (set.contains reported x.gtid) (same_itself x.gtid)), more)
      by false more same = same

  named_from : (journals : List JournalValue) (reported : Gtids) (es : List Entry) → ((m : ℕ) (e : Entry) → slice_get es m ≡ Some e → IsEntryOf journals e)
      → AllByRecursion (IsUnequalNamed world journals) (unequal_from world reported es)
  named_from journals reported [] there = tt
  named_from journals reported (x ∷ es) there =
      by (says reported x) refl (named_from journals (set.insert reported x.gtid) es (λ m e h. there (suc m) e h)) (named_from journals reported es (λ m e h. there (suc m) e h))
    where
      by : (b : Bool) → says reported x ≡ b → AllByRecursion (IsUnequalNamed world journals) (unequal_from world (set.insert reported x.gtid) es) → AllByRecursion (IsUnequalNamed world journals) (unequal_from world reported es)
          → AllByRecursion (IsUnequalNamed world journals) (told reported x es b)
      by true s more same = (differs_at journals x (there zero x refl) (and_parts (is_unequal world x) (not (set.contains reported x.gtid)) s).0, more)
      by false s more same = same

  -- ---- the verdict

  abbrev is_unequal_said : Verdict → Bool
  is_unequal_said (Unequal g) = true
  is_unequal_said _ = false

  -- the verdict, where it is looked for from here on
  abbrev from_unequal : List JournalValue → Option Verdict → Verdict
  from_unequal journals o = unwrap_or (or_next (or_next o (or_next (purged world journals) (or_next (missing world journals) (or_next (shared world) (not_closed world journals))))) (does_not_apply world)) Sound

  -- where another verdict is found, no GTID is unequal
  none_unequal : (journals : List JournalValue) (v : Verdict) → v ≡ verdict world journals → is_unequal_said v ≡ false → (g : Gtid) → DiffersAt world journals g → ⊥
  none_unequal journals v e other g d = by (unequal world journals) refl
    where
      by : (o : Option Verdict) → unequal world journals ≡ o → ⊥
      by None n =
          let x = d.entry in
          let u = is_unequal_at x (ap (is_opened world) d.named ∙ d.new) (λ same. d.differs (ap (content world) (sym d.named) ∙ same)) in
          not_both (is_unequal world x) u
          (when_none (is_unequal world x) (Unequal x.gtid) (first_none _ d.there.journal.entries (first_none _ journals n d.there.number d.there.journal d.there.listed) d.there.place x d.there.there))
      by (Some u) s =
          let a = first_some _ journals u s in
          let b = first_some _ a.element.entries u a.gives in
          let c = when_some (is_unequal world b.element) (Unequal b.element.gtid) u b.gives in
          not_both (is_unequal_said v) (ap is_unequal_said (e ∙ (ap (from_unequal journals) s ∙ sym c.1))) other

  or_none : (a b : Bool) → b ≡ false → a ≡ (a || b)
  or_none true b n = refl
  or_none false b n = sym n

  abbrev only : Gtid → Gtids
  only g = set.insert set.empty g

  first_said : (g h : Gtid) (b : Bool) → (set.contains (only g) h || b) ≡ true → (same_gtid h g || b) ≡ true
  first_said g h b t =
      ap (λ x. x || b) (or_none (same_gtid h g) (set.contains {R = gtid_cmp} set.empty h) (contains-empty gtid_cmp h)) ∙ (ap (λ x. x || b) (sym (in_insert set.empty g h)) ∙ t)

  no_others : (journals : List JournalValue) (v : Verdict) → v ≡ verdict world journals → is_unequal_said v ≡ false → is_unequal_again v [] ≡ false → AreOtherUnequal world journals v []
  no_others journals v e other once = record { named = tt; every = λ g d. absurd (none_unequal journals v e other g d); once = (once, tt) }

  others : (journals : List JournalValue) (v : Verdict) → v ≡ verdict world journals → AreOtherUnequal world journals v (other_unequal world journals v)
  others journals (Unequal g) e =
      let reported : Gtids = set.insert set.empty g in
      let all : List Entry = all_entries journals in
      record {
        named = named_from journals reported all (λ m x h. entry_of journals m x h);
        every = λ h d.
            let x = d.entry in
            let at = of_entry journals d.there.number d.there.journal d.there.place x d.there.listed d.there.there in
            let u = is_unequal_at x (ap (is_opened world) d.named ∙ d.new) (λ same. d.differs (ap (content world) (sym d.named) ∙ same)) in
            first_said g h (list_any (is_of_unequal h) (unequal_from world reported all))
            (subst (λ (y : Gtid). (set.contains reported y || list_any (is_of_unequal y) (unequal_from world reported all)) ≡ true) d.named (said_all reported all at.0 x at.1 u));
        once = (not_again reported all g (in_insert set.empty g g ∙ or_left (same_gtid g g) (set.contains set.empty g) (same_itself g)), once_from reported all);
      }
  others journals (Purged i gtids) e = no_others journals (Purged i gtids) e refl refl
  others journals (Missing g) e = no_others journals (Missing g) e refl refl
  others journals (Shared g h key) e = no_others journals (Shared g h key) e refl refl
  others journals (Reordered g h key) e = no_others journals (Reordered g h key) e refl refl
  others journals (Concurrent g h key) e = no_others journals (Concurrent g h key) e refl refl
  others journals (NotClosed g h) e = no_others journals (NotClosed g h) e refl refl
  others journals (DoesNotApply g fault) e = no_others journals (DoesNotApply g fault) e refl refl
  others journals Sound e = no_others journals Sound e refl refl

-- the other GTIDs that are unequal are listed, and nothing else
pub others_unequal : (world : World) (journals : List JournalValue) → AreOtherUnequal world journals (verdict world journals) (other_unequal world journals (verdict world journals))
others_unequal world journals = others world journals (verdict world journals) refl
