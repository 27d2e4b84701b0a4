-- The histories of a bundle's journals: each GTID is new and occurs once, and has one content where no entry is unequal.
use Rattle.std.proofs.Common.{◌≡◌, ◌≢◌, ℕ, zero, suc, Bool, true, false, cond, not, inl, inr, List, [], ◌∷◌, Some, None, refl, sym, ap, ◌∙◌, subst}
use Rattle.std.specs.Prelude.{slice_get}
use Rattle.std.specs.List.{AllByRecursion}
use Rattle.std.specs.FinSet as set
use Rattle.std.proofs.lemmas.Bool.{and_from, not_from_false, true_from_ne_false, false_from_ne_true, or_left, or_right}
use Rattle.std.proofs.lemmas.Option.{same_Some}
use Rattle.lemmas.proofs.Lists.{all_at, all_from}
use Rattle.lemmas.proofs.Tests.{not_both}
use Rattle.lemmas.proofs.Options.{none_some}
use Rattle.lemmas.proofs.SameGtid.{same_itself}
use Rattle.gtid_text.specs.declared.Gtid.{Gtid}
use Rattle.gtid_text.specs.Gtids.{same_gtid}
use Rattle.gtid_set.specs.Sets.{Gtids}
use Rattle.journal.specs.declared.Entry.{Entry}
use Rattle.journal.specs.Journals.{JournalValue, IsJournal, AreNew}
use Rattle.history.specs.Sources.{World, content, is_opened}
use Rattle.world.specs.declared.verdict.Verdict.TheVariants.{Unequal, Purged}
use Rattle.world.specs.Audit.{is_content, is_unequal, unequal, purged}
use Rattle.world.specs.Meaning.{AreJournals}
use Rattle.world.proofs.Finding.{when_none, first_none}
use Rattle.world.proofs.Meanings.{content_is_by}
use Rattle.history.specs.World as ordered
use Rattle.history.specs.World.{IsIn, AreDistinct}
use Rattle.history.proofs.Entries.{all_of}
use Rattle.history.proofs.Covering.{in_insert}
use Rattle.history.specs.Histories.{History, IsAmong}
use Rattle.history.specs.HistoryLaws as laws
use Rattle.history.specs.Chains.{HaveOneContent}
use Rattle.world.specs.Bundles.{beyond_opening, history_of, histories_of, IsOpen}

-- ---- what is in a history

abbrev pub pair : Entry → ordered.Entry
pair e = (e.gtid, e.txn)

-- an entry beyond the opening set
pub record IsAt (opened : Gtids) (es : List Entry) (x : ordered.Entry) : Type 0 where
  pub place : ℕ
  pub entry : Entry
  pub there : slice_get es place ≡ Some entry
  pub beyond : set.contains opened entry.gtid ≡ false
  pub same : pair entry ≡ x

pub entry_behind : (opened : Gtids) (es : List Entry) (x : ordered.Entry) → IsIn x (beyond_opening opened es) → IsAt opened es x
entry_behind opened [] x i = absurd i
entry_behind opened (e ∷ es) x i = by_test (entry_behind opened es x) (set.contains opened e.gtid) refl i
  where
    later : IsAt opened es x → IsAt opened (e ∷ es) x
    later r = record { place = suc r.place; entry = r.entry; there = r.there; beyond = r.beyond; same = r.same }

    by_test : (IsIn x (beyond_opening opened es) → IsAt opened es x) → (b : Bool) → set.contains opened e.gtid ≡ b → IsIn x (cond b (beyond_opening opened es) (pair e ∷ beyond_opening opened es)) → IsAt opened (e ∷ es) x
    by_test behind true t j = later (behind j)
    by_test behind false t (inl same) = record { place = zero; entry = e; there = refl; beyond = t; same = same }
    by_test behind false t (inr j) = later (behind j)

-- ---- each GTID once

new_at : (seen : Gtids) (es : List Entry) → AreNew seen es → (i : ℕ) (e : Entry) → slice_get es i ≡ Some e → set.contains seen e.gtid ≡ false
new_at seen [] n i e h = none_some e h
new_at seen (x ∷ es) n zero e h = ap (λ (y : Entry). set.contains seen y.gtid) (sym (same_Some x e h)) ∙ n.0
new_at seen (x ∷ es) n (suc i) e h = false_from_ne_true (set.contains seen e.gtid) (λ y.
    not_both (set.contains (set.insert seen x.gtid) e.gtid) (in_insert seen x.gtid e.gtid ∙ or_right (same_gtid e.gtid x.gtid) (set.contains seen e.gtid) y) (new_at (set.insert seen x.gtid) es n.1 i e h))

-- a later entry has another GTID
later_apart : (seen : Gtids) (x : Entry) (es : List Entry) → AreNew (set.insert seen x.gtid) es → (i : ℕ) (e : Entry) → slice_get es i ≡ Some e → x.gtid ≢ e.gtid
later_apart seen x es n i e h same =
    not_both (set.contains (set.insert seen x.gtid) e.gtid)
    (in_insert seen x.gtid e.gtid ∙ or_left (same_gtid e.gtid x.gtid) (set.contains seen e.gtid) (ap (λ (g : Gtid). same_gtid g x.gtid) (sym same) ∙ same_itself x.gtid))
    (new_at (set.insert seen x.gtid) es n i e h)

module _ (opened : Gtids) where
  distinct_by : (b : Bool) (x : ordered.Entry) (xs : List ordered.Entry) → AllByRecursion (λ (f : ordered.Entry). x.0 ≢ f.0) xs → AreDistinct xs → AreDistinct (cond b xs (x ∷ xs))
  distinct_by true x xs all d = d
  distinct_by false x xs all d = (all, d)

  pub history_distinct : (seen : Gtids) (es : List Entry) → AreNew seen es → AreDistinct (beyond_opening opened es)
  history_distinct seen [] n = tt
  history_distinct seen (e ∷ es) n = distinct_by (set.contains opened e.gtid) (pair e) (beyond_opening opened es)
      (all_of (λ (f : ordered.Entry). e.gtid ≢ f.0) (beyond_opening opened es) (λ f i.
      let r = entry_behind opened es f i in
      λ same. later_apart seen e es n.1 r.place r.entry r.there (same ∙ sym (ap (λ (y : ordered.Entry). y.0) r.same))))
      (history_distinct (set.insert seen e.gtid) es n.1)

  pub history_new : (j : JournalValue) → IsJournal j.previous j.entries → laws.AreNew opened (history_of opened j)
  history_new j is = (
    history_distinct j.previous j.entries is.new,
    λ x i. let r = entry_behind opened j.entries x i in ap (λ (y : ordered.Entry). set.contains opened y.0) (sym r.same) ∙ r.beyond,
  )

  pub all_new : (js : List JournalValue) → AreJournals js → AllByRecursion (laws.AreNew opened) (histories_of opened js)
  all_new [] are = tt
  all_new (j ∷ js) are = (history_new j are.0, all_new js are.1)

  -- a history is that of a journal
  pub journal_behind : (js : List JournalValue) (h : History) → IsAmong h (histories_of opened js) → (i : ℕ) × (j : JournalValue) × (slice_get js i ≡ Some j) × (history_of opened j ≡ h)
  journal_behind [] h k = absurd k
  journal_behind (j ∷ js) h (inl same) = (zero, j, refl, same)
  journal_behind (j ∷ js) h (inr later) = let r = journal_behind js h later in (suc r.0, r.1, r.2, r.3)

-- ---- one content

pub has_content : (world : World) (js : List JournalValue) → unequal world js ≡ None → (h : History) → IsAmong h (histories_of world.opening_set js) → (x : ordered.Entry) → IsIn x h → content world x.0 ≡ Some x.1
has_content world js none h k x i =
    let a = journal_behind world.opening_set js h k in
    let r = entry_behind world.opening_set a.1.entries x (subst (IsIn x) (sym a.3) i) in
    let test : is_unequal world r.entry ≡ false = when_none (is_unequal world r.entry) (Unequal r.entry.gtid) (first_none _ a.1.entries (first_none _ js none a.0 a.1 a.2) r.place r.entry r.there) in
    let found : content world r.entry.gtid ≡ Some r.entry.txn = content_is_by r.entry.txn (content world r.entry.gtid) (true_from_ne_false (is_content world r.entry) (λ other.
    not_both (is_unequal world r.entry) (and_from (not (is_opened world r.entry.gtid)) (not (is_content world r.entry)) (not_from_false (is_opened world r.entry.gtid) r.beyond) (not_from_false (is_content world r.entry) other)) test)) in
    subst (λ (y : ordered.Entry). content world y.0 ≡ Some y.1) r.same found

pub one_content : (world : World) (js : List JournalValue) → unequal world js ≡ None → HaveOneContent (histories_of world.opening_set js)
one_content world js none a b k l e f i j same =
    let p = has_content world js none a k e i in
    let q = has_content world js none b l f j in
    let t : e.1 ≡ f.1 = same_Some e.1 f.1 (sym p ∙ ap (content world) same ∙ q) in
    λ n. (same n, t n)

-- ---- nothing purged

pub are_open : (world : World) (js : List JournalValue) → AreJournals js → purged world js ≡ None → AllByRecursion (IsOpen world.opening_set) js
are_open world js are none = all_from (IsOpen world.opening_set) js (λ i j hj.
    let test = when_none (not (set.is_subset j.previous world.opening_set)) (Purged i (set.difference j.previous world.opening_set)) (first_none _ js none i j hj) in
    record {
      within = true_from_ne_false (set.is_subset j.previous world.opening_set) (λ other. not_both (not (set.is_subset j.previous world.opening_set)) (not_from_false (set.is_subset j.previous world.opening_set) other) test);
      new = (all_at (λ (x : JournalValue). IsJournal x.previous x.entries) js i j are hj).new;
    })
