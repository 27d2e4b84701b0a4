-- A journal goes on, or its first entries are purged, and it stays faithful.
use Rattle.std.proofs.Common.{◌≡◌, ℕ, ◌+◌, ◌≤◌, false, ◌||◌, ◌⊎◌, inl, inr, List, [], ◌∷◌, ◌++◌, length, take, drop, Some, refl, sym, ap, ◌∙◌, subst, arith, length-append, length-drop}
use Rattle.std.specs.FinSet as set
use Rattle.std.specs.FinSet.{contains-union}
use Rattle.std.proofs.lemmas.List.{take-append-le}
use Rattle.std.proofs.lemmas.List.Folds.{list_any-append}
use Rattle.std.proofs.Math.Seq.{take-add, take-append_seam}
use Rattle.gtid_text.specs.declared.Gtid.{Gtid}
use Rattle.gtid_text.specs.Gtids.{same_gtid}
use Rattle.gtid_set.specs.Sets.{Gtids}
use Rattle.rows.specs.declared.change.Transaction.{Transaction}
use Rattle.journal.specs.declared.Entry.{Entry}
use Rattle.journal.specs.Journals.{JournalValue, gtids_of, whole}
use Rattle.journal.proofs.EntryLemmas.{new_push, new_drop}
use Rattle.history.specs.World.{OrderedWorld, content, is_opened, IsClosed}
use Rattle.history.proofs.Closing.{closed_same, closed_sets_apply}
use Rattle.history.specs.Faithful.{IsFaithful}
use Rattle.history.specs.JournalLaws.{known_to, WholeIsClosed, WholeApplies, FaithfulGoesOn, PurgedIsFaithful}
use Rattle.history.proofs.Covering.{entry_of, is_entry, covered, front, has, in_insert, in_covered, in_whole, fronts_of, to_fronts}
use mathlib.Core.Bool.{or-false, or_comm}
use Rattle.lemmas.proofs.Tests.{or_swap, or_assoc}
use Rattle.lemmas.proofs.SameGtid.{gtid_total}
use Rattle.lemmas.proofs.Lists.{all_drop, all_append}

pub covered_push : (previous : Gtids) (entries : List Entry) (g : Gtid) (t : Transaction) (h : Gtid) → covered previous (entries ++ entry_of g t ∷ []) h ≡ (same_gtid h g || covered previous entries h)
covered_push previous entries g t h =
    ap (λ b. set.contains previous h || b) (list_any-append (λ (e : Entry). same_gtid h e.gtid) entries (entry_of g t ∷ []) ∙ ap (λ b. is_entry entries h || b) (or-false (same_gtid h g)))
    ∙ or_assoc (set.contains previous h) (is_entry entries h) (same_gtid h g)
    ∙ or_comm (covered previous entries h) (same_gtid h g)

pub either_le : (k n : ℕ) → k ≤ n + 1 → (k ≤ n) ⊎ (k ≡ n + 1)
either_le k n h = grind arith

pub take_all : (xs ys : List Entry) (k : ℕ) → k ≡ length xs + 1 → length ys ≡ 1 → take k (xs ++ ys) ≡ xs ++ ys
take_all xs ys k e l =
    let n : k ≡ length (xs ++ ys) = omega (arith, length-append xs ys) in
    ap (λ i. take i (xs ++ ys)) n ∙ (ap (take (length (xs ++ ys))) (sym (nothing_more (xs ++ ys))) ∙ take-append_seam (xs ++ ys) [])
  where
    nothing_more : (zs : List Entry) → zs ++ [] ≡ zs
    nothing_more [] = refl
    nothing_more (z ∷ zs) = ap (λ (t : List Entry). z ∷ t) (nothing_more zs)

-- a journal goes on with one entry
pub journal_push : (world : OrderedWorld) (j : JournalValue) (g : Gtid) (t : Transaction) → IsFaithful world j → content world g ≡ Some t → has j g ≡ false → IsClosed world (λ h. same_gtid h g || (is_opened world h || has j h)) → IsFaithful world (record { previous = j.previous; entries = j.entries ++ entry_of g t ∷ [] })
journal_push world j g t f there new closed = record {
  fronts = to_fronts world (record { previous = j.previous; entries = j.entries ++ entry_of g t ∷ [] }) (λ k l. elim (either_le k (length j.entries) (subst (λ n. k ≤ n) (length-append j.entries (entry_of g t ∷ [])) l)) [
    | inl below ↦ subst (λ es. IsClosed world (front world j.previous es)) (sym (take-append-le k j.entries (entry_of g t ∷ []) below)) (fronts_of world j f k below)
    | inr all ↦ subst (λ es. IsClosed world (front world j.previous es)) (sym (take_all j.entries (entry_of g t ∷ []) k all refl)) (closed_same world (λ h. same_gtid h g || (is_opened world h || has j h)) (front world j.previous (j.entries ++ entry_of g t ∷ [])) (λ h. ap (λ b. is_opened world h || b) (covered_push j.previous j.entries g t h) ∙ or_swap (is_opened world h) (same_gtid h g) (has j h)) closed)
  ]);
  contents = all_append (λ (e : Entry). is_opened world e.gtid ≡ false → content world e.gtid ≡ Some e.txn) j.entries (entry_of g t ∷ []) f.contents (λ n. there, tt);
  new = new_push j.previous j.entries (entry_of g t) f.new (in_whole j g ∙ new);
}

-- what was purged and what is left
pub covered_purged : (previous : Gtids) (xs ys : List Entry) (h : Gtid) → covered (set.union previous (gtids_of xs)) ys h ≡ covered previous (xs ++ ys) h
covered_purged previous xs ys h =
    ap (λ b. b || is_entry ys h) (in_covered previous xs h)
    ∙ sym (or_assoc (set.contains previous h) (is_entry xs h) (is_entry ys h))
    ∙ ap (λ b. set.contains previous h || b) (sym (list_any-append (λ (e : Entry). same_gtid h e.gtid) xs ys))

pub journal_purge : (world : OrderedWorld) (j : JournalValue) (k : ℕ) → k ≤ length j.entries → IsFaithful world j → IsFaithful world (record { previous = set.union j.previous (gtids_of (take k j.entries)); entries = drop k j.entries })
journal_purge world j k below f = record {
  fronts = to_fronts world (record { previous = set.union j.previous (gtids_of (take k j.entries)); entries = drop k j.entries }) (λ i l. closed_same world (front world j.previous (take (k + i) j.entries)) (front world (set.union j.previous (gtids_of (take k j.entries))) (take i (drop k j.entries)))
      (λ h. ap (λ b. is_opened world h || b) (covered_purged j.previous (take k j.entries) (take i (drop k j.entries)) h ∙ ap (λ es. covered j.previous es h) (sym (take-add k i j.entries))))
      (fronts_of world j f (k + i) (omega (arith, length-drop k j.entries))));
  contents = all_drop (λ (e : Entry). is_opened world e.gtid ≡ false → content world e.gtid ≡ Some e.txn) k j.entries f.contents;
  new = new_drop k j.previous j.entries f.new;
}

-- ---- the laws

pub take_whole : (es : List Entry) → take (length es) es ≡ es
take_whole [] = refl
take_whole (e ∷ es) = ap (λ xs. e ∷ xs) (take_whole es)

pub in_known : (world : OrderedWorld) (j : JournalValue) (g : Gtid) → set.contains (known_to world j) g ≡ (is_opened world g || has j g)
in_known world j g = contains-union gtid_total world.opening_set (whole j) g ∙ ap (λ b. is_opened world g || b) (in_whole j g)

pub whole_is_closed : WholeIsClosed
whole_is_closed world j f =
    let all : length j.entries ≤ length j.entries = omega arith in
    closed_same world (front world j.previous (take (length j.entries) j.entries)) (set.contains (known_to world j))
    (λ g. in_known world j g ∙ ap (λ es. front world j.previous es g) (sym (take_whole j.entries)))
    (fronts_of world j f (length j.entries) all)

pub whole_applies : WholeApplies
whole_applies world j sound f = closed_sets_apply world (set.contains (known_to world j)) sound (whole_is_closed world j f)

pub faithful_goes_on : FaithfulGoesOn
faithful_goes_on world j e f there new closed =
    journal_push world j e.gtid e.txn f there (sym (in_whole j e.gtid) ∙ new)
    (closed_same world (set.contains (set.insert (known_to world j) e.gtid)) (λ h. same_gtid h e.gtid || (is_opened world h || has j h))
    (λ h. sym (in_insert (known_to world j) e.gtid h ∙ ap (λ b. same_gtid h e.gtid || b) (in_known world j h))) closed)

pub purged_is_faithful : PurgedIsFaithful
purged_is_faithful world j k f below = journal_purge world j k below f
