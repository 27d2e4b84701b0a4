-- Where a bundle's line makes too many sources.
use Rattle.std.proofs.Common.{◌≡◌, ℕ, ◌≤◌, inl, inr, Bool, true, false, cond, eqb, List, [], Option, Some, None, Result, Ok, Err, refl, sym, ap, subst, ◌∙◌, arith}
use Rattle.std.specs.FinSet as set
use Rattle.std.specs.declared.alloc.AllocError.{AllocError}
use Rattle.std.proofs.lemmas.Bool.{eq-eqb}
use Rattle.gtid_set.specs.declared.fault.SetFault.TheVariants.{SourcesFull}
use Rattle.gtid_set.specs.Sets.{Gtids, source_count, most_sources}
use Rattle.gtid_set.specs.Full.{HasManySources}
use Rattle.rows.specs.declared.schema.Table.{Table}
use Rattle.journal.specs.Journals.{JournalValue}
use Rattle.txn_journal.specs.Lines.{◌>>=◌, some_or_body}
use Rattle.txn_journal.specs.Machine.{Standing, IsFull, is_last, open_entry, close_entry, judge}
use Rattle.txn_journal.specs.Stamps.{right_stamp}
use Rattle.txn_journal.specs.Stream.{GivesFull, TakesPlain}
use Rattle.journal_words.specs.Gtids.{set_of_word, OfParsed}
use Rattle.txn_journal.specs.declared.bundle_draft.Part.TheVariants as parts
use Rattle.txn_journal.specs.BundleStates.{BundleStanding, BundleValue, bare, opening_line, IsFullBundle, with_journal, after_inner, unless_misstamped, end_entry, judge_inner}
use Rattle.txn_journal.specs.declared.bundle.BundleChannel.{BundleChannel}
use Rattle.txn_journal.specs.declared.lines.LinePlace.TheVariants as places
use Rattle.txn_journal.specs.declared.fault.Cause.{Cause}
use Rattle.txn_journal.specs.declared.fault.Cause.TheVariants as causes
use Rattle.txn_journal.specs.declared.lines.Version.{Version}
use Rattle.txn_journal.specs.declared.lines.Version.TheVariants.{One}
use Rattle.txn_journal.proofs.Judged.{done, ok_is}
use Rattle.txn_journal.proofs.InnerSteps.{ends, ended_or_not, judged_on}

-- ---- a line that ends no entry

same_opened : (c : Option BundleChannel) (b : BundleValue) (j : JournalValue) → (with_journal c b j).opened ≡ b.opened
same_opened None b j = refl
same_opened (Some c) b j = refl

full_inside : (s : BundleStanding) (d : Standing) (v : Bool) → (HasManySources s.bundle.opened → ⊥) → IsFullBundle SourcesFull (ended_or_not s d v) → IsFull SourcesFull d
full_inside s d true few (inl h) = absurd (let k = h.0 in cc)
full_inside s d true few (inr h) = absurd (few (subst HasManySources (same_opened s.channel s.bundle d.journal) h))
full_inside s d false few (inl h) = h
full_inside s d false few (inr h) = absurd (few h)

full_after : (s : BundleStanding) (line : List ℕ) (r : Result Standing Cause) → judge (Some s.bundle.start.schema) s.draft line ≡ r → ends s.draft.place line ≡ false → (HasManySources s.bundle.opened → ⊥)
    → GivesFull (IsFullBundle SourcesFull) (judge_inner true s line) → GivesFull (IsFull SourcesFull) r
unfolding judge_inner after_inner
full_after s line (Ok d) e none few h = full_inside s d (is_last d.place) few (subst (GivesFull (IsFullBundle SourcesFull)) (judged_on s d line none e) h)
full_after s line (Err x) e none few h = subst (λ (q : Result Standing Cause). GivesFull (IsFullBundle SourcesFull) (q >>= unless_misstamped true s)) e h

-- what is too much for the bundle is too much for its open journal
pub inner_full_of : (s : BundleStanding) (tables : List Table) (line : List ℕ) → ends s.draft.place line ≡ false → tables ≡ s.bundle.start.schema → source_count s.bundle.opened ≤ most_sources
    → GivesFull (IsFullBundle SourcesFull) (judge_inner true s line) → GivesFull (IsFull SourcesFull) (judge (Some tables) s.draft line)
inner_full_of s tables line none same few h =
    subst (λ (t : List Table). GivesFull (IsFull SourcesFull) (judge (Some t) s.draft line)) (sym same)
    (full_after s line (judge (Some s.bundle.start.schema) s.draft line) refl none (λ many. let m = many in omega (arith, m, few)) h)

-- ---- a line that ends an entry, in version 1

abbrev done_draft : Standing → Result Standing Cause
done_draft d = Ok d

abbrev ended_by : BundleStanding → Bool → Result BundleStanding Cause
ended_by s b = cond b (done (record s { draft = close_entry s.draft })) (Err causes.Stamp)

ended_first : (s : BundleStanding) → s.version ≡ One → end_entry s ≡ ended_by s (eqb s.draft.stamp 0)
unfolding end_entry
ended_first s one = ap (λ (v : Version). ended_by s (eqb s.draft.stamp (right_stamp v s.bundle.start.schema s.draft.journal.entries (open_entry s.draft)))) one

pub first_full : (s : BundleStanding) → s.version ≡ One → eqb s.draft.stamp 0 ≡ true → HasManySources (set.insert s.draft.seen s.draft.gtid) → GivesFull (IsFullBundle SourcesFull) (end_entry s)
first_full s one zero many = subst (GivesFull (IsFullBundle SourcesFull)) (sym (ended_first s one ∙ ap (ended_by s) zero)) (inl (refl, many))

full_ended : (s : BundleStanding) (b : Bool) → (b ≡ true → source_count (set.insert s.draft.seen s.draft.gtid) ≤ most_sources) → source_count s.bundle.opened ≤ most_sources → GivesFull (IsFullBundle SourcesFull) (ended_by s b) → ⊥
full_ended s true room few (inl h) = let m = h.1 in let r = room refl in omega (arith, m, r)
full_ended s true room few (inr h) = let m = h in omega (arith, m, few)
full_ended s false room few h = h

pub first_fits : (s : BundleStanding) → s.version ≡ One → (eqb s.draft.stamp 0 ≡ true → source_count (set.insert s.draft.seen s.draft.gtid) ≤ most_sources) → source_count s.bundle.opened ≤ most_sources → GivesFull (IsFullBundle SourcesFull) (end_entry s) → ⊥
first_fits s one room few h = full_ended s (eqb s.draft.stamp 0) room few (subst (GivesFull (IsFullBundle SourcesFull)) (ended_first s one) h)

-- what a call did with the draft at the end of a plain entry is what it did with the bundle
pub plain_ended : (s : BundleStanding) (r : Result Bool AllocError) (d : Standing) → s.version ≡ One → s.draft.stamp ≡ 0 → TakesPlain r (done_draft (close_entry s.draft)) s.draft d → TakesPlain r (end_entry s) s (record s { draft = d })
plain_ended s (Ok true) d one zero h = ended_first s one ∙ ap (ended_by s) (eq-eqb s.draft.stamp 0 zero) ∙ ap (λ (x : Standing). done (record s { draft = x })) (ok_is (close_entry s.draft) d h)
plain_ended s (Ok false) d one zero h = ap (λ (x : Standing). record s { draft = x }) h
plain_ended s (Err e) d one zero h = tt

-- where an entry is open, what was seen is not too much
open_fits : (s : BundleStanding) (d : Standing) → d.place ≡ places.Within → source_count s.bundle.opened ≤ most_sources → GivesFull (IsFullBundle SourcesFull) (done (record s { draft = d })) → ⊥
open_fits s d within few (inl h) = absurd (let k = sym within ∙ h.0 in cc)
open_fits s d within few (inr h) = let m = h in omega (arith, m, few)

-- so a line after which an entry is open was taken, or left
pub left_where_full : (s : BundleStanding) (d : Standing) (line : List ℕ) (taken : Bool) → (taken ≡ true → judge_inner true s line ≡ done (record s { draft = d })) → (taken ≡ true → d.place ≡ places.Within) → source_count s.bundle.opened ≤ most_sources
    → GivesFull (IsFullBundle SourcesFull) (judge_inner true s line) → taken ≡ false
left_where_full s d line true made within few full = absurd (open_fits s d (within refl) few (subst (GivesFull (IsFullBundle SourcesFull)) (made refl) full))
left_where_full s d line false made within few full = refl

-- ---- the line of the opening set

opened_many : (s : BundleStanding) (found : Option Gtids) → (IsFull SourcesFull s.draft → ⊥) → GivesFull (IsFullBundle SourcesFull) (some_or_body found >>= λ opened. done (record s { part = parts.Tables; bundle = bare s.bundle.replica opened [] })) → OfParsed HasManySources found
opened_many s None few h = h
opened_many s (Some opened) few (inl h) = absurd (few h)
opened_many s (Some opened) few (inr h) = h

pub opening_many : (s : BundleStanding) (word : List ℕ) → (IsFull SourcesFull s.draft → ⊥) → GivesFull (IsFullBundle SourcesFull) (opening_line s (Some word)) → OfParsed HasManySources (set_of_word word)
unfolding opening_line
opening_many s word few h = opened_many s (set_of_word word) few h
