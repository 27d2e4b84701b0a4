-- Lines whose changes were read beforehand.
use Rattle.std.proofs.Common.{◌≡◌, ℕ, inl, Bool, true, not, cond, eqb, List, length, Option, Some, Result, Ok, Err, refl, sym, ap, subst, ◌∙◌}
use Rattle.std.specs.Prelude.{MatchResult, ◌&&◌, ◌||◌, nat_le}
use Rattle.gtid_set.specs.declared.fault.SetFault.{SetFault}
use Rattle.gtid_set.specs.declared.fault.SetFault.TheVariants.{PoolFull, SourcesFull}
use Rattle.gtid_set.proofs.FaultLemmas.{fault_map}
use Rattle.rows.specs.declared.change.Change.{Change}
use Rattle.rows.specs.declared.change.Change.TheVariants.{Insert, Delete, Update}
use Rattle.rows.specs.declared.schema.Table.{Table}
use Rattle.rows.specs.Limits.{most_changes}
use Rattle.txn_journal.specs.Versions.{limits_of}
use Rattle.journal.specs.Writing.{is_change_writable}
use Rattle.row_images.specs.Words.{first_word, others}
use Rattle.txn_journal.specs.Due.{is_due}
use Rattle.txn_journal.specs.Lines.{◌>>=◌, keyword_of, due, table_in, image_in, images_in}
use Rattle.txn_journal.specs.Machine.{Standing, is_last, is_within, IsFull, open_entry, fits, add, step, judge}
use Rattle.txn_journal.specs.Stamps.{right_stamp}
use Rattle.txn_journal.specs.Stream.{GivesFull, TakesLine}
use Rattle.txn_journal.specs.BundleStates.{BundleStanding, IsFullBundle, close_channel, after_inner, unless_misstamped, judge_part, judge_inner, judge_bundle}
use Rattle.txn_journal.specs.ChangeLines.{change_at, change_in}
use Rattle.txn_journal.specs.BundleChanges.{with_change}
use Rattle.txn_journal.specs.declared.bundle_draft.Part.{Part}
use Rattle.txn_journal.specs.declared.bundle_draft.Part.TheVariants as parts
use Rattle.txn_journal.specs.declared.fault.Cause.{Cause}
use Rattle.txn_journal.specs.declared.fault.Cause.TheVariants as causes
use Rattle.txn_journal.specs.declared.fault.LineFault.{LineFault}
use Rattle.txn_journal.specs.declared.fault.LineFault.TheVariants as wrong
use Rattle.txn_journal.specs.declared.lines.Keyword.{Keyword}
use Rattle.txn_journal.specs.declared.lines.Keyword.TheVariants as keywords
use Rattle.txn_journal.specs.declared.lines.LinePlace.{LinePlace}
use Rattle.txn_journal.specs.declared.lines.LinePlace.TheVariants as places
use Rattle.txn_journal.proofs.Judged.{if_both, two_steps, bind_ok, done}

-- ---- in a journal

step_adds : (schema : Option (List Table)) (s : Standing) (k : Keyword) (rest : Option (List ℕ)) (c : Change) → change_at (limits_of s.version) k rest ≡ Ok c → step schema s k rest ≡ add schema s c
unfolding step change_at
step_adds schema s keywords.Ins rest c e = two_steps (table_in (limits_of s.version) rest) (λ table. image_in table.1) (λ table after. Insert table.0 after) (add schema s) ∙ ap (λ (r : Result Change Cause). r >>= add schema s) e
step_adds schema s keywords.Del rest c e = two_steps (table_in (limits_of s.version) rest) (λ table. image_in table.1) (λ table before. Delete table.0 before) (add schema s) ∙ ap (λ (r : Result Change Cause). r >>= add schema s) e
step_adds schema s keywords.Upd rest c e = two_steps (table_in (limits_of s.version) rest) (λ table. images_in table.1) (λ table images. Update table.0 images.0 images.1) (add schema s) ∙ ap (λ (r : Result Change Cause). r >>= add schema s) e
step_adds schema s k rest c e = absurd cc

-- a line within an entry adds the change that it writes
judge_adds : (schema : Option (List Table)) (s : Standing) (line : List ℕ) (c : Change) → change_in (limits_of s.version) line ≡ Ok c → s.place ≡ places.Within → judge schema s line ≡ add schema s c
unfolding judge change_in
judge_adds schema s line c e within =
    let word = keyword_of (first_word line) in
    let a = bind_ok (due (is_due places.Within) word) (λ w. change_at (limits_of s.version) w (others line)) c e in
    ap (λ (p : LinePlace). due (is_due p) word >>= λ w. step schema s w (others line)) within
    ∙ ap (λ (r : Result Keyword Cause). r >>= λ w. step schema s w (others line)) a.1
    ∙ step_adds schema s a.0 (others line) c a.2

abbrev stays_open : Standing → Result Standing Cause → Type 0
stays_open s r = MatchResult r (λ d. d.place ≡ s.place) (λ cause. Unit {0})

added_stays : (schema : Option (List Table)) (s : Standing) (c : Change) → stays_open s (add schema s c)
unfolding add
added_stays schema s c =
    if_both (λ (d : Standing). d.place ≡ s.place) (λ cause. Unit {0}) (nat_le (most_changes (limits_of s.version)) (length s.changes) || not (is_change_writable (limits_of s.version) c)) _ _ (λ passes. tt)
    (λ within. if_both (λ (d : Standing). d.place ≡ s.place) (λ cause. Unit {0}) (not (fits schema c)) _ _ (λ misfit. tt) (λ taken. refl))

-- ---- in a bundle

abbrev with_draft : BundleStanding → Standing → Result BundleStanding Cause
with_draft s d = done (record s { draft = d })

within_is : (place : LinePlace) → is_within place ≡ true → place ≡ places.Within
within_is places.Within e = refl
within_is place e = absurd cc

goes_on : (s : BundleStanding) (d : Standing) → is_within s.draft.place ≡ true → is_within d.place ≡ true → unless_misstamped true s d ≡ with_draft s d
unfolding after_inner
goes_on s d within still =
    (λ i. cond (within i && (not (still i) && not (eqb s.draft.stamp (right_stamp s.version s.bundle.start.schema s.draft.journal.entries (open_entry s.draft))))) (Err causes.Stamp) (done (after_inner s d)))
    ∙ ap (λ (b : Bool). done (cond b (close_channel s d) (record s { draft = d }))) (ap is_last (within_is d.place still))

all_go_on : (s : BundleStanding) (r : Result Standing Cause) → is_within s.draft.place ≡ true → stays_open s.draft r → (r >>= unless_misstamped true s) ≡ (r >>= with_draft s)
all_go_on s (Ok d) within h = goes_on s d within (ap is_within h ∙ within)
all_go_on s (Err c) within h = refl

-- a line within an entry of the open journal adds the change that it writes
pub bundle_adds : (s : BundleStanding) (line : List ℕ) (c : Change) → change_in (limits_of s.draft.version) line ≡ Ok c → s.part ≡ parts.Journal → is_within s.draft.place ≡ true → judge_bundle s line ≡ with_change s c
unfolding judge_bundle judge_inner with_change
bundle_adds s line c e part within =
    ap (λ (p : Part). judge_part p true s line) part
    ∙ ap (λ (r : Result Standing Cause). r >>= unless_misstamped true s) (judge_adds (Some s.bundle.start.schema) s.draft line c e (within_is s.draft.place within))
    ∙ all_go_on s (add (Some s.bundle.start.schema) s.draft c) within (added_stays (Some s.bundle.start.schema) s.draft c)

full_with : (f : SetFault) (s : BundleStanding) (r : Result Standing Cause) → GivesFull (IsFull f) r → GivesFull (IsFullBundle f) (r >>= with_draft s)
full_with f s (Ok d) h = inl h
full_with f s (Err c) h = absurd h

-- what a call did with the draft is what it did with the bundle
pub bundle_added : (s : BundleStanding) (tables : List Table) (c : Change) (result : Result (Unit {0}) LineFault) (d : Standing) → tables ≡ s.bundle.start.schema
    → TakesLine IsFull result (add (Some tables) s.draft c) d → TakesLine IsFullBundle result (with_change s c) (record s { draft = d })
unfolding with_change
bundle_added s tables c (Ok _) d same h = ap (λ (t : List Table). add (Some t) s.draft c >>= with_draft s) (sym same) ∙ ap (λ (r : Result Standing Cause). r >>= with_draft s) h
bundle_added s tables c (Err (wrong.Wrong cause)) d same h = ap (λ (t : List Table). add (Some t) s.draft c >>= with_draft s) (sym same) ∙ ap (λ (r : Result Standing Cause). r >>= with_draft s) h
bundle_added s tables c (Err (wrong.Set f)) d same h =
    subst (λ (t : List Table). TakesLine IsFullBundle (Err (wrong.Set f)) (add (Some t) s.draft c >>= with_draft s) (record s { draft = d })) same
    (fault_map f (full_with SourcesFull s (add (Some tables) s.draft c)) (full_with PoolFull s (add (Some tables) s.draft c)) h)
