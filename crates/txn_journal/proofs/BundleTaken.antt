-- A line of a bundle that is taken, and why one is not.
use Rattle.std.proofs.Common.{◌≡◌, ℕ, inl, inr, true, false, not, cond, eqb, List, [], ◌∷◌, ◌++◌, map, Option, Some, None, refl, sym, ap, subst, ◌∙◌, append_assoc, arith}
use Rattle.std.specs.List.{list_all}
use Rattle.std.specs.Prelude.{◌&&◌, MatchResult}
use Rattle.std.proofs.lemmas.Bool.{eqb-true, eq-eqb, and_parts, not-true, not-false}
use Rattle.std.proofs.lemmas.List.{length-append, length-map, map_push}
use Rattle.txn_journal.specs.Versions.{limits_of}
use Rattle.rows.specs.declared.schema.Table.{Table}
use Rattle.rows.specs.declared.change.TableRow.{TableRow}
use Rattle.journal.specs.Journals.{JournalValue}
use Rattle.journal.specs.declared.Entry.{Entry}
use Rattle.logical_timestamps.proofs.Timestamps.{each_last_committed_more}
use Rattle.txn_journal.specs.Due.{is_due}
use Rattle.txn_journal.specs.Lines.{takes}
use Rattle.txn_journal.specs.Stamps.{right_stamp, right_stamps, all_stamps}
use Rattle.txn_journal.specs.Machine.{Standing, empty, is_last, is_within, open_entry, judge}
use Rattle.txn_journal.specs.LinesSoFar.{lines_so_far}
use Rattle.txn_journal.specs.Spelling.{Line, Header, Previous, Begin, Makes, End, Close, line_text, journal_lines, IsWritten}
use Rattle.txn_journal.specs.BundleStates.{BundleValue, BundleStanding, with_journal, close_channel, after_inner, is_misstamped, judge_own, judge_inner, judge_part, judge_bundle}
use Rattle.txn_journal.specs.BundleText.{entry_fits, BundleLine, Own, Inner, Opens, bundle_line_text, channel_lines, channels_lines, start_lines, bundle_front, AreBrought, IsWrittenBundle}
use Rattle.txn_journal.specs.BundleLinesSoFar.{inner_lines_so_far, bundle_lines_so_far}
use Rattle.txn_journal.specs.BundleCauses.{own_wording, EndsMisstamped, bundle_cause_at, HasBundleCause}
use Rattle.txn_journal.specs.declared.bundle.BundleChannel.{BundleChannel}
use Rattle.txn_journal.specs.declared.bundle_draft.Part.{Part}
use Rattle.txn_journal.specs.declared.bundle_draft.Part.TheVariants as parts
use Rattle.txn_journal.specs.declared.fault.Cause.TheVariants as causes
use Rattle.txn_journal.specs.declared.lines.Version.{Version}
use Rattle.txn_journal.specs.declared.lines.Version.TheVariants.{One, Two, Three}
use Rattle.txn_journal.specs.declared.lines.LinePlace.{LinePlace}
use Rattle.txn_journal.specs.declared.lines.LinePlace.TheVariants as places
use Rattle.txn_journal.proofs.SoundLines.{IsSound, EntriesGo, SameEntries, judged_line}
use Rattle.txn_journal.proofs.OwnReads.{own_body, own_put, own_reads, own_laws}
use Rattle.std.proofs.lemmas.Result.{MatchResult-weaker}
use Rattle.txn_journal.specs.Wordings.{HasCauseBy}
use Rattle.txn_journal.specs.Causes.{word_for}
use Rattle.txn_journal.proofs.Judged.{then_both, if_both}
use Rattle.txn_journal.proofs.WordLaws.{judged_both}
use Rattle.txn_journal.proofs.JournalLaws.{ended}
use Rattle.txn_journal.specs.declared.lines.Due.{Due}
use Rattle.txn_journal.specs.declared.lines.Due.TheVariants.{Only}
use Rattle.txn_journal.proofs.BundleSound.{IsOpen, OpenChannel, IsDueBundle, SoundAt, IsBundleSound, KeepsBundle, state, front, keeps_own, none_right, named_more, brought_more, channels_more, none_assumed}

-- ---- a line of the open journal

inner_more : (c : BundleChannel) (before : List BundleLine) (old new : List Line) (l : Line) → new ≡ old ++ l ∷ [] → before ++ (Own (Opens c) ∷ map Inner new) ≡ (before ++ (Own (Opens c) ∷ map Inner old)) ++ Inner l ∷ []
inner_more c before old new l e =
    ap (λ (ls : List Line). before ++ (Own (Opens c) ∷ map Inner ls)) e
    ∙ ap (λ (ls : List BundleLine). before ++ (Own (Opens c) ∷ ls)) (map_push Inner old l)
    ∙ sym (append_assoc before (Own (Opens c) ∷ map Inner old) (Inner l ∷ []))

pub record InnerTaken (due : Due) (old : List BundleLine) (line : List ℕ) (t : BundleStanding) : Type 0 where
  pub l : BundleLine
  pub text : line ≡ bundle_line_text l
  pub keeps : KeepsBundle due old l t

-- a bundle with one channel more
pub channel_written : (version : Version) (rows : List TableRow) (b : BundleValue) (c : BundleChannel) (draft : Standing) (j : JournalValue) → IsWrittenBundle version rows b → IsOpen version b c draft → IsWritten (limits_of version) j → list_all (entry_fits b.start.schema) j.entries ≡ true → IsWrittenBundle version rows (with_journal (Some c) b j)
channel_written version rows b c draft j w o written fitting = record {
  replica = w.replica;
  opened = w.opened;
  tables = w.tables;
  references = w.references;
  opening = w.opening;
  named = named_more (limits_of version) [] b.channels c w.named o.name o.new;
  few = omega (arith, o.room, length-append b.channels (c ∷ []));
  brought = brought_more (limits_of version) b.start.schema b.channels b.journals c j w.brought (record { written = written; fitting = fitting });
  assumed = none_assumed version b.opened b.start (b.channels ++ c ∷ []) (b.journals ++ j ∷ []) b.assumptions o.assumptions;
}

-- its lines, with any numbers of the last journal
pub channel_front : (version : Version) (rows : List TableRow) (b : BundleValue) (c : BundleChannel) (stamps : List ℕ) (j : JournalValue) → AreBrought (limits_of version) b.start.schema b.channels b.journals
    → bundle_front version rows (all_stamps version b.start.schema b.journals ++ stamps ∷ []) (with_journal (Some c) b j) ≡ front version rows b ++ channel_lines version c stamps j
channel_front version rows b c stamps j h =
    let start = start_lines version rows b in
    let all = all_stamps version b.start.schema b.journals in
    ap (λ (ls : List BundleLine). start ++ ls) (channels_more version b.start.schema b.channels all b.journals c stamps j h (length-map b.journals (λ k. right_stamps version b.start.schema k.entries)))
    ∙ sym (append_assoc start (channels_lines version b.channels all b.journals) (channel_lines version c stamps j))

-- with the numbers that it has to have
pub right_front : (version : Version) (rows : List TableRow) (b : BundleValue) (c : BundleChannel) (stamps : List ℕ) (j : JournalValue) → AreBrought (limits_of version) b.start.schema b.channels b.journals → stamps ≡ right_stamps version b.start.schema j.entries
    → front version rows (with_journal (Some c) b j) ≡ front version rows b ++ channel_lines version c stamps j
right_front version rows b c stamps j h e =
    (λ i. bundle_front version rows (map_push (λ k. right_stamps version b.start.schema k.entries) b.journals j i) (with_journal (Some c) b j))
    ∙ ap (λ (x : List ℕ). bundle_front version rows (all_stamps version b.start.schema b.journals ++ x ∷ []) (with_journal (Some c) b j)) (sym e)
    ∙ channel_front version rows b c stamps j h

-- the version that is due
pub version_is : (v w : Version) → takes (Only v) w ≡ true → w ≡ v
version_is One One e = refl
version_is Two Two e = refl
version_is Three Three e = refl
version_is One Two e = absurd cc
version_is One Three e = absurd cc
version_is Two One e = absurd cc
version_is Two Three e = absurd cc
version_is Three One e = absurd cc
version_is Three Two e = absurd cc

closed_keeps : (due : Due) (version : Version) (tables : List Table) (rows : List TableRow) (b : BundleValue) (c : BundleChannel) (old d : Standing) (l : Line) → IsDueBundle due version rows b → IsOpen version b c old → lines_so_far d ≡ lines_so_far old ++ l ∷ [] → IsSound (Some b.start.schema) d → d.due ≡ Only version
    → d.stamps ≡ right_stamps version b.start.schema d.journal.entries → is_last d.place ≡ true
    → KeepsBundle due (front version rows b ++ (Own (Opens c) ∷ map Inner (lines_so_far old))) (Inner l) (state parts.Channels due version tables (with_journal (Some c) b d.journal) None (empty (Only version)))
closed_keeps due version tables rows b c old d l w o says sound same stamped last =
    let e = ended (Some b.start.schema) d sound last in
    let is : d.version ≡ version = version_is version d.version (subst (λ (x : Due). takes x d.version ≡ true) same e.whole.due) in
    let lines : lines_so_far d ≡ journal_lines version d.stamps d.journal = e.lines ∙ ap (λ (v : Version). journal_lines v d.stamps d.journal) is in
    record {
      rows = rows;
      same_due = refl;
      says = right_front version rows b c d.stamps d.journal w.written.brought stamped
          ∙ ap (λ (ls : List Line). front version rows b ++ (Own (Opens c) ∷ map Inner ls)) (sym lines)
          ∙ inner_more c (front version rows b) (lines_so_far old) (lines_so_far d) l says;
      sound = (record { due_version = w.due_version; written = channel_written version rows b c old d.journal w.written o (subst (λ (v : Version). IsWritten (limits_of v) d.journal) is e.written) e.whole.fitting }, o.assumptions);
    }

open_still : (due : Due) (version : Version) (tables : List Table) (rows : List TableRow) (b : BundleValue) (c : BundleChannel) (old d : Standing) (l : Line) → IsDueBundle due version rows b → IsOpen version b c old → lines_so_far d ≡ lines_so_far old ++ l ∷ [] → IsSound (Some b.start.schema) d → d.due ≡ Only version
    → d.stamps ≡ right_stamps version b.start.schema d.journal.entries → is_last d.place ≡ false
    → KeepsBundle due (front version rows b ++ (Own (Opens c) ∷ map Inner (lines_so_far old))) (Inner l) (state parts.Journal due version tables b (Some c) d)
open_still due version tables rows b c old d l w o says sound same stamped more = record {
  rows = rows;
  same_due = refl;
  says = inner_more c (front version rows b) (lines_so_far old) (lines_so_far d) l says;
  sound = (w, record { name = o.name; new = o.new; room = o.room; assumptions = o.assumptions; same_version = same; sound = sound; stamped = stamped; goes_on = more });
}

-- ---- the last_committed of an entry that ends

-- the entry that ends has the number that it has to have, or the line is the one that ends it
within_is : (place : LinePlace) → is_within place ≡ true → place ≡ places.Within
within_is places.Within e = refl
within_is place e = absurd cc

-- the line that ends an entry
pub ends_entry : (s d : Standing) (l : Line) → is_due s.place (word_for l) ≡ true → EntriesGo l s d → is_within s.place ≡ true → is_within d.place ≡ false → l ≡ End
ends_entry s d End due goes within out = refl
ends_entry s d (Makes c) due goes within out = absurd (let k = sym (ap is_within goes.1 ∙ within) ∙ out in cc)
ends_entry s d (Header v) due goes within out = absurd (let p = within_is s.place within in let k = ap (λ (x : LinePlace). is_due x (word_for (Header v))) (sym p) ∙ due in cc)
ends_entry s d (Previous g) due goes within out = absurd (let p = within_is s.place within in let k = ap (λ (x : LinePlace). is_due x (word_for (Previous g))) (sym p) ∙ due in cc)
ends_entry s d (Begin g n) due goes within out = absurd (let p = within_is s.place within in let k = ap (λ (x : LinePlace). is_due x (word_for (Begin g n))) (sym p) ∙ due in cc)
ends_entry s d Close due goes within out = absurd (let p = within_is s.place within in let k = ap (λ (x : LinePlace). is_due x (word_for Close)) (sym p) ∙ due in cc)

right_more : (version : Version) (tables : List Table) (es : List Entry) (e : Entry) → right_stamps version tables (es ++ e ∷ []) ≡ right_stamps version tables es ++ right_stamp version tables es e ∷ []
right_more One tables es e = map_push (λ x. 0) es e
right_more Two tables es e = each_last_committed_more tables [] es e
right_more Three tables es e = each_last_committed_more tables [] es e

same_stamps : (version : Version) (tables : List Table) (s d : Standing) → SameEntries s d → s.stamps ≡ right_stamps version tables s.journal.entries → d.stamps ≡ right_stamps version tables d.journal.entries
same_stamps version tables s d same e = same.stamps ∙ e ∙ ap (right_stamps version tables) (sym same.entries)

-- the numbers after a line that is taken
pub stamped_still : (version : Version) (tables : List Table) (s d : Standing) (l : Line) → EntriesGo l s d → s.stamps ≡ right_stamps version tables s.journal.entries
    → (l ≡ End → s.stamp ≡ right_stamp version tables s.journal.entries (open_entry s)) → d.stamps ≡ right_stamps version tables d.journal.entries
stamped_still version tables s d End goes e right =
    goes.stamps
    ∙ (λ i. e i ++ right refl i ∷ [])
    ∙ sym (right_more version tables s.journal.entries (open_entry s))
    ∙ ap (right_stamps version tables) (sym goes.entries)
stamped_still version tables s d (Previous p) goes e right = goes.stamps ∙ sym (none_right version tables) ∙ ap (right_stamps version tables) (sym goes.entries)
stamped_still version tables s d (Makes c) goes e right = same_stamps version tables s d goes.0 e
stamped_still version tables s d (Header v) goes e right = same_stamps version tables s d goes e
stamped_still version tables s d (Begin g n) goes e right = same_stamps version tables s d goes e
stamped_still version tables s d Close goes e right = same_stamps version tables s d goes e

ends_within : (place : LinePlace) → is_due place (word_for End) ≡ true → place ≡ places.Within
ends_within place e = grind arith

-- an entry that ends and is not misstamped has the number that it has to have
right_at_end : (version : Version) (tables : List Table) (s d : Standing) (l : Line) → is_due s.place (word_for l) ≡ true → EntriesGo l s d → is_misstamped version tables s d ≡ false → l ≡ End → s.stamp ≡ right_stamp version tables s.journal.entries (open_entry s)
right_at_end version tables s d l due goes e end =
    let within = ap is_within (ends_within s.place (ap (λ (x : Line). is_due s.place (word_for x)) (sym end) ∙ due)) in
    let out : is_within d.place ≡ false = ap is_within (subst (λ (x : Line). EntriesGo x s d) end goes).place in
    let right = right_stamp version tables s.journal.entries (open_entry s) in
    let k : not (eqb s.stamp right) ≡ false = (λ i. sym within i && (not (sym out i) && not (eqb s.stamp right))) ∙ e in
    eqb-true s.stamp right (not-false (eqb s.stamp right) k)

misstamped_cause : (version : Version) (tables : List Table) (s d : Standing) (line : List ℕ) (l : Line) → line ≡ line_text l → is_due s.place (word_for l) ≡ true → EntriesGo l s d → is_misstamped version tables s d ≡ true → EndsMisstamped version tables s line causes.Stamp
misstamped_cause version tables s d line l text due goes e =
    let right = right_stamp version tables s.journal.entries (open_entry s) in
    let p = and_parts (is_within s.place) (not (is_within d.place) && not (eqb s.stamp right)) e in
    let q = and_parts (not (is_within d.place)) (not (eqb s.stamp right)) p.1 in
    let end = ends_entry s d l due goes p.0 (not-true (is_within d.place) q.0) in
    (text ∙ ap line_text end, within_is s.place p.0, λ same. (let k = sym (eq-eqb s.stamp right same) ∙ not-true (eqb s.stamp right) q.1 in cc))

keeps_inner : (due : Due) (version : Version) (tables : List Table) (rows : List TableRow) (b : BundleValue) (channel : Option BundleChannel) (draft : Standing) (line : List ℕ) → IsDueBundle due version rows b → OpenChannel version b channel draft
    → MatchResult (judge_inner true (state parts.Journal due version tables b channel draft) line) (InnerTaken due (front version rows b ++ inner_lines_so_far channel draft) line) (bundle_cause_at parts.Journal (state parts.Journal due version tables b channel draft) line)
unfolding judge_inner after_inner
keeps_inner due version tables rows b None draft line w o = absurd o
keeps_inner due version tables rows b (Some c) draft line w o =
    let s = state parts.Journal due version tables b (Some c) draft in
    let schema = b.start.schema in
    let old = front version rows b ++ (Own (Opens c) ∷ map Inner (lines_so_far draft)) in
    let Taken = InnerTaken due old line in
    let Caused = bundle_cause_at parts.Journal s line in
    then_both Taken Caused (judge (Some schema) draft line) _ (MatchResult-weaker (judge (Some schema) draft line) (judged_line (Some schema) draft line o.sound) (λ d k. k) (λ x k. inl k)) (λ d k.
    if_both Taken Caused (is_misstamped version schema draft d) _ _ (λ wrong. inr (misstamped_cause version schema draft d line k.l k.text k.due k.keeps.goes wrong)) (λ fits.
    let same : d.due ≡ Only version = k.keeps.same_due ∙ o.same_version in
    let right = right_at_end version schema draft d k.l k.due k.keeps.goes fits in
    let stamped = stamped_still version schema draft d k.l k.keeps.goes o.stamped right in
    record {
      l = Inner k.l;
      text = k.text;
      keeps = elim (is_last d.place) as (λ v. is_last d.place ≡ v → KeepsBundle due old (Inner k.l) (cond v (close_channel s d) (record s { draft = d }))) [
        | true ↦ λ last. closed_keeps due version tables rows b c draft d k.l w o k.keeps.says k.keeps.sound same stamped last
        | false ↦ λ more. open_still due version tables rows b c draft d k.l w o k.keeps.says k.keeps.sound same stamped more
      ] refl;
    }))

own_taken : (part : Part) (due : Due) (version : Version) (tables : List Table) (rows : List TableRow) (b : BundleValue) (channel : Option BundleChannel) (draft : Standing) (line : List ℕ) → SoundAt part due version tables rows b channel draft
    → MatchResult (judge_own (state part due version tables b channel draft) line) (InnerTaken due (bundle_lines_so_far rows (state part due version tables b channel draft)) line) (HasCauseBy (own_wording (state part due version tables b channel draft)) line)
own_taken part due version tables rows b channel draft line h =
    let s = state part due version tables b channel draft in
    rw (own_reads s line) (judged_both (own_wording s) (own_body s) (own_laws s) (InnerTaken due (bundle_lines_so_far rows s) line) (own_put s) line
    (λ l k. MatchResult-weaker (own_put s l) (keeps_own part due version tables rows b channel draft line l h k.due k) (λ t m. record { l = Own l; text = k.text; keeps = m }) (λ c m. m)))

taken_at : (part : Part) (due : Due) (version : Version) (tables : List Table) (rows : List TableRow) (b : BundleValue) (channel : Option BundleChannel) (draft : Standing) (line : List ℕ) → SoundAt part due version tables rows b channel draft
    → MatchResult (judge_part part true (state part due version tables b channel draft) line) (InnerTaken due (bundle_lines_so_far rows (state part due version tables b channel draft)) line) (bundle_cause_at part (state part due version tables b channel draft) line)
taken_at parts.Journal due version tables rows b channel draft line h = keeps_inner due version tables rows b channel draft line h.0 h.1
taken_at part due version tables rows b channel draft line h = own_taken part due version tables rows b channel draft line h

-- a line that is taken is the spelling of one more line
pub bundle_taken : (rows : List TableRow) (s : BundleStanding) (line : List ℕ) → IsBundleSound rows s → MatchResult (judge_bundle s line) (InnerTaken s.due (bundle_lines_so_far rows s) line) (HasBundleCause s line)
unfolding judge_bundle
bundle_taken rows s line h = taken_at s.part s.due s.version s.tables rows s.bundle s.channel s.draft line h
