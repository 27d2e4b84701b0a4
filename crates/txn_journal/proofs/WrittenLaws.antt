-- Journals that the grammar has a text for.
use Rattle.std.proofs.Common.{◌≡◌, ℕ, ◌≤◌, true, List, [], ◌∷◌, sym, ap, ◌∙◌, arith}
use Rattle.std.specs.FinSet as set
use Rattle.std.specs.List.{list_all, AllByRecursion}
use Rattle.std.proofs.lemmas.Bool.{and_parts, or_left, or_right}
use Rattle.std.proofs.lemmas.Bool.Decides.{nat_tests}
use Rattle.gtid_text.specs.declared.Gtid.{Gtid}
use Rattle.gtid_text.specs.declared.Span.{Span}
use Rattle.gtid_text.specs.Written.{IsUsable, AreUsable as AreUsableSpans}
use Rattle.gtid_set.specs.Laws.{AreUsable, HaveSources}
use Rattle.gtid_set.specs.Sets.{Gtids, gtid}
use Rattle.gtid_set.specs.Spans.{has, is_merged}
use Rattle.gtid_set.specs.Sweep.{within}
use Rattle.gtid_set.specs.Runs.{runs}
use Rattle.gtid_set.proofs.SetLemmas.{contains-set_of}
use Rattle.gtid_set.proofs.SpanLemmas.{merged_head}
use Rattle.gtid_set.proofs.RunLemmas.{runs_are_merged, set_of_runs}
use Rattle.journal.specs.declared.Entry.{Entry}
use Rattle.journal.specs.Journals.{JournalValue, IsJournal}
use Rattle.rows.specs.declared.change.Change.{Change}
use Rattle.rows.specs.declared.change.Change.TheVariants.{Insert, Delete, Update}
use Rattle.rows.specs.Fits.{table_of}
use Rattle.rows.specs.declared.limits.Limits.{Limits}
use Rattle.rows.specs.declared.limits.Limits.TheVariants.{Narrow}
use Rattle.txn_journal.specs.Versions.{is_named}
use Rattle.rows.specs.declared.schema.Table.{Table}
use Rattle.txn_journal.specs.Spelling.{FitsChange, FitsEntry, has_names, FitsText, HasValues, IsOfParts, IsWritten, Writes, spelling, spelling_as}
use Rattle.txn_journal.specs.Stamps.{no_stamps, right_stamps}
use Rattle.txn_journal.specs.Timestamped.{WritesTimestamped, with_timestamps}
use Rattle.txn_journal.specs.WrittenSets.{IsWrittenSet}
use Rattle.txn_journal.specs.declared.lines.Version.TheVariants.{One, Two}
use Rattle.txn_journal.proofs.BundleLaws.{right_are_stamps}
use Rattle.txn_journal.proofs.JournalPlaces.{plain_journal}

-- ---- sets

-- a filled span has its first number and its last
has_low : (s : Span) → s.lo ≤ s.hi → within s (gtid s.source s.lo) ≡ true
has_low s f = grind (arith, nat_tests)

has_high : (s : Span) → s.lo ≤ s.hi → within s (gtid s.source s.hi) ≡ true
has_high s f = grind (arith, nat_tests)

usable_spans : (ss : List Span) → is_merged ss ≡ true → ((q : Gtid) → has ss q ≡ true → IsUsable q) → AreUsableSpans ss
usable_spans [] m u = tt
usable_spans (s ∷ ss) m u =
    let h = merged_head s ss m in
    let low = u (gtid s.source s.lo) (or_left (within s (gtid s.source s.lo)) (has ss (gtid s.source s.lo)) (has_low s h.filled)) in
    let high = u (gtid s.source s.hi) (or_left (within s (gtid s.source s.hi)) (has ss (gtid s.source s.hi)) (has_high s h.filled)) in (
      record { source = low.source; low = low.number; high = high.number; ordered = h.filled },
      usable_spans ss h.tail (λ q e. u q (or_right (within s q) (has ss q) e)),
    )

usable_runs : (s : Gtids) → AreUsable s → AreUsableSpans (runs s)
usable_runs s u = usable_spans (runs s) (runs_are_merged s) (λ q e. u q (sym (ap (λ t. set.contains t q) (set_of_runs s)) ∙ contains-set_of (runs s) q ∙ e))

usable_written : (s : Gtids) → AreUsable s → IsWrittenSet s
usable_written s u = record {
  merged = runs_are_merged s;
  usable = usable_runs s u;
  whole = set_of_runs s;
}

-- ---- journals

change_named : (limits : Limits) (c : Change) → HasValues c → is_named limits (table_of c) ≡ true → FitsChange limits c
change_named limits (Insert table after) h name = (name, h)
change_named limits (Delete table before) h name = (name, h)
change_named limits (Update table before after) h name = (name, h.0, h.1)

changes_named : (limits : Limits) (cs : List Change) → AllByRecursion HasValues cs → list_all (λ c. is_named limits (table_of c)) cs ≡ true → AllByRecursion (FitsChange limits) cs
changes_named limits [] h names = tt
changes_named limits (c ∷ cs) h names =
    let p = and_parts (is_named limits (table_of c)) (list_all (λ c. is_named limits (table_of c)) cs) names in
    (change_named limits c h.0 p.0, changes_named limits cs h.1 p.1)

entries_named : (limits : Limits) (es : List Entry) → AllByRecursion IsOfParts es → list_all (has_names limits) es ≡ true → AllByRecursion (FitsEntry limits) es
entries_named limits [] h names = tt
entries_named limits (e ∷ es) h names =
    let p = and_parts (has_names limits e) (list_all (has_names limits) es) names in
    (record { source = h.0.source; changes = changes_named limits e.txn.changes h.0.values p.0 }, entries_named limits es h.1 p.1)

pub few_written : (limits : Limits) (j : JournalValue) → IsJournal j.previous j.entries → HaveSources j.previous → AllByRecursion IsOfParts j.entries → FitsText limits j → IsWritten limits j
few_written limits j keeps sources parts fits = record {
  keeps = keeps;
  writable = fits.writable;
  few = fits.few;
  previous = usable_written j.previous (λ g e. record { source = sources g e; number = keeps.numbers g e });
  entries = entries_named limits j.entries parts fits.named;
}

pub spelled_written : (bytes : List ℕ) (j : JournalValue) → IsWritten Narrow j → bytes ≡ spelling j → Writes bytes j
spelled_written bytes j w e = plain_journal bytes j (One, no_stamps j.entries, record { written = w; stamps_fit = right_are_stamps One [] j.entries; text = e })

pub stamped_written : (bytes : List ℕ) (tables : List Table) (j : JournalValue) → IsWritten Narrow j → bytes ≡ spelling_as Two (right_stamps Two tables j.entries) j → WritesTimestamped bytes (with_timestamps tables j)
stamped_written bytes tables j w e = record { written = w; stamps_fit = right_are_stamps Two tables j.entries; text = e }
