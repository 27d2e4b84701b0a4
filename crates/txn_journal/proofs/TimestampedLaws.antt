-- Journals of version 2 with their numbers obey the laws of formats.
use Rattle.std.proofs.Common.{◌≡◌, ℕ, true, List, None, Some, Result, Err, codes, refl, ap, subst, ◌∙◌}
use Rattle.rows.specs.declared.schema.Table.{Table}
use Rattle.journal.specs.Journals.{JournalValue}
use Rattle.txn_journal.specs.Lines.{takes}
use Rattle.txn_journal.specs.Machine.{Standing, header_line, step, judge}
use Rattle.txn_journal.specs.Stream.{Progress, Stopped, feed_byte, IsWhole}
use Rattle.txn_journal.specs.Formats.{closing_by}
use Rattle.txn_journal.specs.Reading.{WrittenJournal}
use Rattle.rows.specs.declared.limits.Limits.TheVariants.{Narrow}
use Rattle.txn_journal.specs.Spelling.{IsWritten, WritesAs}
use Rattle.txn_journal.specs.Timestamped.{TimestampedValue, timestamped_of, WritesTimestamped, timestamped_journals, with_timestamps, timestamped_text, HasText, IsReadBack, timestamped_start, feed_timestamped, closing_timestamped, BeginsAsVersionOne, first_line_version}
use Rattle.txn_journal.specs.declared.fault.JournalFault.{JournalFault}
use Rattle.txn_journal.specs.declared.lines.Version.{Version}
use Rattle.txn_journal.specs.declared.lines.Version.TheVariants.{One, Two, Three}
use Rattle.txn_journal.proofs.Pieces.{eats_append, stopped_stays}
use Rattle.txn_journal.proofs.FormatLaws.{Laws, reads_back}
use Rattle.txn_journal.proofs.JournalLaws.{IsSoundAlone, laws_as}
use Rattle.txn_journal.proofs.BundleLaws.{right_are_stamps}
use Rattle.txn_journal.specs.declared.lines.Due.TheVariants.{Only}

due_two : (version : Version) (stamps bytes : List ℕ) (j : JournalValue) → takes (Only Two) version ≡ true → WritesAs version stamps bytes j → WritesAs Two stamps bytes j
due_two One stamps bytes j is w = absurd (let k = is in cc)
due_two Two stamps bytes j is w = w
due_two Three stamps bytes j is w = absurd (let k = is in cc)

pub timestamped_laws : Laws timestamped_journals (IsSoundAlone (Only Two))
timestamped_laws = laws_as (Only Two) timestamped_of WritesTimestamped (record {
  spelled = λ bytes s w. due_two s.version s.stamps bytes s.journal w.0 w.1;
  written = λ bytes v w. (record { version = Two; stamps = v.last_committed; journal = v.journal }, (refl, w), λ s e. ap (λ (x : WrittenJournal). record { journal = x.journal; last_committed = x.stamps }) e);
})

-- the text with the numbers that its keys give

pub right_text : (tables : List Table) (j : JournalValue) → IsWritten Narrow j → HasText (with_timestamps tables j)
right_text tables j w = record { written = w; stamps_fit = right_are_stamps Two tables j.entries; text = refl }

pub right_read : (tables : List Table) (j : JournalValue) → IsWritten Narrow j → IsReadBack (with_timestamps tables j)
right_read tables j w =
    let v = with_timestamps tables j in
    reads_back timestamped_journals (IsSoundAlone (Only Two)) timestamped_laws (timestamped_text v) v (right_text tables j w)

-- a text of version 1 is refused at its first line

stops_at_first : feed_timestamped timestamped_start (codes "journal 1\n") ≡ Stopped first_line_version
unfolding feed_byte judge step header_line
stops_at_first = refl

pub older_refused : (bytes : List ℕ) → BeginsAsVersionOne bytes → closing_timestamped (feed_timestamped timestamped_start bytes) ≡ Err first_line_version
unfolding closing_by
older_refused bytes (rest, is) =
    ap (λ (x : List ℕ). closing_timestamped (feed_timestamped timestamped_start x)) is
    ∙ ap closing_timestamped (eats_append (judge None) timestamped_start (codes "journal 1\n") rest ∙ ap (λ (p : Progress Standing). feed_timestamped p rest) stops_at_first ∙ stopped_stays (judge None) first_line_version rest)

pub older_whole : (r : Result TimestampedValue JournalFault) (bytes : List ℕ) → IsWhole r (closing_timestamped (feed_timestamped timestamped_start bytes)) → BeginsAsVersionOne bytes → IsWhole r (Err first_line_version)
older_whole r bytes whole begins = subst (λ (w : Result TimestampedValue JournalFault). IsWhole r w) (older_refused bytes begins) whole
