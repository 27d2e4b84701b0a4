-- Journals that stand alone, as version 2 of the format writes them: each entry has its last_committed.
use Rattle.std.specs.Prelude.{◌≡◌, ℕ, List, ◌++◌, Some, Result, Ok, codes}
use Rattle.rows.specs.declared.limits.Limits.TheVariants.{Narrow}
use Rattle.rows.specs.declared.schema.Table.{Table}
use Rattle.journal.specs.Journals.{JournalValue}
use Rattle.txn_journal.specs.Stream.{Progress}
use Rattle.txn_journal.specs.Formats.{Format, start_of, feed_bytes_by, closing_by, RefusesBy}
use Rattle.txn_journal.specs.Machine.{Standing}
use Rattle.txn_journal.specs.Reading.{journals_as}
use Rattle.txn_journal.specs.Spelling.{WritesAs, FitsText, spelling_as}
use Rattle.txn_journal.specs.Stamps.{right_stamps}
use Rattle.txn_journal.specs.declared.fault.Cause.TheVariants as causes
use Rattle.txn_journal.specs.declared.fault.JournalFault.{JournalFault}
use Rattle.txn_journal.specs.declared.fault.JournalFault.TheVariants as faults
use Rattle.txn_journal.specs.declared.lines.Version.TheVariants.{Two}
use Rattle.txn_journal.specs.declared.lines.Due.TheVariants.{Only}

-- a journal with the last_committed of each entry, as it is written
pub record TimestampedValue : Type 0 where
  pub journal : JournalValue
  pub last_committed : List ℕ

abbrev pub timestamped_of : Standing → TimestampedValue
timestamped_of s = record { journal = s.journal; last_committed = s.stamps }

-- the bytes are the text of this journal by version 2, with these numbers
abbrev pub WritesTimestamped : List ℕ → TimestampedValue → Type 0
WritesTimestamped bytes v = WritesAs Two v.last_committed bytes v.journal

-- version 2 alone is due
abbrev pub timestamped_journals : Format
timestamped_journals = journals_as (Only Two) timestamped_of WritesTimestamped

-- before the first byte
abbrev pub timestamped_start : Progress Standing
timestamped_start = start_of timestamped_journals

-- byte by byte
abbrev pub feed_timestamped : Progress Standing → List ℕ → Progress Standing
feed_timestamped p bytes = feed_bytes_by timestamped_journals p bytes

-- the end of the text
abbrev pub closing_timestamped : Progress Standing → Result TimestampedValue JournalFault
closing_timestamped p = closing_by timestamped_journals p

-- what each fault means for the text
abbrev pub RefusesTimestamped : JournalFault → List ℕ → Type 0
RefusesTimestamped fault bytes = RefusesBy timestamped_journals fault bytes

-- its first line is that of version 1
abbrev pub BeginsAsVersionOne : List ℕ → Type 0
BeginsAsVersionOne bytes = (rest : List ℕ) × (bytes ≡ codes "journal 1\n" ++ rest)

-- at its first line, whose version is not the one due
abbrev pub first_line_version : JournalFault
first_line_version = faults.Line 1 causes.Version

-- a journal with the last_committed that the keys of its entries give, if its tables are these
abbrev pub with_timestamps : List Table → JournalValue → TimestampedValue
with_timestamps tables j = record { journal = j; last_committed = right_stamps Two tables j.entries }

-- it is that text of this journal, if it has no more than a text may have
abbrev pub WritesIfFits : List ℕ → List Table → JournalValue → Type 0
WritesIfFits bytes tables j = FitsText Narrow j → WritesTimestamped bytes (with_timestamps tables j)

-- its text by version 2
abbrev pub timestamped_text : TimestampedValue → List ℕ
timestamped_text v = spelling_as Two v.last_committed v.journal

-- that text is one of version 2 for it
abbrev pub HasText : TimestampedValue → Type 0
HasText v = WritesTimestamped (timestamped_text v) v

-- that text is read as it, by the fold over its bytes
abbrev pub IsReadBack : TimestampedValue → Type 0
IsReadBack v = closing_timestamped (feed_timestamped timestamped_start (timestamped_text v)) ≡ Ok v
