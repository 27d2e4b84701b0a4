-- What `position` answers.
use Rattle.std.specs.Prelude.{ℕ, List, Result, Ok, Err, Some}
use Rattle.gtid_text.specs.declared.SourceId.{SourceId}
use Rattle.gtid_set.specs.Sets.{Gtids}
use Rattle.journal.specs.declared.Entry.{Entry}
use Rattle.journal.specs.Journals.{JournalValue}
use Rattle.auto_position.specs.Sending.{sent, IsPlanFault}
use Rattle.auto_position.specs.declared.PositionFault.{PositionFault}
use Rattle.auto_position.specs.declared.PositionFault.TheVariants as faults
use Rattle.txn_journal.specs.Reading.{before_first, feed_journal_bytes, closing}
use Rattle.txn_journal.specs.Spelling.{Writes}
use Rattle.txn_journal.specs.Refused.{Refuses}
use Rattle.txn_journal.specs.declared.fault.JournalFault.{JournalFault}
use Rattle.gtid_report.specs.Faults.{set_fault}
use Rattle.gtid_report.specs.Positions.{sending_text, required_line, more_line}
use Rattle.gtid_report.specs.SetAnswers.{◌>>=◌, set_word, source_word}
use Rattle.gtid_report.specs.declared.fault.Fault.{Fault}
use Rattle.commands.specs.Printed.{Printed, Answering, at_once, to_all, with_line_feed, printed_fault, IsAnswerTo}
use Rattle.commands.specs.declared.edge.Outcome.TheVariants.{Done, Refused}

-- ---- what the bytes are

-- the journal that the bytes parse as, or the first fault
abbrev pub journal_in : List ℕ → Result JournalValue JournalFault
journal_in bytes = closing (feed_journal_bytes before_first bytes)

-- by the grammar of journals the bytes are the text of this journal, or have this first fault
abbrev pub ParsesAsJournal : List ℕ → Result JournalValue JournalFault → Type 0
ParsesAsJournal bytes (Ok j) = Writes bytes j
ParsesAsJournal bytes (Err fault) = Refuses fault bytes

-- ---- answers

-- the source's own UUID and the set that is asked with
abbrev pub Asking : Type 0
Asking = SourceId × Gtids

-- what two words name; a bad UUID is named first
abbrev pub asking_in : List ℕ → List ℕ → Result Asking Fault
asking_in own ask = source_word own >>= λ source. set_word ask >>= λ gtids. Ok (source, gtids)

-- the answer if these entries are sent, or if nothing is
abbrev pub printed_sending : Result (List Entry) PositionFault → Printed
printed_sending (Ok entries) = record { text = sending_text entries; outcome = Done }
printed_sending (Err (faults.PurgedRequired gtids)) = record { text = with_line_feed (required_line gtids); outcome = Refused }
printed_sending (Err (faults.ReplicaHasMore gtids)) = record { text = with_line_feed (more_line gtids); outcome = Refused }
printed_sending (Err (faults.Set fault)) = printed_fault (set_fault fault)

-- the answer of the source whose journal this is
abbrev pub position_answer : Asking → JournalValue → Printed
position_answer asking j = printed_sending (sent j asking.1 (Some asking.0))

-- it is the answer to a journal's bytes
abbrev pub Positions : Asking → List ℕ → Printed → Type 0
Positions asking bytes printed = IsAnswerTo ParsesAsJournal journal_in (position_answer asking) (λ j. IsPlanFault j asking.1) bytes printed

-- if a word is bad, the answer is its line, and nothing is read; else the answer is for all that is read
abbrev pub to_asking : Result Asking Fault → Answering
to_asking (Ok asking) = to_all (Positions asking)
to_asking (Err fault) = at_once (printed_fault fault)
