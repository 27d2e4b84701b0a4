-- The refusal for each fault of a text, a set or a journal.
use Rattle.std.specs.Prelude.{ℕ}
use Rattle.txn_journal.specs.declared.fault.Cause.{Cause}
use Rattle.txn_journal.specs.declared.fault.Cause.TheVariants as causes
use Rattle.txn_journal.specs.declared.fault.JournalFault.{JournalFault}
use Rattle.txn_journal.specs.declared.fault.JournalFault.TheVariants as journals
use Rattle.gtid_report.specs.declared.refusal.LineCause.TheVariants.{Keyword, Body, Limit, Schema, Stamp}
use Rattle.gtid_report.specs.declared.refusal.Refusal.{Refusal}
use Rattle.gtid_text.specs.declared.fault.TextFault.{TextFault}
use Rattle.gtid_text.specs.declared.fault.TextFault.TheVariants as texts
use Rattle.gtid_set.specs.declared.fault.SetFault.{SetFault}
use Rattle.gtid_set.specs.declared.fault.SetFault.TheVariants as sets
use Rattle.gtid_report.specs.declared.fault.Fault.{Fault}
use Rattle.gtid_report.specs.declared.fault.Fault.TheVariants.{Memory, Refused}
use Rattle.gtid_report.specs.declared.refusal.Refusal.TheVariants.{BadUuid, NoInterval, BadNumber, NumberRange, Reversed, Stray, PoolFull, SourcesFull, Line, Truncated, Twice, Version}

abbrev pub text_fault : TextFault → Fault
text_fault texts.Memory = Memory
text_fault (texts.BadUuid at) = Refused (BadUuid at)
text_fault (texts.NoInterval at) = Refused (NoInterval at)
text_fault (texts.BadNumber at) = Refused (BadNumber at)
text_fault (texts.NumberRange at) = Refused (NumberRange at)
text_fault (texts.Reversed at) = Refused (Reversed at)
text_fault (texts.Stray at) = Refused (Stray at)

abbrev pub set_fault : SetFault → Fault
set_fault sets.Memory = Memory
set_fault sets.PoolFull = Refused PoolFull
set_fault sets.SourcesFull = Refused SourcesFull

-- the refusal of a line
abbrev pub line_refusal : ℕ → Cause → Refusal
line_refusal line causes.Version = Version line
line_refusal line causes.Keyword = Line line Keyword
line_refusal line causes.Body = Line line Body
line_refusal line causes.Limit = Line line Limit
line_refusal line causes.Schema = Line line Schema
line_refusal line causes.Stamp = Line line Stamp
line_refusal line (causes.Twice gtid) = Twice gtid

abbrev pub journal_fault : JournalFault → Fault
journal_fault (journals.Set fault) = set_fault fault
journal_fault (journals.Line line cause) = Refused (line_refusal line cause)
journal_fault (journals.Truncated line) = Refused (Truncated line)
