-- The printed line of each reply. The words and their order are our own; the numbers E10 to E12 are those of the printed refusals.
use Rattle.std.specs.Prelude.{ℕ, List, ◌++◌, codes, decimal}
use Rattle.gtid_text.specs.declared.Gtid.{Gtid}
use Rattle.gtid_text.specs.Canonical.{gtid_text}
use Rattle.rows.specs.declared.change.Misfit.{Misfit}
use Rattle.rows.specs.declared.change.Misfit.TheVariants.{NoTable, Columns, NullInPrimary, TooLong, TooMany}
use Rattle.rows.specs.declared.change.NotInSchema.{NotInSchema}
use Rattle.rows.specs.declared.change.RowFault.{RowFault}
use Rattle.gtid_report.specs.Verdicts.{row_fault_text}
use Rattle.txn_journal.specs.WrittenSets.{set_text}
use Rattle.replica_core.specs.declared.event.Reply.{Reply}
use Rattle.replica_core.specs.declared.event.Reply.TheVariants as reply

-- a name, with its arguments
abbrev pub within : List ℕ → List ℕ → List ℕ
within name text = name ++ codes "(" ++ text ++ codes ")"

-- why a schema does not take a change
abbrev pub misfit_word : Misfit → List ℕ
misfit_word NoTable = codes "NoTable"
misfit_word Columns = codes "Columns"
misfit_word NullInPrimary = codes "NullInPrimary"
misfit_word TooLong = codes "TooLong"
misfit_word TooMany = codes "TooMany"

abbrev pub not_in_schema_text : NotInSchema → List ℕ
not_in_schema_text fault = codes "NotInSchema(" ++ decimal fault.change ++ codes " " ++ misfit_word fault.cause ++ codes ")"

-- a GTID with the fault of its transaction
unfoldable pub refusal_text : Gtid → RowFault → List ℕ
refusal_text gtid fault = gtid_text gtid ++ codes " " ++ row_fault_text fault

abbrev pub refused_text : RowFault → List ℕ
refused_text fault = codes "Refused(" ++ row_fault_text fault ++ codes ")"

-- the line of a reply, without its line feed
abbrev pub reply_line : Reply → List ℕ
reply_line reply.NameTaken = codes "NameTaken"
reply_line reply.ChannelsFull = codes "ChannelsFull"
reply_line (reply.Opened channel) = within (codes "Opened") (decimal channel)
reply_line reply.NoChannel = codes "NoChannel"
reply_line (reply.Ask set) = within (codes "Ask") (set_text set)
reply_line reply.NotPositioned = codes "NotPositioned"
reply_line (reply.NotInSchema fault) = not_in_schema_text fault
reply_line reply.ChannelFull = codes "ChannelFull"
reply_line (reply.Received place) = within (codes "Received") (decimal place)
reply_line reply.NoSeat = codes "NoSeat"
reply_line (reply.SeatBusy gtid) = within (codes "SeatBusy") (gtid_text gtid)
reply_line reply.NoPlace = codes "NoPlace"
reply_line reply.Stopped = codes "Stopped"
reply_line (reply.Done gtid) = within (codes "Done") (gtid_text gtid)
reply_line (reply.OwnedBy seat) = within (codes "OwnedBy") (decimal seat)
reply_line (reply.Blocked place) = within (codes "Blocked") (decimal place)
reply_line (reply.Taken gtid) = within (codes "Taken") (gtid_text gtid)
reply_line reply.SeatIdle = codes "SeatIdle"
reply_line (reply.Early place) = within (codes "Early") (decimal place)
reply_line (reply.RowRefused gtid fault) = within (codes "RowRefused") (refusal_text gtid fault)
reply_line (reply.Committed gtid) = within (codes "Committed") (gtid_text gtid)
reply_line (reply.RolledBack gtid) = within (codes "RolledBack") (gtid_text gtid)
reply_line reply.Restarted = codes "Restarted"
reply_line reply.NumbersUsedUp = codes "NumbersUsedUp"
reply_line (reply.LocalRefused fault) = refused_text fault
reply_line (reply.TooMany len) = within (codes "TooMany") (decimal len)
reply_line (reply.Purged set) = within (codes "Purged") (set_text set)
reply_line (reply.Shown set) = within (codes "Shown") (set_text set)
