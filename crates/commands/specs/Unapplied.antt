-- What applying answers where the opening rows of a bundle aren't known.
use Rattle.std.specs.Prelude.{ℕ, ◌+◌, ◌-◌, ◌^◌, min, List, [], ◌∷◌, length}
use Rattle.journal.specs.declared.Entry.{Entry}
use Rattle.journal.specs.Journals.{JournalValue}
use Rattle.txn_journal.specs.BundleStates.{BundleValue}
use Rattle.txn_journal.specs.declared.assumptions.Assumption.{Assumption}
use Rattle.world.specs.declared.verdict.Verdict.{Verdict}
use Rattle.world.specs.declared.verdict.Verdict.TheVariants.{Sound}
use Rattle.gtid_report.specs.Assumed.{assumed}
use Rattle.gtid_report.specs.declared.refusal.Refusal.TheVariants.{NoRows}
use Rattle.serving.specs.declared.order.Order.{Order}
use Rattle.serving.specs.Verdicts.{keys_over}
use Rattle.commands.specs.Printed.{Printed, refused_with}
use Rattle.commands.specs.Verdicts.{printed_verdict}

-- the first line of each entry, those of its changes, and its last
abbrev pub entry_line_count : List Entry → ℕ
entry_line_count [] = 0
entry_line_count (e ∷ es) = (2 + length e.txn.changes) + entry_line_count es

-- the line of each channel, the first two of its journal, those of its entries, and its last
abbrev pub channel_line_count : List JournalValue → ℕ
channel_line_count [] = 0
channel_line_count (j ∷ js) = (4 + entry_line_count j.entries) + channel_line_count js

-- The line that says that the rows aren't known, in the text that writing the bundle gives. It is the last before `done`: there are three
-- lines of the head, and those of the tables, the references, the channels and the assumptions. Lines count up to the largest number.
abbrev pub rows_line : BundleValue → ℕ
rows_line b = min ((3 + length b.start.schema + length b.references + length b.assumptions) + channel_line_count b.journals) (2 ^ 64 - 1)

abbrev pub verdict_or_no_rows : List Assumption → Verdict → ℕ → Printed
verdict_or_no_rows said Sound line = refused_with (NoRows line)
verdict_or_no_rows said v line = printed_verdict said v

-- the verdict of the audit of keys, if that is not Sound; or that there are no rows which changes could be applied to, by this line
abbrev pub unapplied : Order → ℕ → BundleValue → Printed
unapplied order line b = verdict_or_no_rows (assumed b) (keys_over order b) line
