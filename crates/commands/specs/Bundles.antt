-- What the commands on bundles answer.
use Rattle.std.specs.Prelude.{ℕ, ◌-◌, List, ◌++◌, Result, Ok, Err, if◌then◌else◌}
use Rattle.std.specs.FinSet as set
use Rattle.rows.specs.declared.change.RowFault.{RowFault}
use Rattle.rows.specs.declared.change.TableRow.{TableRow}
use Rattle.rows.specs.declared.schema.Table.{Table}
use Rattle.rows.specs.Apply.{Rows}
use Rattle.world.specs.declared.verdict.Verdict.{Verdict}
use Rattle.world.specs.declared.verdict.Verdict.TheVariants.{Sound}
use Rattle.history.specs.Sources.{rows_of}
use Rattle.gtid_set.specs.Sets.{Gtids}
use Rattle.convergence.specs.Deciding.{all_of}
use Rattle.txn_journal.specs.BundleStates.{BundleValue}
use Rattle.txn_journal.specs.BundleText.{spelling_by}
use Rattle.txn_journal.specs.declared.lines.Version.{Version}
use Rattle.txn_journal.specs.declared.lines.Version.TheVariants.{One, Two, Three}
use Rattle.txn_journal.specs.declared.lines.Due.{Due}
use Rattle.txn_journal.specs.declared.lines.Due.TheVariants.{Only, BeforeThree}
use Rattle.gtid_report.specs.State.{executed_line, rows_text}
use Rattle.gtid_report.specs.Assumed.{assumed, assume_lines}
use Rattle.txn_journal.specs.Assumptions.{lacks_rows}
use Rattle.txn_journal.specs.declared.assumptions.Assumption.{Assumption}
use Rattle.rows.specs.Listing.{rows_listed}
use Rattle.history.specs.World as ordered
use Rattle.serving.specs.declared.order.Order.{Order}
use Rattle.serving.specs.declared.order.Order.TheVariants.{BySource, ByConflict}
use Rattle.serving.specs.Verdicts.{world_over, joined_over, verdict_over, audited_over}
use Rattle.serving.specs.Faults.{IsBundleFault, IsVerdictFault}
use Rattle.commands.specs.Printed.{Printed, IsAnswerTo}
use Rattle.commands.specs.Verdicts.{sound_ending, printed_verdict}
use Rattle.commands.specs.Unapplied.{unapplied, rows_line}
use Rattle.commands.specs.Parsing.{ParsesAsBundle, bundle_in, ParsesBy, bundle_by}
use Rattle.commands.specs.Counted.{ParsesAsCounted, counted_in}
use Rattle.commands.specs.declared.text.CountedBundle.{CountedBundle}
use Rattle.commands.specs.declared.upgrade_command.Target.{Target}
use Rattle.commands.specs.declared.upgrade_command.Target.TheVariants as targets
use Rattle.commands.specs.declared.edge.Outcome.TheVariants.{Done}

-- ---- the audit

-- the verdict of the audit that asks for this order, and what it rests on
abbrev pub audit_answer : Order → BundleValue → Printed
audit_answer order b = printed_verdict (assumed b) (audited_over order b)

-- it is the answer of that audit to these bytes
abbrev pub Audits : Order → List ℕ → Printed → Type 0
Audits order bytes printed = IsAnswerTo ParsesAsBundle bundle_in (audit_answer order) IsVerdictFault bytes printed

-- ---- a bundle as text

-- by this version, with its rows in listed order
abbrev pub text_answer : Version → BundleValue → Printed
text_answer version b = record { text = spelling_by version b; outcome = Done }

-- the versions below the one that is asked for
abbrev pub before : Target → Due
before targets.Two = Only One
before targets.Three = BeforeThree

abbrev pub written_by : Target → Version
written_by targets.Two = Two
written_by targets.Three = Three

-- it is what upgrading to this version answers to these bytes
abbrev pub Upgrades : Target → List ℕ → Printed → Type 0
Upgrades target bytes printed = IsAnswerTo (ParsesBy (before target)) (bundle_by (before target)) (text_answer (written_by target)) (λ b f. ⊥) bytes printed

-- ---- the state

-- what the state rests on, an executed set, and these rows of these tables, in this order
abbrev pub printed_rows : List Assumption → List Table → Gtids → List TableRow → Printed
printed_rows said schema executed listed = record { text = (assume_lines said ++ executed_line executed) ++ rows_text schema listed; outcome = sound_ending said }

abbrev pub printed_state : List Assumption → List Table → Gtids → Rows → Printed
printed_state said schema executed rows = printed_rows said schema executed (rows_listed rows)

-- the GTIDs of all journals together
abbrev pub union_of_journals : BundleValue → Gtids
union_of_journals b = all_of b.opened b.journals

-- the state, if the verdict is Sound (these transactions then apply); else the verdict
abbrev pub state_or_verdict : List Assumption → List Table → Verdict → Gtids → Result Rows RowFault → Printed
state_or_verdict said schema Sound executed (Ok rows) = printed_state said schema executed rows
state_or_verdict said schema v executed rows = printed_verdict said v

-- the rows that the GTIDs of all journals together denote: of the sources, or in the joined order
abbrev pub rows_of_union : Order → BundleValue → Result Rows RowFault
rows_of_union BySource b = rows_of (world_over b) (set.contains (union_of_journals b))
rows_of_union ByConflict b = ordered.rows_of (joined_over b) (set.contains (union_of_journals b))

-- The executed set is that of all journals together, and the rows are those that this set denotes, if the audit reports Sound; else its
-- verdict.
abbrev pub applied_answer : Order → BundleValue → Printed
applied_answer order b = state_or_verdict (assumed b) b.start.schema (verdict_over order b) (union_of_journals b) (rows_of_union order b)

-- that, if the opening rows are known. If they aren't, a refusal names the line that says so, of the text that writing the bundle gives.
abbrev pub apply_answer : Order → BundleValue → Printed
apply_answer order b = if lacks_rows b.assumptions then unapplied order (rows_line b) b else applied_answer order b

-- the same for a bundle that was read, where that is the last line but one of its text
abbrev pub applied_text : Order → CountedBundle → Printed
applied_text order it = if lacks_rows it.bundle.assumptions then unapplied order (it.lines - 1) it.bundle else applied_answer order it.bundle

-- it is what applying answers to these bytes
abbrev pub Applies : Order → List ℕ → Printed → Type 0
Applies order bytes printed = IsAnswerTo ParsesAsCounted counted_in (applied_text order) (λ it. IsBundleFault it.bundle) bytes printed
