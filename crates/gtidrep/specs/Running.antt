-- What the program does for each command: which answer of crate `commands` it writes.
use Rattle.std.specs.Prelude.{◌≡◌, ℕ, List, Option, option_map}
use Rattle.binlog_bundle.specs.declared.files.ChannelFiles.{ChannelFiles}
use Rattle.binlog_events.specs.declared.row_lines.EventDetail.{EventDetail}
use Rattle.commands.specs.Edge.{StreamsValue}
use Rattle.commands.specs.Printed.{Printed, Answering, at_once, to_all, IsDone, HasFailed, HasStopped}
use Rattle.commands.specs.SetCommand.{set_answering}
use Rattle.commands.specs.Positions.{asking_in, to_asking}
use Rattle.commands.specs.Bundles.{Audits, Upgrades, Applies}
use Rattle.commands.specs.Listings.{Lists}
use Rattle.commands.specs.Summaries.{Summarizes}
use Rattle.commands.specs.Explaining.{Explains}
use Rattle.commands.specs.States.{IsStatesAnswer}
use Rattle.commands.specs.Events.{IsEventsAnswer, HasEndedEarly}
use Rattle.commands.specs.Imports.{Imports, ImportsWithFiles}
use Rattle.commands.specs.Version.{printed_version}
use Rattle.commands.specs.Applying.{Tells}
use Rattle.commands.specs.Reports.{HasReported, HasNotReported}
use Rattle.commands.specs.declared.edge.Outcome.{Outcome}
use Rattle.commands.specs.declared.edge.RunFault.{RunFault}
use Rattle.gtidrep.specs.declared.audit_line.Listing.TheVariants as listing
use Rattle.gtidrep.specs.declared.line.Command.{Command}
use Rattle.gtidrep.specs.declared.line.Command.TheVariants.{Set, Position, Audit, Upgrade, States, Import, ImportFiles, Events, Version, Apply, Tell}

-- a command answers on standard output alone, at once or in parts or while it reads, or reports there and on standard error
pub data Doing : Type 1 where
  answers : Answering → Doing
  answers_in_parts : Answering → Doing
  lists_events : EventDetail → Doing
  reports : (List ℕ → Printed → List ℕ → Type 0) → Doing

-- what each command does, with these binary log files of channels
abbrev pub doing_of : List ChannelFiles → Command → Doing
doing_of logs (Set function first second) = answers (set_answering function.now first.now (option_map (λ w. w.now) second))
doing_of logs (Position own ask) = answers (to_asking (asking_in own.now ask.now))
doing_of logs (Audit order listing.Verdict) = answers (to_all (Audits order))
doing_of logs (Audit order listing.All) = answers (to_all Lists)
doing_of logs (Audit order listing.Summary) = answers (to_all Summarizes)
doing_of logs (Audit order listing.Explained) = reports (Explains order)
doing_of logs (Upgrade target) = answers (to_all (Upgrades target))
doing_of logs States = answers_in_parts (to_all IsStatesAnswer)
doing_of logs (Import grants accepted is_explained) = reports (Imports accepted grants is_explained)
doing_of logs (ImportFiles grants accepted is_explained files) = reports (ImportsWithFiles accepted logs grants is_explained)
doing_of logs (Events file detail) = lists_events detail
doing_of logs Version = answers (at_once printed_version)
doing_of logs (Apply way order workers) = answers (to_all (Applies order))
doing_of logs (Tell order workers) = reports (Tells order)

module _ {S W E : Type 0} (written : E → Option (List ℕ)) (failed : E → ℕ) (old new : E) (before after : StreamsValue S W) where
  -- it is done, with standard error as it was, or with the notes on it
  abbrev pub HasRun : Doing → Outcome → Type 0
  HasRun (answers answering) outcome = IsDone answering before after outcome × (new ≡ old)
  HasRun (answers_in_parts answering) outcome = IsDone answering before after outcome × (new ≡ old)
  HasRun (lists_events detail) outcome = IsDone (to_all (IsEventsAnswer detail)) before after outcome × (new ≡ old)
  HasRun (reports notes) outcome = HasReported written failed notes old new before after outcome

  -- it has failed, with standard error as it was, or with the notes on it cut off; of an answer in parts there may be some,
  -- and of a list of events those of the bytes that were read
  abbrev pub HasNotRun : Doing → RunFault → Type 0
  HasNotRun (answers answering) fault = HasFailed answering before after fault × (new ≡ old)
  HasNotRun (answers_in_parts answering) fault = HasStopped answering before after fault × (new ≡ old)
  HasNotRun (lists_events detail) fault = HasEndedEarly detail before after fault × (new ≡ old)
  HasNotRun (reports notes) fault = HasNotReported written failed notes old new before after fault
