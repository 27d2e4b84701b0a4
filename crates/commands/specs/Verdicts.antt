-- How a verdict on a bundle is printed.
use Rattle.std.specs.Prelude.{List, [], ◌∷◌}
use Rattle.world.specs.declared.verdict.Verdict.{Verdict}
use Rattle.world.specs.declared.verdict.Verdict.TheVariants.{Sound}
use Rattle.txn_journal.specs.declared.assumptions.Assumption.{Assumption}
use Rattle.gtid_report.specs.Assumed.{verdict_line_under}
use Rattle.commands.specs.Printed.{Printed, with_line_feed}
use Rattle.commands.specs.declared.edge.Outcome.{Outcome}
use Rattle.commands.specs.declared.edge.Outcome.TheVariants.{Done, Assumed, Refused}

-- how a command ends whose verdict is Sound, by what that rests on
abbrev pub sound_ending : List Assumption → Outcome
sound_ending [] = Done
sound_ending (a ∷ said) = Assumed

abbrev pub verdict_ending : List Assumption → Verdict → Outcome
verdict_ending said Sound = sound_ending said
verdict_ending said v = Refused

abbrev pub printed_verdict : List Assumption → Verdict → Printed
printed_verdict said v = record { text = with_line_feed (verdict_line_under said v); outcome = verdict_ending said v }
