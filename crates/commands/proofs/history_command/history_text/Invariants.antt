use Rattle.std.proofs.Common.{◌≡◌, ◌++◌, drop}
use Rattle.std.specs.String.{string_bytes}
use Rattle.commands.specs.Applying.{lines_from}
use Rattle.commands.proofs.history_command.history_text.Given as goal

abbrev pub invariant-loop-place : goal.invariant-loop-place
invariant-loop-place l = string_bytes l.text ++ lines_from l.place (drop l.place l.steps) ≡ lines_from 0 l.steps
