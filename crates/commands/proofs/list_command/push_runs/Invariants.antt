use Rattle.std.proofs.Common.{◌≡◌, ◌++◌, drop}
use Rattle.std.specs.String.{string_bytes}
use Rattle.commands.specs.Listings.{run_lines}
use Rattle.commands.proofs.list_command.push_runs.Given as goal

abbrev pub invariant-loop-run : goal.invariant-loop-run
invariant-loop-run l = string_bytes l.text ++ run_lines (drop l.run-index l.runs) ≡ string_bytes l.fn.text ++ run_lines l.runs
