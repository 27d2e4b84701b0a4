use Rattle.std.proofs.Common.{◌≡◌, ◌++◌, drop}
use Rattle.std.specs.String.{string_bytes}
use Rattle.commands.specs.Listings.{verdict_lines}
use Rattle.commands.proofs.list_command.push_verdicts.Given as goal

abbrev pub invariant-loop-verdict : goal.invariant-loop-verdict
invariant-loop-verdict l = string_bytes l.text ++ verdict_lines (drop l.verdict-index l.verdicts) ≡ string_bytes l.fn.text ++ verdict_lines l.verdicts
