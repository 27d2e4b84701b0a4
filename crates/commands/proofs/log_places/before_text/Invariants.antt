use Rattle.std.proofs.Common.{◌≡◌, ◌++◌, take, drop}
use Rattle.commands.specs.LogPlaces.{before_text}
use Rattle.commands.proofs.log_places.before_text.Given as goal

abbrev pub invariant-loop-i : goal.invariant-loop-i
invariant-loop-i l = take l.i l.line ++ before_text l.text (drop l.i l.line) ≡ before_text l.text l.line
