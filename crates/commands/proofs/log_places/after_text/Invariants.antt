use Rattle.std.proofs.Common.{◌≡◌, drop}
use Rattle.commands.specs.LogPlaces.{after_text}
use Rattle.commands.proofs.log_places.after_text.Given as goal

abbrev pub invariant-loop-i : goal.invariant-loop-i
invariant-loop-i l = after_text l.text (drop l.i l.line) ≡ after_text l.text l.line
