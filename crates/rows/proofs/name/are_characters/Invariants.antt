use Rattle.std.proofs.Common.{◌≡◌, length}
use Rattle.rows.specs.Names.{are_characters}
use Rattle.rows.proofs.name.are_characters.Given as goal

abbrev pub invariant-characters : goal.invariant-characters
invariant-characters l = are_characters l.left ≡ are_characters l.part

abbrev pub decreases-characters : goal.decreases-characters
decreases-characters l = length l.left
