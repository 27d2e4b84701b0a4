use Rattle.std.proofs.Common.{◌≡◌, ◌≤◌, ◌++◌, take, drop}
use Rattle.fault_places.specs.HiddenValues.{first_words}
use Rattle.fault_places.proofs.hidden_values.first_words.Given as goal

abbrev pub invariant-loop-i : goal.invariant-loop-i
invariant-loop-i l = record {
  some : 1 ≤ l.left;
  so_far : take l.i l.text ++ first_words l.left (drop l.i l.text) ≡ first_words l.count l.text;
}
