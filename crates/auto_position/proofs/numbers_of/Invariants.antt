use Rattle.std.proofs.Common.{◌≡◌, ◌++◌, drop}
use Rattle.auto_position.specs.Sending.{numbers_of}
use Rattle.auto_position.proofs.numbers_of.Given as goal

abbrev pub invariant-entries : goal.invariant-entries
invariant-entries l = l.numbers.items ++ numbers_of l.source (drop l.entry-index l.entries) ≡ numbers_of l.source l.entries
