use Rattle.std.proofs.Common.{◌≡◌, ℕ, length, []}
use Rattle.ownership.specs.Slots.{taken_from}
use Rattle.ownership.proofs.Owners.open.Given as goal

abbrev pub invariant-loop : goal.invariant-loop
invariant-loop l = record {
  many : length l.slots.items ≡ l.counter;
  vacant : (seat : ℕ) → taken_from seat l.slots.items ≡ [];
}
