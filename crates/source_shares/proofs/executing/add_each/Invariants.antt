use Rattle.std.proofs.Common.{◌≡◌, drop}
use Rattle.convergence.specs.Deciding.{all_of}
use Rattle.source_shares.proofs.executing.add_each.Given as goal

abbrev pub invariant-loop-journal : goal.invariant-loop-journal
invariant-loop-journal l = all_of l.known (drop l.journal-index l.journals) ≡ all_of l.initial.known l.journals
