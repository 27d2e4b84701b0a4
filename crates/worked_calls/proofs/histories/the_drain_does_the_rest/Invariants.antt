use Rattle.worked_calls.proofs.histories.the_drain_does_the_rest.Given as goal

-- the ledgers that were just made, and the replica as it was opened
abbrev pub ghosts-book_beside_a_holder : goal.ghosts-book_beside_a_holder
ghosts-book_beside_a_holder g a = record {
  steps_name = a.blanks.steps.name;
  commits_name = a.blanks.commits.name;
  seats = a.blanks.steps.parts;
  opening = a.core;
}
