use Rattle.worked_refusals.proofs.hands.a_drain_goes_on.Given as goal

-- the ledgers that were just made, and the replica as it was opened
abbrev pub ghosts-one_works_alone : goal.ghosts-one_works_alone
ghosts-one_works_alone g a = record {
  steps_name = a.blanks.steps.name;
  commits_name = a.blanks.commits.name;
  seats = a.blanks.steps.parts;
  opening = a.core;
}
