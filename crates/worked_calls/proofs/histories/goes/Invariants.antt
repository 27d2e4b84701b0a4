use Rattle.worked_calls.proofs.histories.goes.Given as goal

-- the ledgers that were just made, and the replica as it was opened
abbrev pub ghosts-plays : goal.ghosts-plays
ghosts-plays g a = record {
  steps_name = a.blanks.steps.name;
  commits_name = a.blanks.commits.name;
  seats = a.blanks.steps.parts;
  opening = a.core;
}
