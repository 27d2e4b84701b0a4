use Rattle.worked_calls.proofs.seats.try_work.Given as goal

-- the ledgers that were just made, and the replica as it was opened
abbrev pub ghosts-two_seats : goal.ghosts-two_seats
ghosts-two_seats g a = record {
  steps_name = a.blanks.steps.name;
  commits_name = a.blanks.commits.name;
  seats = a.blanks.steps.parts;
  opening = a.core;
}
