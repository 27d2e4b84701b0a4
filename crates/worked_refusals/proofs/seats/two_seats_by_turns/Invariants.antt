use Rattle.worked_refusals.proofs.seats.two_seats_by_turns.Given as goal

-- the ledgers that were just made, and the replica as it was opened
abbrev pub ghosts-two_seats : goal.ghosts-two_seats
ghosts-two_seats g a = record {
  steps_name = a.blanks.steps.name;
  commits_name = a.blanks.commits.name;
  seats = a.blanks.steps.parts;
  opening = a.core;
}
