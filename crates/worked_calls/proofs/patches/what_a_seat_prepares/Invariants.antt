use Rattle.worked_calls.proofs.patches.what_a_seat_prepares.Given as goal

-- the ledgers that were just made, and the replica as it was opened
abbrev pub ghosts-prepares_what_it_holds : goal.ghosts-prepares_what_it_holds
ghosts-prepares_what_it_holds g a = record {
  steps_name = a.blanks.steps.name;
  commits_name = a.blanks.commits.name;
  seats = a.blanks.steps.parts;
  opening = a.core;
}
