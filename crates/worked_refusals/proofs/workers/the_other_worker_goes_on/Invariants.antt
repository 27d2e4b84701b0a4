use Rattle.worked_refusals.proofs.workers.the_other_worker_goes_on.Given as goal

-- the ledgers that were just made, and the replica as it was opened
abbrev pub ghosts-two_work : goal.ghosts-two_work
ghosts-two_work g a = record {
  steps_name = a.blanks.steps.name;
  commits_name = a.blanks.commits.name;
  seats = a.blanks.steps.parts;
  opening = a.core;
}
