use Rattle.commands.proofs.worker_history.run_history.Given as goal

abbrev pub ghosts-run_shared : goal.ghosts-run_shared
ghosts-run_shared g a = record { steps_name = a.blanks.steps.name; commits_name = a.blanks.commits.name; seats = a.blanks.steps.parts; opening = a.core }
