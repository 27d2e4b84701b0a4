use Rattle.worked_gates.proofs.left.an_early_commit_is_given_up.Given as goal

-- the ledgers that were just opened, and the core that is shared
abbrev pub ghosts-book_beside_an_owner : goal.ghosts-book_beside_an_owner
ghosts-book_beside_an_owner g a = record { steps_name = a.blanks.steps.name; commits_name = a.blanks.commits.name; seats = a.blanks.steps.parts; opening = a.core }
