use Rattle.worked_gates.proofs.books.book_of_workers.Given as goal

-- the ledgers that were just opened, and the core that is shared
abbrev pub ghosts-share : goal.ghosts-share
ghosts-share g a = record { steps_name = a.blanks.steps.name; commits_name = a.blanks.commits.name; seats = a.blanks.steps.parts; opening = a.core }
