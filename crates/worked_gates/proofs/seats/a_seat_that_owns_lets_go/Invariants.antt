use Rattle.worked_gates.proofs.seats.a_seat_that_owns_lets_go.Given as goal

-- the ledgers that were just opened, and the core that is shared
abbrev pub ghosts-rollbacks_of_first : goal.ghosts-rollbacks_of_first
ghosts-rollbacks_of_first g a = record { steps_name = a.blanks.steps.name; commits_name = a.blanks.commits.name; seats = a.blanks.steps.parts; opening = a.core }
