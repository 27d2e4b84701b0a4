use Rattle.worked_gates.proofs.seats.few_changes_are_not_prepared.Given as goal

-- the ledgers that were just opened, and the core that is shared
abbrev pub ghosts-prepares_from : goal.ghosts-prepares_from
ghosts-prepares_from g a = record { steps_name = a.blanks.steps.name; commits_name = a.blanks.commits.name; seats = a.blanks.steps.parts; opening = a.core }
