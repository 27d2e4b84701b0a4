-- What a command line means.
use Rattle.std.specs.Prelude.{◌≤◌, ℕ, List, Option, None, option_map}
use Rattle.gtidrep.specs.declared.line.Command.{Command}
use Rattle.gtidrep.specs.declared.line.Command.TheVariants.{Set, Position, Audit, Upgrade, Import, ImportFiles, States, Events, Version, Apply, Tell}

-- an `apply` is for 1 to 64 workers
abbrev pub IsForOneToMost : Command → Type 0
IsForOneToMost (Apply way order workers) = (1 ≤ workers) × (workers ≤ 64)
IsForOneToMost (Tell order workers) = (1 ≤ workers) × (workers ≤ 64)
IsForOneToMost (Set function first second) = Unit {0}
IsForOneToMost (Audit order listing) = Unit {0}
IsForOneToMost (Upgrade target) = Unit {0}
IsForOneToMost States = Unit {0}
IsForOneToMost (Import grants accepted is_explained) = Unit {0}
IsForOneToMost (ImportFiles grants accepted is_explained files) = Unit {0}
IsForOneToMost (Events file detail) = Unit {0}
IsForOneToMost Version = Unit {0}
IsForOneToMost (Position own ask) = Unit {0}

-- the name of the file that is read in the place of standard input
abbrev pub file_of : Command → Option (List ℕ)
file_of (Events file detail) = option_map (λ f. f.now) file
file_of command = None
