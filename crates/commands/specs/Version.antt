-- The version of the program, as in the file VERSION.
use Rattle.std.specs.Prelude.{codes}
use Rattle.commands.specs.Printed.{Printed}
use Rattle.commands.specs.declared.edge.Outcome.TheVariants.{Done}

-- the program's name and its version
abbrev pub printed_version : Printed
printed_version = record { text = codes "gtidrep 0.9.0\n"; outcome = Done }
