-- What a refusal means.
use Rattle.std.specs.Prelude.{◌≡◌, Option, Some, None, Result, Err}
use Rattle.rows.specs.declared.change.ApplyFault.{ApplyFault}
use Rattle.rows.specs.declared.change.ApplyFault.TheVariants as fault
use Rattle.rows.specs.declared.change.NotInSchema.{NotInSchema}
use Rattle.rows.specs.declared.change.PrepareFault.{PrepareFault}
use Rattle.rows.specs.declared.change.PrepareFault.TheVariants.{Row}
use Rattle.rows.specs.declared.change.RowFault.{RowFault}
use Rattle.rows.specs.declared.schema.SchemaFault.{SchemaFault}
use Rattle.rows.specs.declared.schema.SchemaFault.TheVariants as refusal
use Rattle.rows.specs.declared.schema.TableFault.{TableFault}
use Rattle.rows.specs.Apply.{Rows}

-- Where a call returns a row fault, this is refused with it.
abbrev pub Refuses : {A : Type 0} → Result A PrepareFault → Result Rows RowFault → Type 0
Refuses result answer = (fault : RowFault) → result ≡ Err (Row fault) → answer ≡ Err fault

-- Where a call returns that the schema does not take the changes, this is why.
abbrev pub NamesMisfit : {A : Type 0} → Result A ApplyFault → Option NotInSchema → Type 0
NamesMisfit result misfit = (cause : NotInSchema) → result ≡ Err (fault.NotInSchema cause) → misfit ≡ Some cause

-- What the schema does not take is refused for that, before anything else.
abbrev pub GivesMisfit : {A : Type 0} → Result A ApplyFault → Option NotInSchema → Type 0
GivesMisfit result None = Unit {0}
GivesMisfit result (Some cause) = result ≡ Err (fault.NotInSchema cause)

-- Where a call returns a row fault, the changes are refused with it.
abbrev pub NamesRowFault : {A : Type 0} → Result A ApplyFault → Result Rows RowFault → Type 0
NamesRowFault result answer = (cause : RowFault) → result ≡ Err (fault.Row cause) → answer ≡ Err cause

-- Where a call returns that a table is not taken, this is why.
abbrev pub NamesTableFault : {A : Type 0} → Result A SchemaFault → Option TableFault → Type 0
NamesTableFault result why = (cause : TableFault) → result ≡ Err (refusal.Table cause) → why ≡ Some cause
