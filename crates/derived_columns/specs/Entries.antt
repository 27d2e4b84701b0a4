-- Entries of a journal with the hidden columns of their images.
use Rattle.std.specs.Prelude.{◌≡◌, List, Result, Ok, Err}
use Rattle.rows.specs.declared.change.Change.{Change}
use Rattle.rows.specs.declared.change.Change.TheVariants.{Insert, Delete, Update}
use Rattle.gtid_text.specs.declared.Gtid.{Gtid}
use Rattle.journal.specs.declared.Entry.{Entry}
use Rattle.derived_columns.specs.declared.column.DerivedColumn.{DerivedColumn}
use Rattle.derived_columns.specs.declared.column.KeyPart.{KeyPart}
use Rattle.derived_columns.specs.declared.fault.ImageFault.{ImageFault}
use Rattle.derived_columns.specs.declared.fault.ImageFault.TheVariants as image
use Rattle.derived_columns.specs.declared.fault.DerivationFault.{DerivationFault}
use Rattle.derived_columns.specs.declared.fault.DerivationFault.TheVariants.{Memory, NoHiddenValue}
use Rattle.derived_columns.specs.Each.{with_it, with_both, each}
use Rattle.derived_columns.specs.Images.{derived_image}

-- a change with the hidden columns of its images, or else the first part of a key that has no hidden value; a before image comes first
abbrev pub derived_change : List DerivedColumn → Change → Result Change KeyPart
derived_change columns (Insert table after) = with_it (Insert table) (derived_image columns table after)
derived_change columns (Delete table before) = with_it (Delete table) (derived_image columns table before)
derived_change columns (Update table before after) =
    with_both (Update table) (derived_image columns table before) (derived_image columns table after)

abbrev pub derived_changes : List DerivedColumn → List Change → Result (List Change) KeyPart
derived_changes columns changes = each (derived_change columns) changes

-- a GTID with what is derived for it, or else with the part that has no hidden value
abbrev pub as_entry : Gtid → Result (List Change) KeyPart → Result Entry DerivationFault
as_entry gtid (Ok changes) = Ok (record { gtid = gtid; txn = record { changes = changes } })
as_entry gtid (Err part) = Err (NoHiddenValue gtid part.table part.column)

abbrev pub derived_entry : List DerivedColumn → Entry → Result Entry DerivationFault
derived_entry columns e = as_entry e.gtid (derived_changes columns e.txn.changes)

-- each entry so, or else the first fault
abbrev pub derived_entries : List DerivedColumn → List Entry → Result (List Entry) DerivationFault
derived_entries columns entries = each (derived_entry columns) entries

-- memory was refused, or it is the first fault
abbrev pub IsDerivationFault : {A : Type 0} → Result A DerivationFault → DerivationFault → Type 0
IsDerivationFault derived Memory = Unit {0}
IsDerivationFault derived (NoHiddenValue gtid table column) = derived ≡ Err (NoHiddenValue gtid table column)

-- the fault of an entry with the GTID whose images have this one
abbrev pub fault_of : Gtid → ImageFault → DerivationFault
fault_of gtid image.Memory = Memory
fault_of gtid (image.NoHiddenValue part) = NoHiddenValue gtid part.table part.column
