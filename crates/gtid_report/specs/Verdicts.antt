-- The printed line of each verdict. The words and their order are our own.
use Rattle.std.specs.Prelude.{ℕ, List, ◌++◌, codes, decimal}
use Rattle.gtid_text.specs.declared.Gtid.{Gtid}
use Rattle.gtid_text.specs.Canonical.{gtid_text}
use Rattle.rows.specs.declared.change.RowFault.{RowFault}
use Rattle.rows.specs.declared.change.RowFault.TheVariants.{RowMissing, RowDiffers, DuplicateKey}

-- a row fault's number
abbrev pub row_fault_name : RowFault → List ℕ
row_fault_name (RowMissing change key) = codes "E10 change "
row_fault_name (RowDiffers change key) = codes "E11 change "
row_fault_name (DuplicateKey change key) = codes "E12 change "

-- the change, from 0, and the number of the key
abbrev pub row_fault_place : RowFault → ℕ × ℕ
row_fault_place (RowMissing change key) = (change, key)
row_fault_place (RowDiffers change key) = (change, key)
row_fault_place (DuplicateKey change key) = (change, key)

abbrev pub row_fault_text : RowFault → List ℕ
row_fault_text fault =
    row_fault_name fault ++ decimal (row_fault_place fault).0 ++ codes " key " ++ decimal (row_fault_place fault).1

abbrev pub does_not_apply_line : Gtid → RowFault → List ℕ
does_not_apply_line gtid fault = codes "does-not-apply " ++ gtid_text gtid ++ codes " " ++ row_fault_text fault
