-- Why nothing is derived.
use Rattle.std.specs.Prelude.{◌≡◌, Result, Err}
use Rattle.derived_columns.specs.declared.column.KeyPart.{KeyPart}
use Rattle.derived_columns.specs.declared.fault.ImageFault.{ImageFault}
use Rattle.derived_columns.specs.declared.fault.ImageFault.TheVariants as image

-- memory was refused, or this part of a key is the first that has no hidden value
abbrev pub IsImageFault : {A : Type 0} → Result A KeyPart → ImageFault → Type 0
IsImageFault derived image.Memory = Unit {0}
IsImageFault derived (image.NoHiddenValue part) = derived ≡ Err part
