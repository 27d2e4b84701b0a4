-- Names and numbers are distinct.
use Rattle.std.specs.Prelude.{◌≡◌, Some}
use Rattle.collations.specs.declared.collation.Collation.{Collation}
use Rattle.collations.specs.Names.{name_of, number_of}
use Rattle.collations.specs.Finding.{collation_named, collation_numbered}

-- a collation is found by its own name
abbrev pub FoundByName : Type 0
FoundByName = (c : Collation) → collation_named (name_of c) ≡ Some c

-- a collation is found by its own number
abbrev pub FoundByNumber : Type 0
FoundByNumber = (c : Collation) → collation_numbered (number_of c) ≡ Some c
