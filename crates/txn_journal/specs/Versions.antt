-- What a version of the formats has.
use Rattle.std.specs.Prelude.{ℕ, Bool, true, false, List}
use Rattle.rows.specs.Names.{is_name, is_short_name}
use Rattle.rows.specs.declared.limits.Limits.{Limits}
use Rattle.rows.specs.declared.limits.Limits.TheVariants.{Narrow, Wide}
use Rattle.txn_journal.specs.declared.lines.Version.{Version}
use Rattle.txn_journal.specs.declared.lines.Version.TheVariants.{One, Two, Three}

-- its limits
abbrev pub limits_of : Version → Limits
limits_of One = Narrow
limits_of Two = Narrow
limits_of Three = Wide

-- the last version with these limits
abbrev pub newest : Limits → Version
newest Narrow = Two
newest Wide = Three

-- version 1 has neither the numbers of entries nor a line of the opening set
abbrev pub is_numbered : Version → Bool
is_numbered One = false
is_numbered _ = true

-- lines of references and assumptions are version 3's alone
abbrev pub has_references : Version → Bool
has_references Three = true
has_references _ = false

-- so are those of the places of entries in a server's log
abbrev pub has_log_places : Version → Bool
has_log_places Three = true
has_log_places _ = false

-- texts with narrow limits have none of these lines
abbrev pub IsWide : Limits → Type 0
IsWide Narrow = ⊥
IsWide Wide = Unit {0}

-- the names of texts with these limits
abbrev pub is_named : Limits → List ℕ → Bool
is_named Narrow = is_short_name
is_named Wide = is_name
