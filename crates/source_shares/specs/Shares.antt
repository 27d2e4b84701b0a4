-- Sources put into shares.
use Rattle.std.specs.Prelude.{◌≡◌, ◌==◌, ◌<◌, ℕ, Bool, List, [], ◌∷◌, Option, Some, IfSome, Ok, if◌then◌else◌, map, slice_get}
use Rattle.std.specs.List.{filter, AllByRecursion}
use Rattle.journal.specs.declared.Entry.{Entry}
use Rattle.rows.specs.Database.{Database}
use Rattle.history.specs.Sources.{apply_all}
use Rattle.history.specs.Sources as history
use Rattle.audit.specs.Contents.{as_pair}

-- the share of a source: that of the first pair that names it, or else the first
abbrev pub share_in : List (ℕ × ℕ) → ℕ → ℕ
share_in [] source = 0
share_in ((named, share) ∷ pairs) source = if named == source then share else share_in pairs source

-- whether a source is in a share
abbrev pub is_in_share : List (ℕ × ℕ) → ℕ → ℕ → Bool
is_in_share pairs share source = share_in pairs source == share

-- the transactions of a share, in their order
abbrev pub of_share : List (ℕ × ℕ) → ℕ → List Entry → List history.Entry
of_share pairs share entries = filter (λ (e : history.Entry). is_in_share pairs share e.0.source) (map as_pair entries)

-- there are more shares than each of these
abbrev pub AreBelow : ℕ → List (ℕ × ℕ) → Type 0
AreBelow count pairs = AllByRecursion (λ (p : ℕ × ℕ). p.1 < count) pairs

-- the rows after the transactions of a share, if they were found
abbrev pub IsApplied : Database → List (ℕ × ℕ) → List Entry → ℕ → Option Database → Type 0
IsApplied start pairs entries share found =
    IfSome found (λ (d : Database). (d.schema ≡ start.schema) × (apply_all start.schema (of_share pairs share entries) start.rows ≡ Ok d.rows))

-- those of each share
abbrev pub AreApplied : Database → List (ℕ × ℕ) → List Entry → List (Option Database) → Type 0
AreApplied start pairs entries parts = (i : ℕ) (found : Option Database) → slice_get parts i ≡ Some found → IsApplied start pairs entries i found
