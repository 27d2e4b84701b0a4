-- Where a bundle has what a verdict on it rests on.
use Rattle.std.specs.Prelude.{ℕ, ◌+◌, ◌&&◌, not, nat_eq, Bool, true, false, List, [], ◌∷◌, ◌++◌, codes, if◌then◌else◌}
use Rattle.std.specs.List.{starts_with}
use Rattle.fault_places.specs.Places.{line_text}

abbrev pub is_assumption : List ℕ → Bool
is_assumption line = starts_with nat_eq line (codes "assume ")

abbrev pub is_reference : List ℕ → Bool
is_reference line = starts_with nat_eq line (codes "fk ")

-- a line with its number
abbrev pub shown_line : ℕ → List ℕ → List ℕ
shown_line n line = codes "  " ++ line_text n line

-- an assumption is shown, and a reference if what it implies is not said yet
abbrev pub report_assumed : Bool → ℕ → List ℕ → List ℕ
report_assumed implied n line =
    if is_assumption line then shown_line n line
    else if implied && is_reference line then shown_line n line
    else []

-- the same for line n and those after it: of the references the first alone
abbrev pub assumed_from : Bool → ℕ → List (List ℕ) → List ℕ
assumed_from implied n [] = []
assumed_from implied n (line ∷ lines) = report_assumed implied n line ++ assumed_from (implied && not (is_reference line)) (n + 1) lines

-- each line of an assumption, and the first of a reference if it implies one that no line says
abbrev pub assumed_places : Bool → List (List ℕ) → List ℕ
assumed_places implied lines = assumed_from implied 1 lines
