-- A text in parts.
use Rattle.std.specs.Prelude.{ℕ, ◌==◌, List, [], ◌∷◌, ◌++◌, Option, Some, None, if◌then◌else◌}

-- the bytes before the first separator, and those after it
abbrev pub before : ℕ → List ℕ → List ℕ
before separator [] = []
before separator (b ∷ bs) = if b == separator then [] else b ∷ before separator bs

abbrev pub behind : ℕ → List ℕ → Option (List ℕ)
behind separator [] = None
behind separator (b ∷ bs) = if b == separator then Some bs else behind separator bs

abbrev pub cons_head : ℕ → List (List ℕ) → List (List ℕ)
cons_head b [] = (b ∷ []) ∷ []
cons_head b (w ∷ ws) = (b ∷ w) ∷ ws

-- the parts of a text between separators
unfoldable pub parts_of : ℕ → List ℕ → List (List ℕ)
parts_of separator [] = [] ∷ []
parts_of separator (b ∷ bs) = if b == separator then [] ∷ parts_of separator bs else cons_head b (parts_of separator bs)

-- parts with a separator between
abbrev pub joined_by : ℕ → List (List ℕ) → List ℕ
joined_by separator [] = []
joined_by separator (w ∷ []) = w
joined_by separator (w ∷ x ∷ ws) = w ++ separator ∷ joined_by separator (x ∷ ws)
