-- Texts one behind another, as long as they fit. None: there is no text.
use Rattle.std.specs.Prelude.{◌≡◌, ℕ, nat_lt, Bool, List, ◌++◌, length, Option, Some, None, option_map, if◌then◌else◌}
use Rattle.binlog_rows.specs.Numbers.{and_then}

-- one text and then another, if there are both
abbrev pub then_text : Option (List ℕ) → Option (List ℕ) → Option (List ℕ)
then_text front back = and_then front (λ f. option_map (λ b. f ++ b) back)

-- a text of at most so many bytes
abbrev pub within : ℕ → Option (List ℕ) → Option (List ℕ)
within most found = and_then found (λ text. if nat_lt most (length text) then None else Some text)

-- ---- what the code gives

-- a text was put behind another, where there are to be no more than so many bytes
abbrev pub Puts : ℕ → List ℕ → List ℕ → Bool → Option (List ℕ) → Type 0
Puts most old new done found = (if done then Some new else None) ≡ within most (option_map (λ text. old ++ text) found)
