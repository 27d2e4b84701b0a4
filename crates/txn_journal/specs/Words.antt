-- The words of a line.
use Rattle.std.specs.List.{list_all}
use Rattle.std.specs.Prelude.{◌≡◌, ◌++◌, true, not, ℕ, List, ◌∷◌, Option, Some, None, ◌==◌, if◌then◌else◌}
use Rattle.rows.specs.declared.limits.Limits.{Limits}
use Rattle.txn_journal.specs.Versions.{is_named}

-- the name that a word is, by the limits of its text
abbrev pub name_of : Limits → List ℕ → Option (List ℕ)
name_of limits word = if is_named limits word then Some word else None

-- no line feed is among the bytes
abbrev pub IsOneLine : List ℕ → Type 0
IsOneLine line = list_all (λ b. not (b == 10)) line ≡ true

-- a text begins with this line and its line feed
pub record BeginsWithLine (text line after : List ℕ) : Type 0 where
  pub parts : text ≡ line ++ 10 ∷ after
  pub whole : IsOneLine line
