-- The first characters of texts, as a key on a column's prefix takes them.
use Rattle.std.specs.Prelude.{ℕ, List, take, Option, encode_utf8_all, if◌then◌else◌}
use Rattle.std.specs.Option.{option_map}
use Rattle.collations.specs.declared.collation.Collation.{Collation}
use Rattle.collation_weights.specs.Characters.{characters, is_unicode}
use Rattle.collation_weights.specs.Weights.{character_set_of}
use Rattle.collation_weights.specs.declared.character_set.CharacterSet.{CharacterSet}

-- characters as bytes
abbrev pub encoded : CharacterSet → List ℕ → List ℕ
encoded set points = if is_unicode set then encode_utf8_all points else points

-- all of them where there are fewer; none, where the bytes are no text
unfoldable pub first_characters : Collation → ℕ → List ℕ → Option (List ℕ)
first_characters collation count bytes =
    option_map (λ points. encoded (character_set_of collation) (take count points)) (characters (character_set_of collation) bytes)
