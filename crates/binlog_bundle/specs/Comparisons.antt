-- How a server compares a column in a key, by the words of a line `collate ..`.
use Rattle.std.specs.Prelude.{ℕ, ◌^◌, ◌==◌, ◌&&◌, nat_lt, List, [], ◌∷◌, codes, Option, Some, None, option_map, option_and_then, if◌then◌else◌}
use Rattle.std.specs.Str.{bytes_eq}
use Rattle.collations.specs.Finding.{collation_named}
use Rattle.row_images.specs.Words.{count_of, first_word, others}
use Rattle.derived_columns.specs.declared.column.KeyComparison.{KeyComparison}
use Rattle.derived_columns.specs.declared.column.KeyComparison.TheVariants.{Text, FirstCharacters, FirstBytes, FixedCharacters, FixedBytes, Float}

-- what stands before the first of this byte, or all where there is none
abbrev pub front_of : ℕ → List ℕ → List ℕ
front_of byte [] = []
front_of byte (b ∷ bs) = if b == byte then [] else b ∷ front_of byte bs

-- what stands behind the first of this byte
abbrev pub behind_of : ℕ → List ℕ → Option (List ℕ)
behind_of byte [] = None
behind_of byte (b ∷ bs) = if b == byte then Some bs else behind_of byte bs

-- a length is from 1 up, and has 32 bits
abbrev pub as_length : ℕ → Option ℕ
as_length n = if nat_lt 0 n && nat_lt n (2 ^ 32) then Some n else None

abbrev pub length_of : List ℕ → Option ℕ
length_of word = option_and_then as_length (count_of word)

-- a length, if nothing is behind the bracket that closes it
abbrev pub closed_length : List ℕ → Option (List ℕ) → Option ℕ
closed_length word None = None
closed_length word (Some []) = length_of word
closed_length word (Some (b ∷ bs)) = None

abbrev pub length_in : List ℕ → Option ℕ
length_in text = closed_length (front_of 41 text) (behind_of 41 text)

-- `binary` is compared by its first bytes, a text by its first characters
abbrev pub prefix_of : List ℕ → ℕ → Option KeyComparison
prefix_of name count =
    if bytes_eq name (codes "binary") then Some (FirstBytes count)
    else option_map (λ collation. FirstCharacters collation count) (collation_named name)

-- `float`, or the name of a collation
abbrev pub whole_of : List ℕ → Option KeyComparison
whole_of word = if bytes_eq word (codes "float") then Some Float else option_map Text (collation_named word)

abbrev pub comparison_with : List ℕ → Option (List ℕ) → Option KeyComparison
comparison_with name None = whole_of name
comparison_with name (Some behind) = option_and_then (prefix_of name) (length_in behind)

-- the word is `<collation>`, `<collation>(<length>)`, `binary(<length>)` or `float`
unfoldable pub word_comparison : List ℕ → Option KeyComparison
word_comparison word = comparison_with (front_of 40 word) (behind_of 40 word)

-- the same prefix of CHAR or BINARY, whose values a server fills up
abbrev pub fixed_of : KeyComparison → Option KeyComparison
fixed_of (FirstCharacters collation count) = Some (FixedCharacters collation count)
fixed_of (FirstBytes count) = Some (FixedBytes count)
fixed_of comparison = None

abbrev pub comparison_behind : List ℕ → Option (List ℕ) → Option KeyComparison
comparison_behind word None = word_comparison word
comparison_behind word (Some more) = if bytes_eq word (codes "fixed") then option_and_then fixed_of (word_comparison more) else None

-- one word, or the word `fixed` and then that of a prefix
unfoldable pub comparison_of : List ℕ → Option KeyComparison
comparison_of words = comparison_behind (first_word words) (others words)
