-- The weights of a character by a row of a table.
use Rattle.std.specs.Prelude.{ℕ, ◌+◌, ◌-◌, ◌*◌, ◌/◌, ◌%◌, ◌==◌, ◌≤◌, nat_le, nat_lt, Bool, true, false, ◌&&◌, List, [], ◌∷◌, ◌++◌, take, drop, length, Option, reverse, if◌then◌else◌}
use Rattle.std.specs.List.{find, list_all}
use Rattle.collation_weights.specs.declared.row.WeightRow.{WeightRow}
use Rattle.collation_weights.specs.declared.row.RowKind.{RowKind}
use Rattle.collation_weights.specs.declared.row.RowKind.TheVariants as kinds

-- the row of a character is the last one that begins at it or before it
unfoldable pub row_at : List WeightRow → ℕ → Option WeightRow
row_at rows point = find (λ row. nat_le row.0 point) (reverse rows)

-- the weights of a row, out of those of its table
abbrev pub own_weights : List ℕ → WeightRow → List ℕ
own_weights weights row = take row.3 (drop row.2 weights)

-- the last weight is raised
unfoldable pub raised : List ℕ → ℕ → List ℕ
raised [] n = []
raised (w ∷ []) n = (w + n) ∷ []
raised (v ∷ w ∷ ws) n = v ∷ raised (w ∷ ws) n

-- the weights of a character by the kind of its row and the row's first character; a Hangul syllable has none of its own
abbrev pub by_kind : RowKind → ℕ → List ℕ → ℕ → List ℕ
by_kind kinds.Same first weights point = weights
by_kind kinds.Rising first weights point = raised weights (point - first)
by_kind kinds.Pairs first weights point = raised weights ((point - first) / 2 * 2)
by_kind kinds.Implicit first weights point = raised weights (point / 0x8000) ++ (0x8000 + point % 0x8000) ∷ []
by_kind kinds.Hangul first weights point = []

abbrev pub weights_by : WeightRow → List ℕ → ℕ → List ℕ
weights_by row weights point = by_kind row.1 row.0 weights point

-- the letters of a Hangul syllable, of which the third may be missing
unfoldable pub letters : ℕ → List ℕ
letters point =
    (0x1100 + (point - 0xAC00) / 588)
    ∷ (0x1161 + (point - 0xAC00) % 588 / 28)
    ∷ (if (point - 0xAC00) % 28 == 0 then [] else (0x11A7 + (point - 0xAC00) % 28) ∷ [])

abbrev pub is_hangul : RowKind → Bool
is_hangul kinds.Hangul = true
is_hangul kinds.Same = false
is_hangul kinds.Rising = false
is_hangul kinds.Pairs = false
is_hangul kinds.Implicit = false

-- each row begins behind the one before it
abbrev pub are_rising : List WeightRow → Bool
are_rising [] = true
are_rising (r ∷ []) = true
are_rising (r ∷ s ∷ rows) = nat_lt r.0 s.0 && are_rising (s ∷ rows)

-- a row has its weights among these
abbrev pub IsWithin : List ℕ → WeightRow → Type 0
IsWithin weights row = row.2 + row.3 ≤ length weights

abbrev pub are_within : List ℕ → List WeightRow → Bool
are_within weights rows = list_all (λ row. nat_le (row.2 + row.3) (length weights)) rows
