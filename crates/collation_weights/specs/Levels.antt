-- The weights of characters by a table.
use Rattle.std.specs.Prelude.{ℕ, List, [], Option, Some, None, if◌then◌else◌}
use Rattle.std.specs.List.{flat_map}
use Rattle.collation_weights.specs.Rows.{row_at, own_weights, weights_by, is_hangul, letters}
use Rattle.collation_weights.specs.Tables.{rows_of, weights_of}
use Rattle.collation_weights.specs.declared.row.WeightRow.{WeightRow}
use Rattle.collation_weights.specs.declared.tables.WeightTable.{WeightTable}

abbrev pub plain_by : WeightTable → ℕ → Option WeightRow → List ℕ
plain_by table point None = []
plain_by table point (Some row) = weights_by row (own_weights (weights_of table) row) point

-- the weights of a character that is taken as a whole
unfoldable pub plain_weights : WeightTable → ℕ → List ℕ
plain_weights table point = plain_by table point (row_at (rows_of table) point)

abbrev pub weights_by_row : WeightTable → ℕ → Option WeightRow → List ℕ
weights_by_row table point None = []
weights_by_row table point (Some row) =
    if is_hangul row.1 then flat_map (plain_weights table) (letters point)
    else weights_by row (own_weights (weights_of table) row) point

-- the weights of a character: of a Hangul syllable those of its letters
unfoldable pub weights_at : WeightTable → ℕ → List ℕ
weights_at table point = weights_by_row table point (row_at (rows_of table) point)

-- the weights of characters, one after another
abbrev pub level : WeightTable → List ℕ → List ℕ
level table points = flat_map (weights_at table) points
