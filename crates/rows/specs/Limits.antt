-- The limits of tables, by the version of the text that declares them (our own rules).
use Rattle.std.specs.Prelude.{ℕ}
use Rattle.rows.specs.declared.limits.Limits.{Limits}
use Rattle.rows.specs.declared.limits.Limits.TheVariants.{Narrow, Wide}

abbrev pub most_tables : Limits → ℕ
most_tables Narrow = 256
most_tables Wide = 65536

abbrev pub most_columns : Limits → ℕ
most_columns Narrow = 64
most_columns Wide = 4096

abbrev pub most_uniques : Limits → ℕ
most_uniques Narrow = 8
most_uniques Wide = 64

-- of a transaction
abbrev pub most_changes : Limits → ℕ
most_changes Narrow = 65536
most_changes Wide = 4294967294

-- of a value
abbrev pub most_bytes : Limits → ℕ
most_bytes Narrow = 65535
most_bytes Wide = 4294967295
