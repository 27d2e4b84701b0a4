-- The names of tables, as the lines of a head have them.
use Rattle.std.specs.Prelude.{ℕ, List, Option}
use Rattle.rows.specs.declared.limits.Limits.TheVariants.{Wide}
use Rattle.txn_journal.specs.Words.{name_of}

-- the name of a table that a word is
abbrev pub table_name : List ℕ → Option (List ℕ)
table_name word = name_of Wide word
