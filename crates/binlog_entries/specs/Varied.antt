-- Columns whose values the server compares otherwise than their bytes.
use Rattle.std.specs.Prelude.{ℕ, List, length, Option, Some, None, if◌then◌else◌}
use Rattle.binlog_text.specs.Types.{compares_bytes, collation_in}
use Rattle.log_transactions.specs.Varied.{with_varied}
use Rattle.log_transactions.specs.declared.varied.Varied.{Varied}
use Rattle.binlog_entries.specs.Tables.{Table}

-- after the next column of the table that is mapped, whose type this text describes
abbrev pub varied_behind : List Varied → Option Table → List ℕ → List Varied
varied_behind vs None text = vs
varied_behind vs (Some t) text = if compares_bytes text then vs else with_varied vs t.name (length t.columns) (collation_in text)
