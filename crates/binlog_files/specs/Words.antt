-- The words of refusals.
use Rattle.std.specs.Prelude.{ℕ, List, codes}
use Rattle.log_transactions.specs.declared.fault.EventRefusal.{EventRefusal}
use Rattle.log_transactions.specs.declared.fault.EventRefusal.TheVariants as events
use Rattle.binlog_files.specs.declared.fault.FileRefusal.{FileRefusal}
use Rattle.binlog_files.specs.declared.fault.FileRefusal.TheVariants as refusals

-- those that a text's import has, too
abbrev pub event_word : EventRefusal → List ℕ
event_word events.Gtid = codes "gtid"
event_word events.Transaction = codes "transaction"
event_word events.Table = codes "table"
event_word events.Columns = codes "columns"
event_word events.Gap = codes "gap"

abbrev pub word_of : FileRefusal → List ℕ
word_of (refusals.Event refusal) = event_word refusal
word_of refusals.Format = codes "format"
word_of refusals.Previous = codes "previous"
word_of refusals.Statement = codes "statement"
word_of refusals.Xa = codes "xa"
word_of refusals.Gtid = codes "gtid"
word_of refusals.Incident = codes "incident"
word_of refusals.Compressed = codes "compressed"
word_of refusals.Partial = codes "partial"
word_of refusals.Type = codes "type"
word_of refusals.Metadata = codes "metadata"
word_of refusals.Value = codes "value"
word_of refusals.Kind = codes "kind"
