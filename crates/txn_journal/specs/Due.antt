-- Which word is due where.
use Rattle.std.specs.Prelude.{Bool, true, false}
use Rattle.txn_journal.specs.declared.lines.LinePlace.{LinePlace}
use Rattle.txn_journal.specs.declared.lines.LinePlace.TheVariants as places
use Rattle.txn_journal.specs.declared.lines.Keyword.{Keyword}
use Rattle.txn_journal.specs.declared.lines.Keyword.TheVariants as keywords

-- the words that are due at a place
abbrev pub is_due : LinePlace → Keyword → Bool
is_due places.Header keywords.Journal = true
is_due places.Previous keywords.Previous = true
is_due places.Between keywords.Txn = true
is_due places.Between keywords.Close = true
is_due places.Within keywords.Ins = true
is_due places.Within keywords.Upd = true
is_due places.Within keywords.Del = true
is_due places.Within keywords.End = true
is_due _ _ = false
