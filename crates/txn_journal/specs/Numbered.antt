-- What the words of the line that begins an entry are.
use Rattle.std.specs.Prelude.{ℕ, Option}
use Rattle.gtid_text.specs.declared.Gtid.{Gtid}
use Rattle.txn_journal.specs.Lines as lines
use Rattle.txn_journal.specs.declared.numbers.Numbers.{Numbers}
use Rattle.txn_journal.specs.declared.numbers.Beginning.{Beginning}

abbrev pub numbers_value : Numbers → lines.Numbers
numbers_value n = record { last_committed = n.last_committed.now; sequence_number = n.sequence_number.now }

abbrev pub beginning_value : Beginning → Gtid × Option ℕ
beginning_value b = (b.gtid, b.stamp)
