-- What is no journal.
use Rattle.std.specs.Prelude.{ℕ, List}
use Rattle.txn_journal.specs.Formats.{RefusesBy}
use Rattle.txn_journal.specs.Reading.{journals}
use Rattle.txn_journal.specs.declared.fault.JournalFault.{JournalFault}

-- what each fault means for the text
abbrev pub Refuses : JournalFault → List ℕ → Type 0
Refuses fault bytes = RefusesBy journals fault bytes
