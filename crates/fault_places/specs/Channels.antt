-- Channels by their numbers, which count from 0.
use Rattle.std.specs.Prelude.{ℕ, List, [], ◌++◌, slice_get, Option, Some, None, codes, decimal}
use Rattle.journal.specs.declared.Entry.{Entry}
use Rattle.journal.specs.Journals.{JournalValue}
use Rattle.txn_journal.specs.declared.bundle.BundleChannel.{BundleChannel}
use Rattle.fault_places.specs.Lines.{shorten}

-- the number and the name of a channel
abbrev pub label : ℕ → List ℕ → List ℕ
label n name = codes "channel " ++ decimal n ++ codes " " ++ shorten name

abbrev pub name_of : Option BundleChannel → List ℕ
name_of None = []
name_of (Some channel) = channel.name

-- those of channel n
abbrev pub label_at : List BundleChannel → ℕ → List ℕ
label_at channels n = label n (name_of (slice_get channels n))

abbrev pub entries_in : Option JournalValue → List Entry
entries_in None = []
entries_in (Some journal) = journal.entries

-- the entries of the journal of channel n
abbrev pub entries_of : List JournalValue → ℕ → List Entry
entries_of journals n = entries_in (slice_get journals n)
