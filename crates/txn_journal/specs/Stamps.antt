-- The last_committed that entries have to have.
use Rattle.std.specs.Prelude.{ℕ, List, map, if◌then◌else◌}
use Rattle.rows.specs.declared.schema.Table.{Table}
use Rattle.journal.specs.declared.Entry.{Entry}
use Rattle.journal.specs.Journals.{JournalValue}
use Rattle.logical_timestamps.specs.Timestamps.{last_committed, last_committed_of}
use Rattle.txn_journal.specs.declared.lines.Version.{Version}
use Rattle.txn_journal.specs.Versions.{is_numbered}

-- 0 denotes it in version 1, which writes none
abbrev pub no_stamps : List Entry → List ℕ
no_stamps es = map (λ e. 0) es

-- of an entry after others
abbrev pub right_stamp : Version → List Table → List Entry → Entry → ℕ
right_stamp version tables earlier e = if is_numbered version then last_committed tables earlier e else 0

-- of each entry
abbrev pub right_stamps : Version → List Table → List Entry → List ℕ
right_stamps version tables es = if is_numbered version then last_committed_of tables es else no_stamps es

-- of each journal
abbrev pub all_stamps : Version → List Table → List JournalValue → List (List ℕ)
all_stamps version tables js = map (λ j. right_stamps version tables j.entries) js
