-- What comes before the lines of a script in the texts as a part of which they are read.
use Rattle.std.specs.Prelude.{ℕ, List, [], ◌++◌, codes, if◌then◌else◌}
use Rattle.txn_journal.specs.BundleText.{Heads, Own, ended_bundle_line}
use Rattle.txn_journal.specs.Spelling.{Header, ended_line}
use Rattle.txn_journal.specs.Versions.{is_numbered}
use Rattle.txn_journal.specs.declared.lines.Version.{Version}

-- of a bundle before its tables: nothing is executed, and a UUID stands in the place of that which the script declares later
abbrev pub bundle_preamble : Version → List ℕ
bundle_preamble version =
    ended_bundle_line (Own (Heads version))
    ++ codes "replica 00000000-0000-0000-0000-000000000000\n"
    ++ (if is_numbered version then codes "opening -\n" else [])

-- of a journal before its entries: nothing is purged
abbrev pub journal_preamble : Version → List ℕ
journal_preamble version = ended_line (Header version) ++ codes "previous -\n"

-- what is behind the GTID of a first entry: no entry comes before it, and it is at place 1
abbrev pub first_numbers : Version → List ℕ
first_numbers version = if is_numbered version then codes " 0 1" else []
