-- What is due in a bundle after a line. The formats are our own.
use Rattle.std.specs.Prelude.{ℕ, ◌-◌, ◌||◌, nat_lt, List, [], codes, get_or, if◌then◌else◌}
use Rattle.std.specs.Str.{bytes_eq}
use Rattle.txn_journal.specs.declared.lines.Version.{Version}
use Rattle.txn_journal.specs.declared.lines.Version.TheVariants.{One, Two, Three}
use Rattle.fault_places.specs.Lines.{first_word}

-- line n, counted from 1
abbrev pub line_at : List (List ℕ) → ℕ → List ℕ
line_at lines n = get_or lines (n - 1) []

-- the first word of the line before line n; nothing is before the first
abbrev pub word_before : List (List ℕ) → ℕ → List ℕ
word_before lines n = if nat_lt n 2 then [] else first_word (line_at lines (n - 1))

-- the version of a bundle, by its first line
abbrev pub version_of : List (List ℕ) → Version
version_of lines =
    if bytes_eq (line_at lines 1) (codes "bundle 3") then Three
    else if bytes_eq (line_at lines 1) (codes "bundle 2") then Two
    else One

-- among the tables
abbrev pub tables_due : Version → List ℕ
tables_due Three = codes "table <name> <count> pk <columns> [uk <columns>].. [hidden <count>], fk <name> <columns> <name> <key> [cascade], row <table> <values>, channel <name> [preserve], assume <assumption>, or done"
tables_due _ = codes "table <name> <count> pk <columns> [uk <columns>].., row <table> <values>, channel <name> [preserve], or done"

-- behind a reference
abbrev pub references_due : List ℕ
references_due = codes "fk <name> <columns> <name> <key> [cascade], row <table> <values>, channel <name> [preserve], assume <assumption>, or done"

-- behind a row
abbrev pub rows_due : Version → List ℕ
rows_due Three = codes "row <table> <values>, channel <name> [preserve], assume <assumption>, or done"
rows_due _ = codes "row <table> <values>, channel <name> [preserve], or done"

-- behind a journal
abbrev pub channels_due : Version → List ℕ
channels_due Three = codes "channel <name> [preserve], assume <assumption>, or done"
channels_due _ = codes "channel <name> [preserve], or done"

-- behind the replica
abbrev pub opening_due : Version → List ℕ
opening_due One = tables_due One
opening_due _ = codes "opening <set>"

-- behind a channel
abbrev pub journal_due : Version → List ℕ
journal_due One = codes "journal 1"
journal_due Two = codes "journal 2"
journal_due Three = codes "journal 3"

-- between entries
abbrev pub entries_due : Version → List ℕ
entries_due One = codes "txn <gtid>, or close"
entries_due Two = codes "txn <gtid> <last_committed> <sequence_number>, or close"
entries_due Three = codes "place <file> <position> <time> <server>, txn <gtid> <last_committed> <sequence_number>, or close"

-- the lines that may come after a line that begins with this word
unfoldable pub due_behind : Version → List ℕ → List ℕ
due_behind version word =
    if bytes_eq word (codes "bundle") then codes "replica <uuid>"
    else if bytes_eq word (codes "replica") then opening_due version
    else if bytes_eq word (codes "opening") || bytes_eq word (codes "table") then tables_due version
    else if bytes_eq word (codes "fk") then references_due
    else if bytes_eq word (codes "row") then rows_due version
    else if bytes_eq word (codes "channel") then journal_due version
    else if bytes_eq word (codes "journal") then codes "previous <set>"
    else if bytes_eq word (codes "previous") || bytes_eq word (codes "end") then entries_due version
    else if bytes_eq word (codes "place") then codes "txn <gtid> <last_committed> <sequence_number>"
    else if bytes_eq word (codes "txn") || (bytes_eq word (codes "ins") || (bytes_eq word (codes "upd") || bytes_eq word (codes "del"))) then
    codes "ins <table> <values>, upd <table> <values> | <values>, del <table> <values>, or end"
    else if bytes_eq word (codes "close") then channels_due version
    else if bytes_eq word (codes "assume") then codes "assume <assumption>, or done"
    else if bytes_eq word (codes "done") then codes "nothing, for the bundle has ended"
    else codes "bundle 1, bundle 2, or bundle 3"

-- the lines that are allowed in the place of line n
abbrev pub due_at : List (List ℕ) → ℕ → List ℕ
due_at lines n = due_behind (version_of lines) (word_before lines n)
