-- Where the transactions of a GTID are in the lines of a bundle.
use Rattle.std.specs.Prelude.{ℕ, ◌+◌, ◌-◌, ◌==◌, ◌&&◌, Bool, true, false, List, [], ◌∷◌, ◌++◌, codes, decimal, if◌then◌else◌}
use Rattle.std.specs.Str.{bytes_eq}
use Rattle.rows.specs.declared.schema.Table.{Table}
use Rattle.fault_places.specs.declared.standing.Standing.{Standing}
use Rattle.fault_places.specs.declared.wanted.Wanted.{Wanted}
use Rattle.fault_places.specs.declared.wanted.Wanted.TheVariants.{Every, OfTable, Numbered, Nothing}
use Rattle.fault_places.specs.Channels.{label}
use Rattle.fault_places.specs.Lines.{second_word, is_channel, is_previous, is_transaction, is_change, shorten}
use Rattle.fault_places.specs.HiddenValues.{without_hidden}
use Rattle.fault_places.specs.LogPlaces.{log_place_text}

-- ---- the channel, entry and change of a line

-- before the first channel
abbrev pub at_start : Standing
at_start = record { channels = 0; entries = 0; changes = 0; inside = false }

-- a line is that of a transaction with this GTID
abbrev pub is_named : List ℕ → List ℕ → Bool
is_named g line = is_transaction line && bytes_eq (second_word line) g

-- After a line: how many channels have begun, entries of this channel, and changes of this entry; and whether the entry has this GTID.
unfoldable pub after : List ℕ → Standing → List ℕ → Standing
after g s line =
    if is_channel line then record { channels = s.channels + 1; entries = 0; changes = 0; inside = false }
    else if is_transaction line then record { channels = s.channels; entries = s.entries + 1; changes = 0; inside = is_named g line }
    else if is_change line then record { channels = s.channels; entries = s.entries; changes = s.changes + 1; inside = s.inside }
    else s

-- the name of the channel that began last
abbrev pub channel_after : List ℕ → List ℕ → List ℕ
channel_after name line = if is_channel line then second_word line else name

-- ---- what is shown of a line

-- the number and the name of its channel
abbrev pub channel_text : List ℕ → Standing → List ℕ
channel_text name s = label (s.channels - 1) name

-- ` line <n>: ` and the line
abbrev pub line_text : ℕ → List ℕ → List ℕ
line_text n line = codes "line " ++ decimal n ++ codes ": " ++ shorten line ++ codes "\n"

-- the place of a transaction: its channel, its entry and its line
abbrev pub entry_text : List ℕ → List ℕ → Standing → ℕ → List ℕ
entry_text g name s n =
    codes "  " ++ g ++ codes ": " ++ channel_text name s ++ codes ", entry " ++ decimal s.entries ++ codes ", line " ++ decimal n ++ codes "\n"

-- a change without the values of the columns that these tables hide, with its place in its transaction
abbrev pub change_text : List Table → Standing → ℕ → List ℕ → List ℕ
change_text tables s n line = codes "    change " ++ decimal s.changes ++ codes ", " ++ line_text n (without_hidden tables line)

-- a change is one of those that are wanted
abbrev pub is_wanted : Wanted → ℕ → List ℕ → Bool
is_wanted Every place line = true
is_wanted (OfTable table) place line = bytes_eq (second_word line) table
is_wanted (Numbered number) place line = place == number
is_wanted Nothing place line = false

-- a transaction's place, and where a server's log has it, by the line before its own
abbrev pub named_text : List ℕ → List ℕ → List ℕ → Standing → ℕ → List ℕ
named_text g before name s n = entry_text g name s n ++ log_place_text before

-- for a transaction with this GTID its places, for its changes those that are wanted, and nothing for other lines
abbrev pub report_entry : List Table → List ℕ → Wanted → List ℕ → List ℕ → Standing → ℕ → List ℕ → List ℕ
report_entry tables g wanted before name s n line =
    if is_named g line then named_text g before name s n
    else if s.inside && (is_change line && is_wanted wanted s.changes line) then change_text tables s n line
    else []

-- the same for line n and those after it
abbrev pub report_entries : List Table → List ℕ → Wanted → List ℕ → List ℕ → Standing → ℕ → List (List ℕ) → List ℕ
report_entries tables g wanted before name s n [] = []
report_entries tables g wanted before name s n (line ∷ lines) =
    report_entry tables g wanted before name s n line ++ report_entries tables g wanted line (channel_after name line) (after g s line) (n + 1) lines

-- each transaction with this GTID, with those of its changes that are wanted
abbrev pub places_of : List Table → List ℕ → Wanted → List (List ℕ) → List ℕ
places_of tables g wanted lines = report_entries tables g wanted [] [] at_start 1 lines

-- each transaction with this GTID, without its changes
abbrev pub bare_places : List ℕ → List (List ℕ) → List ℕ
bare_places g lines = places_of [] g Nothing lines

-- ---- previous sets

-- the previous set of a journal, with its channel
abbrev pub report_previous : List ℕ → Standing → ℕ → List ℕ → List ℕ
report_previous name s n line = if is_previous line then codes "  " ++ channel_text name s ++ codes ", " ++ line_text n line else []

abbrev pub report_all_previous : List ℕ → Standing → ℕ → List (List ℕ) → List ℕ
report_all_previous name s n [] = []
report_all_previous name s n (line ∷ lines) = report_previous name s n line ++ report_all_previous (channel_after name line) (after [] s line) (n + 1) lines

-- the previous set of each journal
abbrev pub previous_sets : List (List ℕ) → List ℕ
previous_sets lines = report_all_previous [] at_start 1 lines
