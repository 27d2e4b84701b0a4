-- The line of an event: its offset, its kind, its length, and what it says. The lines are our own.
use Rattle.std.specs.Prelude.{ℕ, ◌-◌, ◌==◌, ◌||◌, ◌&&◌, nat_lt, nat_le, Bool, List, [], ◌∷◌, ◌++◌, length, slice_index, Option, Some, None, codes, decimal, if◌then◌else◌}
use Rattle.std.specs.List.{flat_map, before_first}
use Rattle.gtid_text.specs.declared.Gtid.{Gtid}
use Rattle.gtid_text.specs.Canonical.{gtid_text, source_text}
use Rattle.binlog_frames.specs.Placed.{Placed}
use Rattle.binlog_events.specs.Texts.{shown_byte, escaped, table_name, malformed, text_said}
use Rattle.binlog_events.specs.Kinds.{kind_text}
use Rattle.binlog_events.specs.Numbers.{part}
use Rattle.binlog_events.specs.Bodies.{query_text, next_file, rows_text, Mapped, mapped, rows_id}
use Rattle.binlog_events.specs.Gtids.{gtid_of, Tagged, tagged_of}
use Rattle.binlog_rows.specs.declared.columns.MappedColumn.{MappedColumn}
use Rattle.binlog_rows.specs.Rows.{row_count}
use Rattle.binlog_events.specs.Previous.{previous_text, previous_said}
use Rattle.binlog_events.specs.Names.{Described, Names}

-- FORMAT_DESCRIPTION: the server's version, and what checksums the events behind it have
abbrev pub checksums_text : ℕ → List ℕ
checksums_text algorithm = if algorithm == 1 then codes " crc32" else codes " no-checksums"

unfoldable pub format_said : List ℕ → List ℕ
format_said body =
    if nat_lt (length body) 58 then malformed
    else 32 ∷ (flat_map shown_byte (before_first (λ b. b == 0) (part 2 50 body)) ++ checksums_text (slice_index body (length body - 1)))

-- XID: 8 bytes
abbrev pub xid_said : List ℕ → List ℕ
xid_said body = if length body == 8 then [] else malformed

abbrev pub mapped_said : Option Mapped → List ℕ
mapped_said None = malformed
mapped_said (Some m) = 32 ∷ table_name m.database m.table

abbrev pub gtid_said : Option Gtid → List ℕ
gtid_said None = malformed
gtid_said (Some g) = 32 ∷ gtid_text g

abbrev pub tagged_text : Tagged → List ℕ
tagged_text g = source_text g.source ++ 58 ∷ (escaped g.tag ++ 58 ∷ decimal g.number)

abbrev pub tagged_said : Option Tagged → List ℕ
tagged_said None = malformed
tagged_said (Some g) = 32 ∷ tagged_text g

-- how many rows there are, where the body has rows of these columns
abbrev pub count_said : Option ℕ → List ℕ
count_said None = malformed
count_said (Some count) = 32 ∷ decimal count

abbrev pub counted : ℕ → List ℕ → Option (List MappedColumn) → Option ℕ
counted kind body None = None
counted kind body (Some columns) = row_count kind columns body

-- the table's name and the number of rows, which of PARTIAL_UPDATE_ROWS is not told; `-` where no event has mapped the id
abbrev pub table_said : ℕ → List ℕ → Option Described → List ℕ
table_said kind body None = codes " -"
table_said kind body (Some t) = 32 ∷ (t.name ++ (if kind == 39 then [] else count_said (counted kind body t.columns)))

abbrev pub rows_said : Names → ℕ → List ℕ → Option ℕ → List ℕ
rows_said names kind body None = malformed
rows_said names kind body (Some id) = table_said kind body (names id)

-- rows events of version 1, of version 2, and PARTIAL_UPDATE_ROWS
abbrev pub is_rows : ℕ → Bool
is_rows kind = (nat_le 23 kind && nat_le kind 25) || ((nat_le 30 kind && nat_le kind 32) || (kind == 39))

-- what the body of a kind says, where these tables are mapped
unfoldable pub said : Names → ℕ → List ℕ → List ℕ
said names kind body =
    if kind == 2 then text_said (query_text body)
    else if kind == 4 then text_said (next_file body)
    else if kind == 15 then format_said body
    else if kind == 16 then xid_said body
    else if kind == 19 then mapped_said (mapped body)
    else if kind == 29 then text_said (rows_text body)
    else if kind == 33 then gtid_said (gtid_of body)
    else if kind == 35 then previous_said (previous_text body)
    else if kind == 42 then tagged_said (tagged_of body)
    else if is_rows kind then rows_said names kind body (rows_id body)
    else []

-- the offset, the kind and the length
abbrev pub head_text : ℕ → ℕ → ℕ → List ℕ
head_text offset kind len = decimal offset ++ 32 ∷ (kind_text kind ++ 32 ∷ decimal len)

abbrev pub event_line : Names → Placed → List ℕ
event_line names p = head_text p.offset p.event.kind p.len ++ (said names p.event.kind p.event.body ++ 10 ∷ [])
