-- What is in the bodies of events. None: the body is not in the form of its kind.
use Rattle.std.specs.Prelude.{ℕ, ◌+◌, ◌-◌, ◌==◌, ◌&&◌, nat_lt, List, length, drop, slice_index, Option, Some, None, if◌then◌else◌}
use Rattle.binlog_frames.specs.Reading.{short_at}
use Rattle.binlog_events.specs.Numbers.{part, low_number}
use Rattle.binlog_events.specs.declared.bodies.NamedTable.{NamedTable}

-- what is behind so many bytes
unfoldable pub behind : ℕ → List ℕ → Option (List ℕ)
behind n body = if nat_lt (length body) n then None else Some (drop n body)

-- what is behind so many bytes, of which the last one is 0
unfoldable pub behind_zero : ℕ → List ℕ → Option (List ℕ)
behind_zero n body = if nat_lt (length body) n then None else if slice_index body (n - 1) == 0 then Some (drop n body) else None

-- QUERY: 13 bytes, then the session's variables, the database's name, a 0, and the statement. The length of the name is at 8, that of the
-- variables at 11.
unfoldable pub query_text : List ℕ → Option (List ℕ)
query_text body = if nat_lt (length body) 13 then None else behind_zero (14 + (short_at body 11 + slice_index body 8)) body

-- ROTATE: the offset from which the next file is read, of 8 bytes, and its name
abbrev pub next_file : List ℕ → Option (List ℕ)
next_file body = behind 8 body

-- ROWS_QUERY: a byte that was the length once, and the statement
abbrev pub rows_text : List ℕ → Option (List ℕ)
rows_text body = behind 1 body

-- a table, and the id by which rows events name it
pub record Mapped : Type 0 where
  pub id : ℕ
  pub database : List ℕ
  pub table : List ℕ

-- TABLE_MAP: the id of 6 bytes, 2 bytes of flags, and two names, each with its length of one byte before it and a 0 behind it
unfoldable pub mapped_names : ℕ → ℕ → List ℕ → Option Mapped
mapped_names d t body =
    if nat_lt (length body) (12 + (d + t)) then None
    else if (slice_index body (9 + d) == 0) && (slice_index body (11 + (d + t)) == 0)
    then Some (record { id = low_number (part 0 6 body); database = part 9 d body; table = part (11 + d) t body })
    else None

unfoldable pub mapped_database : ℕ → List ℕ → Option Mapped
mapped_database d body = if nat_lt (length body) (11 + d) then None else mapped_names d (slice_index body (10 + d)) body

unfoldable pub mapped : List ℕ → Option Mapped
mapped body = if nat_lt (length body) 9 then None else mapped_database (slice_index body 8) body

-- what the code gives
abbrev pub mapped_table : NamedTable → Mapped
mapped_table t = record { id = t.id; database = t.database.now; table = t.table.now }

-- a rows event begins with the id of its table, of 6 bytes, and 2 bytes of flags
unfoldable pub rows_id : List ℕ → Option ℕ
rows_id body = if nat_lt (length body) 8 then None else Some (low_number (part 0 6 body))
