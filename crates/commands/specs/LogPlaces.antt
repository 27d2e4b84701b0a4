-- What is known of a log at one of its lines, by the lines before it.
use Rattle.std.specs.Prelude.{ℕ, zero, suc, ◌+◌, ◌-◌, ◌==◌, ◌&&◌, Bool, false, List, [], ◌∷◌, ◌++◌, Option, Some, None, option_map, codes, if◌then◌else◌}
use Rattle.std.specs.Option.{option_or, option_map_or, option_and_then}
use Rattle.log_transactions.specs.Tables.{table_name}
use Rattle.binlog_text.specs.Lines.{Content, OfTable, OfColumn, OfGtid, begins, begins_with_digit}
use Rattle.binlog_text.specs.Reading.{line_of}
use Rattle.binlog_text.specs.Tokens.{after_prefix, cut_at, ◌>>=◌}
use Rattle.fault_places.specs.Lines.{is_channel, shorten}
use Rattle.fault_places.specs.Places.{line_text}
use Rattle.commands.specs.declared.log_places.LogPlace.{LogPlace}

-- a line, and what is known at it: the name of the table that was mapped last and how many of its columns came, the GTID of the last transaction,
-- the end of the last event in its file, and the name of the file
pub record Place : Type 0 where
  pub line : List ℕ
  pub table : Option (List ℕ)
  pub columns : ℕ
  pub gtid : Option (List ℕ)
  pub end_log_pos : Option (List ℕ)
  pub file : Option (List ℕ)

abbrev pub place_of : LogPlace → Place
place_of p = record {
  line = p.line.now;
  table = option_and_then (λ x. table_name x.0.now x.1.now) p.table;
  columns = p.columns;
  gtid = option_map (λ x. x.now) p.gtid;
  end_log_pos = option_map (λ x. x.now) p.end_log_pos;
  file = option_map (λ x. x.now) p.file;
}

-- ---- what a line has

-- what comes before the first place of a text, or all
abbrev pub before_text : List ℕ → List ℕ → List ℕ
before_text text [] = []
before_text text (b ∷ bs) = if begins text (b ∷ bs) then [] else b ∷ before_text text bs

-- what follows the first place of a text
abbrev pub after_text : List ℕ → List ℕ → Option (List ℕ)
after_text text [] = None
after_text text (b ∷ bs) = option_or (after_prefix text (b ∷ bs)) (after_text text bs)

-- the head of an event begins with `#` and a digit
abbrev pub is_head : List ℕ → Bool
is_head [] = false
is_head (b ∷ bs) = (b == 35) && begins_with_digit bs

-- the GTID that a transaction is given
abbrev pub gtid_in : Option Content → Option (List ℕ)
gtid_in (Some (OfGtid gtid)) = Some gtid
gtid_in _ = None

-- where an event ends in its file
abbrev pub end_log_pos_of : List ℕ → Option (List ℕ)
end_log_pos_of head = do
  rest ← after_text (codes " end_log_pos ") head
  parts ← cut_at 32 rest
  Some parts.0

abbrev pub end_log_pos_in : List ℕ → Option (List ℕ)
end_log_pos_in line = if is_head line then end_log_pos_of line else None

-- the file to which a rotation leads
abbrev pub file_of : List ℕ → Option (List ℕ)
file_of head = do
  parts ← cut_at 9 head
  rest ← after_prefix (codes "Rotate to ") parts.1
  Some (before_text (codes "  pos: ") rest)

abbrev pub file_in : List ℕ → Option (List ℕ)
file_in line = if is_head line then file_of line else None

-- ---- what is known

-- at the start of a log
abbrev pub at_start : List ℕ → Place
at_start line = record { line = line; table = None; columns = 0; gtid = None; end_log_pos = None; file = None }

-- At a line: its own GTID and the end of its own event, if it has them. A log starts at the line of its channel.
abbrev pub at_line : Place → List ℕ → Place
at_line place line =
    if is_channel line then at_start line
    else record place { line = line; gtid = option_or (gtid_in (line_of line)) place.gtid; end_log_pos = option_or (end_log_pos_in line) place.end_log_pos }

-- After a line with this content: the table that it maps, or one column more.
abbrev pub after_columns : Place → Option Content → Place
after_columns place (Some (OfTable database table)) = record place { table = table_name database table; columns = 0 }
after_columns place (Some (OfColumn c)) = record place { columns = place.columns + 1 }
after_columns place _ = place

-- after a line: also the file to which it leads
abbrev pub after_line : Place → Place
after_line place = record (after_columns place (line_of place.line)) { file = option_or (file_in place.line) place.file }

-- the first line of a text
abbrev pub first_line : List ℕ → List ℕ
first_line text = option_map_or (λ parts. parts.0) (cut_at 10 text) text

-- at the line after n others, or at the last line, if there are fewer
abbrev pub place_from : Place → ℕ → List ℕ → Place
place_from place zero text = at_line place (first_line text)
place_from place (suc n) text = option_map_or (λ parts. place_from (after_line (at_line place parts.0)) n parts.1) (cut_at 10 text) (at_line place text)

-- at line n of a text, counted from 1
abbrev pub place_at : ℕ → List ℕ → Place
place_at n text = place_from (at_start []) (n - 1) text

-- ---- how it is shown

-- what is known, in a line of its own
abbrev pub known_text : List ℕ → Option (List ℕ) → List ℕ
known_text name None = []
known_text name (Some text) = codes "  " ++ (name ++ 32 ∷ (shorten text ++ 10 ∷ []))

-- A line with its number, and what is known at it: the GTID of the last transaction, the end of the last event in its file, and the file.
abbrev pub place_text : ℕ → Place → List ℕ
place_text n place =
    codes "  "
    ++ (line_text n place.line
    ++ (known_text (codes "transaction") place.gtid ++ (known_text (codes "end_log_pos") place.end_log_pos ++ known_text (codes "file") place.file)))
