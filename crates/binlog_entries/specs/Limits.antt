-- Which limit of a journal, by version 3 of its format, an entry passes.
use Rattle.std.specs.Prelude.{ℕ, ◌+◌, ◌&&◌, nat_le, List, [], ◌∷◌, length, Option, Some, None, option_map, if◌then◌else◌}
use Rattle.journal.specs.declared.Entry.{Entry}
use Rattle.journal.specs.Writing.{is_value_writable}
use Rattle.row_images.specs.declared.value.Value.{Value}
use Rattle.rows.specs.declared.change.Change.{Change}
use Rattle.rows.specs.declared.change.Change.TheVariants as changes
use Rattle.rows.specs.declared.limits.Limits.TheVariants.{Wide}
use Rattle.binlog_entries.specs.declared.limits.Limit.{Limit}
use Rattle.binlog_entries.specs.declared.limits.Limit.TheVariants as limits

-- the column of the first value that has too many bytes, of an image from this column on
abbrev pub first_long : ℕ → List Value → Option ℕ
first_long column [] = None
first_long column (v ∷ vs) = if is_value_writable Wide v then first_long (column + 1) vs else Some column

-- an image of this table has too many columns, or none, or a value of too many bytes
abbrev pub image_limit : List ℕ → List Value → Option Limit
image_limit table image =
    if nat_le 1 (length image) && nat_le (length image) 4096 then option_map (limits.Bytes table) (first_long 0 image)
    else Some (limits.Columns table)

-- the first of these
abbrev pub or_else : Option Limit → Option Limit → Option Limit
or_else None second = second
or_else (Some limit) second = Some limit

abbrev pub change_limit : Change → Option Limit
change_limit (changes.Insert table after) = image_limit table after
change_limit (changes.Delete table before) = image_limit table before
change_limit (changes.Update table before after) = or_else (image_limit table before) (image_limit table after)

abbrev pub changes_limit : List Change → Option Limit
changes_limit [] = None
changes_limit (c ∷ cs) = or_else (change_limit c) (changes_limit cs)

-- the limit that an entry passes: the number of its changes, or the first that one of them does
abbrev pub limit_of : Entry → Option Limit
limit_of e = if nat_le (length e.txn.changes) 4294967294 then changes_limit e.txn.changes else Some limits.Changes
