-- The row under a key, by the transactions of a set that touch it.
use Rattle.std.specs.Prelude.{Bool, if◌then◌else◌, List, [], ◌∷◌, Option, Some, None, nat_lt}
use Rattle.std.specs.FinMap.{get}
use Rattle.std.specs.List.{filter}
use Rattle.std.specs.Option.{unwrap_or}
use Rattle.gtid_text.specs.declared.Gtid.{Gtid}
use Rattle.row_images.specs.declared.value.Value.{Value}
use Rattle.rows.specs.declared.change.Key.{Key}
use Rattle.rows.specs.WriteSet.{touches, left_by}
use Rattle.history.specs.Sources.{World, Entry, entries_in}

-- of an entry and another, if there is one, the one with the greater number
abbrev pub later_of : Entry → Option Entry → Option Entry
later_of e None = Some e
later_of e (Some f) = if nat_lt f.0.number e.0.number then Some e else Some f

-- the entry with the greatest number
abbrev pub latest : List Entry → Option Entry
latest [] = None
latest (e ∷ es) = later_of e (latest es)

-- what an entry's last change that touches a key leaves there; if there is no entry, the opening row
abbrev pub left_or_opening : World → Key → Option Entry → Option (List Value)
left_or_opening world k None = get world.opening_rows k
left_or_opening world k (Some e) = unwrap_or (left_by world.schema e.1 k) None

-- The row under a key by its last writer: what the transaction of the set that touches the key, and has the greatest number of those that
-- do, leaves there. If none touches the key, it is the opening row.
abbrev pub last_writer : World → (Gtid → Bool) → Key → Option (List Value)
last_writer world S k = left_or_opening world k (latest (filter (λ e. touches world.schema e.1 k) (entries_in world S)))
