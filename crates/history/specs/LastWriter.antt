-- The row under a key, by the transactions of a set that touch it.
use Rattle.std.specs.Prelude.{Bool, List, [], ◌∷◌, Option, Some, None}
use Rattle.std.specs.FinMap.{get}
use Rattle.std.specs.List.{filter}
use Rattle.std.specs.Option.{unwrap_or}
use Rattle.gtid_text.specs.declared.Gtid.{Gtid}
use Rattle.row_images.specs.declared.value.Value.{Value}
use Rattle.rows.specs.declared.change.Key.{Key}
use Rattle.rows.specs.WriteSet.{touches, left_by}
use Rattle.history.specs.World.{OrderedWorld, Entry, entries_in}

-- the entry that is given if there is none
abbrev pub or_this : Option Entry → Entry → Entry
or_this None e = e
or_this (Some f) e = f

-- the last entry of a list
abbrev pub last : List Entry → Option Entry
last [] = None
last (e ∷ es) = Some (or_this (last es) e)

-- what an entry's last change that touches a key leaves there; if there is no entry, the opening row
abbrev pub left_or_opening : OrderedWorld → Key → Option Entry → Option (List Value)
left_or_opening world k None = get world.opening_rows k
left_or_opening world k (Some e) = unwrap_or (left_by world.schema e.1 k) None

-- The row under a key by its last writer: what the last transaction of the set that touches the key leaves there, by the world's order. If
-- none touches the key, it is the opening row.
abbrev pub last_writer : OrderedWorld → (Gtid → Bool) → Key → Option (List Value)
last_writer world S k = left_or_opening world k (last (filter (λ e. touches world.schema e.1 k) (entries_in world S)))
