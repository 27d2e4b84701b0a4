-- Histories joined to one order, an entry at a time.
use Rattle.std.specs.Prelude.{List, [], ◌∷◌, ◌++◌, if◌then◌else◌}
use Rattle.history.specs.World.{Entry}
use Rattle.history.specs.Histories.{History, has}

-- the entry at the end, if its GTID is not there
abbrev pub with_entry : List Entry → Entry → List Entry
with_entry order e = if has order e.0 then order else order ++ e ∷ []

abbrev pub append_new : List Entry → History → List Entry
append_new order [] = order
append_new order (e ∷ es) = append_new (with_entry order e) es

abbrev pub append_all_new : List Entry → List History → List Entry
append_all_new order [] = order
append_all_new order (h ∷ hs) = append_all_new (append_new order h) hs
