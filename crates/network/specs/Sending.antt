-- What a channel receives next from a journal that grows at its end and is purged from its beginning.
use Rattle.std.specs.Prelude.{◌≡◌, Bool, true, not, find, List, [], ◌∷◌, ◌++◌, ◌⊎◌, Some}
use Rattle.std.specs.List.{filter, list_any}
use Rattle.std.specs.FinSet as set
use Rattle.gtid_text.specs.declared.Gtid.{Gtid}
use Rattle.gtid_text.specs.Gtids.{same_gtid}
use Rattle.gtid_set.specs.Sets.{Gtids}
use Rattle.journal.specs.declared.Entry.{Entry}
use Rattle.journal.specs.Journals.{AreNew}
use Rattle.auto_position.specs.Sending.{is_wanted}

-- an entry of this GTID is among these
abbrev pub is_entry : List Entry → Gtid → Bool
is_entry entries g = list_any (λ (e : Entry). same_gtid g e.gtid) entries

-- A journal's whole history is its purged entries with those that are left after them. A channel asked with a set, and has
-- received a prefix of what is sent of that history. What it has, by the set or by that prefix, has all purged entries.
-- Then the first entry left that it has not is the next of what is sent: the prefix with it is a prefix.
abbrev pub NextIsSent : Type 0
NextIsSent = (asked : Gtids) (since rest purged left : List Entry) (come : Gtid → Bool) (e : Entry)
    → AreNew set.empty (purged ++ left)
    → filter (is_wanted asked) (purged ++ left) ≡ since ++ rest
    → ((g : Gtid) → come g ≡ true → (set.contains asked g ≡ true) ⊎ (is_entry since g ≡ true))
    → ((g : Gtid) → set.contains asked g ≡ true → come g ≡ true)
    → ((g : Gtid) → is_entry since g ≡ true → come g ≡ true)
    → ((g : Gtid) → is_entry purged g ≡ true → come g ≡ true)
    → find (λ (x : Entry). not (come x.gtid)) left ≡ Some e
    → (more : List Entry) × (filter (is_wanted asked) (purged ++ left) ≡ (since ++ e ∷ []) ++ more)
