-- A small world that meets the premises of the laws above. Source 1 opens an account, and fails over to source 2, which changes
-- it and opens a second.
use Rattle.std.specs.Prelude.{◌≡◌, ℕ, pos, Bool, true, ◌||◌, List, [], ◌∷◌, Some}
use Rattle.std.specs.FinMap as map
use Rattle.std.specs.FinSet as set
use Rattle.gtid_text.specs.declared.Gtid.{Gtid}
use Rattle.gtid_text.specs.Gtids.{same_gtid}
use Rattle.row_images.specs.declared.value.Value.{Value}
use Rattle.row_images.specs.declared.value.Value.TheVariants.{Int}
use Rattle.rows.specs.declared.change.Change.TheVariants.{Insert, Update}
use Rattle.rows.specs.declared.change.Transaction.{Transaction}
use Rattle.rows.specs.declared.limits.Limits.TheVariants.{Narrow}
use Rattle.rows.specs.declared.schema.Table.{Table}
use Rattle.rows.specs.Conflicts.{conflicts}
use Rattle.history.specs.World.{OrderedWorld, Entry, content, is_opened, IsSound, IsClosed}
use Rattle.history.specs.Commits.{IsCommitOrder}

-- a table of two columns, the first of them its primary key
abbrev pub accounts : Table
accounts = record { name = 97 ∷ []; columns = 2; primary = 0 ∷ []; uniques = []; hidden = 0; limits = Narrow }

abbrev pub account : ℕ → ℕ → List Value
account id balance = Int (pos id) ∷ Int (pos balance) ∷ []

abbrev pub insertion : List Value → Transaction
insertion row = record { changes = Insert accounts.name row ∷ [] }

abbrev pub change_of : List Value → List Value → Transaction
change_of before after = record { changes = Update accounts.name before after ∷ [] }

-- the n-th transaction of a source
abbrev pub nth_of : ℕ → ℕ → Gtid
nth_of source n = record { source = source; number = n }

abbrev pub opens_first : Transaction
opens_first = insertion (account 1 10)

abbrev pub changes_first : Transaction
changes_first = change_of (account 1 10) (account 1 20)

abbrev pub opens_second : Transaction
opens_second = insertion (account 2 5)

abbrev pub small_order : List Entry
small_order = (nth_of 1 1, opens_first) ∷ (nth_of 2 1, changes_first) ∷ (nth_of 2 2, opens_second) ∷ []

abbrev pub small_world : OrderedWorld
small_world = record {
  schema = accounts ∷ [];
  opening_set = set.empty;
  opening_rows = map.empty;
  order = small_order;
}

-- the two that open an account
abbrev pub openings : Gtid → Bool
openings g = same_gtid g (nth_of 1 1) || same_gtid g (nth_of 2 2)

-- There is a sound world in which two sources share a key, with a closed set that is neither empty nor all, a set that is
-- not closed, and two commit orders of all. Numbers need not be ascending within a source where no key is shared.
pub record SoundWorldsExist : Type 0 where
  pub sound : IsSound small_world
  pub first : content small_world (nth_of 1 1) ≡ Some opens_first
  pub changed : content small_world (nth_of 2 1) ≡ Some changes_first
  pub second : content small_world (nth_of 2 2) ≡ Some opens_second
  pub shared : conflicts small_world.schema opens_first changes_first ≡ true
  pub closed : IsClosed small_world openings
  pub not_closed : ¬ (IsClosed small_world (same_gtid (nth_of 2 1)))
  pub one_order : IsCommitOrder small_world (is_opened small_world) (nth_of 1 1 ∷ nth_of 2 1 ∷ nth_of 2 2 ∷ [])
  pub other_order : IsCommitOrder small_world (is_opened small_world) (nth_of 2 2 ∷ nth_of 1 1 ∷ nth_of 2 1 ∷ [])
