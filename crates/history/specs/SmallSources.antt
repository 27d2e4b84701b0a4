-- A small world that meets the premises of the laws above: one source opens an account and changes it, another opens a second.
use Rattle.std.specs.Prelude.{◌≡◌, ℕ, pos, Bool, true, ◌||◌, List, [], ◌∷◌, Some}
use Rattle.std.specs.FinMap as map
use Rattle.std.specs.FinSet as set
use Rattle.gtid_text.specs.declared.Gtid.{Gtid}
use Rattle.gtid_text.specs.Gtids.{same_gtid}
use Rattle.row_images.specs.declared.value.Value.{Value}
use Rattle.row_images.specs.declared.value.Value.TheVariants.{Int}
use Rattle.rows.specs.declared.change.Change.TheVariants.{Insert, Update}
use Rattle.rows.specs.declared.change.Transaction.{Transaction}
use Rattle.rows.specs.declared.schema.Table.{Table}
use Rattle.rows.specs.Conflicts.{conflicts}
use Rattle.history.specs.Sources.{World, Entry, content, is_opened, in_order, IsSound, IsClosed}
use Rattle.history.specs.Commits.{IsCommitOrder}
use Rattle.history.specs.SmallWorld.{accounts, account, insertion, change_of, nth_of, opens_first, changes_first, opens_second}

abbrev pub small_history : List Entry
small_history = (nth_of 1 1, opens_first) ∷ (nth_of 1 2, changes_first) ∷ (nth_of 2 1, opens_second) ∷ []

abbrev pub small_sources : World
small_sources = record {
  schema = accounts ∷ [];
  opening_set = set.empty;
  opening_rows = map.empty;
  contents = map.from_sorted small_history;
}

-- the first transaction of each source
abbrev pub first_of_each : Gtid → Bool
first_of_each g = same_gtid g (nth_of 1 1) || same_gtid g (nth_of 2 1)

-- There is a sound world with two sources, of which one shares a key with itself, with a closed set that is neither
-- empty nor all, a set that is not closed, and two commit orders of all.
pub record SoundSourcesExist : Type 0 where
  pub sound : IsSound small_sources
  pub first : content small_sources (nth_of 1 1) ≡ Some opens_first
  pub changed : content small_sources (nth_of 1 2) ≡ Some changes_first
  pub second : content small_sources (nth_of 2 1) ≡ Some opens_second
  pub shared : conflicts small_sources.schema opens_first changes_first ≡ true
  pub closed : IsClosed small_sources first_of_each
  pub not_closed : ¬ (IsClosed small_sources (same_gtid (nth_of 1 2)))
  pub one_order : IsCommitOrder (in_order small_sources) (is_opened small_sources) (nth_of 1 1 ∷ nth_of 1 2 ∷ nth_of 2 1 ∷ [])
  pub other_order : IsCommitOrder (in_order small_sources) (is_opened small_sources) (nth_of 2 1 ∷ nth_of 1 1 ∷ nth_of 1 2 ∷ [])
