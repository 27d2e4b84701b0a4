-- The histories of journals.
use Rattle.std.specs.Prelude.{◌≡◌, true, if◌then◌else◌, List, [], ◌∷◌}
use Rattle.std.specs.List.{AllByRecursion}
use Rattle.std.specs.FinSet as set
use Rattle.gtid_set.specs.Sets.{Gtids}
use Rattle.rows.specs.declared.change.Key.{Key}
use Rattle.rows.specs.declared.schema.Table.{Table}
use Rattle.rows.specs.Apply.{Rows}
use Rattle.journal.specs.declared.Entry.{Entry}
use Rattle.journal.specs.Journals.{JournalValue, AreNew}
use Rattle.history.specs.World.{OrderedWorld, AreGtidsSound}
use Rattle.history.specs.Faithful.{IsFaithful}
use Rattle.history.specs.Extension.{IsLinearExtension}
use Rattle.history.specs.Histories.{History, IsAmong, order_of, world_of_histories}
use Rattle.history.specs.HistoryLaws as laws
use Rattle.history.specs.Chains.{chain, IsFront, HaveOneContent}

-- what a list of entries has beyond the opening set
abbrev pub beyond_opening : Gtids → List Entry → History
beyond_opening opened [] = []
beyond_opening opened (e ∷ es) = if set.contains opened e.gtid then beyond_opening opened es else (e.gtid, e.txn) ∷ beyond_opening opened es

abbrev pub history_of : Gtids → JournalValue → History
history_of opened journal = beyond_opening opened journal.entries

abbrev pub histories_of : Gtids → List JournalValue → List History
histories_of opened [] = []
histories_of opened (j ∷ js) = history_of opened j ∷ histories_of opened js

-- what is required of a journal here: its previous set is within the opening set, and no GTID occurs twice
pub record IsOpen (opened : Gtids) (journal : JournalValue) : Type 0 where
  pub within : set.is_subset journal.previous opened ≡ true
  pub new : AreNew journal.previous journal.entries

abbrev pub JournalsAreFaithful : Type 0
JournalsAreFaithful = (world : OrderedWorld) (journal : JournalValue) → AreGtidsSound world → IsOpen world.opening_set journal
    → IsLinearExtension world (history_of world.opening_set journal) → IsFaithful world journal

-- the audit by chains finds nothing
abbrev pub HaveChains : List Table → List History → Type 0
HaveChains schema hs = (h : History) → IsAmong h hs → (k : Key) → IsFront (chain schema k h) (chain schema k (order_of hs))

abbrev pub ChainsAreEnough : Type 0
ChainsAreEnough = (schema : List Table) (opened : Gtids) (rows : Rows) (js : List JournalValue)
    → AllByRecursion (IsOpen opened) js → AllByRecursion (laws.AreNew opened) (histories_of opened js)
    → HaveOneContent (histories_of opened js) → HaveChains schema (histories_of opened js)
    → AllByRecursion (IsFaithful (world_of_histories schema opened rows (histories_of opened js))) js
