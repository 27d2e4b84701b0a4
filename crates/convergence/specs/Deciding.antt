-- Runs that are served the journals of a world, and what they show about it.
use Rattle.std.specs.Prelude.{◌≡◌, ℕ, ◌↔◌, ◌⊎◌, true, List, [], ◌∷◌, Some, Ok, IsOk, IsSome, slice_get}
use Rattle.std.specs.List.{AllByRecursion}
use Rattle.std.specs.FinSet as set
use Rattle.gtid_text.specs.declared.Gtid.{Gtid}
use Rattle.gtid_set.specs.Sets.{Gtids}
use Rattle.journal.specs.Journals.{JournalValue, whole}
use Rattle.replica_core.specs.declared.event.Event.{Event}
use Rattle.replica_core.specs.State.{State, Site}
use Rattle.replica_core.specs.Machine.{after}
use Rattle.replica_core.specs.Draining.{AreStoppedOrDone}
use Rattle.history.specs.World.{OrderedWorld, content, apply_all, rows_of, AreGtidsSound}
use Rattle.history.specs.Join.{join}
use Rattle.history.specs.Faithful.{IsFaithful}
use Rattle.convergence.specs.Faithful.{start_with}
use Rattle.convergence.specs.Served.{IsDrained, NoLocalCommits, received_on}
use Rattle.convergence.specs.Whole.{WasServedOnce}

-- the channel is served one of the journals whole, once
pub record ServesOneOf (site : Site) (s : State) (journals : List JournalValue) (events : List Event) (c : ℕ) : Type 0 where
  pub number : ℕ
  pub journal : JournalValue
  pub listed : slice_get journals number ≡ Some journal
  pub served : WasServedOnce site s events c journal

-- The run serves each channel one of the journals whole, once, or nothing, and each journal on some channel or on several. Nothing
-- commits here.
pub record ServesAll (site : Site) (s : State) (journals : List JournalValue) (events : List Event) : Type 0 where
  pub no_local : NoLocalCommits site s events
  pub each_channel : (c : ℕ) → ServesOneOf site s journals events c ⊎ (received_on c site s events ≡ [])
  pub each_journal : (i : ℕ) (journal : JournalValue) → slice_get journals i ≡ Some journal → (c : ℕ) × WasServedOnce site s events c journal

-- one of the journals has a record of this GTID
pub record IsRecorded (journals : List JournalValue) (g : Gtid) : Type 0 where
  pub number : ℕ
  pub journal : JournalValue
  pub listed : slice_get journals number ≡ Some journal
  pub recorded : set.contains (whole journal) g ≡ true

-- The journals are faithful to the world, and together they have a record of all that was committed in it.
pub record AreJournalsOf (world : OrderedWorld) (journals : List JournalValue) : Type 0 where
  pub gtids : AreGtidsSound world
  pub faithful : AllByRecursion (IsFaithful world) journals
  pub recorded : (g : Gtid) → IsSome (content world g) → IsRecorded journals g

-- a replica on which the opening set was executed, with the opening rows
abbrev pub start_of : OrderedWorld → State
start_of world = start_with world.opening_set world.opening_rows

-- A run from the opening that was served each journal whole on some channel, and whose every channel is stopped or done, has executed all
-- that it received if and only if all that was committed applies, in the world's order.
abbrev pub ServedRunsDecide : Type 0
ServedRunsDecide = (world : OrderedWorld) (site : Site) (journals : List JournalValue) (events : List Event)
    → site.schema ≡ world.schema → AreJournalsOf world journals → ServesAll site (start_of world) journals events
    → AreStoppedOrDone (after site (start_of world) events)
    → IsDrained (after site (start_of world) events) ↔ IsOk (apply_all world.schema world.order world.opening_rows)

-- this set with all that the journals have a record of
abbrev pub all_of : Gtids → List JournalValue → Gtids
all_of opened [] = opened
all_of opened (j ∷ journals) = join (whole j) (all_of opened journals)

-- the executed set and the rows of a state are those of all journals together
pub record HoldsAll (world : OrderedWorld) (journals : List JournalValue) (s : State) : Type 0 where
  pub executed : s.executed ≡ all_of world.opening_set journals
  pub rows_are : rows_of world (set.contains (all_of world.opening_set journals)) ≡ Ok s.rows

-- If it has executed all that it received, it holds what all journals together denote.
abbrev pub ServedRunsHoldAll : Type 0
ServedRunsHoldAll = (world : OrderedWorld) (site : Site) (journals : List JournalValue) (events : List Event)
    → site.schema ≡ world.schema → AreJournalsOf world journals → ServesAll site (start_of world) journals events
    → IsDrained (after site (start_of world) events) → HoldsAll world journals (after site (start_of world) events)
