-- Runs that serve journals whole are faithful.
use Rattle.std.specs.Prelude.{◌≡◌, ℕ, ◌==◌, Bool, true, false, not, List, [], ◌⊎◌}
use Rattle.std.specs.List.{list_all}
use Rattle.journal.specs.Journals.{JournalValue}
use Rattle.replica_core.specs.declared.event.Event.{Event}
use Rattle.replica_core.specs.declared.event.Event.TheVariants.{Position}
use Rattle.replica_core.specs.State.{State, Site}
use Rattle.history.specs.World.{OrderedWorld}
use Rattle.history.specs.Faithful.{IsFaithful}
use Rattle.convergence.specs.Faithful.{IsFaithfulFrom}
use Rattle.convergence.specs.Served.{NoLocalCommits, received_on, WasServed}

abbrev pub is_position : ℕ → Event → Bool
is_position c (Position d) = d == c
is_position c event = false

-- the channel is served a journal whole, and is not positioned again
pub record WasServedOnce (site : Site) (s : State) (events : List Event) (c : ℕ) (journal : JournalValue) : Type 0 where
  pub served : WasServed site s events c journal
  pub once : list_all (λ e. not (is_position c e)) served.later ≡ true

-- A run without local commits in which each channel is served a faithful journal whole, or receives nothing, is faithful.
abbrev pub ServedIsFaithful : Type 0
ServedIsFaithful = (world : OrderedWorld) (site : Site) (s : State) (events : List Event) → NoLocalCommits site s events
    → ((c : ℕ) → ((journal : JournalValue) × IsFaithful world journal × WasServedOnce site s events c journal) ⊎ (received_on c site s events ≡ []))
    → IsFaithfulFrom world site s (λ c. []) events
