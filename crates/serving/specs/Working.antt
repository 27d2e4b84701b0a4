-- What one seat leaves of channels.
use Rattle.std.specs.Prelude.{ℕ, ◌+◌}
use Rattle.replica_core.specs.State.{State}
use Rattle.replica_core.specs.Draining.{NothingIsOwned, IsDoneBelow, Follows}

-- nothing is owned again, what is executed or stopped stays so, and a channel is stopped or done below a place
pub record Leaves (c n : ℕ) (s t : State) : Type 0 where
  pub rests : NothingIsOwned t
  pub follows : Follows s t
  pub done : IsDoneBelow n c t

-- one more place is done, if nothing is owned
abbrev pub Settles : ℕ → ℕ → State → State → Type 0
Settles c p s t = NothingIsOwned s → IsDoneBelow p c s → Leaves c (p + 1) s t

-- this many places are done, if nothing is owned
abbrev pub Finishes : ℕ → ℕ → State → State → Type 0
Finishes c n s t = NothingIsOwned s → Leaves c n s t
