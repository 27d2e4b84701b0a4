-- When a set is too large, and what a set is kept as.
use Rattle.std.specs.Prelude.{◌≡◌, ℕ, ◌<◌, ◌≤◌, true, Result, Ok, Err, List, length}
use Rattle.gtid_text.specs.declared.Span.{Span}
use Rattle.interval_pool.specs.declared.fault.PoolFault.{PoolFault}
use Rattle.interval_pool.specs.declared.fault.PoolFault.TheVariants as pools
use Rattle.gtid_set.specs.declared.fault.SetFault.{SetFault}
use Rattle.gtid_set.specs.declared.fault.SetFault.TheVariants.{Memory, PoolFull, SourcesFull}
use Rattle.gtid_set.specs.Sets.{Gtids, source_count, most_sources}
use Rattle.gtid_set.specs.Runs.{runs}
use Rattle.gtid_set.specs.Spans.{set_of, is_merged}

-- the fault of a pool as one of a set
abbrev pub fault_of : PoolFault → SetFault
fault_of pools.Memory = Memory
fault_of pools.Full = PoolFull

-- the most intervals that a set may have
abbrev pub most_intervals : ℕ
most_intervals = 4294967294

-- how many intervals a set has: its longest runs
abbrev pub interval_count : Gtids → ℕ
interval_count s = length (runs s)

abbrev pub HasManySources : Gtids → Type 0
HasManySources s = most_sources < source_count s

abbrev pub HasManyIntervals : Gtids → Type 0
HasManyIntervals s = most_intervals < interval_count s

-- Why a call that makes a set fails: out of memory, or the set would have too many sources, or too many intervals.
abbrev pub IsMemoryOr : Type 0 → Type 0 → SetFault → Type 0
IsMemoryOr ManySources ManyIntervals Memory = Unit {0}
IsMemoryOr ManySources ManyIntervals PoolFull = ManyIntervals
IsMemoryOr ManySources ManyIntervals SourcesFull = ManySources

-- the same of the set that would be made
abbrev pub IsFaultOf : SetFault → Gtids → Type 0
IsFaultOf f s = IsMemoryOr (HasManySources s) (HasManyIntervals s) f

-- A call is refused for the sources of the set that it would make if and only if they are too many, and else for its intervals if and only
-- if they are too many.
abbrev pub IsFullExactly : {T : Type 0} → Result T SetFault → Gtids → Type 0
IsFullExactly (Ok _) s = (source_count s ≤ most_sources) × (interval_count s ≤ most_intervals)
IsFullExactly (Err Memory) s = source_count s ≤ most_sources
IsFullExactly (Err PoolFull) s = (source_count s ≤ most_sources) × HasManyIntervals s
IsFullExactly (Err SourcesFull) s = HasManySources s

-- the same of a set with no source that another set has not
abbrev pub IsCrowdedExactly : {T : Type 0} → Result T SetFault → Gtids → Type 0
IsCrowdedExactly (Ok _) s = interval_count s ≤ most_intervals
IsCrowdedExactly (Err Memory) s = Unit {0}
IsCrowdedExactly (Err PoolFull) s = HasManyIntervals s
IsCrowdedExactly (Err SourcesFull) s = ⊥

-- a set is kept as merged spans, not too many, of not too many sources
pub record IsKept (spans : List Span) : Type 0 where
  pub merged : is_merged spans ≡ true
  pub fits : source_count (set_of spans) ≤ most_sources
  pub small : length spans ≤ most_intervals
