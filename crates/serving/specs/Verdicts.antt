-- What the audit of a bundle finds, and what its journals result in.
use Rattle.std.specs.Prelude.{◌≡◌, ℕ, Bool, true, false, List, map, take, length, Option, None, Some, if◌then◌else◌}
use Rattle.journal.specs.Journals.{JournalValue}
use Rattle.apply_channel.specs.Channels.{ChannelValue}
use Rattle.replica_core.specs.State.{State, Replica}
use Rattle.history.specs.Sources.{World}
use Rattle.world.specs.Audit.{world_of, verdict, verdict_of_keys}
use Rattle.world.specs.declared.verdict.Verdict.{Verdict}
use Rattle.world.specs.declared.verdict.Verdict.TheVariants.{Sound}
use Rattle.history.specs.World as ordered
use Rattle.world.specs.AuditInOrder as in_order
use Rattle.world.specs.MeaningInOrder.{joined_world}
use Rattle.convergence.specs.Deciding as runs
use Rattle.convergence.specs.Auditing.{HoldsAllOver}
use Rattle.txn_journal.specs.BundleStates.{BundleValue}
use Rattle.txn_journal.specs.Assumptions.{lacks_rows}
use Rattle.txn_journal.specs.declared.bundle.BundleChannel.{BundleChannel}
use Rattle.serving.specs.declared.order.Order.{Order}
use Rattle.serving.specs.declared.order.Order.TheVariants.{BySource, ByConflict}
use Rattle.serving.specs.declared.outcome.StateOrVerdict.{StateOrVerdict}
use Rattle.serving.specs.declared.outcome.StateOrVerdict.TheVariants as found

abbrev pub is_sound : Verdict → Bool
is_sound Sound = true
is_sound _ = false

-- the world of the journals over the opening rows and the opening set
abbrev pub world_over : BundleValue → World
world_over b = world_of b.start.schema b.opened b.start.rows b.journals

-- the world of the joined order of the histories of the journals
abbrev pub joined_over : BundleValue → ordered.OrderedWorld
joined_over b = joined_world b.start.schema b.opened b.start.rows b.journals

-- the verdict of the audit that asks for this order
abbrev pub verdict_by : Order → World → List JournalValue → Verdict
verdict_by BySource world journals = verdict world journals
verdict_by ByConflict world journals = in_order.verdict_in_order world journals

-- the verdict of that audit without the application of transactions
abbrev pub keys_by : Order → World → List JournalValue → Verdict
keys_by BySource world journals = verdict_of_keys world journals
keys_by ByConflict world journals = in_order.verdict_of_keys_in_order world journals

abbrev pub verdict_over : Order → BundleValue → Verdict
verdict_over order b = verdict_by order (world_over b) b.journals

abbrev pub keys_over : Order → BundleValue → Verdict
keys_over order b = keys_by order (world_over b) b.journals

-- what an audit finds: of the keys alone, where the opening rows aren't known
abbrev pub audited_over : Order → BundleValue → Verdict
audited_over order b = if lacks_rows b.assumptions then keys_over order b else verdict_over order b

-- the verdict of the audit, which is not Sound
abbrev pub IsUnsound : Order → BundleValue → Verdict → Type 0
IsUnsound order b v = (v ≡ verdict_over order b) × (v ≡ Sound → ⊥)

-- what the audit of keys finds, if that is not Sound, is what the audit finds
abbrev pub IsFoundInKeys : Order → BundleValue → Option Verdict → Type 0
IsFoundInKeys order b None = keys_over order b ≡ Sound
IsFoundInKeys order b (Some v) = IsUnsound order b v

-- the verdict, if there is one, is that of the audit of keys
abbrev pub IsOfKeys : Order → BundleValue → Option Verdict → Type 0
IsOfKeys order b None = Unit {0}
IsOfKeys order b (Some v) = v ≡ keys_over order b

-- a channel's name, and whether its transactions commit in order
abbrev pub Naming : Type 0
Naming = List ℕ × Bool

abbrev pub names_of : List ChannelValue → List Naming
names_of channels = map (λ (c : ChannelValue). (c.name, c.preserve)) channels

abbrev pub names_asked : List BundleChannel → List Naming
names_asked channels = map (λ (c : BundleChannel). (c.name, c.preserve)) channels

-- a replica of the bundle's UUID, whose channels have the names and the order of those that bring the journals
pub record IsNamed (b : BundleValue) (core : Replica) : Type 0 where
  pub uuid : core.site.own ≡ b.replica
  pub names : names_of core.state.channels ≡ names_asked (take (length b.journals) b.channels)

-- the executed set is that of all journals together, and the rows are those that it denotes: of the sources, or in the joined order
abbrev pub HoldsAllBy : Order → BundleValue → State → Type 0
HoldsAllBy BySource b s = HoldsAllOver b.start.schema b.opened b.start.rows b.journals s
HoldsAllBy ByConflict b s = runs.HoldsAll (joined_over b) b.journals s

-- The audit reports Sound, and all journals together are executed on the replica of the bundle, with its channels.
pub record HasMerged (order : Order) (b : BundleValue) (core : Replica) : Type 0 where
  pub sound : verdict_over order b ≡ Sound
  pub holds : HoldsAllBy order b core.state
  pub named : IsNamed b core

-- all is executed, or it is the audit's verdict, which is not Sound
abbrev pub IsConcluded : Order → BundleValue → Replica → Option Verdict → Type 0
IsConcluded order b core None = HasMerged order b core
IsConcluded order b core (Some v) = IsUnsound order b v

module _ {S : Type 0} where
  -- this holds of the state, or it is the audit's verdict, which is not Sound
  abbrev pub IsStateOrVerdict : (S → Type 0) → Order → BundleValue → StateOrVerdict S → Type 0
  IsStateOrVerdict Holds order b (found.State s) = Holds s
  IsStateOrVerdict Holds order b (found.Verdict v) = IsUnsound order b v

  -- the verdict, if there is one, is that of the audit of keys
  abbrev pub IsVerdictOfKeys : Order → BundleValue → StateOrVerdict S → Type 0
  IsVerdictOfKeys order b (found.State s) = Unit {0}
  IsVerdictOfKeys order b (found.Verdict v) = v ≡ keys_over order b
