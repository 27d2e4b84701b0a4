-- The executed set, and a spare set at most one GTID away from it.
use Rattle.std.specs.Prelude.{◌≡◌, ◌≤◌, Bool, true, false}
use Rattle.std.specs.FinSet as set
use Rattle.gtid_text.specs.declared.Gtid.{Gtid}
use Rattle.gtid_set.specs.Sets.{Gtids, source_count, most_sources}
use Rattle.gtid_set.specs.Full.{interval_count, most_intervals}
use Rattle.relay.specs.declared.Known.{Known}
use Rattle.relay.specs.declared.Behind.{Behind}
use Rattle.relay.specs.declared.Behind.TheVariants.{Equal, ByLast, By, Ahead}

-- the last step can be undone if the spare set is one step behind
abbrev pub is_undoable : Behind → Bool
is_undoable Equal = false
is_undoable (ByLast gtid) = true
is_undoable (By gtid) = false
is_undoable (Ahead gtid) = false

-- both sets are this one
abbrev pub equal_to : Gtids → Known
equal_to executed = record { executed = executed; spare = executed; behind = Equal }

-- a step from this set
abbrev pub ahead_by : Gtid → Gtids → Known
ahead_by gtid executed = record { executed = set.insert executed gtid; spare = executed; behind = ByLast gtid }

abbrev pub step_back_by : Behind → Known → Known
step_back_by Equal known = known
step_back_by (ByLast gtid) known = record { executed = known.spare; spare = known.executed; behind = Ahead gtid }
step_back_by (By gtid) known = known
step_back_by (Ahead gtid) known = known

-- the last step is undone
abbrev pub step_back : Known → Known
step_back known = step_back_by known.behind known

abbrev pub settle_by : Behind → Known → Known
settle_by Equal known = known
settle_by (ByLast gtid) known = record known { behind = By gtid }
settle_by (By gtid) known = known
settle_by (Ahead gtid) known = known

-- the last step can no longer be undone
abbrev pub keep_step : Known → Known
keep_step known = settle_by known.behind known

-- a set has one GTID more than another, and not too many sources or intervals
pub record IsStep (spare : Gtids) (gtid : Gtid) (executed : Gtids) : Type 0 where
  pub made : set.insert spare gtid ≡ executed
  pub fits : source_count executed ≤ most_sources
  pub small : interval_count executed ≤ most_intervals

abbrev pub IsNearBy : Behind → Gtids → Gtids → Type 0
IsNearBy Equal spare executed = spare ≡ executed
IsNearBy (ByLast gtid) spare executed = IsStep spare gtid executed
IsNearBy (By gtid) spare executed = IsStep spare gtid executed
IsNearBy (Ahead gtid) spare executed = Unit {0}

-- the spare set is the executed set, or lacks one GTID of it
abbrev pub IsNear : Known → Type 0
IsNear known = IsNearBy known.behind known.spare known.executed
