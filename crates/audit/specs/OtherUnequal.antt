-- What else is unequal after a verdict.
use Rattle.std.specs.Prelude.{◌≡◌, Bool, true, false, not, ◌&&◌, ◌||◌, List, [], ◌∷◌, if◌then◌else◌}
use Rattle.std.specs.List.{list_any, AllByRecursion}
use Rattle.std.specs.FinSet as set
use Rattle.gtid_text.specs.declared.Gtid.{Gtid}
use Rattle.gtid_text.specs.Gtids.{same_gtid}
use Rattle.gtid_set.specs.Sets.{Gtids}
use Rattle.journal.specs.declared.Entry.{Entry}
use Rattle.journal.specs.Journals.{JournalValue}
use Rattle.history.specs.Sources.{World}
use Rattle.world.specs.declared.verdict.Verdict.{Verdict}
use Rattle.world.specs.declared.verdict.Verdict.TheVariants.{Unequal}
use Rattle.world.specs.Audit.{all_entries, is_unequal}
use Rattle.world.specs.Cases.{DiffersAt}

-- the verdict reports a GTID under which a journal has another transaction than the world
abbrev pub IsUnequalNamed : World → List JournalValue → Verdict → Type 0
IsUnequalNamed world journals (Unequal g) = DiffersAt world journals g
IsUnequalNamed world journals _ = ⊥

-- the verdict reports this GTID
abbrev pub is_of_unequal : Gtid → Verdict → Bool
is_of_unequal g (Unequal h) = same_gtid g h
is_of_unequal g _ = false

-- one of these reports the same GTID
abbrev pub is_unequal_again : Verdict → List Verdict → Bool
is_unequal_again (Unequal g) vs = list_any (is_of_unequal g) vs
is_unequal_again _ vs = false

-- no two of these report one GTID
abbrev pub AreUnequalOnce : List Verdict → Type 0
AreUnequalOnce [] = Unit {0}
AreUnequalOnce (v ∷ vs) = (is_unequal_again v vs ≡ false) × AreUnequalOnce vs

-- Each reports a GTID under which a journal has another transaction than the world; every such GTID is that of the verdict or of one of
-- these, and of one alone.
pub record AreOtherUnequal (world : World) (journals : List JournalValue) (v : Verdict) (list : List Verdict) : Type 0 where
  pub named : AllByRecursion (IsUnequalNamed world journals) list
  pub every : (g : Gtid) → DiffersAt world journals g → (is_of_unequal g v || list_any (is_of_unequal g) list) ≡ true
  pub once : AreUnequalOnce (v ∷ list)

-- of these entries each GTID whose transaction is not the world's, unless it was reported already
abbrev pub unequal_from : World → Gtids → List Entry → List Verdict
unequal_from world reported [] = []
unequal_from world reported (e ∷ es) =
    if is_unequal world e && not (set.contains reported e.gtid) then Unequal e.gtid ∷ unequal_from world (set.insert reported e.gtid) es else unequal_from world reported es

-- each GTID that is unequal, but for that of the verdict; none if the verdict is another one
abbrev pub other_unequal : World → List JournalValue → Verdict → List Verdict
other_unequal world journals (Unequal g) = unequal_from world (set.insert set.empty g) (all_entries journals)
other_unequal world journals _ = []
