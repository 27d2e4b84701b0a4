-- Counts of shared keys by their places, as the code keeps them.
use Rattle.std.specs.Prelude.{◌≡◌, ℕ, ◌+◌, List, [], ◌∷◌, ◌++◌, Option, Some, String, if◌then◌else◌}
use Rattle.std.specs.BTreeMap.{BTreeMap, get_by_text}
use Rattle.std.specs.Option.{unwrap_or}
use Rattle.world.specs.declared.verdict.Verdict.{Verdict}
use Rattle.commands.specs.Summaries.{place_of, is_at, count_at, new_count, line_of}

-- one more than a count, or one
abbrev pub one_more_at : Option ℕ → Option ℕ
one_more_at count = Some (unwrap_or count 0 + 1)

module _ {Y : Type 0} where
  -- each place has the count of the faults there
  abbrev pub AreCounts : List Verdict → BTreeMap (String Y) ℕ → Type 0
  AreCounts faults counts = (place : List ℕ) → get_by_text counts place ≡ count_at place faults

  -- the place of the fault, if it has one, counts one more
  abbrev pub IsCountedWith : Verdict → BTreeMap (String Y) ℕ → BTreeMap (String Y) ℕ → Type 0
  IsCountedWith fault old new =
      (place : List ℕ) → get_by_text new place ≡ (if is_at place fault then one_more_at (get_by_text old place) else get_by_text old place)

  -- each place that didn't come before has the count of the faults there
  abbrev pub AreLeft : List Verdict → List Verdict → BTreeMap (String Y) ℕ → Type 0
  AreLeft seen faults counts = (place : List ℕ) → get_by_text counts place ≡ new_count place seen faults

  -- with the counts of the places that are left, the line of the fault's place is told, if that didn't come before; these are left then
  abbrev pub IsTold : Verdict → BTreeMap (String Y) ℕ → BTreeMap (String Y) ℕ → List ℕ → List ℕ → Type 0
  IsTold fault old new text told =
      (seen after : List Verdict) → AreLeft seen (fault ∷ after) old → (told ≡ text ++ line_of (place_of fault) seen fault after) × AreLeft (seen ++ fault ∷ []) after new
