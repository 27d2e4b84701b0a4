-- Searches that count places.
use Rattle.std.specs.Prelude.{ℕ, ◌+◌, not, List, [], ◌∷◌, Option, None}
use Rattle.std.specs.FinSet as set
use Rattle.journal.specs.Journals.{JournalValue}
use Rattle.history.specs.Sources.{World}
use Rattle.world.specs.declared.verdict.Verdict.{Verdict}
use Rattle.world.specs.declared.verdict.Verdict.TheVariants.{Purged}
use Rattle.world.specs.Search.{or_next, when}

-- what f gives for the first element for which it gives something; f takes the element's place, the first of which is n, and the element
abbrev pub first_from : {A B : Type 0} → (ℕ → A → Option B) → ℕ → List A → Option B
first_from f n [] = None
first_from f n (x ∷ xs) = or_next (f n x) (first_from f (n + 1) xs)

-- what is missing of the previous set of the i-th journal
abbrev pub purged_at : World → ℕ → JournalValue → Option Verdict
purged_at world i j = when (not (set.is_subset j.previous world.opening_set)) (Purged i (set.difference j.previous world.opening_set))
