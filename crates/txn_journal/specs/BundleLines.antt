-- A bundle as far as some lines come.
use Rattle.std.specs.Prelude.{◌≡◌, ℕ, List, [], ◌∷◌, Option, Result, Ok}
use Rattle.txn_journal.specs.Lines.{◌>>=◌}
use Rattle.txn_journal.specs.BundleStates.{BundleStanding, no_bundle, judge_bundle}
use Rattle.txn_journal.specs.declared.fault.Cause.{Cause}
use Rattle.txn_journal.specs.declared.lines.Version.{Version}
use Rattle.txn_journal.specs.declared.lines.Due.{Due}

-- what these lines make, the last of them first
abbrev pub standing_after : Due → List (List ℕ) → Result BundleStanding Cause
standing_after due [] = Ok (no_bundle due)
standing_after due (line ∷ earlier) = standing_after due earlier >>= λ s. judge_bundle s line

-- some lines have made it
pub record HasCome (s : BundleStanding) : Type 0 where
  pub due : Due
  pub lines : List (List ℕ)
  pub made : standing_after due lines ≡ Ok s
