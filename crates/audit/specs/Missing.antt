-- What is missing, by one pass over the transactions in the order of GTIDs.
use Rattle.std.specs.Prelude.{ℕ, ◌+◌, ◌-◌, ◌==◌, not, find, List, [], ◌∷◌, Option, Some, None, option_map, if◌then◌else◌}
use Rattle.std.specs.List.{range_with_len}
use Rattle.std.specs.FinSet as set
use Rattle.gtid_text.specs.declared.Gtid.{Gtid}
use Rattle.gtid_set.specs.Sets.{Gtids, gtid}
use Rattle.history.specs.Sources as history
use Rattle.world.specs.declared.verdict.Verdict.{Verdict}
use Rattle.world.specs.declared.verdict.Verdict.TheVariants.{Missing}
use Rattle.world.specs.Search.{or_next}

-- the number of the last GTID, if it is of this source
abbrev pub number_before : Option Gtid → ℕ → ℕ
number_before None source = 0
number_before (Some g) source = if g.source == source then g.number else 0

-- the least number of a source between two others that a set lacks
abbrev pub next_absent : Gtids → ℕ → ℕ → ℕ → Option ℕ
next_absent opened source after below = find (λ n. not (set.contains opened (gtid source n))) (range_with_len (after + 1) (below - (after + 1)))

abbrev pub missing_between : Gtids → Option Gtid → Gtid → Option Verdict
missing_between opened last g = option_map (λ n. Missing (gtid g.source n)) (next_absent opened g.source (number_before last g.source) g.number)

-- the first that is missing before one of these, the last GTID before them being this
abbrev pub missing_from : Gtids → Option Gtid → List history.Entry → Option Verdict
missing_from opened last [] = None
missing_from opened last (e ∷ es) = or_next (missing_between opened last e.0) (missing_from opened (Some e.0) es)
