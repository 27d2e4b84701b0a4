-- The functions of sets, by their names. (MySQL 8.0 Reference Manual, "Functions Used with Global Transaction Identifiers (GTIDs)"; the names are our own.)
use Rattle.std.specs.Prelude.{ℕ, List, Option, Some, None, codes, if◌then◌else◌}
use Rattle.std.specs.Option.{option_map, option_map_or}
use Rattle.std.specs.Str.{bytes_eq}
use Rattle.gtid_report.specs.declared.functions.OneSet.{OneSet}
use Rattle.gtid_report.specs.declared.functions.OneSet.TheVariants.{Normalize, Count}
use Rattle.gtid_report.specs.declared.functions.TwoSets.{TwoSets}
use Rattle.gtid_report.specs.declared.functions.TwoSets.TheVariants.{Union, Intersect, Subtract, Symmetric, Subset, Equal, Disjoint}
use Rattle.gtid_report.specs.declared.functions.OfSource.{OfSource}
use Rattle.gtid_report.specs.declared.functions.OfSource.TheVariants.{Only, Without}
use Rattle.gtid_report.specs.declared.functions.Function.{Function}
use Rattle.gtid_report.specs.declared.functions.Function.TheVariants.{One, Two, Source}

abbrev pub one_set_named : List ℕ → Option OneSet
one_set_named name =
    if bytes_eq name (codes "normalize") then Some Normalize
    else if bytes_eq name (codes "count") then Some Count
    else None

abbrev pub two_sets_named : List ℕ → Option TwoSets
two_sets_named name =
    if bytes_eq name (codes "union") then Some Union
    else if bytes_eq name (codes "intersect") then Some Intersect
    else if bytes_eq name (codes "subtract") then Some Subtract
    else if bytes_eq name (codes "symmetric") then Some Symmetric
    else if bytes_eq name (codes "subset") then Some Subset
    else if bytes_eq name (codes "equal") then Some Equal
    else if bytes_eq name (codes "disjoint") then Some Disjoint
    else None

abbrev pub of_source_named : List ℕ → Option OfSource
of_source_named name =
    if bytes_eq name (codes "only") then Some Only
    else if bytes_eq name (codes "without") then Some Without
    else None

-- the function of a name, if there is one
abbrev pub function_named : List ℕ → Option Function
function_named name =
    option_map_or (λ f. Some (One f)) (one_set_named name)
    (option_map_or (λ f. Some (Two f)) (two_sets_named name)
    (option_map Source (of_source_named name)))
