use Rattle.std.proofs.Common.{◌≡◌, ◌++◌, drop}
use Rattle.std.specs.Prelude.{flat_map, string_bytes}
use Rattle.gtid_report.specs.Assumed.{next_condition}
use Rattle.gtid_report.proofs.assumed.push_others.Given as goal

abbrev pub invariant-loop-assumption : goal.invariant-loop-assumption
invariant-loop-assumption l = string_bytes l.out ++ flat_map next_condition (drop l.assumption-index l.assumptions) ≡ string_bytes l.fn.out ++ flat_map next_condition l.assumptions
