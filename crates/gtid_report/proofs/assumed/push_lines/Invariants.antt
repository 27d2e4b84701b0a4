use Rattle.std.proofs.Common.{◌≡◌, ◌++◌, drop}
use Rattle.std.specs.Prelude.{flat_map, string_bytes}
use Rattle.gtid_report.specs.Assumed.{assume_line}
use Rattle.gtid_report.proofs.assumed.push_lines.Given as goal

abbrev pub invariant-loop-assumption : goal.invariant-loop-assumption
invariant-loop-assumption l = string_bytes l.out ++ flat_map assume_line (drop l.assumption-index l.assumptions) ≡ string_bytes l.fn.out ++ flat_map assume_line l.assumptions
