use Rattle.std.proofs.Common.{◌≡◌, ◌++◌, take, string_bytes}
use Rattle.std.specs.Prelude.{flat_map}
use Rattle.gtid_report.specs.Positions.{entry_line}
use Rattle.gtid_report.proofs.position.push_gtids.Given as goal

abbrev pub invariant-loop-entry : goal.invariant-loop-entry
invariant-loop-entry l = string_bytes l.out ≡ string_bytes l.fn.out ++ flat_map entry_line (take l.entry-index l.entries)
