use Rattle.std.proofs.Common.{◌≡◌, ◌+◌, ◌-◌, ◌^◌, ◌≤◌, drop}
use Rattle.std.specs.Prelude.{min}
use Rattle.commands.specs.Unapplied.{entry_line_count}
use Rattle.commands.proofs.unapplied.with_entries.Given as goal

abbrev pub invariant-loop-entry : goal.invariant-loop-entry
invariant-loop-entry l = (min (l.count + entry_line_count (drop l.entry-index l.entries)) (2 ^ 64 - 1) ≡ min (l.lines + entry_line_count l.entries) (2 ^ 64 - 1)) × (l.count ≤ 2 ^ 64 - 1)
