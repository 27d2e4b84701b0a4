use Rattle.std.proofs.Common.{◌≡◌, ◌+◌, ◌-◌, ◌^◌, ◌≤◌, drop}
use Rattle.std.specs.Prelude.{min}
use Rattle.commands.specs.Unapplied.{channel_line_count}
use Rattle.commands.proofs.unapplied.with_channels.Given as goal

abbrev pub invariant-loop-journal : goal.invariant-loop-journal
invariant-loop-journal l = (min (l.count + channel_line_count (drop l.journal-index l.journals)) (2 ^ 64 - 1) ≡ min (l.lines + channel_line_count l.journals) (2 ^ 64 - 1)) × (l.count ≤ 2 ^ 64 - 1)
