use Rattle.std.proofs.Common.{◌≡◌, drop}
use Rattle.std.specs.FinSet as set
use Rattle.audit.specs.Gaps.{gap_among}
use Rattle.audit.proofs.sources.World.gap_among.Given as goal

abbrev pub invariant-loop-entry : goal.invariant-loop-entry
invariant-loop-entry l = gap_among l.self l.needs l.previous l.standing (drop l.entry-index l.entries) ≡ gap_among l.self l.needs l.previous set.empty l.entries
