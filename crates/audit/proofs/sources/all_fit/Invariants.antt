use Rattle.std.proofs.Common.{take}
use Rattle.audit.specs.Worlds.{AllFit}
use Rattle.audit.proofs.sources.all_fit.Given as goal

abbrev pub invariant-loop-entry : goal.invariant-loop-entry
invariant-loop-entry l = AllFit l.schema (take l.entry-index l.entries)
