use Rattle.std.proofs.Common.{length, ◌≡◌, ◌++◌}
use Rattle.std.specs.List.{concat}
use Rattle.gtid_set.specs.Kept.{IsKeptIn, flat, spans_as}
use Rattle.gtid_set.proofs.kept.put_run.Given as goal

abbrev pub invariant-loop-first : goal.invariant-loop-first
invariant-loop-first l = record {
  kept : IsKeptIn l.pool l.sources.items (concat l.order.items);
  parts : flat l.pool l.sources.items (concat l.order.items) ++ spans_as l.id l.rest ≡ flat l.fn.pool l.fn.sources.items (concat l.fn.order.items) ++ spans_as l.id l.run;
}

abbrev pub decreases-loop-first : goal.decreases-loop-first
decreases-loop-first l = length l.rest
