use Rattle.std.proofs.Common.{◌++◌, sym, subst}
use Rattle.std.specs.List.{concat}
use Rattle.std.proofs.lemmas.Bool.{and_parts}
use Rattle.std.specs.Prelude.{nat_lt, length}
use Rattle.interval_pool.specs.Values.{spans, is_list}
use Rattle.gtid_set.specs.BySource.{IsTooLong}
use Rattle.gtid_set.specs.Kept.{sources_at, is_filled, flat, spans_as}
use Rattle.gtid_set.proofs.KeptLemmas.{got_all}
use Rattle.gtid_set.proofs.KeptRuns.{run_merged, run_written, too_long}
use Rattle.gtid_set.proofs.kept.extend_to.Goals as goal

pub extend-requires-clause-list : goal.extend-requires-clause-list
extend-requires-clause-list c =
    (and_parts (is_list c.args.pool.now c.args.source.list) (nat_lt 0 (length (spans c.args.pool.now c.args.source.list)))
    (got_all (is_filled c.args.pool.now) (sources_at c.args.sources.now (concat c.args.order.now)) c.requires.source.at c.args.source c.requires.kept.filled c.requires.source.got)).0

pub extend-requires-clause-merged : goal.extend-requires-clause-merged
extend-requires-clause-merged c =
    run_merged c.args.pool.now c.args.sources.now (concat c.args.order.now) c.args.source c.args.source.id c.args.run.now c.partition.ensures.merged c.requires.source c.requires.merged

pub returns-in-Ok-clause-ok : goal.returns-in-Ok-clause-ok
returns-in-Ok-clause-ok c =
    let law = c.partition-in-Ok.ensures in
    run_written c.args.pool.now c.extend.new.self c.args.sources.now (concat c.args.order.now) c.args.source c.args.source.id c.args.run.now c.requires.kept c.requires.source c.requires.merged c.in-Ok.ensures.ok
    (record { small = law.small; merged = law.merged; parted = law.parted })

pub returns-in-Err-clause-full : goal.returns-in-Err-clause-full
returns-in-Err-clause-full c =
    subst (IsTooLong (flat c.args.pool.now c.args.sources.now (concat c.args.order.now) ++ spans_as c.args.source.id c.args.run.now)) (sym c.from.ensures)
    (too_long c.args.pool.now c.args.sources.now (concat c.args.order.now) c.args.source.id c.args.run.now c.in-Err.fault c.requires.kept c.in-Err.ensures.full.0)
