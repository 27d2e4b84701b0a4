use Rattle.std.proofs.Common.{sym, subst, Err}
use Rattle.std.specs.List.{concat}
use Rattle.std.proofs.lemmas.Bool.{and_parts}
use Rattle.std.specs.Prelude.{nat_lt, length}
use Rattle.interval_pool.specs.declared.interval.Interval.{Interval}
use Rattle.interval_pool.specs.Intervals.{IsApart}
use Rattle.interval_pool.specs.Values.{spans, is_list, AddedTo}
use Rattle.gtid_set.specs.declared.fault.SetFault.{SetFault}
use Rattle.gtid_set.specs.Spans.{set_of}
use Rattle.gtid_set.specs.Full.{IsFullExactly}
use Rattle.gtid_set.specs.Kept.{sources_at, is_filled, flat, Grown}
use Rattle.gtid_set.proofs.KeptLemmas.{got_all}
use Rattle.gtid_set.proofs.KeptGrowth.{grown_at, fault_at, fits_grown, with_span}
use Rattle.gtid_set.proofs.kept.add_to.Goals as goal

pub add-requires-clause-list : goal.add-requires-clause-list
add-requires-clause-list c =
    (and_parts (is_list c.args.pool.now c.args.source.list) (nat_lt 0 (length (spans c.args.pool.now c.args.source.list)))
    (got_all (is_filled c.args.pool.now) (sources_at c.args.sources.now (concat c.args.order.now)) c.requires.source.at c.args.source c.requires.kept.filled c.requires.source.got)).0

grown : (c : goal.After-partition-in-Ok) → Grown c.args.pool.now c.args.sources.now (concat c.args.order.now) c.args.span.now c.add.new.self c.args.sources.now (concat c.args.order.now)
grown c =
    let added = subst (λ (i : Interval). AddedTo c.args.pool.now c.args.source.list i c.add.new.self) c.numbers.ensures c.in-Ok.ensures.ok in
    let law = c.partition-in-Ok.ensures in
    grown_at c.args.pool.now c.add.new.self c.args.sources.now (concat c.args.order.now) c.args.source c.args.span.now c.requires.kept c.partition.ensures.merged c.requires.source c.requires.filled added
    (record { small = law.small; merged = law.merged; parted = law.parted })

pub returns-in-Ok-clause-ok : goal.returns-in-Ok-clause-ok
returns-in-Ok-clause-ok c = grown c

pub returns-in-Ok-clause-full : goal.returns-in-Ok-clause-full
returns-in-Ok-clause-full c = fits_grown c.args.pool.now c.add.new.self c.args.sources.now c.args.sources.now (concat c.args.order.now) (concat c.args.order.now) c.args.span.now (grown c)

pub returns-in-Err-clause-full : goal.returns-in-Err-clause-full
returns-in-Err-clause-full c =
    let P : SetFault → Type 0 = λ f. IsFullExactly {T = Unit {0}} (Err f) (with_span (set_of (flat c.args.pool.now c.args.sources.now (concat c.args.order.now))) c.args.span.now) in
    subst P (sym c.from.ensures)
    (fault_at c.args.pool.now c.args.sources.now (concat c.args.order.now) c.args.source c.args.span.now c.in-Err.fault c.requires.kept c.partition.ensures.merged c.requires.source c.requires.filled
    (subst (λ (i : Interval). IsApart (spans c.args.pool.now c.args.source.list) i) c.numbers.ensures c.in-Err.ensures.apart) (λ e. c.in-Err.ensures.full.0 e))
