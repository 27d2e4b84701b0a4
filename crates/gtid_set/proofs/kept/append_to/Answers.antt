use Rattle.std.proofs.Common.{sym, subst, Err}
use Rattle.std.specs.List.{concat, AllByRecursion}
use Rattle.std.proofs.lemmas.Bool.{and_parts}
use Rattle.std.specs.Prelude.{nat_lt, length}
use Rattle.interval_pool.specs.declared.interval.Interval.{Interval}
use Rattle.interval_pool.specs.Intervals.{IsBefore}
use Rattle.interval_pool.specs.Values.{spans, is_list, AddedTo}
use Rattle.gtid_set.specs.declared.fault.SetFault.{SetFault}
use Rattle.gtid_set.specs.Spans.{set_of}
use Rattle.gtid_set.specs.Full.{IsFullExactly}
use Rattle.gtid_set.specs.Kept.{sources_at, is_filled, flat, Grown}
use Rattle.gtid_set.proofs.KeptLemmas.{got_all}
use Rattle.gtid_set.proofs.KeptGrowth.{behind_flat, apart_behind, grown_at, fault_at, fits_grown, with_span}
use Rattle.gtid_set.proofs.kept.append_to.Goals as goal

pub append-requires-clause-list : goal.append-requires-clause-list
append-requires-clause-list c =
    (and_parts (is_list c.args.pool.now c.args.source.list) (nat_lt 0 (length (spans c.args.pool.now c.args.source.list)))
    (got_all (is_filled c.args.pool.now) (sources_at c.args.sources.now (concat c.args.order.now)) c.requires.source.at c.args.source c.requires.kept.filled c.requires.source.got)).0

pub append-requires-clause-behind : goal.append-requires-clause-behind
append-requires-clause-behind c =
    subst (λ (i : Interval). AllByRecursion (λ t. IsBefore t i) (spans c.args.pool.now c.args.source.list)) (sym c.numbers.ensures)
    (behind_flat c.args.pool.now (sources_at c.args.sources.now (concat c.args.order.now)) c.requires.source.at c.args.source c.args.span.now c.requires.source.got c.requires.source.same c.requires.before)

grown : (c : goal.After-partition-in-Ok) → Grown c.args.pool.now c.args.sources.now (concat c.args.order.now) c.args.span.now c.append.new.self c.args.sources.now (concat c.args.order.now)
grown c =
    let added = subst (λ (i : Interval). AddedTo c.args.pool.now c.args.source.list i c.append.new.self) c.numbers.ensures c.in-Ok.ensures.ok.added in
    let law = c.partition-in-Ok.ensures in
    grown_at c.args.pool.now c.append.new.self c.args.sources.now (concat c.args.order.now) c.args.source c.args.span.now c.requires.kept c.partition.ensures.merged c.requires.source c.requires.filled added
    (record { small = law.small; merged = law.merged; parted = law.parted })

pub returns-in-Ok-clause-ok : goal.returns-in-Ok-clause-ok
returns-in-Ok-clause-ok c = grown c

pub returns-in-Ok-clause-full : goal.returns-in-Ok-clause-full
returns-in-Ok-clause-full c = fits_grown c.args.pool.now c.append.new.self c.args.sources.now c.args.sources.now (concat c.args.order.now) (concat c.args.order.now) c.args.span.now (grown c)

pub returns-in-Err-clause-full : goal.returns-in-Err-clause-full
returns-in-Err-clause-full c =
    let P : SetFault → Type 0 = λ f. IsFullExactly {T = Unit {0}} (Err f) (with_span (set_of (flat c.args.pool.now c.args.sources.now (concat c.args.order.now))) c.args.span.now) in
    subst P (sym c.from.ensures)
    (fault_at c.args.pool.now c.args.sources.now (concat c.args.order.now) c.args.source c.args.span.now c.in-Err.fault c.requires.kept c.partition.ensures.merged c.requires.source c.requires.filled
    (apart_behind (spans c.args.pool.now c.args.source.list) c.args.span.now (behind_flat c.args.pool.now (sources_at c.args.sources.now (concat c.args.order.now)) c.requires.source.at c.args.source c.args.span.now c.requires.source.got c.requires.source.same c.requires.before)) (λ e. c.in-Err.ensures.full.0 e))
