use Rattle.std.proofs.Common.{ap, sym, length, ◌∙◌, arith}
use Rattle.gtid_set.specs.Sets.{source_count}
use Rattle.gtid_set.specs.Runs.{runs}
use Rattle.gtid_set.proofs.SetSources.{union_none, added_set}
use Rattle.gtid_set.proofs.RunLemmas.{runs_merged}
use Rattle.gtid_set.proofs.GtidSet.add_span.Goals as goal

pub returns-then-span-clause-ok : goal.returns-then-span-clause-ok
returns-then-span-clause-ok c = union_none c.args.self.now c.args.span.source c.args.span.lo c.args.span.hi (omega arith)

pub returns-then-span-clause-full : goal.returns-then-span-clause-full
returns-then-span-clause-full c =
    let none = union_none c.args.self.now c.args.span.source c.args.span.lo c.args.span.hi (omega arith) in
    let same = ap source_count (c.self.view_is ∙ none) in
    let fits = c.self.invariant.fits in
    let small = c.self.invariant.small in
    let count = ap length (sym (runs_merged c.self.inside.spans c.self.invariant.merged) ∙ ap runs (c.self.view_is ∙ none)) in
    (omega (arith, same, fits), omega (arith, small, count))

pub returns-clause-ok : goal.returns-clause-ok
returns-clause-ok c = added_set c.self.inside.spans c.add.new.self c.args.self.now c.args.span c.self.view_is c.in_ok-add.ensures.ok
