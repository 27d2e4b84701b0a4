use Rattle.std.proofs.Common.{rules, ◌≡◌, ◌≢◌}
use Rattle.gtid_set.proofs.GatherLemmas.{joining, next_order, joined_more, joined_upto}
use Rattle.gtid_set.proofs.gather.join_source.Goals as goal

pub loop-span-init : goal.loop-span-init
loop-span-init c = joining c.args.spans.now c.args.id c.clear.new.self.items c.clear.ensures.items c.requires.rises c.requires.from

pub returns-then-ne : goal.returns-then-ne
returns-then-ne c =
    let other : c.in-Some.span.now.source ≢ c.args.id = search rules in
    joined_upto c.args.spans.now c.args.id c.loop-span.run.items c.loop-span.rest.now c.in-Some.span.now c.in-Some.more.now c.loop-span.invariant c.in-Some.ensures.cases.0 other

pub join-requires-clause-order : goal.join-requires-clause-order
join-requires-clause-order c =
    let same : c.in-Some.span.now.source ≡ c.args.id = search rules in
    next_order c.args.spans.now c.args.id c.loop-span.run.items c.loop-span.rest.now c.in-Some.span.now c.in-Some.more.now c.loop-span.invariant c.in-Some.ensures.cases.0 same

pub loop-span-preserved : goal.loop-span-preserved
loop-span-preserved c =
    let same : c.in-Some.span.now.source ≡ c.args.id = search rules in
    joined_more c.args.spans.now c.args.id c.loop-span.run.items c.join.new.out.items c.loop-span.rest.now c.in-Some.span.now c.in-Some.more.now c.loop-span.invariant c.in-Some.ensures.cases.0 same c.in_ok-join.ensures
