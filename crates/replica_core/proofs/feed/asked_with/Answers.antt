use Rattle.std.proofs.Common.{eqb-true, length, sym}
use Rattle.replica_core.proofs.AskLemmas.{adds_nothing, copied_fully, copied_set}
use Rattle.replica_core.proofs.feed.asked_with.Goals as goal

pub returns-then-is_empty-clause-ok : goal.returns-then-is_empty-clause-ok
returns-then-is_empty-clause-ok c =
    let received = c.args.channel.now.channel.received in
    copied_set c.copy.result c.args.executed.now _ (adds_nothing c.args.executed.now received (eqb-true (length received) 0 (sym c.if-is_empty.ensures))) c.copy.ensures.ok

pub returns-then-is_empty-clause-full : goal.returns-then-is_empty-clause-full
returns-then-is_empty-clause-full c =
    let received = c.args.channel.now.channel.received in
    copied_fully c.copy.result c.args.executed.now _ (adds_nothing c.args.executed.now received (eqb-true (length received) 0 (sym c.if-is_empty.ensures))) c.keeps_limits.ensures.sources c.keeps_limits.ensures.intervals c.copy.ensures.fault
