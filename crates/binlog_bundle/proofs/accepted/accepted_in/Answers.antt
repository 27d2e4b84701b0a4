use Rattle.binlog_bundle.proofs.Accepting.{accepted_next, accepted_all}
use Rattle.binlog_bundle.proofs.accepted.accepted_in.Goals as goal

pub loop-entry-preserved : goal.loop-entry-preserved
loop-entry-preserved c =
    accepted_next c.args.accepted.now c.args.entries.now c.loop-entry.entry-index c.entry-item.result c.loop-entry.found c.add_accepted.new.found
    c.loop-entry-test.true c.entry-item.is c.loop-entry.invariant c.in_ok-add_accepted.ensures

pub returns : goal.returns
returns c = accepted_all c.args.accepted.now c.args.entries.now c.loop-entry.entry-index c.loop-entry.found c.loop-entry-test.false c.loop-entry.invariant
