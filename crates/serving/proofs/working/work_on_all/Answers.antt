use Rattle.std.proofs.Common.{rules}
use Rattle.replica_core.proofs.DrainLemmas.{counted}
use Rattle.serving.specs.declared.receiving.Apply.TheVariants.{AtOnce}
use Rattle.serving.proofs.Knowing.{later_fault}
use Rattle.serving.proofs.Runs.{applies_more}
use Rattle.serving.proofs.Settling.{ends_more}
use Rattle.serving.proofs.working.work_on_all.Goals as goal

pub loop-channel-preserved : goal.loop-channel-preserved
loop-channel-preserved c = record {
  applies = applies_more AtOnce c.args.core.now c.loop-channel.core c.work_on.new.core c.loop-channel.invariant.applies c.in_ok-work_on.ensures.applies;
  ends = ends_more c.loop-channel.channel c.in-Some.count c.args.core.now.state c.loop-channel.core.state c.work_on.new.core.state
      (counted c.loop-channel.core.state c.loop-channel.channel c.in-Some.count c.in-Some.ensures) c.loop-channel.invariant.ends c.in_ok-work_on.ensures.finishes;
}

pub returns-in_err-work_on-clause-fault : goal.returns-in_err-work_on-clause-fault
returns-in_err-work_on-clause-fault c =
    let h = later_fault c.in_err-work_on.field-0.0 AtOnce c.args.core.now c.loop-channel.core c.loop-channel.invariant.applies c.in_err-work_on.ensures.fault in
    search rules
