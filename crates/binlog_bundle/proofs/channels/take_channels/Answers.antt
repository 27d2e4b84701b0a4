use Rattle.std.proofs.Common.{sym, ◌∙◌, subst}
use Rattle.binlog_bundle.specs.Logs.{terms_of}
use Rattle.binlog_bundle.specs.Refused.{IsNoBundle}
use Rattle.binlog_bundle.specs.declared.fault.BundleFault.{BundleFault}
use Rattle.binlog_bundle.proofs.Cutting.{begins_last, ends_last, line_ends}
use Rattle.binlog_bundle.proofs.Coming.{come_more, channel_refused, ComesNext}
use Rattle.binlog_bundle.proofs.channels.take_channels.Goals as goal

pub loop-line-preserved : goal.loop-line-preserved
loop-line-preserved g c =
    come_more (terms_of c.args.grants (g.L.Logs.origin c.args.logs.now)) c.args.start.now c.args.text.now c.loop-line.left.now c.in-Some.line.now c.in-Some.after.now c.cut_own.result.0.now c.cut_own.result.1.now c.loop-line.progress c.take_channel.new.progress
    (sym c.is_channel.ensures ∙ c.if-not-is_channel.false) c.loop-line.invariant (c.in-Some.ensures.found.parts ∙ line_ends c.in-Some.line.now c.in-Some.after.now) c.cut_own.ensures c.in-Ok.ensures.fed

pub returns-in-Err-clause-refused : goal.returns-in-Err-clause-refused
returns-in-Err-clause-refused g c =
    let next : ComesNext (terms_of c.args.grants (g.L.Logs.origin c.args.logs.now)) c.args.start.now c.args.text.now c.loop-line.left.now c.in-Some.line.now c.in-Some.after.now c.cut_own.result.0.now c.cut_own.result.1.now c.loop-line.progress c.line_at.result
    = record { channel = sym c.is_channel.ensures ∙ c.if-not-is_channel.false; come = c.loop-line.invariant; begins = c.in-Some.ensures.found; cut = c.cut_own.ensures; at = c.line_at.ensures } in
    subst (λ (f : BundleFault). IsNoBundle (terms_of c.args.grants (g.L.Logs.origin c.args.logs.now)) f c.args.text.now) (sym c.at.ensures) (channel_refused next c.in-Err.fault c.in-Err.ensures.refused)

pub returns-then-not-is_channel-clause-last : goal.returns-then-not-is_channel-clause-last
returns-then-not-is_channel-clause-last g c =
    begins_last c.loop-line.left.now c.in-Some.line.now c.in-Some.after.now c.loop-line.invariant.begins c.in-Some.ensures.found (sym c.is_channel.ensures ∙ c.if-not-is_channel.true)

pub returns-clause-last : goal.returns-clause-last
returns-clause-last g c = ends_last c.loop-line.left.now c.loop-line.invariant.begins c.in_default.ensures.none
