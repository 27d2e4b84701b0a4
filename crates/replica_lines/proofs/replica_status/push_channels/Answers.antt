use Rattle.std.proofs.Common.{string_bytes}
use Rattle.replica_lines.proofs.OwnedLemmas.{one_line_more}
use Rattle.replica_lines.proofs.replica_status.push_channels.Goals as goal

pub loop-number-preserved : goal.loop-number-preserved
loop-number-preserved c =
    one_line_more c.args.core.now.state.channels c.loop-number.number c.in-Some.channel.now.channel (string_bytes c.args.out.now) (string_bytes c.loop-number.out) (string_bytes c.push_channel.new.out)
    c.in-Some.ensures.value c.loop-number.invariant c.in_ok-push_channel.ensures
