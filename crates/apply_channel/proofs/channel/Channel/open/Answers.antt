use Rattle.std.proofs.Common.{rules}
use Rattle.apply_channel.proofs.channel.Channel.open.Goals as goal

pub invariant_of-result : goal.invariant_of-result
invariant_of-result c =
    record {
      nodes = search rules;
      linked = search rules;
      last = search rules;
      gtids = search rules;
    }
