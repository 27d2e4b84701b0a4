use Rattle.std.proofs.Common.{◌∙◌}
use Rattle.log_transactions.proofs.SpansWithin.{each_within}
use Rattle.log_transactions.proofs.joined.has_spans.Goals as goal

pub returns : goal.returns
returns c = c.has_each.ensures ∙ each_within c.args.whole.now c.args.spans.now
