use Rattle.gtid_set.specs.Numbers.{all_numbered}
use Rattle.gtid_set.proofs.SpanLemmas.{merged_rises}
use Rattle.gtid_set.proofs.combine.sweep.Goals as goal

pub unite-requires-clause-left : goal.unite-requires-clause-left
unite-requires-clause-left c = merged_rises (all_numbered c.args.left) c.requires.left

pub unite-requires-clause-right : goal.unite-requires-clause-right
unite-requires-clause-right c = merged_rises (all_numbered c.args.right) c.requires.right
