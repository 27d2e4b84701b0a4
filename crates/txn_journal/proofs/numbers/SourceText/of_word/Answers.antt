use Rattle.std.proofs.Common.{◌∙◌}
use Rattle.txn_journal.proofs.NearGtids.{source_in_gtid, source_is_small}
use Rattle.txn_journal.proofs.numbers.SourceText.of_word.Goals as goal

pub invariant_of-result : goal.invariant_of-result
invariant_of-result c = record {
  small = source_is_small c.args.word.now c.args.gtid.now c.requires;
  spelled = c.copy_from_slice.ensures.after ∙ source_in_gtid c.args.word.now c.split_at.result.0.now c.args.gtid.now c.requires c.split_at.ensures.front;
}
