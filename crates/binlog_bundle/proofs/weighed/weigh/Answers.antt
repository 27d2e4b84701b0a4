use Rattle.binlog_bundle.proofs.Weighing.{same_numbers}
use Rattle.binlog_bundle.proofs.weighed.weigh.Goals as goal

pub invariant_of-result : goal.invariant_of-result
invariant_of-result c = record {
  numbers = c.args.log.numbers;
  numbered =
      same_numbers c.args.log.entries.items c.in-Ok.entries.items
      (c.gtids_stay.ensures c.args.derivation.now c.args.log.entries.items c.in-Ok.entries.items c.in-Ok.ensures.found) c.args.log.numbered;
}
