use Rattle.std.proofs.Common.{◌≡◌, sym, subst}
use Rattle.gtid_set.specs.Sets.{Gtids}
use Rattle.auto_position.proofs.OneSource.{count_and, none_and_one, still_one, recorded_fault}
use Rattle.auto_position.proofs.Asked.{recorded_next, recorded_all, recorded_part}
use Rattle.auto_position.proofs.recorded_gtids.Goals as goal

pub numbers-preserved : goal.numbers-preserved
numbers-preserved c = record {
  is = recorded_next c.args.source c.deref-number-items.result.now c.numbers.number-index c.numbers.recorded c.add.new.self c.numbers-test.true c.numbers.invariant.is c.in-Ok.ensures.ok;
  one = subst (λ (s : Gtids). count_and s c.args.source ≡ 1) (sym c.in-Ok.ensures.ok) (still_one c.numbers.recorded c.args.source _ c.numbers.invariant.one);
}

pub returns-clause-ok : goal.returns-clause-ok
returns-clause-ok c =
    recorded_all c.args.source c.args.entries.now c.in_ok-numbers.numbers.items c.sort_unstable.new.self.items c.deref-number-items.result.now c.numbers.number-index c.numbers.recorded c.in_ok-numbers.ensures c.sort_unstable.ensures.permutation c.deref-number-items.ensures.value c.numbers-test.false c.numbers.invariant.is

pub returns-in-Err-clause-fault : goal.returns-in-Err-clause-fault
returns-in-Err-clause-fault c =
    recorded_fault c.in-Err.fault c.numbers.recorded c.args.source _ c.args.entries.now c.numbers.invariant.one
    (recorded_part c.args.source c.args.entries.now c.in_ok-numbers.numbers.items c.sort_unstable.new.self.items c.deref-number-items.result.now c.numbers.number-index c.numbers.recorded c.in_ok-numbers.ensures c.sort_unstable.ensures.permutation c.deref-number-items.ensures.value c.numbers-test.true c.numbers.invariant.is)
    c.in-Err.ensures.full

pub numbers-init : goal.numbers-init
numbers-init c = record {
  is = c.empty-recorded.ensures;
  one = none_and_one c.empty-recorded.result c.args.source c.empty-recorded.ensures;
}
