use Rattle.std.proofs.Common.{◌∙◌, ◌<◌, ◌+◌, ◌*◌, List, sym, subst, arith}
use Rattle.std.specs.List.{AllByRecursion}
use Rattle.interval_pool.specs.declared.interval.Interval.{Interval}
use Rattle.interval_pool.specs.Values.{spans}
use Rattle.worked_calls.proofs.intervals.append_all.Goals as goal
use Rattle.worked_calls.proofs.Along.{pairs_before, pair_more}

pub pairs-init : goal.pairs-init
pairs-init c = record {
  list = c.requires.list;
  below = let P : List Interval → Type 0 = λ ss. AllByRecursion (λ t. t.hi < 0) ss in subst P (sym c.requires.none) tt;
}

pub append-requires-clause-behind : goal.append-requires-clause-behind
append-requires-clause-behind c = pairs_before c.pairs.i (spans c.pairs.pool c.args.list) c.pairs.invariant.below

pub pairs-preserved : goal.pairs-preserved
pairs-preserved c =
    let a = c.in-Ok.ensures.ok in
    let P : List Interval → Type 0 = λ ss. AllByRecursion (λ t. t.hi < 3 * (c.pairs.i + 1)) ss in
    record {
      list = a.added.lists c.args.list ∙ c.pairs.invariant.list;
      below = subst P (sym a.spans) (pair_more c.pairs.i (spans c.pairs.pool c.args.list) (record { lo = 3 * c.pairs.i + 1; hi = 3 * c.pairs.i + 2 }) (omega arith) c.pairs.invariant.below);
    }
