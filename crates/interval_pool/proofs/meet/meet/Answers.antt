use Rattle.std.proofs.Common.{◌≡◌, ◌+◌, ◌≤◌, false, arith, sym, ◌∙◌}
use Rattle.std.specs.Prelude.{nat_lt}
use Rattle.std.proofs.lemmas.Bool.Decides.{nat_tests}
use Rattle.interval_pool.proofs.meet.meet.Goals as goal
use Rattle.interval_pool.proofs.Meeting.{meets_next}

pub meet-preserved : goal.meet-preserved
meet-preserved c =
    let is : false ≡ nat_lt (c.args.numbers.hi + c.args.reach) c.cell_at-cell.result.lo = sym c.if-is_beyond.false ∙ c.is_beyond.ensures in
    let near : c.cell_at-cell.result.lo ≤ c.args.numbers.hi + c.args.reach = grind (is, arith, nat_tests) in record {
      same = meets_next c.args.cells.now (c.args.numbers.hi + c.args.reach) c.meet.joined.numbers c.hull.result c.meet.joined.count c.meet.left c.in-Some.i c.meet.at c.cell_at-cell.result (cc) c.meet-test.true c.cell_at-cell.ensures near c.hull.ensures ∙ c.meet.invariant.same;
      few = let f = c.meet.invariant.few in let lt = c.meet-test.true in omega (f, lt, arith);
    }
