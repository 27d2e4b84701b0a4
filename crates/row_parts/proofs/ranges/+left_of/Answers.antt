use Rattle.std.proofs.Common.{rules, ◌≡◌, ◌-◌, ◌<◌, suc, ℕ, arith}
use Rattle.row_parts.proofs.Cutting.{one_cut}
use Rattle.row_parts.proofs.ranges.+left_of.Goals as goal

pub returns : goal.returns
returns t c =
    let left = c.left_of-left.result.now in
    let some : 0 < c.args.count = search rules in
    one_cut c.args.list.now left c.split_at.result.1.now c.args.cuts.now c.args.count (c.args.count - 1) c.cut_at.result (next c.args.count some) c.left_of-left.ensures c.cut_at.ensures c.split_at.ensures.back
  where
    next : (n : ℕ) → 0 < n → n ≡ suc (n - 1)
    next n some = omega (arith, some)
