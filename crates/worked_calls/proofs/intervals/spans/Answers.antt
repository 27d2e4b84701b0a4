use Rattle.std.proofs.Common.{◌≡◌, List, [], ◌∷◌, ◌++◌, length, ap, sym, subst, arith, length-append}
use Rattle.interval_pool.specs.declared.interval.Interval.{Interval}
use Rattle.interval_pool.specs.Values.{IsAlong}
use Rattle.worked_calls.proofs.intervals.spans.Goals as goal
use Rattle.worked_calls.proofs.Along.{along_next}

pub cells-preserved : goal.cells-preserved
cells-preserved c =
    let seen : List Interval = c.cells.found.items in
    let more : c.push.new.self.items ≡ seen ++ c.span.result ∷ [] = c.in_ok-push.ensures.items in
    let P : List Interval → Type 0 = λ ss. IsAlong c.args.pool.now c.args.list ss c.next-next.result in
    record {
      along = subst P (sym more) (along_next c.args.pool.now c.args.list c.in-Some.cell seen c.cells.next c.next-next.result c.span.result c.cells.invariant.along c.in-Some.is c.next-next.ensures c.span.ensures);
      count = let e = ap length more in let f = length-append seen (c.span.result ∷ []) in let n = c.cells.invariant.count in omega (e, f, n, arith);
    }
