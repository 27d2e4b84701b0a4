use Rattle.std.proofs.Common.{◌≡◌, ◌∙◌, ◌+◌, ◌++◌, ◌∷◌, [], Some, List, length, ap, sym, arith, length-append}
use Rattle.std.proofs.lemmas.List.{append-nil, nil_from_length}
use Rattle.interval_pool.specs.declared.cells.Cell.{Cell}
use Rattle.interval_pool.specs.declared.interval.Interval.{Interval}
use Rattle.interval_pool.specs.Changes.{next_of, run}
use Rattle.interval_pool.proofs.store.push_cells.Goals as goal
use Rattle.interval_pool.proofs.Extending.{run_more}

pub push-preserved : goal.push-preserved
push-preserved c =
    let items : List Cell = c.push.cells.items in
    let s : Interval = c.in-Some.numbers.now in
    let ss : List Interval = c.in-Some.more.now in
    let parts : c.push.rest.now ≡ s ∷ ss = c.in-Some.ensures.cases.0 in
    let many = ap length parts in
    let small = c.push.invariant.small in
    let room = c.push.invariant.room in
    let behind = c.push.invariant.behind in
    let next : c.next_of-next.result ≡ next_of ss (length items + 1) = c.next_of-next.ensures (length items + 1) (λ some. behind (omega (many, some, arith))) in
    let made = c.push_reserved.ensures.items in
    let size = ap length made ∙ length-append items (record { lo = s.lo; hi = s.hi; next = c.next_of-next.result; owner = c.args.list } ∷ []) in
    let len = c.push_reserved.ensures.len in
    let same = c.push_reserved.ensures.capacity in
    record {
      items = run_more items c.push_reserved.new.self.items c.args.list c.next_of-next.result s ss next made ∙ (ap (λ is. items ++ run c.args.list (length items) is) (sym parts) ∙ c.push.invariant.items);
      behind = λ some. c.behind-behind.ensures (length items + 1) (behind (omega (many, some, arith))) (omega (many, some, small, arith)) ∙ ap (λ n. Some (n + 1)) (sym size);
      small = omega (size, many, small, arith);
      room = omega (len, same, many, room, arith);
      capacity = same ∙ c.push.invariant.capacity;
    }

pub returns-clause-items : goal.returns-clause-items
returns-clause-items c =
    sym (ap (λ is. c.push.cells.items ++ run c.args.list (length c.push.cells.items) is) (nil_from_length c.push.rest.now c.in_default.ensures.cases) ∙ append-nil c.push.cells.items) ∙ c.push.invariant.items
