use Rattle.std.proofs.Common.{◌≡◌, ◌∙◌, ℕ, None, List, ◌++◌, length, ap, sym, subst, arith}
use Rattle.std.specs.Prelude.{min}
use Rattle.interval_pool.specs.declared.cells.Cell.{Cell}
use Rattle.interval_pool.specs.declared.cells.Head.{Head}
use Rattle.interval_pool.specs.declared.interval.Interval.{Interval}
use Rattle.interval_pool.specs.Intervals.{AreMerged}
use Rattle.interval_pool.specs.Chains.{last_or}
use Rattle.interval_pool.specs.Places.{AreBelow, IsAscending}
use Rattle.interval_pool.specs.Pools.{chain_of}
use Rattle.interval_pool.specs.Changes.{spans_of, PlacesRun, PushesRun}
use Rattle.interval_pool.proofs.extend.extend.Goals as goal
use Rattle.interval_pool.proofs.Appending.{all_end_below}
use Rattle.interval_pool.proofs.Valued.{seamed}
use Rattle.interval_pool.proofs.Extending.{merged_behind, merged_front, prolonged}

pub last-before-requires-clause-ascending : goal.last-before-requires-clause-ascending
last-before-requires-clause-ascending c =
    let items : List Cell = c.args.cells.now.items in
    let heads : List Head = c.args.heads.now in
    let same = c.deref.ensures.value ∙ c.reserve.ensures.items in
    let P : List Cell → Type 0 = λ cs. IsAscending cs (chain_of cs heads c.args.list) in
    subst P (sym same) (merged_front (spans_of items heads c.args.list) c.args.intervals.now c.requires.merged)

pub last-before-requires-clause-below : goal.last-before-requires-clause-below
last-before-requires-clause-below c =
    let items : List Cell = c.args.cells.now.items in
    let heads : List Head = c.args.heads.now in
    let spans = spans_of items heads c.args.list in
    let s : Interval = c.in-Some.first.now in
    let same = c.deref.ensures.value ∙ c.reserve.ensures.items in
    let P : List Cell → Type 0 = λ cs. AreBelow cs s.lo (chain_of cs heads c.args.list) in
    let Q : List Interval → Type 0 = λ ss. AreMerged (spans ++ ss) in
    subst P (sym same) (all_end_below items s (chain_of items heads c.args.list) (merged_behind spans s _ (subst Q c.in-Some.ensures.cases.0 c.requires.merged)))

pub returns-clause-ok : goal.returns-clause-ok
returns-clause-ok c =
    let ss : List Interval = c.args.intervals.now in
    let k : ℕ = c.args.list in
    let items : List Cell = c.args.cells.now.items in
    let heads : List Head = c.args.heads.now in
    let n : ℕ = c.min.result in
    let before = c.last-before.result in
    let end = c.place_run-end.result in
    let cells1 : List Cell = c.place_run-end.new.cells in
    let heads1 : List Head = c.place_run-end.new.heads in
    let cells2 : List Cell = c.push_run.new.cells.items in
    let heads2 : List Head = c.push_run.new.heads in
    let same = c.deref_mut.ensures.value ∙ c.reserve.ensures.items in
    let last_is : before ≡ last_or None (chain_of items heads k) = (let P : List Cell → Type 0 = λ cs. before ≡ last_or None (chain_of cs heads k) in subst P (c.deref.ensures.value ∙ c.reserve.ensures.items) c.last-before.ensures) in
    let is : n ≡ min c.count-free.result (length ss) = c.min.ensures in
    let free = c.count-free.ensures in
    let count = c.requires.whole.count 0 in
    let P : List Cell → Type 0 = λ cs. PlacesRun cs heads k before c.split_at.result.0.now end cells1 heads1 in
    let Q : List Interval → Type 0 = λ is. PlacesRun items heads k before is end cells1 heads1 in
    let places = subst Q c.split_at.ensures.front (subst P same c.place_run-end.ensures) in
    let size : length cells1 ≡ c.reserve.new.self.len = (let m = c.place_run-end.auto.cells in let a = c.deref_mut.ensures.len in let b = ap length c.deref_mut.ensures.value in omega (m, a, b, arith)) in
    let R : List Cell → Type 0 = λ cs. PushesRun cs heads1 k end c.split_at.result.1.now cells2 heads2 in
    let S : List Interval → Type 0 = λ is. PushesRun cells1 heads1 k end is cells2 heads2 in
    let pushes = subst S c.split_at.ensures.back (subst R (seamed cells1 c.reserve.new.self.items c.reserve.new.self.len size) c.push_run.ensures.run) in
    prolonged items cells1 cells2 heads heads1 heads2 k n before end ss c.requires.whole c.requires.small c.requires.is_list c.requires.there last_is (omega (is, free, count, arith)) (omega (is, arith)) places pushes
