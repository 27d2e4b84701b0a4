use Rattle.std.proofs.Common.{◌≡◌, ℕ, ap, ◌∙◌, sym, subst, List, [], ◌∷◌, ◌++◌, length, take, drop, arith}
use Rattle.std.proofs.Math.Seq.{take-append_seam}
use Rattle.interval_pool.specs.declared.cells.Cell.{Cell}
use Rattle.interval_pool.specs.Intervals.{list_of_pieces}
use Rattle.interval_pool.specs.declared.interval.Interval.{Interval}
use Rattle.interval_pool.specs.Pools.{chain_of}
use Rattle.interval_pool.specs.Changes.{MakesRoom, Puts, Renews, Replaced}
use Rattle.interval_pool.proofs.Valued.{seamed}
use Rattle.interval_pool.proofs.Growing.{renewed_length}
use Rattle.interval_pool.proofs.store.replace.Goals as goal
use Rattle.interval_pool.proofs.Putting.{first_free, replaced, put_length}

pub returns-clause-ok : goal.returns-clause-ok
returns-clause-ok c = λ xs ys h small not_free lt parts is_before few more.
    let items : List Cell = c.args.cells.now.items in
    let heads = c.args.heads.now in
    let P : List Cell → Type 0 = λ cs. Puts cs c.make_room.new.heads c.args.list c.args.before c.args.count c.args.pieces c.put.new.cells c.put.new.heads in
    let Q : ℕ → Type 0 = λ n. MakesRoom items heads c.args.count n c.make_room.new.cells.items c.make_room.new.heads in
    let room = subst Q c.count_pieces.ensures c.in_ok-make_room.ensures.ok in
    let puts = subst P c.deref_mut-2.ensures.value c.put.ensures in
    let done = replaced items c.make_room.new.cells.items c.put.new.cells heads c.make_room.new.heads c.put.new.heads c.args.list c.args.count c.args.before c.args.pieces room puts xs ys h small not_free lt parts is_before few more in
    let rest = drop (length c.put.new.cells) c.make_room.new.cells.items in
    let size = put_length items c.make_room.new.cells.items c.put.new.cells heads c.make_room.new.heads c.put.new.heads c.args.list c.args.count c.args.before c.args.pieces room puts xs ys h small not_free lt parts is_before few more in
    let same : c.make_room.new.cells.len ≡ length c.put.new.cells = (let l = c.deref_mut-2.ensures.len in let v = ap length c.deref_mut-2.ensures.value in omega (size, l, v, arith)) in
    let whole : take c.make_room.new.cells.len (c.put.new.cells ++ rest) ≡ c.put.new.cells = ap (λ m. take m (c.put.new.cells ++ rest)) same ∙ take-append_seam c.put.new.cells rest in
    let S : List Cell → Type 0 = λ cs. Replaced items heads c.args.list xs ys c.args.count (list_of_pieces c.args.pieces) cs c.put.new.heads in
    subst S (sym whole) done

pub returns-in-Some-clause-ok : goal.returns-in-Some-clause-ok
returns-in-Some-clause-ok c = λ xs ys h small not_free lt parts is_before few more.
    let items : List Cell = c.args.cells.now.items in
    let heads = c.args.heads.now in
    let k : ℕ = c.args.list in
    let s : Interval = c.in-Some.numbers in
    let one : c.args.count ≡ 1 = c.if-count-eq1.true in
    let first = first_free ys (omega (few, one, arith)) in
    let i = first.0 in
    let P : List Cell → Type 0 = λ cs. Renews cs heads k c.args.before s c.renew.new.cells in
    let renews = subst P c.deref_mut.ensures.value c.renew.ensures in
    let parts' : chain_of items heads k ≡ xs ++ i ∷ first.1.0 = parts ∙ ap (λ is. xs ++ is) first.1.1 in
    let done = renews xs i first.1.0 h small parts' is_before in
    let size : length c.renew.new.cells ≡ c.args.cells.now.len = (let n = renewed_length items c.renew.new.cells heads k s xs first.1.0 i done in let a = ap length c.deref_mut.ensures.value in let b = c.deref_mut.ensures.len in omega (n, a, b, arith)) in
    let Q : List ℕ → Type 0 = λ is. Replaced items heads k xs is 1 (s ∷ []) c.renew.new.cells heads in
    let R : ℕ → Type 0 = λ n. Replaced items heads k xs ys n (s ∷ []) c.renew.new.cells heads in
    let S : List Interval → Type 0 = λ ss. Replaced items heads k xs ys c.args.count ss c.renew.new.cells heads in
    let T : List Cell → Type 0 = λ cs. Replaced items heads k xs ys c.args.count (list_of_pieces c.args.pieces) cs heads in
    subst T (sym (seamed c.renew.new.cells items c.args.cells.now.len size)) (subst S (sym c.in-Some.ensures) (subst R (sym one) (subst Q (sym first.1.1) done)))
