use Rattle.std.proofs.Common.{◌≡◌, List, None, sym, subst}
use Rattle.interval_pool.specs.declared.cells.Cell.{Cell}
use Rattle.interval_pool.specs.Chains.{last_or}
use Rattle.interval_pool.specs.Places.{AreBelow}
use Rattle.interval_pool.specs.Pools.{chain_of}
use Rattle.interval_pool.proofs.append.append.Goals as goal
use Rattle.interval_pool.proofs.Appending.{all_end_below, appended, last_inside, spans_appended}

pub last-before-requires-clause-below : goal.last-before-requires-clause-below
last-before-requires-clause-below c =
    let items : List Cell = c.args.cells.now.items in
    let P : List Cell → Type 0 = λ cs. AreBelow cs c.args.numbers.lo (chain_of cs c.args.heads.now c.args.list) in
    subst P (sym c.deref.ensures.value) (all_end_below items c.args.numbers (chain_of items c.args.heads.now c.args.list) c.requires.behind)

pub put_last-requires-clause-below : goal.put_last-requires-clause-below
put_last-requires-clause-below c =
    let items : List Cell = c.args.cells.now.items in
    let P : List Cell → Type 0 = λ cs. c.last-before.result ≡ last_or None (chain_of cs c.args.heads.now c.args.list) in
    last_inside items c.args.heads.now c.args.list c.last-before.result c.requires.whole (subst P c.deref.ensures.value c.last-before.ensures)

last_is : (c : goal.In_ok-put_last) → c.last-before.result ≡ last_or None (chain_of c.args.cells.now.items c.args.heads.now c.args.list)
last_is c =
    let P : List Cell → Type 0 = λ cs. c.last-before.result ≡ last_or None (chain_of cs c.args.heads.now c.args.list) in
    subst P c.deref.ensures.value c.last-before.ensures

pub returns-clause-ok : goal.returns-clause-ok
returns-clause-ok c =
    appended c.args.cells.now.items c.put_last.new.cells.items c.args.heads.now c.put_last.new.heads c.args.list c.last-before.result c.args.numbers c.requires.whole c.requires.small c.requires.is_list c.requires.there (last_is c)
    c.requires.merged c.requires.filled c.requires.behind c.in_ok-put_last.ensures.ok

pub returns-clause-spans : goal.returns-clause-spans
returns-clause-spans c =
    spans_appended c.args.cells.now.items c.put_last.new.cells.items c.args.heads.now c.put_last.new.heads c.args.list c.last-before.result c.args.numbers c.requires.whole c.requires.small c.requires.is_list c.requires.there (last_is c)
    c.in_ok-put_last.ensures.ok
