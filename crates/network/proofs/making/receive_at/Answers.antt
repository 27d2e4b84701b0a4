use Rattle.std.proofs.Common.{◌≡◌, ◌<◌, ◌∙◌, length, Some, get_or, refl, sym, ap, subst, arith}
use Rattle.std.specs.Prelude.{slice_get, slice_set}
use Rattle.std.proofs.lemmas.Option.{slice_get_read}
use Rattle.network.specs.Reading.{AreRead}
use Rattle.network.proofs.ReadingLemmas.{put_read, receive_keeps}
use Rattle.network.proofs.making.receive_at.Goals as goal

pub returns-clause-read : goal.returns-clause-read
returns-clause-read c =
    let N = c.args.nodes.now.items in
    let R = c.args.readers.now in
    let i = c.args.node in
    let p = get_or R i c.index-readers-node.result in
    let below : i < length R = omega (c.requires.there, c.requires.read.count, arith) in
    let at : slice_get R i ≡ Some p = slice_get_read R (length R) i c.index-readers-node.result refl below c.index-readers-node.is ∙ ap Some c.index-readers-node.is in
    receive_keeps N (slice_set R i c.put.new.self) i c.args.channel c.args.entry c.make_at.result c.make_at.new.nodes.items c.make_at.ensures.ok c.make_at.ensures.err
    (subst (λ q. AreRead N (slice_set R i q)) (sym c.in-Ok.ensures.ok)
    (put_read N R i c.args.channel c.args.place p at c.requires.read c.requires.read_to))
