use Rattle.std.proofs.Common.{◌≡◌, ◌<◌, ◌∙◌, length, Some, get_or, refl, sym, ap, subst, arith}
use Rattle.std.specs.Prelude.{slice_get, slice_set}
use Rattle.std.proofs.lemmas.Option.{slice_get_read}
use Rattle.network.specs.Reading.{AreRead}
use Rattle.std.specs.FinMap as finmap
use Rattle.lemmas.proofs.Options.{if_ok}
use Rattle.replica_core.specs.declared.event.Event.TheVariants as event
use Rattle.network.proofs.NetworkLemmas.{makes_at, faults_at, rooms_at}
use Rattle.network.proofs.ReadingLemmas.{position_keeps}
use Rattle.network.proofs.making.position_at.Goals as goal

pub returns-clause-ok : goal.returns-clause-ok
returns-clause-ok c =
    let x = c.index_mut-one.result.now in
    if_ok c.position.result (λ r m. makes_at c.args.nodes.now.items c.args.node x (event.Position c.args.channel) (λ n. finmap.insert n.sources c.args.channel c.args.source) r c.position.new.self c.requires.there c.index_mut-one.ensures.value m) c.position.ensures.ok

pub returns-clause-fault : goal.returns-clause-fault
returns-clause-fault c = faults_at c.args.nodes.now.items c.args.node c.index_mut-one.result.now (event.Position c.args.channel) c.position.result c.requires.there c.index_mut-one.ensures.value c.position.ensures.fault

pub returns-clause-read : goal.returns-clause-read
returns-clause-read c =
    let N = c.args.nodes.now.items in
    let i = c.args.node in
    let x = c.index_mut-one.result.now in
    let R = c.args.readers.now in
    let p = get_or R i c.index-readers-node.result in
    let below : i < length R = omega (c.requires.there, c.requires.read.count, arith) in
    let at : slice_get R i ≡ Some p = slice_get_read R (length R) i c.index-readers-node.result refl below c.index-readers-node.is ∙ ap Some c.index-readers-node.is in
    subst (λ q. AreRead (slice_set N i c.position.new.self) (slice_set R i q)) (sym c.forget.ensures)
    (position_keeps N R i c.args.channel c.args.source x c.position.new.self p c.position.result
    (slice_get_read N (length N) i x refl c.requires.there c.index_mut-one.ensures.value) at c.position.ensures.ok c.position.ensures.err c.requires.read)

pub returns-clause-room : goal.returns-clause-room
returns-clause-room c = rooms_at c.args.nodes.now.items c.args.node c.index_mut-one.result.now (event.Position c.args.channel) c.position.result c.requires.there c.index_mut-one.ensures.value c.position.ensures.room
