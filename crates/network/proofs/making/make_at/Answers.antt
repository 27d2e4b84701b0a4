use Rattle.network.proofs.NetworkLemmas.{makes_at, faults_at, rooms_at}
use Rattle.network.proofs.making.make_at.Goals as goal
use Rattle.lemmas.proofs.Options.{if_ok}

pub returns-clause-ok : goal.returns-clause-ok
returns-clause-ok c =
    let x = c.index_mut-one.result.now in
    if_ok c.make.result (λ r m. makes_at c.args.nodes.now.items c.args.node x c.args.event.now (λ n. n.sources) r c.make.new.self c.requires.there c.index_mut-one.ensures.value m) c.make.ensures.ok

pub returns-clause-fault : goal.returns-clause-fault
returns-clause-fault c = faults_at c.args.nodes.now.items c.args.node c.index_mut-one.result.now c.args.event.now c.make.result c.requires.there c.index_mut-one.ensures.value c.make.ensures.fault

pub returns-clause-room : goal.returns-clause-room
returns-clause-room c = rooms_at c.args.nodes.now.items c.args.node c.index_mut-one.result.now c.args.event.now c.make.result c.requires.there c.index_mut-one.ensures.value c.make.ensures.room
