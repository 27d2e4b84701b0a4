use Rattle.commands.proofs.WrittenLines.{first_broken, next_server, can_be_made, next_written, next_broken}
use Rattle.commands.proofs.states_command.write_compared.Goals as goal

pub returns-in-Err-clause-fault : goal.returns-in-Err-clause-fault
returns-in-Err-clause-fault g c = first_broken c.args.compared.now c.args.streams.now.output c.write_union.new.streams.output c.requires.0 c.in-Err.fault c.requires.1 c.in-Err.ensures.fault

pub write_server-requires : goal.write_server-requires
write_server-requires g c =
    let here = next_server c.args.compared.now c.args.streams.now c.loop-server.streams c.servers-server-items.result.now c.loop-server.server-index c.server-item.result c.loop-server-test.true c.server-item.is c.loop-server.invariant in
    can_be_made _ _ _ c.loop-server.streams _ _ here

pub returns-in-Err-write_server-clause-fault : goal.returns-in-Err-write_server-clause-fault
returns-in-Err-write_server-clause-fault g c =
    let here = next_server c.args.compared.now c.args.streams.now c.loop-server.streams c.servers-server-items.result.now c.loop-server.server-index c.server-item.result c.loop-server-test.true c.server-item.is c.loop-server.invariant in
    next_broken _ _ _ c.write_server.new.streams _ _ here c.in-Err-write_server.fault c.in-Err-write_server.ensures.fault

pub loop-server-preserved : goal.loop-server-preserved
loop-server-preserved g c =
    let here = next_server c.args.compared.now c.args.streams.now c.loop-server.streams c.servers-server-items.result.now c.loop-server.server-index c.server-item.result c.loop-server-test.true c.server-item.is c.loop-server.invariant in
    next_written _ _ _ c.write_server.new.streams _ _ here c.in-Ok-write_server.ensures.done c.write_server.ensures.input
