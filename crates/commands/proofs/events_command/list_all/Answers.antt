use Rattle.std.proofs.Common.{rules, ◌≡◌, ◌<◌, arith}
use Rattle.std.specs.Io.KnownBytes.{IsAtEnd}
use Rattle.commands.proofs.EventLines.{piece_more, piece_stopped, read_failed, all_listed, too_much}
use Rattle.commands.proofs.events_command.list_all.Goals as goal

pub returns-in-Err-clause-fault : goal.returns-in-Err-clause-fault
returns-in-Err-clause-fault g c =
    read_failed c.args.detail c.args.streams.now c.loop-turn.streams c.read_some.new.self c.loop-turn.lister c.loop-turn._turn c.loop-turn.invariant c.read_some.ensures.output c.in-Err.ensures.bytes c.in-Err.ensures.counted

pub returns-then-n-eq0-clause-done : goal.returns-then-n-eq0-clause-done
returns-then-n-eq0-clause-done g c =
    let none : c.in-Ok.n ≡ 0 = c.if-n-eq0.true in
    let end : IsAtEnd c.read_some.new.self.input.left = search rules in
    all_listed c.args.detail c.args.streams.now c.loop-turn.streams c.read_some.new.self c.loop-turn.lister c.loop-turn._turn c.loop-turn.invariant c.read_some.ensures.output
    c.in-Ok.n c.read_some.new.buffer c.fault.result none c.in-Ok.ensures.bytes.0 end (c.fault.ensures c.args.detail c.loop-turn.invariant.bytes c.loop-turn.invariant.text c.loop-turn.invariant.come)

pub returns-in-Err-list_piece-clause-fault : goal.returns-in-Err-list_piece-clause-fault
returns-in-Err-list_piece-clause-fault g c =
    piece_stopped c.args.detail c.args.streams.now c.loop-turn.streams c.read_some.new.self c.loop-turn.lister c.loop-turn._turn c.loop-turn.invariant c.read_some.ensures.output
    c.list_piece.new.streams c.read_some.new.buffer c.first_of-more.result.now c.in-Ok.n c.in-Err-list_piece.fault c.in-Ok.ensures.bytes.0 c.first_of-more.ensures c.list_piece.ensures.input c.in-Err-list_piece.ensures.fault

pub loop-turn-preserved : goal.loop-turn-preserved
loop-turn-preserved g c =
    let some : 0 < c.in-Ok.n = search rules in
    piece_more c.args.detail c.args.streams.now c.loop-turn.streams c.read_some.new.self c.loop-turn.lister c.loop-turn._turn c.loop-turn.invariant c.read_some.ensures.output
    c.list_piece.new.streams c.list_piece.new.lister c.in-Ok.n c.read_some.new.buffer c.first_of-more.result.now c.in-Ok.ensures.bytes.0 c.in-Ok.ensures.calm c.in-Ok.ensures.bound some c.first_of-more.ensures
    c.list_piece.ensures.input c.in-Ok-list_piece.ensures.done

pub returns-clause-fault : goal.returns-clause-fault
returns-clause-fault g c = too_much c.args.detail c.args.streams.now c.loop-turn.streams c.loop-turn.lister c.loop-turn._turn c.loop-turn.invariant (omega arith)
