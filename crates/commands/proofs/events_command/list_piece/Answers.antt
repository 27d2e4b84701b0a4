use Rattle.commands.proofs.EventLines.{listed_if, broken_if}
use Rattle.commands.proofs.events_command.list_piece.Goals as goal

pub returns-clause-done : goal.returns-clause-done
returns-clause-done g c =
    listed_if c.args.lister.now c.feed.new.self c.args.piece.now c.clear.new.self.items c.feed.new.out.items c.deref.result.now c.args.streams.now.output c.write_bytes.new.self.output
    c.clear.ensures.items c.deref.ensures.value c.in-Ok.ensures.lists c.in-Ok.ensures.begins c.write_bytes.result c.write_bytes.ensures.done

pub returns-clause-fault : goal.returns-clause-fault
returns-clause-fault g c =
    broken_if c.args.lister.now c.feed.new.self c.args.piece.now c.clear.new.self.items c.feed.new.out.items c.deref.result.now c.args.streams.now.output c.write_bytes.new.self.output
    c.clear.ensures.items c.deref.ensures.value c.in-Ok.ensures.lists c.in-Ok.ensures.begins c.write_bytes.result c.write_bytes.ensures.fault c.write_bytes.ensures.write
