use Rattle.std.proofs.Common.{subst}
use Rattle.std.specs.Io.KnownBytes.{Appends}
use Rattle.commands.specs.Edge.{Begins}
use Rattle.commands.proofs.InPieces.{begins_before, failed_behind}
use Rattle.commands.proofs.pieces.write_behind.Goals as goal

pub returns-in_default-clause-begins : goal.returns-in_default-clause-begins
returns-in_default-clause-begins g c =
    begins_before _ _ c.args.first.now _ (subst (Begins (g.W.Sink.written c.args.writer.now) (g.W.Sink.written c.write.new.self)) c.as_bytes.ensures.value c.in_default.ensures.begins)

pub returns-clause-begins : goal.returns-clause-begins
returns-clause-begins g c =
    let sent = subst (Appends (g.W.Sink.written c.args.writer.now) (g.W.Sink.written c.write.new.self)) c.as_bytes.ensures.value c.in-Ok.ensures.ok in
    failed_behind c.write_pieces.result _ _ _ c.args.first.now _ sent c.write_pieces.ensures.begins
