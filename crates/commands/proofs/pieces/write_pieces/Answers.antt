use Rattle.std.proofs.Common.{◌++◌, ◌∙◌, string_bytes, subst}
use Rattle.std.proofs.KnownBytes.{Appends-trans}
use Rattle.commands.specs.Edge.{Begins}
use Rattle.commands.proofs.InPieces.{begins_before, begins_behind, piece_behind}
use Rattle.commands.proofs.pieces.write_pieces.Goals as goal

pub returns-in_default-clause-begins : goal.returns-in_default-clause-begins
returns-in_default-clause-begins g c =
    let sent = c.loop-piece.invariant in
    subst (Begins (g.W.Sink.written c.args.writer.now) (g.W.Sink.written c.write.new.self))
    (piece_behind string_bytes c.args.pieces.now c.loop-piece.piece-index c.piece-item.result sent.0 c.as_bytes.result.now _ c.loop-piece-test.true c.piece-item.is c.as_bytes.ensures.value sent.2)
    (begins_before _ _ _ _ (begins_behind _ _ _ sent.0 c.as_bytes.result.now sent.1 c.in_default.ensures.begins))

pub loop-piece-preserved : goal.loop-piece-preserved
loop-piece-preserved g c =
    let sent = c.loop-piece.invariant in (
      sent.0 ++ c.as_bytes.result.now,
      Appends-trans _ _ _ sent.0 c.as_bytes.result.now sent.1 c.in-Ok.ensures.ok,
      piece_behind string_bytes c.args.pieces.now c.loop-piece.piece-index c.piece-item.result sent.0 c.as_bytes.result.now _ c.loop-piece-test.true c.piece-item.is c.as_bytes.ensures.value sent.2,
      c.in-Ok.ensures.calm ∙ sent.3,
    )
