use Rattle.std.proofs.Common.{◌≡◌, ◌++◌, List, ℕ, drop, flat_map, string_bytes}
use Rattle.std.specs.Io.KnownBytes.{Appends}
use Rattle.commands.proofs.pieces.write_pieces.Given as goal

abbrev pub invariant-loop-piece : goal.invariant-loop-piece
invariant-loop-piece g l =
    (front : List ℕ)
    × (Appends (g.W.Sink.written l.fn.writer) (g.W.Sink.written l.writer) front)
    × (front ++ flat_map string_bytes (drop l.piece-index l.pieces) ≡ flat_map string_bytes l.pieces)
    × (g.W.Sink.failed l.writer ≡ g.W.Sink.failed l.fn.writer)
