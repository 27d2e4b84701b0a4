use Rattle.std.proofs.Common.{◌≡◌, ◌++◌, ◌+◌, ◌<◌, ◌≤◌, true, false, List, ℕ, length}
use Rattle.std.specs.Io.KnownBytes.{Consumes, IsAtEnd}
use Rattle.parallel_reading.specs.Coming.{HasCome}
use Rattle.commands.proofs.blocks.read_beside.Given as goal

abbrev pub invariant-loop-turn : goal.invariant-loop-turn
invariant-loop-turn g l = record {
  front : List ℕ;
  come : HasCome l.reader front;
  taken : Consumes (g.S.Source.left l.fn.source) (g.S.Source.left l.source) (front ++ l.block.items);
  last : l.is_last ≡ true → IsAtEnd (g.S.Source.left l.source);
  many : l._turn ≤ length (front ++ l.block.items);
  more : l.is_last ≡ false → l._turn + 1 ≤ length (front ++ l.block.items);
  some : 0 < l.reads;
  calm : g.S.Source.failed l.source ≡ g.S.Source.failed l.fn.source;
}
