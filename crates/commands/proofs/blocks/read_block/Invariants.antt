use Rattle.std.proofs.Common.{◌≡◌, ◌≤◌, length}
use Rattle.std.specs.Io.KnownBytes.{Consumes}
use Rattle.commands.proofs.blocks.read_block.Given as goal

abbrev pub invariant-loop-read : goal.invariant-loop-read
invariant-loop-read g l = record {
  taken : Consumes (g.S.Source.left l.fn.source) (g.S.Source.left l.source) l.block.items;
  many : l._read ≤ length l.block.items;
  calm : g.S.Source.failed l.source ≡ g.S.Source.failed l.fn.source;
}
