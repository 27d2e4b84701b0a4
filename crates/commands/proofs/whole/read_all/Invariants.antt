use Rattle.std.proofs.Common.{◌≡◌, ◌≤◌, length}
use Rattle.std.specs.Io.KnownBytes.{Consumes}
use Rattle.commands.proofs.whole.read_all.Given as goal

abbrev pub invariant-loop-turn : goal.invariant-loop-turn
invariant-loop-turn g l = record {
  taken : Consumes (g.S.Source.left l.fn.reader) (g.S.Source.left l.reader) l.bytes.items;
  many : l._turn ≤ length l.bytes.items;
  calm : g.S.Source.failed l.reader ≡ g.S.Source.failed l.fn.reader;
}
