use Rattle.std.proofs.Common.{refl}
use Rattle.gtid_set.proofs.CursorLemmas.{interval_here, next_here}
use Rattle.gtid_set.proofs.cursor.place_of_cell.Goals as goal

pub returns : goal.returns
returns c = record {
  source = refl;
  passed = refl;
  numbers = interval_here c.args.pool.now c.args.source.list c.args.passed c.args.cell c.requires.cell c.span.result c.span.ensures;
  next = next_here c.args.pool.now c.args.source.list c.args.passed c.args.cell c.requires.cell c.next.result c.next.ensures;
  len = c.requires.len;
}
