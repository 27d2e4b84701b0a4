use Rattle.std.proofs.lemmas.Slice.Eq.{slice_eq-Decides}
use Rattle.rows.proofs.Equal.{keys-Decide}
use Rattle.rows.proofs.making.are_same_keys.Goals as goal

pub returns : goal.returns
returns c = slice_eq-Decides keys-Decide c.args.a.now c.args.b.now c.eq.result c.eq.ensures
