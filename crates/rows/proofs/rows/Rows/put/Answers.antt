use Rattle.std.proofs.Common.{[], sym, ap, subst}
use Rattle.rows.specs.Apply.{◌>>=◌, apply_from}
use Rattle.rows.specs.Database.{AreRowsOf, opening}
use Rattle.rows.proofs.FitLemmas.{keeps_rows}
use Rattle.rows.proofs.rows.Rows.put.Goals.{in-Ok, in-Err-Row, in-Err-Memory}
use Rattle.rows.proofs.rows.Rows.put.Goals as goal

pub invariant_of-self : goal.invariant_of-self
invariant_of-self c =
    elim c.match-insert_image.branch [
      | in-Ok w ↦
          keeps_rows c.self.inside.schema (opening c.args.table.now c.args.row.now) c.self.inside.carriers c.insert_image.new.self c.in_default.ensures.ok c.self.invariant
          (ap (λ r. r >>= apply_from c.self.inside.schema 1 []) w.in-Ok.ensures.ok)
      | in-Err-Row w ↦ subst (AreRowsOf c.self.inside.schema) (sym w.in-Err-Row.ensures.err) c.self.invariant
      | in-Err-Memory w ↦ subst (AreRowsOf c.self.inside.schema) (sym w.in-Err-Memory.ensures.err) c.self.invariant
    ]
