use Rattle.std.proofs.Common.{sym, subst}
use Rattle.gtid_set.specs.declared.fault.SetFault.{SetFault}
use Rattle.gtid_set.specs.Kept.{IsListFault}
use Rattle.gtid_set.proofs.KeptGrowth.{list_fault, cell_fault}
use Rattle.gtid_set.proofs.kept.open_list.Goals as goal

pub returns-in-Err-clause-full : goal.returns-in-Err-clause-full
returns-in-Err-clause-full c =
    subst (λ (f : SetFault). IsListFault f c.args.pool.now) (sym c.from.ensures) (list_fault c.args.pool.now c.in-Err.fault (λ e. c.in-Err.ensures.full.0 e))

pub returns-in-Err-add-clause-full : goal.returns-in-Err-add-clause-full
returns-in-Err-add-clause-full c =
    subst (λ (f : SetFault). IsListFault f c.args.pool.now) (sym c.from-in-Err-add.ensures)
    (cell_fault c.args.pool.now c.new_list.new.self c.in-Ok.list c.in-Err-add.fault c.in-Ok.ensures.ok (λ e. c.in-Err-add.ensures.full.0 e))
