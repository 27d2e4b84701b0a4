use Rattle.std.proofs.Common.{sym, subst}
use Rattle.std.proofs.lemmas.Result.{on_ok_weaker}
use Rattle.rows.specs.Database.{Database, AreRowsOf, LeavesImages}
use Rattle.rows.specs.Fits.{Fits}
use Rattle.rows.proofs.Local.{after_apply}
use Rattle.rows.proofs.FitLemmas.{by_either, few_changes, keeps_rows, no_two_carry}
use Rattle.rows.proofs.rows.Rows.apply_fitting.Goals as goal

pub apply-requires : goal.apply-requires
apply-requires c = few_changes c.args.self.now.schema c.args.txn.now c.requires

pub invariant_of-self : goal.invariant_of-self
invariant_of-self c =
    let fits = subst (λ (d : Database). Fits d.schema c.args.txn.now) (sym c.self.view_is) c.requires in
    by_either c.apply.result c.apply.ensures.ok c.apply.ensures.err
    (keeps_rows c.self.inside.schema c.args.txn.now c.self.inside.carriers c.apply.new.self fits c.self.invariant)
    (λ same. subst (AreRowsOf c.self.inside.schema) (sym same) c.self.invariant)

pub returns-clause-left : goal.returns-clause-left
returns-clause-left c =
    on_ok_weaker c.apply.result
    (λ e. subst (λ (d : Database). LeavesImages d.schema c.args.txn.now d.rows c.apply.new.self) c.self.view_is (after_apply c.self.inside.schema c.args.txn.now c.self.inside.carriers c.apply.new.self e))
    c.apply.ensures.ok

pub returns-clause-no_two : goal.returns-clause-no_two
returns-clause-no_two c =
    let fits = subst (λ (d : Database). Fits d.schema c.args.txn.now) (sym c.self.view_is) c.requires in
    no_two_carry c.self.inside.schema c.apply.new.self
    (by_either c.apply.result c.apply.ensures.ok c.apply.ensures.err
    (keeps_rows c.self.inside.schema c.args.txn.now c.self.inside.carriers c.apply.new.self fits c.self.invariant)
    (λ same. subst (AreRowsOf c.self.inside.schema) (sym same) c.self.invariant))
