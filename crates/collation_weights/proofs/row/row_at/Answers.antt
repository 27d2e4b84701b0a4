use Rattle.std.proofs.Common.{rules, ◌≡◌, ◌-◌, true, false, nat_le, subst, sym, arith}
use Rattle.std.proofs.lemmas.List.{get_or_default}
use Rattle.std.specs.List.Sorted.{IsPartitionPoint}
use Rattle.collation_weights.specs.Rows.{row_at}
use Rattle.collation_weights.specs.declared.row.RowKind.TheVariants.{Same}
use Rattle.collation_weights.proofs.Searching.{none_passes, one_passes}
use Rattle.collation_weights.proofs.row.row_at.Goals as goal

pub returns-then-until-eq0-clause-found : goal.returns-then-until-eq0-clause-found
unfolding row_at
returns-then-until-eq0-clause-found c =
    sym (none_passes (λ row. nat_le row.0 c.args.point) c.args.rows.now (0, Same, 0, 0)
    (subst (IsPartitionPoint (λ row. nat_le row.0 c.args.point ≡ true) (λ row. nat_le row.0 c.args.point ≡ false) c.args.rows.now) c.if-until-eq0.true c.rows_until-until.ensures.parted))

pub returns-clause-found : goal.returns-clause-found
unfolding row_at
returns-clause-found c =
    sym (one_passes (λ row. nat_le row.0 c.args.point) c.args.rows.now c.rows_until-until.result (0, Same, 0, 0)
    c.rows_until-until.ensures.bound (omega (arith, c.if-until-eq0.false)) c.rows_until-until.ensures.parted)

pub returns-clause-begins : goal.returns-clause-begins
returns-clause-begins c =
    let passes = c.rows_until-until.ensures.parted.0 (c.rows_until-until.result - 1) (0, Same, 0, 0) (omega arith) (omega (arith, c.if-until-eq0.false)) in
    search (rules, passes)

pub returns-clause-among : goal.returns-clause-among
returns-clause-among c =
    (c.rows_until-until.result - 1, omega (arith, c.if-until-eq0.false, c.rows_until-until.ensures.bound), get_or_default c.args.rows.now (c.rows_until-until.result - 1) _ _ (omega (arith, c.if-until-eq0.false, c.rows_until-until.ensures.bound)))
