use Rattle.std.proofs.Common.{sym, ap, subst, position, slice_get, ◌∙◌}
use Rattle.std.specs.Option.{option_copied}
use Rattle.rows.specs.Keys.{find_table}
use Rattle.rows.proofs.TableLemmas.{HaveFewUniques, few_uniques, few_shown}
use Rattle.rows.proofs.TableNames.{name_test, table_at, table_got, no_table_at}
use Rattle.rows.proofs.schema.Schema.find.Goals as goal

pub returns-then-len-le-FEW-clause-few : goal.returns-then-len-le-FEW-clause-few
returns-then-len-le-FEW-clause-few c =
    few_shown c.args.name.now c.deref.result.now c.from_the_first.result (subst HaveFewUniques (sym c.deref.ensures.value) (few_uniques c.self.inside.tables.items c.self.invariant.0.each)) c.from_the_first.ensures

pub returns-in_err-place-clause-found : goal.returns-in_err-place-clause-found
returns-in_err-place-clause-found c =
    let none = ap (position (name_test c.args.name.now)) (sym c.self.invariant.1) ∙ sym c.in_err-place.ensures.index in
    ap option_copied c.from_residual.ensures ∙ sym (no_table_at c.args.name.now c.self.inside.tables.items none) ∙ ap (find_table c.args.name.now) c.self.view_is

pub returns-clause-found : goal.returns-clause-found
returns-clause-found c =
    let at = ap (position (name_test c.args.name.now)) (sym c.self.invariant.1) ∙ sym c.in_ok-place.ensures.index in
    table_got c.deref-2.result.now c.in_ok-place.place c.get.result c.get.ensures.lookup.0 c.get.ensures.lookup.1
    ∙ ap (λ ts. slice_get ts c.in_ok-place.place) c.deref-2.ensures.value
    ∙ sym (table_at c.args.name.now c.self.inside.tables.items c.in_ok-place.place at)
    ∙ ap (find_table c.args.name.now) c.self.view_is
