use Rattle.std.proofs.Common.{◌≡◌, ℕ, true, false, List, sym, subst, arith}
use Rattle.std.specs.Str.{IsUtf8}
use Rattle.log_transactions.proofs.NameLaws.{name_text}
use Rattle.log_transactions.proofs.mapped.table_name.Goals as goal

-- (a name is text always)
pub returns-in_default : goal.returns-in_default
returns-in_default c =
    let database = c.type_inv.database in
    let table = c.type_inv.table in
    let text = name_text c.args.database.now c.args.table.now (λ i. omega (arith, database i)) (λ i. omega (arith, table i)) in
    let bad : false ≡ true = c.in_default.ensures.succeeds (subst (λ (name : List ℕ). IsUtf8 name) (sym c.in_ok-name.ensures) text) in
    absurd cc
