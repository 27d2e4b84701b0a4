use Rattle.std.proofs.Common.{◌≡◌, ◌∙◌, ℕ, sym, subst, List, [], ◌∷◌}
use Rattle.interval_pool.specs.declared.cells.Cell.{Cell}
use Rattle.interval_pool.specs.Cells.{with_numbers}
use Rattle.interval_pool.specs.Changes.{Replaced}
use Rattle.interval_pool.proofs.store.renew.Goals as goal
use Rattle.interval_pool.proofs.Growing.{renewed, renewed_at}

pub returns-in-Some : goal.returns-in-Some
returns-in-Some c = λ xs i ys h small parts is_before.
    let at = renewed_at c.args.cells.now c.args.heads.now c.args.list i c.args.before xs ys h parts is_before in
    let found = c.place.ensures ∙ (c.after.ensures ∙ at) in
    let same : c.in-Some.at ≡ i = cc in
    let s = c.args.numbers in
    let P : ℕ → Type 0 = λ n. c.put_numbers.new.cells ≡ with_numbers c.args.cells.now n s.lo s.hi in
    let Q : List Cell → Type 0 = λ cs. Replaced c.args.cells.now c.args.heads.now c.args.list xs (i ∷ ys) 1 (s ∷ []) cs c.args.heads.now in
    subst Q (sym (subst P same c.put_numbers.ensures)) (renewed c.args.cells.now c.args.heads.now c.args.list i s xs ys h small parts)

pub returns-in_default : goal.returns-in_default
returns-in_default c = λ xs i ys h small parts is_before.
    let at = renewed_at c.args.cells.now c.args.heads.now c.args.list i c.args.before xs ys h parts is_before in
    let found = c.place.ensures ∙ (c.after.ensures ∙ at) in
    let no : ⊥ = cc in absurd no
