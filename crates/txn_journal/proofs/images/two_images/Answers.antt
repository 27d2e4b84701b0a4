use Rattle.std.proofs.lemmas.Result.{err_from_is_err_and}
use Rattle.txn_journal.proofs.ImageParts.{images_nowhere, found_both, first_not_found, second_not_found}
use Rattle.txn_journal.proofs.images.two_images.Goals as goal

pub returns-in_default : goal.returns-in_default
returns-in_default c = images_nowhere c.args.text.now c.in_default.ensures.none

pub returns-in_err-before : goal.returns-in_err-before
returns-in_err-before c =
    let p = err_from_is_err_and c.from_residual.result c.from_residual.ensures.1 in
    rw (p.1, p.2) (first_not_found c.in_err-before.field-0.0 c.args.text.now c.in-Some.before.now c.in-Some.after.now c.in-Some.ensures.some c.in_err-before.ensures)

pub returns-in_err-after : goal.returns-in_err-after
returns-in_err-after c =
    let p = err_from_is_err_and c.from_residual-in_err-after.result c.from_residual-in_err-after.ensures.1 in
    rw (p.1, p.2) (second_not_found c.in_err-after.field-0.0 c.args.text.now c.in-Some.before.now c.in-Some.after.now c.in_ok-before.before c.in-Some.ensures.some c.in_ok-before.ensures c.in_err-after.ensures)

pub returns : goal.returns
returns c = found_both c.args.text.now c.in-Some.before.now c.in-Some.after.now c.in_ok-before.before c.in_ok-after.after c.in-Some.ensures.some c.in_ok-before.ensures c.in_ok-after.ensures
