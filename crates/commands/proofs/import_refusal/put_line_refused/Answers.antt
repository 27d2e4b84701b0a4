use Rattle.std.proofs.Common.{◌≡◌, ℕ, List, OnOk, codes, subst}
use Rattle.std.specs.Prelude.{[], ◌∷◌, decimal}
use Rattle.commands.specs.LogPlaces.{place_at}
use Rattle.commands.specs.Imports.{cause_text}
use Rattle.commands.proofs.Appended.{after_three}
use Rattle.commands.proofs.import_refusal.put_line_refused.Goals as goal

pub returns : goal.returns
returns c =
    let cause : List ℕ = cause_text c.args.cause.now (place_at c.args.line c.args.text.now) in
    subst (λ (text : List ℕ). OnOk c.put_cause.result (c.put_cause.new.out.items ≡ text))
    (after_three c.args.out.now.items c.put.new.out.items c.put_number.new.out.items c.put-2.new.out.items (codes "refused import line ") (decimal c.args.line) (32 ∷ []) cause
    c.in_ok-put.ensures c.in_ok-put_number.ensures c.in_ok-put-2.ensures) c.put_cause.ensures
