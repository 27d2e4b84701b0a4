use Rattle.std.proofs.Common.{◌≡◌, List, Ok, sym, ap, ◌∙◌, subst}
use Rattle.std.specs.FinMap as map
use Rattle.rows.specs.declared.change.Key.{Key}
use Rattle.rows.specs.Apply.{without_keys, delete_row}
use Rattle.rows.specs.Making.{Course}
use Rattle.rows.proofs.Replacing.{replaced}
use Rattle.rows.proofs.making.Making.replace_row.Goals as goal

pub returns-in-Ok-clause-ok : goal.returns-in-Ok-clause-ok
returns-in-Ok-clause-ok c =
    let went =
    subst (λ (r : Course). delete_row c.args.change c.args.keys.now.items c.args.before.now r.made ≡ Ok (without_keys c.args.keys.now.items r.made)) c.self.view_is
    (subst (λ (ks : List Key). delete_row c.args.change ks c.args.before.now (map.from_entries c.self.inside.carriers.entries) ≡ Ok (without_keys ks (map.from_entries c.self.inside.carriers.entries))) c.as_slice.ensures.value c.in_default.ensures.ok) in
    replaced c.args.change c.args.keys.now.items c.args.before.now c.args.after.now c.args.self.now.made went ∙ ap Ok (sym c.in-Ok.ensures.ok)
