use Rattle.std.proofs.Common.{◌≡◌, List, Ok, sym, ap, ◌∙◌, subst}
use Rattle.std.specs.FinMap as map
use Rattle.rows.specs.declared.change.Key.{Key}
use Rattle.rows.specs.Apply.{Rows, without_keys, delete_row}
use Rattle.rows.proofs.Replacing.{replaced}
use Rattle.rows.proofs.key_map.KeyMap.replace_row.Goals as goal

pub returns-in-Ok-clause-ok : goal.returns-in-Ok-clause-ok
returns-in-Ok-clause-ok c =
    let went =
    subst (λ (m : Rows). delete_row 0 c.args.keys.items c.args.before.now m ≡ Ok (without_keys c.args.keys.items m)) c.self.view_is
    (subst (λ (ks : List Key). delete_row 0 ks c.args.before.now (map.from_entries c.self.inside.carriers.entries) ≡ Ok (without_keys ks (map.from_entries c.self.inside.carriers.entries))) c.deref.ensures.value c.in_default.ensures.ok) in
    replaced 0 c.args.keys.items c.args.before.now c.args.after.now c.args.self.now went ∙ ap Ok (sym c.in-Ok.ensures.ok)
