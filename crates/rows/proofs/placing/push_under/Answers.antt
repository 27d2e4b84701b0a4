use Rattle.std.proofs.Common.{◌≡◌, List, [], ◌∷◌, Option, Some, None, sym, ap, ◌∙◌}
use Rattle.std.specs.Map.{lookup}
use Rattle.indexmap.proofs.CallerLemmas.{insert_entry-new}
use Rattle.indexmap.specs.IndexMap.{set_value_at}
use Rattle.row_images.specs.declared.value.Value.{Value}
use Rattle.rows.specs.Apply.{or_else}
use Rattle.rows.proofs.Equal.{key_test}
use Rattle.rows.proofs.Hashed.{hashed_put, get_hashed}
use Rattle.rows.proofs.Placed.{extends_itself, set_back}
use Rattle.rows.proofs.placing.push_under.Goals as goal

pub returns-in_default-over-clause-put : goal.returns-in_default-over-clause-put
returns-in_default-over-clause-put c = λ _.
    let es = c.args.carriers.now.entries in (
      hashed_put es c.insert_full.new.self.entries c.args.key c.args.row c.in-Ok.ensures.updates.0,
      ap (λ (o : Option (List Value)). or_else None o c.args.key.index) (get_hashed es c.args.key ∙ sym c.in-Ok.ensures.old ∙ c.in_default-over.is),
    )

pub returns-in_default-over-clause-after : goal.returns-in_default-over-clause-after
returns-in_default-over-clause-after c =
    ((c.args.key, c.args.row) ∷ [], c.in-Ok.ensures.entries ∙ insert_entry-new key_test c.args.carriers.now c.args.key c.args.row (sym c.in-Ok.ensures.old ∙ c.in_default-over.is))

pub returns-clause-after : goal.returns-clause-after
returns-clause-after c =
    let es = c.args.carriers.now.entries in
    let found : lookup (key_test c.args.key) es ≡ Some c.in-Some.over = sym c.in-Ok.ensures.old ∙ c.in-Some.is in
    extends_itself es c.put_back.new.carriers.entries
    (c.put_back.ensures ∙ (λ i. set_value_at (c.in-Ok.ensures.entries i) (c.in-Ok.ensures.index i) c.in-Some.over) ∙ set_back es c.args.key c.args.row c.in-Some.over found)
