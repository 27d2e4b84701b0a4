use Rattle.std.proofs.Common.{rules, sym, ap, ◌∙◌}
use Rattle.std.specs.Option.{option_map}
use Rattle.collation_weights.specs.Characters.{points}
use Rattle.collation_weights.proofs.Texts.{binary_case}
use Rattle.collation_weights.proofs.weighing.weigh.Goals as goal

pub returns-then-eq : goal.returns-then-eq
returns-then-eq c =
    binary_case c.args.collation c.character_set_of.result c.args.text.now c.in_ok-copy_of.field-0.items (points c.in-Some.characters)
    (search rules) c.character_set_of.ensures (ap (option_map points) (sym c.in-Some.is) ∙ c.decode.ensures.found) c.in_ok-copy_of.ensures
