use Rattle.std.proofs.Common.{List, sym, ap, ◌∙◌}
use Rattle.rows.specs.declared.change.Key.{Key}
use Rattle.rows.specs.Apply.{without_keys}
use Rattle.rows.proofs.Undoing.{without_keys_last}
use Rattle.rows.proofs.making.Making.clear.Goals as goal

pub loop-key-preserved : goal.loop-key-preserved
loop-key-preserved c = (
  ap (without_keys c.pop.new.self.items) c.in_ok-take.ensures.ok
      ∙ sym (without_keys_last c.pop.new.self.items c.in-Some.key c.loop-key.self.made)
      ∙ ap (λ (ks : List Key). without_keys ks c.loop-key.self.made) (sym c.in-Some.ensures.items)
      ∙ c.loop-key.invariant.0,
  c.in_ok-take.ensures.before ∙ c.loop-key.invariant.1,
)
