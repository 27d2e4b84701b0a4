use Rattle.std.proofs.Common.{List, sym, ap, ◌∙◌}
use Rattle.std.specs.FinMap as map
use Rattle.rows.specs.declared.change.Key.{Key}
use Rattle.row_images.specs.declared.value.Value.{Value}
use Rattle.rows.specs.Apply.{with_row}
use Rattle.rows.proofs.Undoing.{with_row_last}
use Rattle.rows.proofs.making.Making.place.Goals as goal

pub loop-key-preserved : goal.loop-key-preserved
loop-key-preserved c = (
  ap (with_row c.pop.new.self.items c.args.row.now) (c.in_ok-put.ensures.ok ∙ ap (λ (r : List Value). map.insert c.loop-key.self.made c.in-Some.key r) c.in_ok-row.ensures.cases)
      ∙ sym (with_row_last c.pop.new.self.items c.in-Some.key c.args.row.now c.loop-key.self.made)
      ∙ ap (λ (ks : List Key). with_row ks c.args.row.now c.loop-key.self.made) (sym c.in-Some.ensures.items)
      ∙ c.loop-key.invariant.0,
  c.in_ok-put.ensures.before ∙ c.loop-key.invariant.1,
)
