use Rattle.std.proofs.Common.{arith, ◌≡◌, [], sym, ap, ◌∙◌, fold}
use Rattle.std.proofs.lemmas.List.{nil_from_length}
use Rattle.std.specs.Vec.Iter.{into_iter_items}
use Rattle.write_set.specs.FirstTouch.{add_key}
use Rattle.write_set.proofs.Firsts.{all_added}
use Rattle.write_set.proofs.unique_by_comparison.Goals as goal

pub returns : goal.returns
returns c =
    let none : into_iter_items c.loop-key.key-iterator ≡ [] = nil_from_length _ (omega (arith, c.in-None.ensures.steps.0, c.loop-key.key-iterator.rest.ok.0)) in
    sym (ap (fold add_key c.loop-key.list.items) none) ∙ c.loop-key.invariant ∙ all_added c.args.keys.items
