use Rattle.std.proofs.Common.{arith, ◌≡◌, [], sym, ap, ◌∙◌}
use Rattle.std.proofs.lemmas.List.{nil_from_length}
use Rattle.std.specs.Vec.Iter.{into_iter_items}
use Rattle.indexmap.specs.IndexSet.{insert_all}
use Rattle.rows.proofs.Equal.{key_test}
use Rattle.write_set.proofs.Firsts.{all_inserted}
use Rattle.write_set.proofs.unique_by_hash.Goals as goal

pub returns : goal.returns
returns c =
    let none : into_iter_items c.loop-key.key-iterator ≡ [] = nil_from_length _ (omega (arith, c.in-None.ensures.steps.0, c.loop-key.key-iterator.rest.ok.0)) in
    sym (ap (insert_all key_test c.loop-key.set.keys) none) ∙ c.loop-key.invariant ∙ all_inserted c.args.keys.items
