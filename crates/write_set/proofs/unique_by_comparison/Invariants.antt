use Rattle.std.proofs.Common.{◌≡◌, [], fold}
use Rattle.std.specs.Vec.Iter.{into_iter_items}
use Rattle.write_set.specs.FirstTouch.{add_key}
use Rattle.write_set.proofs.unique_by_comparison.Given as goal

abbrev pub invariant-loop-key : goal.invariant-loop-key
invariant-loop-key l = fold add_key l.list.items (into_iter_items l.key-iterator) ≡ fold add_key [] l.fn.keys.items
