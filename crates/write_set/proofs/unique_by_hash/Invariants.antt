use Rattle.std.proofs.Common.{◌≡◌, []}
use Rattle.std.specs.Vec.Iter.{into_iter_items}
use Rattle.indexmap.specs.IndexSet.{insert_all}
use Rattle.rows.proofs.Equal.{key_test}
use Rattle.write_set.proofs.unique_by_hash.Given as goal

abbrev pub invariant-loop-key : goal.invariant-loop-key
invariant-loop-key l = insert_all key_test l.set.keys (into_iter_items l.key-iterator) ≡ insert_all key_test [] l.fn.keys.items
