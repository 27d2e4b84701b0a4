use Rattle.std.proofs.Common.{◌≡◌, ◌≤◌, length}
use Rattle.std.specs.FinMap as map
use Rattle.indexmap.specs.IndexMap.{spare}
use Rattle.rows.specs.Making.{put_back}
use Rattle.rows.specs.Order.{key_cmp}
use Rattle.rows.proofs.making.restore_all.Given as goal

abbrev pub invariant-loop-seen : goal.invariant-loop-seen
invariant-loop-seen l =
    (put_back l.log.items (map.from_entries {R = key_cmp} l.carriers.entries) ≡ put_back l.fn.log.items (map.from_entries l.fn.carriers.entries))
    × (length l.log.items ≤ spare l.carriers)

abbrev pub decreases-loop-seen : goal.decreases-loop-seen
decreases-loop-seen l = goal.left-loop-seen l
