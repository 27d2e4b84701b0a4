use Rattle.std.proofs.Common.{◌≡◌, ◌-◌, ◌<◌, length, arith}
use Rattle.replica_lines.proofs.OwnedLemmas.{all_left, none_put, less_left, one_element, one_put}
use Rattle.replica_lines.proofs.replica_status.owners.Goals as goal

pub loop-left-init : goal.loop-left-init
loop-left-init c = record {
  front = all_left c.args.owned.now;
  put = none_put c.args.owned.now c.new-owners.result.entries c.new-owners.ensures.empty;
}

pub loop-left-preserved : goal.loop-left-preserved
loop-left-preserved c =
    let left = c.loop-left.left.now in
    let p = c.index-left-left.result in
    let q = c.index-left-left-in-loop-left.result in
    let within : length c.loop-left.left.now - 1 < length c.loop-left.left.now = omega (arith, c.in-len1-up.len_at_least) in
    let same : p ≡ q = one_element left (length left - 1) p q within c.index-left-left.is c.index-left-left-in-loop-left.is in
    let new = rw same at c.in_ok-insert.ensures.entries in
    record {
      front = less_left c.args.owned.now left c.loop-left.invariant.front;
      put = one_put c.args.owned.now left c.loop-left.owners.entries c.insert.new.self.entries q c.in-len1-up.len_at_least c.loop-left.invariant.front c.index-left-left-in-loop-left.is c.loop-left.invariant.put new;
    }
