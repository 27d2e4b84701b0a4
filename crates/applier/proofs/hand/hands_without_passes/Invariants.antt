use Rattle.std.proofs.Common.{◌≡◌, ◌≤◌, [], replicate, vec_len}
use Rattle.std.specs.Vec.{vec_capacity}
use Rattle.applier.specs.Tickets.{seen, own_views}
use Rattle.applier.proofs.hand.hands_without_passes.Given as goal

abbrev pub invariant-loop-i : goal.invariant-loop-i
invariant-loop-i l = (own_views l.hands.items ≡ replicate l._i (seen [] [])) × (vec_len l.hands ≡ l._i) × (l.n ≤ vec_capacity l.hands)
