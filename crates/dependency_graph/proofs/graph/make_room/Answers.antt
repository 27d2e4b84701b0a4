use Rattle.std.proofs.Common.{rules, ◌≡◌, ◌+◌, ◌<◌, length, arith}
use Rattle.dependency_graph.specs.Ready.{is_unblocked_at}
use Rattle.dependency_graph.proofs.Listing.{restarted, reserved}
use Rattle.dependency_graph.proofs.graph.make_room.Goals as goal

pub returns-then-is_empty-clause-same : goal.returns-then-is_empty-clause-same
returns-then-is_empty-clause-same c = λ h some.
    let bare : length c.args.nodes.now.items ≡ 0 = search rules in
    absurd (omega (bare, some, arith))

pub returns-then-is_empty-clause-room : goal.returns-then-is_empty-clause-room
returns-then-is_empty-clause-room c =
    let bare : length c.args.nodes.now.items ≡ 0 = search rules in
    restarted c.args.dropped c.args.nodes.now.items c.args.ready.now c.restart.new.self c.restart.result bare c.restart.ensures

pub returns-clause-same : goal.returns-clause-same
returns-clause-same c = λ h some.
    let nodes = c.args.nodes.now.items in
    c.reserve.ensures.same c.args.dropped (c.args.dropped + length nodes) (is_unblocked_at c.args.dropped nodes) (h some)

pub returns-clause-room : goal.returns-clause-room
returns-clause-room c =
    let nodes = c.args.nodes.now.items in
    let at : c.len.result ≡ length nodes = search rules in
    let some : 0 < length nodes = search rules in
    reserved c.args.dropped nodes c.len.result c.args.ready.now c.reserve.new.self c.reserve.result at some c.reserve.ensures.room
