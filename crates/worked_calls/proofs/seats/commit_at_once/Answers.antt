use denote.Param.Send.{IsSync, sendable, param_sync}
use Rattle.std.proofs.Crossing as plain
use Rattle.applier.proofs.Crossing.{replica_sync}
use Rattle.worked_calls.proofs.seats.commit_at_once.Lts.{arg-0-2}
use Rattle.worked_calls.proofs.seats.commit_at_once.Goals as goal

-- the closure borrows a replica that any thread may share
pub for_each_mut-requires-sync-F : goal.for_each_mut-requires-sync-F
for_each_mut-requires-sync-F g c κs within =
    let closure : IsSync (arg-0-2 g.row.N g.row.R g.N.laws g.R.laws g.N.Naming g.N.Naming-dict g.R.Threads g.R.Threads-dict g.R.Wait g.R.Wait-dict κs) = search (replica_sync, sendable, plain.crosses) depth 200 fits 1000000 in
    param_sync 2 _ closure
