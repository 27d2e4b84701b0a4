use Rattle.std.proofs.Common.{◌≡◌, ◌≤◌, ap, subst, ◌∙◌}
use Rattle.std.specs.FinSet as set
use Rattle.gtid_set.specs.Sets.{Gtids, interval, source_count, most_sources}
use Rattle.gtid_set.specs.Full.{HasManySources}
use Rattle.gtid_set.proofs.SetSources.{union_one}
use Rattle.gtid_set.proofs.GtidSet.has_room_for.Goals as goal

pub returns-clause-room : goal.returns-clause-room
returns-clause-room c is =
    let g = c.args.gtid.now in
    subst (λ (s : Gtids). source_count s ≤ most_sources) (ap (λ (s : Gtids). set.union s (interval g.source g.number g.number)) c.self.view_is ∙ union_one c.args.self.now g) (c.has_room_for.ensures.room is)

pub returns-clause-full : goal.returns-clause-full
returns-clause-full c is =
    let g = c.args.gtid.now in
    subst (λ (s : Gtids). HasManySources s) (ap (λ (s : Gtids). set.union s (interval g.source g.number g.number)) c.self.view_is ∙ union_one c.args.self.now g) (c.has_room_for.ensures.full is)
