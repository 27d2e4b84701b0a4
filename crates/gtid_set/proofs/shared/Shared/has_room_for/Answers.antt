use Rattle.std.proofs.Common.{ap, subst, arith, ◌∙◌}
use Rattle.gtid_set.specs.Sets.{source_count}
use Rattle.gtid_set.specs.Spans.{set_of}
use Rattle.gtid_set.specs.Sweep.{KnowsSource}
use Rattle.gtid_set.proofs.RoomLemmas.{room_below, room_known, no_room}
use Rattle.gtid_set.proofs.shared.Shared.has_room_for.Goals as goal

pub returns-then-sources-lt-MOST_SOURCES-clause-room :
    goal.returns-then-sources-lt-MOST_SOURCES-clause-room
returns-then-sources-lt-MOST_SOURCES-clause-room c e =
    let count = c.sources.ensures in
    let few = c.if-sources-lt-MOST_SOURCES.true in
    room_below (set_of c.args.self.now) c.args.span.now c.requires.filled (omega (arith, count, few))

pub returns-clause-room : goal.returns-clause-room
returns-clause-room c is =
    room_known c.args.self.now c.args.span.now c.requires.filled c.is_kept.ensures.fits (subst (λ b. KnowsSource b c.args.self.now c.args.span.now.source) is c.has_source.ensures)

pub returns-clause-full : goal.returns-clause-full
returns-clause-full c is =
    let count = c.sources.ensures in
    let many = c.if-sources-lt-MOST_SOURCES.false in
    no_room c.args.self.now c.args.span.now c.requires.filled (omega (arith, count, many)) (subst (λ b. KnowsSource b c.args.self.now c.args.span.now.source) is c.has_source.ensures)
