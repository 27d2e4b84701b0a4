use Rattle.std.proofs.Common.{None, refl}
use Rattle.auto_position.specs.Sending as sending
use Rattle.serving.specs.Serving.{pick_entries}
use Rattle.serving.proofs.Sending.{plan_sent}
use Rattle.serving.proofs.receiving.places_sent.Goals as goal

pub returns-in-Ok-clause-ok : goal.returns-in-Ok-clause-ok
returns-in-Ok-clause-ok c =
    let j = c.args.journal.now in
    plan_sent j.entries c.in-Ok.places.items (pick_entries j.entries c.in-Ok.places.items) (sending.sent j c.args.asked.now None) c.in-Ok.ensures.plan refl
