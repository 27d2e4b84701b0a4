use Rattle.std.proofs.Common.{◌∙◌}
use Rattle.auto_position.specs.Sending as sending
use Rattle.serving.specs.Serving.{pick_entries}
use Rattle.serving.proofs.Sending.{plan_sent}
use Rattle.serving.proofs.receiving.entries_sent.Goals as goal

pub returns-in-Ok-entries_at-clause-ok : goal.returns-in-Ok-entries_at-clause-ok
returns-in-Ok-entries_at-clause-ok c =
    plan_sent c.args.journal.now.entries c.in-Ok.places.items c.in-Ok-entries_at.entries.items (sending.sent c.args.journal.now c.args.asked.now c.args.own)
    c.in-Ok.ensures.plan
    (c.in-Ok-entries_at.ensures.found ∙ (λ i. pick_entries (c.entries.ensures i) (c.deref.ensures.value i)))
