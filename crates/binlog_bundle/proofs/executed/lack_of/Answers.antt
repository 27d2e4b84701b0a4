use Rattle.std.proofs.Common.{ℕ, sym, ap, ◌∙◌}
use Rattle.journal.specs.Journals.{previous_after_purge}
use Rattle.binlog_bundle.proofs.Lacking.{lacks_nothing, lacks_this}
use Rattle.binlog_bundle.proofs.executed.lack_of.Goals as goal

pub returns-then-is_subset-clause-found : goal.returns-then-is_subset-clause-found
returns-then-is_subset-clause-found c =
    lacks_nothing c.args.opened.now c.args.executed.now c.in-Ok.left c.in-Ok-previous_after_purge.whole c.args.journal.now c.in-Ok.ensures.ok
    (c.in-Ok-previous_after_purge.ensures.ok ∙ ap (λ (n : ℕ). previous_after_purge n c.args.journal.now) c.len.ensures) (sym c.is_subset.ensures ∙ c.if-is_subset.true)

pub returns-in-Ok-subtract-clause-found : goal.returns-in-Ok-subtract-clause-found
returns-in-Ok-subtract-clause-found c =
    lacks_this c.args.opened.now c.args.executed.now c.in-Ok.left c.in-Ok-previous_after_purge.whole c.in-Ok-subtract.lack c.args.journal.now c.in-Ok.ensures.ok
    (c.in-Ok-previous_after_purge.ensures.ok ∙ ap (λ (n : ℕ). previous_after_purge n c.args.journal.now) c.len.ensures) (sym c.is_subset.ensures ∙ c.if-is_subset.false) c.in-Ok-subtract.ensures.ok
