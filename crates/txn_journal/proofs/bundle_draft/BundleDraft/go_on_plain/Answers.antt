use Rattle.std.proofs.Common.{◌≤◌, List, Some, sym, ap, subst, ◌∙◌}
use Rattle.gtid_set.specs.Sets.{Gtids, source_count, most_sources}
use Rattle.rows.specs.declared.schema.Table.{Table}
use Rattle.txn_journal.specs.Machine.{judge}
use Rattle.txn_journal.specs.Drafts.{standing}
use Rattle.txn_journal.specs.BundleDrafts.{bundle_standing}
use Rattle.txn_journal.proofs.InnerSteps.{plain_taken, writers_left}
use Rattle.txn_journal.proofs.CountedEnds.{left_where_full}
use Rattle.txn_journal.proofs.bundle_draft.BundleDraft.go_on_plain.Goals as goal

pub invariant_of-self-2 : goal.invariant_of-self-2
invariant_of-self-2 c = record {
  written = λ writers is.
      let b = c.args.self.now in
      writers_left b.version b.bundle.start.schema (standing b.draft) (standing c.take_plain.new.self) c.args.line.now b.writers c.take_plain.result c.requires
      (λ e. ap (λ (t : List Table). judge (Some t) (standing b.draft) c.args.line.now) (sym c.schema-schema.ensures) ∙ c.take_plain.ensures.made e) c.take_plain.ensures.left (sym c.has_begun.ensures ∙ c.if-not-has_begun.false) b.written writers is;
}

pub returns-clause-made : goal.returns-clause-made
returns-clause-made c e = plain_taken (bundle_standing c.args.self.now) c.schema-schema.result.now (standing c.take_plain.new.self) c.args.line.now c.requires c.schema-schema.ensures (c.take_plain.ensures.made e) (c.take_plain.ensures.open e)

pub returns-clause-room : goal.returns-clause-room
returns-clause-room c =
    let s = bundle_standing c.args.self.now in
    left_where_full s (standing c.take_plain.new.self) c.args.line.now c.take_plain.result
    (λ e. plain_taken s c.schema-schema.result.now (standing c.take_plain.new.self) c.args.line.now c.requires c.schema-schema.ensures (c.take_plain.ensures.made e) (c.take_plain.ensures.open e))
    c.take_plain.ensures.open (subst (λ (x : Gtids). source_count x ≤ most_sources) c.opening_set.ensures c.keeps_limits.ensures.sources)
