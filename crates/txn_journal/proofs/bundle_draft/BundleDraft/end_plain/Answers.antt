use Rattle.txn_journal.specs.Drafts.{standing}
use Rattle.txn_journal.specs.BundleDrafts.{bundle_standing}
use Rattle.txn_journal.proofs.CountedEnds.{plain_ended}
use Rattle.txn_journal.proofs.bundle_draft.BundleDraft.end_plain.Goals as goal

pub returns-clause-line : goal.returns-clause-line
returns-clause-line c = plain_ended (bundle_standing c.args.self.now) c.end_plain.result (standing c.end_plain.new.self) (c.ends_plainly.ensures.first c.if-not-ends_plainly.false) (c.ends_plainly.ensures.stamp c.if-not-ends_plainly.false) c.end_plain.ensures
