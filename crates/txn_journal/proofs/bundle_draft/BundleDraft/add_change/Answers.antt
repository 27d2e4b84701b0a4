use Rattle.txn_journal.specs.BundleDrafts.{bundle_standing}
use Rattle.txn_journal.specs.Drafts.{standing}
use Rattle.txn_journal.proofs.ChangeSteps.{bundle_added}
use Rattle.txn_journal.proofs.bundle_draft.BundleDraft.add_change.Goals as goal

pub returns : goal.returns
returns c = bundle_added (bundle_standing c.args.self.now) c.schema.result.now c.args.change c.add.result (standing c.add.new.self) c.schema.ensures c.add.ensures.line
