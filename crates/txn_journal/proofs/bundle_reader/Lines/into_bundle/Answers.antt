use Rattle.std.proofs.Common.{sym, ap, subst, ◌∙◌}
use Rattle.txn_journal.specs.BundleStates.{BundleStanding, is_done}
use Rattle.txn_journal.specs.BundleText.{IsBundle}
use Rattle.txn_journal.specs.BundleDrafts.{bundle_standing}
use Rattle.txn_journal.proofs.BundleKept.{come_kept}
use Rattle.txn_journal.proofs.bundle_reader.Lines.into_bundle.Goals as goal

pub of-requires : goal.of-requires
of-requires c =
    let last = ap (λ (s : BundleStanding). is_done s.part) c.self.view_is ∙ c.requires in
    subst IsBundle (sym c.into_parts.ensures) (come_kept (bundle_standing c.self.inside.draft) c.self.invariant last)
