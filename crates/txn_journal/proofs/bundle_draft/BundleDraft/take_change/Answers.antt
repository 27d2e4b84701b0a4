use Rattle.std.proofs.Common.{rules, ◌≡◌, true, sym, subst}
use Rattle.std.specs.Prelude.{Result, Ok}
use Rattle.rows.specs.declared.limits.Limits.{Limits}
use Rattle.txn_journal.specs.ChangeLines.{change_in}
use Rattle.txn_journal.specs.Drafts.{standing}
use Rattle.txn_journal.specs.Machine.{is_within}
use Rattle.txn_journal.specs.Versions.{limits_of}
use Rattle.txn_journal.specs.declared.bundle_draft.Part.TheVariants as parts
use Rattle.txn_journal.specs.declared.fault.Cause.{Cause}
use Rattle.txn_journal.specs.Stream.{TakesLine}
use Rattle.txn_journal.specs.BundleStates.{BundleStanding, IsFullBundle}
use Rattle.txn_journal.specs.BundleDrafts.{bundle_standing}
use Rattle.txn_journal.proofs.ChangeSteps.{bundle_adds}
use Rattle.txn_journal.proofs.bundle_draft.BundleDraft.take_change.Goals as goal

pub returns-then-eq-2 : goal.returns-then-eq-2
returns-then-eq-2 c =
    let part : c.args.self.now.part ≡ parts.Journal = search rules in
    let same : limits_of (standing c.args.self.now.draft).version ≡ c.args.limits = search rules in
    let within : is_within (standing c.args.self.now.draft).place ≡ true = search rules in
    let written = subst (λ (l : Limits). change_in l c.args.line.now ≡ Ok c.args.change) (sym same) c.requires in
    subst (λ (r : Result BundleStanding Cause). TakesLine IsFullBundle c.add_change.result r (bundle_standing c.add_change.new.self))
    (sym (bundle_adds (bundle_standing c.args.self.now) c.args.line.now c.args.change written part within)) c.add_change.ensures
