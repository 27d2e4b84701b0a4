use Rattle.std.proofs.Common.{rules, sym, subst, ◌∙◌}
use Rattle.std.specs.Prelude.{Result}
use Rattle.txn_journal.specs.declared.fault.Cause.{Cause}
use Rattle.txn_journal.specs.Stream.{TakesPlain, IsLeftWhereFull}
use Rattle.txn_journal.specs.BundleStates.{BundleStanding, IsFullBundle}
use Rattle.txn_journal.specs.BundleDrafts.{bundle_standing}
use Rattle.txn_journal.specs.Drafts.{standing}
use Rattle.txn_journal.specs.Machine.{IsInEntry}
use Rattle.txn_journal.proofs.InnerSteps.{ends_is}
use Rattle.txn_journal.proofs.bundle_draft.BundleDraft.take_plain_inside.Goals as goal

pub returns-then-ends_entry-clause-line : goal.returns-then-ends_entry-clause-line
returns-then-ends_entry-clause-line c =
    let is = ends_is (bundle_standing c.args.self.now) c.args.line.now (sym c.ends_entry.ensures ∙ c.if-ends_entry.true) in
    subst (λ (x : Result BundleStanding Cause). TakesPlain c.end_plain.result x (bundle_standing c.args.self.now) (bundle_standing c.end_plain.new.self)) (sym is) c.end_plain.ensures.line

pub returns-then-ends_entry-clause-room : goal.returns-then-ends_entry-clause-room
returns-then-ends_entry-clause-room c counts =
    let within : IsInEntry (standing c.args.self.now.draft) = search rules in
    let is = ends_is (bundle_standing c.args.self.now) c.args.line.now (sym c.ends_entry.ensures ∙ c.if-ends_entry.true) in
    subst (λ (x : Result BundleStanding Cause). IsLeftWhereFull IsFullBundle c.end_plain.result x) (sym is) (c.end_plain.ensures.room (counts within))
