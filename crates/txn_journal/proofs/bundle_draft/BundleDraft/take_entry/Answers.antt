use Rattle.std.proofs.Common.{rules, ◌≡◌, subst}
use Rattle.std.specs.Prelude.{List}
use Rattle.gtid_text.specs.declared.Gtid.{Gtid}
use Rattle.rows.specs.declared.change.Change.{Change}
use Rattle.txn_journal.specs.TakenEntries.{JoinsEntry}
use Rattle.txn_journal.specs.BundleDrafts.{bundle_standing}
use Rattle.txn_journal.specs.Drafts.{standing}
use Rattle.txn_journal.specs.declared.bundle_draft.Part.TheVariants as parts
use Rattle.txn_journal.specs.declared.lines.Version.TheVariants.{One}
use Rattle.txn_journal.proofs.EntrySteps.{entry_taken}
use Rattle.txn_journal.proofs.bundle_draft.BundleDraft.take_entry.Goals as goal

pub returns : goal.returns
returns c =
    let s = bundle_standing c.args.self.now in
    let e = c.args.entry in
    let part : s.part ≡ parts.Journal = search rules in
    let one : s.version ≡ One = search rules in
    let parts = c.into_parts-gtid in
    let joined : JoinsEntry c.schema.result.now c.join_whole.result e.gtid e.changes (standing c.args.self.now.draft) (standing c.join_whole.new.self) =
    subst (λ (g : Gtid). JoinsEntry c.schema.result.now c.join_whole.result g e.changes (standing c.args.self.now.draft) (standing c.join_whole.new.self)) parts.ensures.gtid
    (subst (λ (cs : List Change). JoinsEntry c.schema.result.now c.join_whole.result parts.result.0 cs (standing c.args.self.now.draft) (standing c.join_whole.new.self)) parts.ensures.changes c.join_whole.ensures) in
    entry_taken s c.schema.result.now c.join_whole.result e.text e.gtid e.changes (standing c.join_whole.new.self) part one parts.ensures.spelled c.schema.ensures joined
