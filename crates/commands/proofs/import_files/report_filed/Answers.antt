use Rattle.std.proofs.Common.{◌≡◌, ◌∙◌, ℕ, List, Option, Some, None, ap, sym, subst, inr}
use Rattle.txn_journal.specs.declared.bundle.BundleChannel.{BundleChannel}
use Rattle.commands.specs.Imports.{unnamed}
use Rattle.commands.specs.declared.import_fault.Refused.TheVariants.{Files}
use Rattle.commands.proofs.Importing.{filed_so, unnamed_so}
use Rattle.commands.proofs.import_files.report_filed.Goals as goal

pub returns-in_default-clause-ok : goal.returns-in_default-clause-ok
returns-in_default-clause-ok c =
    filed_so c.args.accepted.now c.args.grants c.args.is_explained c.args.logs.now c.args.text.now c.args.imported.bundle c.args.imported.notes.items c.report_imported.result c.requires
    (subst (λ (cs : List BundleChannel). unnamed c.args.logs.now cs ≡ None) c.channels.ensures (sym c.in_default.ensures))
    c.report_imported.ensures.answer c.report_imported.ensures.notes

pub returns-in-Ok-clause-ok : goal.returns-in-Ok-clause-ok
returns-in-Ok-clause-ok c =
    let found : unnamed c.args.logs.now c.args.imported.bundle.channels ≡ Some c.in-Ok.name.items =
    subst (λ (cs : List BundleChannel). unnamed c.args.logs.now cs ≡ Some c.in-Some.name.now) c.channels.ensures (sym c.in-Some.ensures)
    ∙ ap (λ (n : List ℕ). Some n) (sym c.in-Ok.ensures.items) in
    unnamed_so c.args.accepted.now c.args.grants c.args.is_explained c.args.logs.now c.args.text.now (Files c.in-Ok.name) c.report_refused.result
    (inr (c.args.imported.bundle, c.args.imported.notes.items, c.requires, found))
    c.report_refused.ensures.answer c.report_refused.ensures.notes c.report_refused.ensures.line
