use Rattle.commands.proofs.Importing.{imported_so, refused_so}
use Rattle.commands.proofs.import_command.report_import.Goals as goal

pub returns-in-Ok-clause-ok : goal.returns-in-Ok-clause-ok
returns-in-Ok-clause-ok c =
    imported_so c.args.accepted.now c.args.grants c.args.is_explained c.args.text.now c.in-Ok.imported.bundle c.in-Ok.imported.notes.items c.report_imported.result c.in-Ok.ensures.found c.report_imported.ensures.answer c.report_imported.ensures.notes

pub returns-in-Err-clause-ok : goal.returns-in-Err-clause-ok
returns-in-Err-clause-ok c = refused_so c.args.accepted.now c.args.grants c.args.is_explained c.args.text.now c.in-Err.fault c.bundle_refused.result c.report_refused.result c.in-Err.ensures.refused c.bundle_refused.ensures c.report_refused.ensures.answer c.report_refused.ensures.notes c.report_refused.ensures.line
