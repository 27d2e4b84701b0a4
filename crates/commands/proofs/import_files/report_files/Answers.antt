use Rattle.std.proofs.Common.{inl}
use Rattle.commands.proofs.Importing.{unnamed_so}
use Rattle.commands.proofs.import_files.report_files.Goals as goal

pub returns-in-Err-clause-ok : goal.returns-in-Err-clause-ok
returns-in-Err-clause-ok c =
    unnamed_so c.args.accepted.now c.args.grants c.args.is_explained c.args.logs.now c.args.text.now c.bundle_refused.result c.report_refused.result
    (inl (c.in-Err.fault, c.in-Err.ensures.refused, c.bundle_refused.ensures))
    c.report_refused.ensures.answer c.report_refused.ensures.notes c.report_refused.ensures.line
