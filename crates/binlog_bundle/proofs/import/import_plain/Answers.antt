use Rattle.std.proofs.Common.{rules, ◌≡◌, ℕ, List, [], ◌++◌, sym, subst}
use Rattle.txn_journal.specs.BundleText.{WritesBundleBy}
use Rattle.txn_journal.specs.declared.lines.Due.TheVariants.{Only}
use Rattle.txn_journal.specs.declared.lines.Version.TheVariants.{Three}
use Rattle.binlog_bundle.specs.Logs.{terms_of}
use Rattle.binlog_bundle.specs.Channels.{HasHead}
use Rattle.binlog_bundle.specs.Refused.{IsHeadRefused}
use Rattle.binlog_bundle.proofs.Heading.{head_lines}
use Rattle.binlog_bundle.proofs.Coming.{head_found, head_refused, start_of}
use Rattle.binlog_bundle.proofs.import.import_plain.Goals as goal

pub returns-in-Ok-clause-found : goal.returns-in-Ok-clause-found
returns-in-Ok-clause-found g c =
    let nothing : c.args.rest.now ≡ [] = search rules in
    head_found (terms_of c.args.grants (g.L.Logs.origin c.args.logs.now)) c.args.text.now c.args.head.now c.args.plain.text.items c.new.result.items c.args.rest.now c.args.plain.passed_over c.in-Ok.bundle c.requires nothing c.new.ensures.items
    (subst (λ (xs : List ℕ). WritesBundleBy (Only Three) (c.args.plain.text.items ++ xs) c.in-Ok.bundle) c.end_for.ensures c.in-Ok.ensures.found)

pub returns-in-Err-clause-refused : goal.returns-in-Err-clause-refused
returns-in-Err-clause-refused g c =
    head_refused (terms_of c.args.grants (g.L.Logs.origin c.args.logs.now)) c.in-Err.fault c.fault_in_head.result c.args.text.now c.args.head.now c.args.plain.text.items c.args.rest.now c.args.plain.passed_over c.requires
    (subst (λ (xs : List ℕ). IsHeadRefused c.in-Err.fault (c.args.plain.text.items ++ xs)) c.end_for.ensures c.in-Err.ensures.refused)
    (c.fault_in_head.ensures c.requires.plain_head.lines (head_lines _ _ _ _ _ c.requires.plain_head))
