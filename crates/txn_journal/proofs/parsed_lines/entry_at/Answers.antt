use Rattle.std.proofs.Common.{List, sym, subst}
use Rattle.rows.specs.declared.change.Change.{Change}
use Rattle.txn_journal.specs.EntryLines.{BeginsWithChanges}
use Rattle.txn_journal.proofs.EntryTexts.{is_entry}
use Rattle.txn_journal.proofs.parsed_lines.entry_at.Goals as goal

pub invariant_of-result : goal.invariant_of-result
invariant_of-result c =
    let lines = c.in-Some.lines.now in
    let after = c.in-Some-changes_at.after.now in
    let begun = subst (λ (cs : List Change). BeginsWithChanges lines cs after) (sym c.in-Ok.ensures.changes) c.in-Some-changes_at.ensures in
    (is_entry c.args.text.now lines after c.front_of-text.result.now c.in-Some.gtid c.in-Ok.changes c.in-Some.ensures begun c.front_of-text.ensures).0

pub returns : goal.returns
returns c =
    let lines = c.in-Some.lines.now in
    let after = c.in-Some-changes_at.after.now in
    (is_entry c.args.text.now lines after c.front_of-text.result.now c.in-Some.gtid _ c.in-Some.ensures c.in-Some-changes_at.ensures c.front_of-text.ensures).1
