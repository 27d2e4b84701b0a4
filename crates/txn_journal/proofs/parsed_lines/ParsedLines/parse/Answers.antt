use Rattle.std.proofs.Common.{◌++◌, List, ap, sym, ◌∙◌}
use Rattle.txn_journal.specs.declared.parsed_lines.ParsedItem.{ParsedItem}
use Rattle.txn_journal.specs.ParsedTexts.{text_in}
use Rattle.txn_journal.proofs.ParsedLaws.{item_cut}
use Rattle.txn_journal.proofs.parsed_lines.ParsedLines.parse.Goals as goal

pub items-preserved : goal.items-preserved
items-preserved c =
    item_cut c.items.items.items _ c.args.text.now c.items.rest.now c.in-Some.after.now c.items.invariant c.in-Some.ensures
    ∙ ap (λ (xs : List ParsedItem). text_in xs ++ c.in-Some.after.now) (sym c.in-Ok.ensures.items)
