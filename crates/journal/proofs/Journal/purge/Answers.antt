use Rattle.std.proofs.Common.{sym, ap, ◌∙◌}
use Rattle.journal.specs.Journals.{JournalValue, previous_after_purge}
use Rattle.journal.proofs.EntryLemmas.{journal_drop}
use Rattle.journal.proofs.Journal.purge.Goals as goal

pub invariant_of-self : goal.invariant_of-self
invariant_of-self c =
    let view = ap (λ (j : JournalValue). previous_after_purge c.args.count j) (sym c.self.view_is) in
    rw (c.drop_front.ensures, c.requires.previous ∙ view) (journal_drop c.args.count c.self.inside.previous c.self.inside.entries.items c.self.invariant)
