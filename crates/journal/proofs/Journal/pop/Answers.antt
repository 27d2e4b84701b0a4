use Rattle.journal.proofs.EntryLemmas.{journal_take}
use Rattle.journal.proofs.Journal.pop.Goals as goal

pub invariant_of-self : goal.invariant_of-self
invariant_of-self c = rw c.truncate.ensures.items (journal_take c.saturating_sub-kept.result c.self.inside.previous c.self.inside.entries.items c.self.invariant)
