use Rattle.std.proofs.Common.{subst, sym, false, ◌≡◌}
use Rattle.std.specs.FinSet as set
use Rattle.journal.specs.Journals.{JournalValue, whole}
use Rattle.journal.proofs.EntryLemmas.{journal_push}
use Rattle.journal.proofs.Journal.push.Goals as goal

pub invariant_of-self-2 : goal.invariant_of-self-2
invariant_of-self-2 c =
    let gtid = c.args.entry.gtid in
    let new = subst (λ (j : JournalValue). set.contains (whole j) gtid ≡ false) (sym c.self.view_is) c.requires.new in
    let all = journal_push c.self.inside.previous c.self.inside.entries.items c.args.entry c.self.invariant new c.requires.writable in
    rw c.in_ok-push.ensures.items all
