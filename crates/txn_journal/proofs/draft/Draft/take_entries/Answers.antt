use Rattle.txn_journal.proofs.Seen.{seen_taken}
use Rattle.txn_journal.proofs.draft.Draft.take_entries.Goals as goal

pub invariant_of-self : goal.invariant_of-self
invariant_of-self c = record {
  seen_all = seen_taken c.args.self.now.journal c.take_entries.new.self c.args.self.now.seen c.args.self.now.seen_all c.take_entries.ensures.left;
  open_new = c.args.self.now.open_new;
  writable = c.args.self.now.writable;
  few = c.args.self.now.few;
}
