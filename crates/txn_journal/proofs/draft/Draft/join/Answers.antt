use Rattle.std.proofs.Common.{arith}
use Rattle.std.proofs.lemmas.Result.{err_from_is_err_and}
use Rattle.txn_journal.proofs.Seen.{seen_pushed, seen_more}
use Rattle.txn_journal.proofs.FullSets.{seen_full}
use Rattle.txn_journal.specs.Drafts.{standing}
use Rattle.txn_journal.proofs.draft.Draft.join.Goals as goal

pub invariant_of-self-in-Break-branch-2 : goal.invariant_of-self-in-Break-branch-2
invariant_of-self-in-Break-branch-2 c = record {
  seen_all = seen_more c.args.self.now.journal c.push.new.self c.args.self.now.seen c.add.new.self c.args.entry.gtid c.args.self.now.seen_all c.in_err-push.ensures.err c.in_ok-add.ensures.ok;
  open_new = λ e. absurd cc;
  writable = c.args.self.now.writable;
  few = c.args.self.now.few;
}

pub invariant_of-self-in-Break-branch-3 : goal.invariant_of-self-in-Break-branch-3
invariant_of-self-in-Break-branch-3 c = record {
  seen_all = seen_pushed c.args.self.now.journal c.push.new.self c.args.self.now.seen c.add.new.self _ c.args.self.now.seen_all c.in_ok-push.ensures.ok c.in_ok-add.ensures.ok;
  open_new = λ e. absurd cc;
  writable = c.args.self.now.writable;
  few = c.args.self.now.few;
}

pub invariant_of-self-2 : goal.invariant_of-self-2
invariant_of-self-2 c = record {
  seen_all = seen_pushed c.args.self.now.journal c.push.new.self c.args.self.now.seen c.add.new.self _ c.args.self.now.seen_all c.in_ok-push.ensures.ok c.in_ok-add.ensures.ok;
  open_new = λ e. absurd cc;
  writable = c.args.self.now.writable;
  few = omega (arith, (c.args.self.now.open_new c.requires.place).room);
}

pub returns-in_err-add-clause-line : goal.returns-in_err-add-clause-line
returns-in_err-add-clause-line c =
    let p = err_from_is_err_and c.from_residual.result c.from_residual.ensures.1 in
    rw (p.1, p.2) (seen_full (standing c.args.self.now) c.in_err-add.field-0.0 c.args.entry c.in_err-add.ensures.full)
