use Rattle.std.proofs.Common.{rules, ◌≡◌, ◌≤◌, ◌+◌, ℕ, false, sym, ◌∙◌, arith}
use Rattle.std.specs.Prelude.{nat_le}
use Rattle.txn_journal.proofs.Seen.{seen_pushed, seen_more}
use Rattle.journal.specs.declared.Entry.{Entry}
use Rattle.rows.specs.declared.limits.Limits.TheVariants.{Narrow}
use Rattle.txn_journal.proofs.SoundLines.{wide_entry}
use Rattle.txn_journal.proofs.draft.Draft.join_whole.Goals as goal

pub invariant_of-self-in-Break-1 : goal.invariant_of-self-in-Break-1
invariant_of-self-in-Break-1 c =
    let may = c.may_follow.ensures c.if-not-may_follow.false in
    record {
      seen_all = seen_more c.args.self.now.journal c.push.new.self c.args.self.now.seen c.add.new.self c.args.gtid c.args.self.now.seen_all c.in_err-push.ensures.err c.in-Ok.ensures.ok;
      open_new = λ e. absurd (let k = sym may.place ∙ e in cc);
      writable = c.args.self.now.writable;
      few = c.args.self.now.few;
    }

pub invariant_of-self-in-Break-branch-2 : goal.invariant_of-self-in-Break-branch-2
invariant_of-self-in-Break-branch-2 c =
    let may = c.may_follow.ensures c.if-not-may_follow.false in
    record {
      seen_all = seen_pushed c.args.self.now.journal c.push.new.self c.args.self.now.seen c.add.new.self _ c.args.self.now.seen_all c.in_ok-push.ensures.ok c.in-Ok.ensures.ok;
      open_new = λ e. absurd (let k = sym may.place ∙ e in cc);
      writable = c.args.self.now.writable;
      few = c.args.self.now.few;
    }

pub invariant_of-self-2 : goal.invariant_of-self-2
invariant_of-self-2 c =
    let may = c.may_follow.ensures c.if-not-may_follow.false in
    record {
      seen_all = seen_pushed c.args.self.now.journal c.push.new.self c.args.self.now.seen c.add.new.self _ c.args.self.now.seen_all c.in_ok-push.ensures.ok c.in-Ok.ensures.ok;
      open_new = λ e. absurd (let k = sym may.place ∙ e in cc);
      writable = c.args.self.now.writable;
      few = below (c.args.self.now.count) may.room;
    }
  where
    below : (n : ℕ) → nat_le 4294967294 n ≡ false → n + 1 ≤ 4294967294
    below n e = grind arith

pub push-requires-clause-writable : goal.push-requires-clause-writable
push-requires-clause-writable c =
    let entry : Entry = record { gtid = c.args.gtid; txn = record { changes = c.args.changes } } in
    wide_entry Narrow entry (search rules)
