use Rattle.std.proofs.Common.{rules, refl, sym, ap, ◌∙◌, arith}
use Rattle.txn_journal.specs.Machine.{Standing}
use Rattle.txn_journal.proofs.Seen.{seen_joined, seen_more}
use Rattle.journal.specs.declared.Entry.{Entry}
use Rattle.txn_journal.specs.Versions.{limits_of}
use Rattle.txn_journal.proofs.SoundLines.{wide_entry}
use Rattle.txn_journal.proofs.draft.Draft.end_plain.Goals as goal

pub invariant_of-self-2 : goal.invariant_of-self-2
invariant_of-self-2 c = record {
  seen_all = seen_more c.args.self.now.journal c.args.self.now.journal c.args.self.now.seen c.add.new.self c.args.self.now.gtid c.args.self.now.seen_all refl c.in-Ok.ensures.ok;
  open_new = λ e. absurd cc;
  writable = c.args.self.now.writable;
  few = c.args.self.now.few;
}

pub invariant_of-self-in-Break-branch-3 : goal.invariant_of-self-in-Break-branch-3
invariant_of-self-in-Break-branch-3 c = record {
  seen_all = seen_joined c.args.self.now.journal c.take_changes.new.self.journal c.push.new.self c.args.self.now.seen c.add.new.self c.take_changes.new.self.seen _ c.args.self.now.gtid c.args.self.now.seen_all
      (ap (λ (d : Standing). d.journal) c.take_changes.ensures.left) c.in_ok-push.ensures.ok c.in-Ok.ensures.ok (ap (λ (d : Standing). d.seen) c.take_changes.ensures.left) c.take_changes.ensures.gtid;
  open_new = c.take_changes.new.self.open_new;
  writable = c.take_changes.new.self.writable;
  few = c.take_changes.new.self.few;
}

pub invariant_of-self-3 : goal.invariant_of-self-3
invariant_of-self-3 c =
    let same = ap (λ (d : Standing). d.count) c.take_changes.ensures.left in
    let room = (c.args.self.now.open_new c.requires).room in
    record {
      seen_all = seen_joined c.args.self.now.journal c.take_changes.new.self.journal c.push.new.self c.args.self.now.seen c.add.new.self c.take_changes.new.self.seen _ c.args.self.now.gtid c.args.self.now.seen_all
          (ap (λ (d : Standing). d.journal) c.take_changes.ensures.left) c.in_ok-push.ensures.ok c.in-Ok.ensures.ok (ap (λ (d : Standing). d.seen) c.take_changes.ensures.left) c.take_changes.ensures.gtid;
      open_new = λ e. absurd (let k = sym (ap (λ (d : Standing). d.place) c.take_changes.ensures.left) ∙ e in cc);
      writable = c.take_changes.new.self.writable;
      few = omega (arith, same, room);
    }

pub push-requires-clause-writable : goal.push-requires-clause-writable
push-requires-clause-writable c =
    let entry : Entry = record { gtid = c.take_changes.new.self.gtid; txn = record { changes = c.in_ok-changes.changes } } in
    wide_entry (limits_of c.args.self.now.version) entry (search rules)
