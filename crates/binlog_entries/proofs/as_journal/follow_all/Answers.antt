use Rattle.std.proofs.Common.{◌++◌, ◌∷◌, [], sym, ap, subst, ◌∙◌, append_assoc, take, List}
use Rattle.txn_journal.proofs.Seen.{seen_pushed}
use Rattle.journal.specs.Journals.{JournalValue}
use Rattle.journal.specs.declared.Entry.{Entry}
use Rattle.std.specs.FinSet as set
use Rattle.gtid_set.specs.Sets.{Gtids}
use Rattle.binlog_entries.specs.Journals.{MayFollow, AllFollow, seen_behind}
use Rattle.journal.specs.Writing.{is_number}
use Rattle.binlog_entries.proofs.LimitLaws.{numbered_at}
use Rattle.binlog_entries.proofs.JournalSteps.{took_more, seen_behind-push, follow_more, unfit_at}
use Rattle.binlog_entries.proofs.as_journal.follow_all.Goals as goal

pub returns-in-Err-clause-refused : goal.returns-in-Err-clause-refused
returns-in-Err-clause-refused c =
    unfit_at c.in-Err.fault c.args.seen.now c.loop-entry.seen c.args.entries.now c.loop-entry.entry-index c.entry-item.result c.loop-entry-test.true c.entry-item.is c.loop-entry.invariant.known c.loop-entry.invariant.follow c.in-Err.ensures.refused

pub follow-requires-clause-number : goal.follow-requires-clause-number
follow-requires-clause-number c =
    ap (λ (e : Entry). is_number e.gtid.number) c.entry-item.is
    ∙ numbered_at c.args.entries.now c.loop-entry.entry-index c.entry-item.result c.loop-entry-test.true c.requires.numbers

pub loop-entry-preserved : goal.loop-entry-preserved
loop-entry-preserved c =
    let took = took_more c.args.entries.now c.loop-entry.entry-index c.entry-item.result c.loop-entry-test.true c.entry-item.is in
    record {
      so_far =
          c.in-Ok.ensures.journal
          ∙ ap (λ (j : JournalValue). record j { entries = j.entries ++ c.entry-item.result ∷ [] }) c.loop-entry.invariant.so_far
          ∙ ap (λ (es : List Entry). record c.args.journal.now { entries = es })
          (append_assoc c.args.journal.now.entries _ (c.entry-item.result ∷ []) ∙ ap (λ (es : List Entry). c.args.journal.now.entries ++ es) (sym took));
      kept = seen_pushed c.loop-entry.journal c.follow.new.journal c.loop-entry.seen c.follow.new.seen c.entry-item.result c.loop-entry.invariant.kept c.in-Ok.ensures.journal c.in-Ok.ensures.seen;
      known =
          c.in-Ok.ensures.seen
          ∙ ap (λ (s : Gtids). set.insert s c.entry-item.result.gtid) c.loop-entry.invariant.known
          ∙ sym (seen_behind-push c.args.seen.now (take c.loop-entry.entry-index c.args.entries.now) c.entry-item.result)
          ∙ ap (seen_behind c.args.seen.now) (sym took);
      follow =
          subst (AllFollow c.args.seen.now) (sym took)
          (follow_more c.args.seen.now (take c.loop-entry.entry-index c.args.entries.now) c.entry-item.result c.loop-entry.invariant.follow
          (subst (λ (s : Gtids). MayFollow s c.entry-item.result) c.loop-entry.invariant.known c.in-Ok.ensures.follows));
    }
