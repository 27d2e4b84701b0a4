use Rattle.std.proofs.Common.{◌≡◌, ◌++◌, take}
use Rattle.txn_journal.specs.Kept.{IsSeen}
use Rattle.binlog_entries.specs.Journals.{AllFollow, seen_behind}
use Rattle.binlog_entries.proofs.as_journal.follow_all.Given as goal

abbrev pub invariant-loop-entry : goal.invariant-loop-entry
invariant-loop-entry l = record {
  so_far : l.journal ≡ record l.fn.journal { entries = l.fn.journal.entries ++ take l.entry-index l.entries };
  kept : IsSeen l.journal l.seen;
  known : l.seen ≡ seen_behind l.fn.seen (take l.entry-index l.entries);
  follow : AllFollow l.fn.seen (take l.entry-index l.entries);
}
