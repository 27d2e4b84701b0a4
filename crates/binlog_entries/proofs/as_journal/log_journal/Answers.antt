use Rattle.std.proofs.Common.{sym, ap, ◌∙◌}
use Rattle.txn_journal.proofs.Seen.{seen_start, of_set}
use Rattle.binlog_entries.proofs.as_journal.log_journal.Goals as goal

pub follow_all-requires-clause-seen : goal.follow_all-requires-clause-seen
follow_all-requires-clause-seen c = seen_start c.start-journal.result c.in_ok-seen.seen (c.start-journal.ensures ∙ ap of_set (c.in_ok-copy.ensures.ok ∙ sym c.in_ok-seen.ensures.ok))
