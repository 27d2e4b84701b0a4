-- How far a reader has come.
use Rattle.log_transactions.specs.declared.machine.LoggedTransactions.{LoggedTransactions}
use Rattle.binlog_entries.specs.Drafts.{standing}
use Rattle.binlog_entries.specs.Stream.{LogValue, Progress, Reading, unless_stopped}
use Rattle.binlog_entries.specs.declared.reader.LogReader.{LogReader}

abbrev pub progress : LogReader → Progress
progress r = unless_stopped r.stopped (Reading (standing r.draft) r.lines r.rest.items)

-- what a log is seen as
abbrev pub log_seen : LoggedTransactions → LogValue
log_seen l = (l.previous, l.entries.items, l.varied.items)
