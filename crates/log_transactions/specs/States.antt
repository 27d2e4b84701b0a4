-- How far the events of a log have come, as a contract sees it.
use Rattle.log_transactions.specs.Machine.{LogState}
use Rattle.log_transactions.specs.declared.machine.LogTransactions.{LogTransactions}

abbrev pub state : LogTransactions → LogState
state m = record {
  stage = m.stage;
  gtid = m.gtid;
  is_fresh = m.is_fresh;
  previous = m.previous;
  file = m.file;
  come = m.come;
  is_over = m.is_over;
  is_open = m.is_open;
  mapping = m.mapping;
  tables = m.tables;
  changes = m.changes.items;
  entries = m.entries.items;
  varied = m.varied;
}
