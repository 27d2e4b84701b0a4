-- How far a draft's lines have come.
use Rattle.log_transactions.specs.States.{state}
use Rattle.binlog_entries.specs.Machine.{Standing}
use Rattle.binlog_entries.specs.declared.draft.LogDraft.{LogDraft}

abbrev pub standing : LogDraft → Standing
standing d = record {
  body = d.body;
  is_over = d.is_over;
  mapping = d.mapping;
  tables = d.tables;
  row = d.row;
  operation = d.operation;
  part = d.part;
  before = d.before.items;
  after = d.after.items;
  log = state d.log;
}
