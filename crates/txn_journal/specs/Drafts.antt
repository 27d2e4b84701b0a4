-- How far a draft has come.
use Rattle.txn_journal.specs.Machine.{Standing}
use Rattle.txn_journal.specs.declared.draft.Draft.{Draft}

abbrev pub standing : Draft → Standing
standing d = record { place = d.place; due = d.due; version = d.version; journal = d.journal; stamps = d.stamps.items; seen = d.seen; count = d.count; gtid = d.gtid; stamp = d.stamp; changes = d.changes.items }
