-- How far a reader has come.
use Rattle.txn_journal.specs.declared.reader.Reader.{Reader}
use Rattle.txn_journal.specs.Reading.{JournalProgress}
use Rattle.txn_journal.specs.Feeds.{progress}

abbrev pub reading : Reader → JournalProgress
reading r = progress r.feed
