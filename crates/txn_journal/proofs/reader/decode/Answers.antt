use Rattle.std.proofs.Common.{Result, subst, sym}
use Rattle.journal.specs.Journals.{JournalValue}
use Rattle.txn_journal.specs.Stream.{IsWholeOr}
use Rattle.txn_journal.specs.Reading.{journals, before_first, feed_journal_bytes, IsFaultAlone, closing}
use Rattle.txn_journal.specs.Readers.{reading}
use Rattle.txn_journal.specs.declared.fault.JournalFault.{JournalFault}
use Rattle.txn_journal.proofs.FormatLaws.{closed_after, is_found, is_only, is_refused, whole_of}
use Rattle.txn_journal.proofs.JournalPlaces.{IsSoundJournal, journal_laws}
use Rattle.txn_journal.proofs.reader.decode.Goals as goal

pub returns : goal.returns
returns c =
    let bytes = c.args.bytes.now in
    let closed = closed_after journals bytes (reading c.over.result) c.over.ensures in
    let read = subst (λ (r : Result JournalValue JournalFault). IsWholeOr (IsFaultAlone before_first bytes) r (closing (feed_journal_bytes before_first bytes))) (sym c.finish.ensures) closed in
    record {
      found = is_found journals IsSoundJournal journal_laws c.finish.result bytes read;
      only = is_only journals IsSoundJournal journal_laws c.finish.result bytes read;
      refused = is_refused journals IsSoundJournal journal_laws c.finish.result bytes read;
      exact = whole_of _ _ _ read;
    }
