use Rattle.std.proofs.Common.{Some, Result, subst, sym}
use Rattle.txn_journal.specs.Stream.{IsWholeOr}
use Rattle.txn_journal.specs.Formats.{IsFaultBy}
use Rattle.txn_journal.specs.Feeds.{progress}
use Rattle.txn_journal.specs.Timestamped.{TimestampedValue, timestamped_journals, timestamped_start, feed_timestamped, closing_timestamped}
use Rattle.txn_journal.specs.declared.fault.JournalFault.{JournalFault}
use Rattle.txn_journal.specs.declared.lines.Version.TheVariants.{Two}
use Rattle.txn_journal.proofs.FormatLaws.{closed_after, is_found, is_only, is_refused, whole_of}
use Rattle.txn_journal.proofs.JournalLaws.{IsSoundAlone}
use Rattle.txn_journal.proofs.TimestampedLaws.{timestamped_laws, older_whole}
use Rattle.txn_journal.proofs.reader.decode_v2.Goals as goal
use Rattle.txn_journal.specs.declared.lines.Due.TheVariants.{Only}

pub returns : goal.returns
returns c =
    let bytes = c.args.bytes.now in
    let closed = closed_after timestamped_journals bytes (progress c.over.result.feed) c.over.ensures in
    let read = subst (λ (r : Result TimestampedValue JournalFault). IsWholeOr (IsFaultBy timestamped_journals timestamped_start bytes) r (closing_timestamped (feed_timestamped timestamped_start bytes))) (sym c.finish.ensures) closed in
    record {
      found = is_found timestamped_journals (IsSoundAlone (Only Two)) timestamped_laws c.finish.result bytes read;
      only = is_only timestamped_journals (IsSoundAlone (Only Two)) timestamped_laws c.finish.result bytes read;
      refused = is_refused timestamped_journals (IsSoundAlone (Only Two)) timestamped_laws c.finish.result bytes read;
      exact = whole_of _ _ _ read;
      version = older_whole c.finish.result bytes (whole_of _ _ _ read);
    }
