-- The log of a channel, and the channel, or why they are refused.
use Rattle.std.proofs.Common.{ℕ, List, ◌++◌, Option, Some, None, refl, sym, ap, subst, inl, inr}
use Rattle.gtid_set.specs.Sets.{Gtids}
use Rattle.gtid_set.specs.declared.fault.SetFault.{SetFault}
use Rattle.txn_journal.specs.BundleStates.{BundleValue}
use Rattle.txn_journal.specs.declared.fault.JournalFault.{JournalFault}
use Rattle.txn_journal.specs.declared.fault.JournalFault.TheVariants as faults
use Rattle.binlog_bundle.specs.Lines.{with_line_feed}
use Rattle.binlog_bundle.specs.Notes.{name_in}
use Rattle.binlog_bundle.specs.Assumed.{IsPartFault}
use Rattle.binlog_bundle.specs.Executed.{IsCutLine, HadExecuted}
use Rattle.binlog_bundle.specs.Refused.{IsOfLine}
use Rattle.binlog_bundle.specs.Tables.{HasNoOther}
use Rattle.binlog_bundle.specs.Channels.{IsWordRead, IsWordRefused, IsNotHad, IsJournalFault, IsLineTaken, IsSaidTaken, CantTake, NoMemory, NotSet, FullPart, CantJoin, CantFeedLog, CantFeedChannel}
use Rattle.binlog_bundle.specs.declared.fault.ChannelFault.{ChannelFault}
use Rattle.binlog_bundle.specs.declared.fault.ChannelFault.TheVariants as channels
use Rattle.binlog_bundle.specs.Logs.{Terms, BringsNone}
use Rattle.binlog_bundle.specs.declared.fault.Logless.{Logless}
use Rattle.binlog_files.specs.declared.whole.FiledFault.{FiledFault}
use Rattle.binlog_bundle.specs.declared.fault.SourceFault.{SourceFault}
use Rattle.binlog_bundle.specs.declared.fault.SourceFault.TheVariants as sources
use Rattle.binlog_entries.specs.Imports.{IsNotWritten}
use Rattle.binlog_entries.specs.declared.fault.ReadFault.{ReadFault}
use Rattle.binlog_entries.specs.declared.import.ImportFault.{ImportFault}
use Rattle.binlog_entries.specs.declared.import.ImportFault.TheVariants as imports
use Rattle.journal.specs.declared.Entry.{Entry}
use Rattle.log_transactions.specs.declared.varied.Varied.{Varied}

-- ---- a log

-- the channel has no log
pub not_had : (terms : Terms) (start : BundleValue) (name log before : List ℕ) (fault : SourceFault) (found : ChannelFault) → terms.origin.refuses name log start.opened fault → IsNotHad name fault found → CantFeedLog terms start name log before found
not_had terms start name log before (sources.Text fault) (channels.Log (imports.Text other)) none h = inl (subst (λ (f : ReadFault). terms.origin.refuses name log start.opened (sources.Text f)) (sym h) none)
not_had terms start name log before (sources.Logless why) (channels.Logless other) none h = subst (λ (w : Logless). terms.origin.refuses name log start.opened (sources.Logless w)) (sym h) none
not_had terms start name log before (sources.File fault) (channels.Binlog channel other) none h = (h.0, subst (λ (f : FiledFault). terms.origin.refuses name log start.opened (sources.File f)) (sym h.1) none)
not_had terms start name log before (sources.File fault) (channels.Own other) none h = h
not_had terms start name log before (sources.Text fault) (channels.Log (imports.Key table column)) none h = absurd h
not_had terms start name log before (sources.Text fault) (channels.Log (imports.Log other)) none h = absurd h
not_had terms start name log before (sources.Text fault) (channels.Own other) none h = absurd h
not_had terms start name log before (sources.Text fault) channels.Unknown none h = absurd h
not_had terms start name log before (sources.Text fault) (channels.Table at) none h = absurd h
not_had terms start name log before (sources.Text fault) (channels.Journal other) none h = absurd h
not_had terms start name log before (sources.Text fault) (channels.Logless other) none h = absurd h
not_had terms start name log before (sources.Logless why) (channels.Log other) none h = absurd h
not_had terms start name log before (sources.Logless why) (channels.Own other) none h = absurd h
not_had terms start name log before (sources.Logless why) channels.Unknown none h = absurd h
not_had terms start name log before (sources.Logless why) (channels.Table at) none h = absurd h
not_had terms start name log before (sources.Logless why) (channels.Journal other) none h = absurd h
not_had terms start name log before (sources.Logless why) (channels.Binlog channel other) none h = absurd h
not_had terms start name log before (sources.Text fault) (channels.Binlog channel other) none h = absurd h
not_had terms start name log before (sources.File fault) (channels.Log other) none h = absurd h
not_had terms start name log before (sources.File fault) channels.Unknown none h = absurd h
not_had terms start name log before (sources.File fault) (channels.Table at) none h = absurd h
not_had terms start name log before (sources.File fault) (channels.Journal other) none h = absurd h
not_had terms start name log before (sources.File fault) (channels.Logless other) none h = absurd h

-- its log is not written as a journal
pub not_written : (terms : Terms) (start : BundleValue) (name log : List ℕ) (fault : ImportFault) (previous : Gtids) (entries : List Entry) (varied : List Varied) → terms.origin.is_log name log start.opened previous entries varied
    → IsNotWritten start.start.schema terms.grants.bytes previous entries varied fault → BringsNone terms start name log fault
not_written terms start name log (imports.Text fault) previous entries varied is h = inr h
not_written terms start name log (imports.Key table column) previous entries varied is h = record { previous = previous; entries = entries; varied = varied; log = is; refused = h }
not_written terms start name log (imports.Log fault) previous entries varied is h = record { previous = previous; entries = entries; varied = varied; log = is; refused = h }

pub cant_bring : (terms : Terms) (start : BundleValue) (name log before : List ℕ) (fault : JournalFault) (found : ChannelFault) → CantJoin terms start name log before fault → IsJournalFault start.start.schema log fault found → CantFeedLog terms start name log before found
cant_bring terms start name log before fault (channels.Own other) cant h = h
cant_bring terms start name log before fault channels.Unknown cant h = absurd h
cant_bring terms start name log before fault (channels.Log other) cant h = absurd h
cant_bring terms start name log before fault (channels.Logless why) cant h = absurd h
cant_bring terms start name log before fault (channels.Binlog channel other) cant h = absurd h
cant_bring terms start name log before fault (channels.Table at) cant h = (fault, h.0, cant, h.1)
cant_bring terms start name log before fault (channels.Journal other) cant h =
    subst (λ (f : JournalFault). CantJoin terms start name log before f × (IsOfLine f → HasNoOther start.start.schema log)) (sym h.0) (cant, h.1)

-- ---- a channel

pub had_executed : (terms : Terms) (line own : List ℕ) (word : Option (List ℕ)) (executed : Option Gtids) → IsCutLine line own word → IsWordRead terms.grants word executed → HadExecuted terms.grants line own executed
had_executed terms line own (Some word) (Some executed) cut reads = (word, cut, reads)
had_executed terms line own None None cut reads = (cut, reads)
had_executed terms line own (Some word) None cut reads = absurd reads
had_executed terms line own None (Some executed) cut reads = absurd reads

pub word_refused : (terms : Terms) (start : BundleValue) (line log before own : List ℕ) (word : Option (List ℕ)) (fault : ChannelFault) → IsLineTaken line before own word → IsWordRefused terms.grants word fault → CantFeedChannel terms start line log before fault
word_refused terms start line log before own (Some word) (channels.Own fault) t denied = NotSet own word t denied
word_refused terms start line log before own None channels.Unknown t denied = (own, t, denied)
word_refused terms start line log before own (Some word) channels.Unknown t denied = absurd denied
word_refused terms start line log before own (Some word) (channels.Log fault) t denied = absurd denied
word_refused terms start line log before own (Some word) (channels.Table at) t denied = absurd denied
word_refused terms start line log before own (Some word) (channels.Journal fault) t denied = absurd denied
word_refused terms start line log before own (Some word) (channels.Logless why) t denied = absurd denied
word_refused terms start line log before own (Some word) (channels.Binlog channel fault) t denied = absurd denied
word_refused terms start line log before own None (channels.Own fault) t denied = absurd denied
word_refused terms start line log before own None (channels.Log fault) t denied = absurd denied
word_refused terms start line log before own None (channels.Table at) t denied = absurd denied
word_refused terms start line log before own None (channels.Journal fault) t denied = absurd denied
word_refused terms start line log before own None (channels.Logless why) t denied = absurd denied
word_refused terms start line log before own None (channels.Binlog channel fault) t denied = absurd denied

pub log_refused : (terms : Terms) (start : BundleValue) (line log before own : List ℕ) (executed : Option Gtids) (fault : ChannelFault) → IsSaidTaken terms.grants line before own executed → CantFeedLog terms start (name_in own) log (before ++ with_line_feed own) fault → CantFeedChannel terms start line log before fault
log_refused terms start line log before own executed (channels.Own fault) t denied = NoMemory denied
log_refused terms start line log before own executed channels.Unknown t denied = absurd denied
log_refused terms start line log before own executed (channels.Log fault) t denied = record { own = own; executed = executed; line_taken = t; cant = denied }
log_refused terms start line log before own executed (channels.Table at) t denied = record { own = own; executed = executed; line_taken = t; cant = denied }
log_refused terms start line log before own executed (channels.Journal fault) t denied = record { own = own; executed = executed; line_taken = t; cant = denied }
log_refused terms start line log before own executed (channels.Logless why) t denied = record { own = own; executed = executed; line_taken = t; cant = denied }
log_refused terms start line log before own executed (channels.Binlog channel fault) t denied = record { own = own; executed = executed; line_taken = t; cant = denied }

pub part_refused : (terms : Terms) (start : BundleValue) (line before own : List ℕ) (executed : Option Gtids) (fault : SetFault) → IsSaidTaken terms.grants line before own executed → IsPartFault fault start.opened executed → CantTake terms.grants start line before (faults.Set fault)
part_refused terms start line before own None fault t denied = NoMemory (ap (λ (f : SetFault). faults.Set f) denied)
part_refused terms start line before own (Some executed) fault t denied = FullPart own executed fault t denied refl
