-- What `import` writes. The lines are our own.
use Rattle.std.specs.Prelude.{◌≡◌, ◌⊎◌, ℕ, if◌then◌else◌, ◌+◌, ◌-◌, ◌^◌, min, Bool, true, false, List, [], ◌∷◌, ◌++◌, Option, Some, None, codes, decimal}
use Rattle.std.specs.Global.{Vec}
use Rattle.std.specs.List.{list_any}
use Rattle.std.specs.Str.{bytes_eq}
use Rattle.gtid_set.specs.Sets.{Gtids}
use Rattle.gtid_text.specs.Canonical.{gtid_text}
use Rattle.txn_journal.specs.BundleStates.{BundleValue}
use Rattle.txn_journal.specs.WrittenSets.{set_text}
use Rattle.txn_journal.specs.declared.fault.Cause.{Cause}
use Rattle.txn_journal.specs.declared.fault.Cause.TheVariants as causes
use Rattle.txn_journal.specs.declared.fault.JournalFault.{JournalFault}
use Rattle.txn_journal.specs.declared.fault.JournalFault.TheVariants as journals
use Rattle.gtid_report.specs.Faults.{set_fault, journal_fault}
use Rattle.gtid_report.specs.Refusals.{refusal_line}
use Rattle.gtid_report.specs.declared.fault.Fault.TheVariants.{Memory, Refused}
use Rattle.gtid_report.specs.declared.refusal.Refusal.TheVariants as reports
use Rattle.binlog_entries.specs.Unread.{word_of}
use Rattle.binlog_entries.specs.declared.as_journal.LogFault.{LogFault}
use Rattle.binlog_entries.specs.declared.as_journal.LogFault.TheVariants as logs
use Rattle.binlog_entries.specs.declared.fault.EntryRefusal.{EntryRefusal}
use Rattle.binlog_entries.specs.declared.fault.EntryRefusal.TheVariants as refusals
use Rattle.binlog_entries.specs.declared.fault.ReadFault.{ReadFault}
use Rattle.binlog_entries.specs.declared.fault.ReadFault.TheVariants as reads
use Rattle.binlog_entries.specs.declared.import.ImportFault.{ImportFault}
use Rattle.binlog_entries.specs.declared.import.ImportFault.TheVariants as imports
use Rattle.binlog_entries.specs.declared.limits.Limit.{Limit}
use Rattle.binlog_entries.specs.declared.limits.Limit.TheVariants as limits
use Rattle.binlog_bundle.specs.Logs.{texts}
use Rattle.binlog_bundle.specs.Files.{files as log_files}
use Rattle.binlog_bundle.specs.Weighed.{ImportsLogs, IsNoImportOfLogs}
use Rattle.binlog_bundle.specs.declared.fault.BundleFault.{BundleFault}
use Rattle.binlog_bundle.specs.declared.fault.BundleFault.TheVariants as bundles
use Rattle.binlog_bundle.specs.declared.grants.Grants.{Grants}
use Rattle.commands.specs.Printed.{Printed, with_line_feed}
use Rattle.commands.specs.Bundles.{text_answer}
use Rattle.txn_journal.specs.declared.lines.Version.TheVariants.{Three}
use Rattle.commands.specs.LogPlaces.{Place, place_at, place_text}
use Rattle.commands.specs.declared.edge.Outcome.TheVariants as outcomes
use Rattle.binlog_events.specs.Listing.{fault_word}
use Rattle.binlog_files.specs.Words.{word_of as refusal_word}
use Rattle.binlog_files.specs.declared.whole.FiledFault.{FiledFault}
use Rattle.binlog_files.specs.declared.files.FilesFault.{FilesFault}
use Rattle.binlog_files.specs.declared.files.FilesFault.TheVariants as filed
use Rattle.binlog_bundle.specs.declared.fault.Logless.{Logless}
use Rattle.binlog_bundle.specs.declared.fault.Logless.TheVariants as logless
use Rattle.binlog_bundle.specs.declared.files.ChannelFiles.{ChannelFiles}
use Rattle.txn_journal.specs.declared.bundle.BundleChannel.{BundleChannel}
use Rattle.commands.specs.declared.import_fault.FileCause.{FileCause}
use Rattle.commands.specs.declared.import_fault.FileCause.TheVariants as files
use Rattle.commands.specs.declared.import_fault.ImportCause.{ImportCause}
use Rattle.commands.specs.declared.import_fault.ImportCause.TheVariants as cause
use Rattle.commands.specs.declared.import_fault.Refused.{Refused as Refusal}
use Rattle.commands.specs.declared.import_fault.Refused.TheVariants.{Known, At, Executed, Unsupported, Binlog, Files}

-- ---- what is refused, and where

-- a line of a log after the line of its channel
abbrev pub line_behind : ℕ → ℕ → ℕ
line_behind channel n = min (channel + n) (2 ^ 64 - 1)

abbrev pub text_refused : ℕ → ReadFault → Refusal
text_refused channel (reads.Set fault) = Known (set_fault fault)
text_refused channel (reads.Line n refusal) = At (line_behind channel n) (cause.Line refusal)
text_refused channel (reads.Unfinished n) = At (line_behind channel n) cause.Unfinished

abbrev pub entry_refused : ℕ → LogFault → Refusal
entry_refused channel (logs.Set fault) = Known (set_fault fault)
entry_refused channel (logs.Twice gtid) = Known (Refused (reports.Twice gtid))
entry_refused channel (logs.TooLarge gtid limit) = At channel (cause.TooLarge gtid limit)

abbrev pub log_refused : ℕ → ImportFault → Refusal
log_refused channel (imports.Text fault) = text_refused channel fault
log_refused channel (imports.Key table column) = At channel (cause.Key table column)
log_refused channel (imports.Log fault) = entry_refused channel fault

-- what the tables don't take, or the limits of the format
abbrev pub cause_refused : ℕ → Cause → Refusal
cause_refused channel causes.Schema = At channel cause.Schema
cause_refused channel causes.Limit = At channel cause.Limit
cause_refused channel c = Known (journal_fault (journals.Line channel c))

abbrev pub journal_refused : JournalFault → Refusal
journal_refused (journals.Set fault) = Known (set_fault fault)
journal_refused (journals.Line channel c) = cause_refused channel c
journal_refused (journals.Truncated channel) = Known (journal_fault (journals.Truncated channel))

abbrev pub binlog_refused : Vec ℕ → ℕ → FilesFault → Refusal
binlog_refused channel file (filed.Set fault) = Known (set_fault fault)
binlog_refused channel file (filed.Damaged fault) = Binlog channel file fault.offset (files.Damaged fault.kind)
binlog_refused channel file (filed.Refused offset refusal) = Binlog channel file offset (files.Refused refusal)

abbrev pub logless_refused : ℕ → Logless → Refusal
logless_refused line logless.Missing = At line cause.NoFiles
logless_refused line logless.Surplus = At line cause.Text
logless_refused line (logless.Collation table column) = At line (cause.Collation table column)
logless_refused line (logless.Weights gtid table column) = At line (cause.Weights gtid table column)

abbrev pub bundle_refused : BundleFault → Refusal
bundle_refused (bundles.Own fault) = Known (journal_fault fault)
bundle_refused (bundles.Log channel fault) = log_refused channel fault
bundle_refused (bundles.Table channel n) = At (line_behind channel n) (cause.Line refusals.Table)
bundle_refused (bundles.Journal fault) = journal_refused fault
bundle_refused (bundles.Unsupported what) = Unsupported what
bundle_refused (bundles.Unknown channel) = At channel cause.Unknown
bundle_refused (bundles.Executed channel missing) = Executed channel missing
bundle_refused (bundles.Binlog channel fault) = binlog_refused channel fault.file fault.fault
bundle_refused (bundles.Logless line why) = logless_refused line why

-- ---- the line of a refusal

-- a table, and a column of it
abbrev pub column_text : List ℕ → ℕ → List ℕ
column_text table column = 32 ∷ (table ++ 32 ∷ decimal column)

-- the table that was mapped last, and the column that is next of it
abbrev pub mapped_text : Option (List ℕ) → ℕ → List ℕ
mapped_text None columns = []
mapped_text (Some table) columns = column_text table columns

-- of a refused type also the column, by the lines before it
abbrev pub refusal_text : EntryRefusal → Place → List ℕ
refusal_text refusals.Type place = codes "type" ++ mapped_text place.table place.columns
refusal_text refusal place = word_of refusal

-- what of an entry passes a limit
abbrev pub limit_text : Limit → List ℕ
limit_text limits.Changes = []
limit_text (limits.Columns table) = 32 ∷ table
limit_text (limits.Bytes table column) = column_text table column

-- a cause as it is printed, if this is known at its line
abbrev pub cause_text : ImportCause → Place → List ℕ
cause_text (cause.Line refusal) place = refusal_text refusal place
cause_text cause.Unfinished place = codes "unfinished"
cause_text (cause.Key table column) place = codes "key" ++ column_text table column
cause_text (cause.TooLarge gtid limit) place = codes "limit " ++ (gtid_text gtid ++ limit_text limit)
cause_text cause.Limit place = codes "limit"
cause_text cause.Schema place = codes "schema"
cause_text cause.Unknown place = codes "executed"
cause_text cause.NoFiles place = codes "files"
cause_text cause.Text place = codes "text"
cause_text (cause.Collation table column) place = codes "collation" ++ column_text table column
cause_text (cause.Weights gtid table column) place = codes "characters " ++ (gtid_text gtid ++ column_text table column)

-- the word of what is wrong with a binary log file
abbrev pub file_word : FileCause → List ℕ
file_word (files.Damaged kind) = fault_word kind
file_word (files.Refused refusal) = refusal_word refusal

-- an offset of it, and what is wrong there
abbrev pub offset_text : ℕ → FileCause → List ℕ
offset_text offset cause = 32 ∷ (decimal offset ++ 32 ∷ file_word cause)

-- the file of a channel, by its number, and what is wrong with it
abbrev pub binlog_line : List ℕ → ℕ → ℕ → FileCause → List ℕ
binlog_line channel file offset cause = codes "refused binlog " ++ (channel ++ 32 ∷ (decimal file ++ offset_text offset cause))

-- it has a line, for memory was not refused
abbrev pub HasLine : Refusal → Type 0
HasLine (Known Memory) = ⊥
HasLine r = Unit {0}

-- the line of a refusal of this text
abbrev pub refused_line : List ℕ → Refusal → List ℕ
refused_line text (Known (Refused r)) = refusal_line r
refused_line text (Known Memory) = []
refused_line text (At line c) = codes "refused import line " ++ (decimal line ++ 32 ∷ cause_text c (place_at line text))
refused_line text (Executed channel missing) = codes "refused import executed " ++ (channel ++ 32 ∷ set_text missing)
refused_line text (Unsupported what) = codes "refused import unsupported " ++ what.items
refused_line text (Binlog channel file offset cause) = binlog_line channel.items file offset cause
refused_line text (Files channel) = codes "refused import files " ++ channel.items

-- ---- what explains a refusal

-- the line that a refusal names
abbrev pub line_named : Refusal → Option ℕ
line_named (At line c) = Some line
line_named (Known (Refused (reports.Line line c))) = Some line
line_named (Known (Refused (reports.Truncated line))) = Some line
line_named (Known (Refused (reports.Version line))) = Some line
line_named r = None

-- that line, and what is known of its log there
abbrev pub line_explained : List ℕ → Option ℕ → List ℕ
line_explained text None = []
line_explained text (Some line) = place_text line (place_at line text)

-- where that is asked for
abbrev pub explanation : Bool → List ℕ → Refusal → List ℕ
explanation false text r = []
explanation true text r = line_explained text (line_named r)

-- the line of a refusal, and what explains it
abbrev pub refusal_notes : Bool → List ℕ → Refusal → List ℕ
refusal_notes is_explained text r = with_line_feed (refused_line text r) ++ explanation is_explained text r

-- ---- what is written

-- nothing is printed
abbrev pub silent_refusal : Printed
silent_refusal = record { text = []; outcome = outcomes.Refused }

-- The bundle is imported: the answer is its text by version 3, and the notes are what a verdict on that won't see and it doesn't say.
pub record IsImport (imports : BundleValue → List ℕ → Type 0) (printed : Printed) (notes : List ℕ) : Type 0 where
  pub bundle : BundleValue
  pub imported : imports bundle notes
  pub answers : printed ≡ text_answer Three bundle

-- The text is refused: nothing is printed, and the notes are the line of the refusal, with what explains it.
pub record IsImportRefused (none : Refusal → Type 0) (is_explained : Bool) (text : List ℕ) (printed : Printed) (notes : List ℕ) : Type 0 where
  pub refusal : Refusal
  pub is : none refusal
  pub line : HasLine refusal
  pub silent : printed ≡ silent_refusal
  pub noted : notes ≡ refusal_notes is_explained text refusal

-- it is the refusal of a fault for which there is no bundle
abbrev pub IsOfFault : (BundleFault → Type 0) → Refusal → Type 0
IsOfFault none refusal = (fault : BundleFault) × none fault × (refusal ≡ bundle_refused fault)

-- these are the answer of `import` to this text and the notes beside it, where an operator answers for the statements of these GTIDs
abbrev pub Imports : Gtids → Grants → Bool → List ℕ → Printed → List ℕ → Type 0
Imports accepted grants is_explained text printed notes =
    IsImport (ImportsLogs grants (texts accepted) text) printed notes
    ⊎ IsImportRefused (IsOfFault (λ fault. IsNoImportOfLogs grants (texts accepted) fault text)) is_explained text printed notes

-- ---- with binary log files

abbrev pub has_name : List ℕ → List BundleChannel → Bool
has_name name channels = list_any (λ c. bytes_eq c.name name) channels

-- the first name of files that is none of these channels'
abbrev pub unnamed : List ChannelFiles → List BundleChannel → Option (List ℕ)
unnamed [] channels = None
unnamed (f ∷ fs) channels = if has_name f.name.items channels then unnamed fs channels else Some f.name.items

-- a bundle is imported whose channels have all of these files
abbrev pub ImportsAll : Gtids → Grants → List ChannelFiles → List ℕ → BundleValue → List ℕ → Type 0
ImportsAll accepted grants logs text b notes = ImportsLogs grants (log_files accepted logs) text b notes × (unnamed logs b.channels ≡ None)

-- a bundle is imported, but these files are of none of its channels
abbrev pub HasUnnamed : Gtids → Grants → List ChannelFiles → List ℕ → Refusal → Type 0
HasUnnamed accepted grants logs text (Files name) =
    (b : BundleValue) × (notes : List ℕ) × ImportsLogs grants (log_files accepted logs) text b notes × (unnamed logs b.channels ≡ Some name.items)
HasUnnamed accepted grants logs text _ = ⊥

-- the text is refused with these files, or one of these
abbrev pub IsFilesRefusal : Gtids → Grants → List ChannelFiles → List ℕ → Refusal → Type 0
IsFilesRefusal accepted grants logs text refusal = IsOfFault (λ fault. IsNoImportOfLogs grants (log_files accepted logs) fault text) refusal ⊎ HasUnnamed accepted grants logs text refusal

-- these are the answer of `import` to this text and these files, and the notes beside it, where an operator answers for these statements
abbrev pub ImportsWithFiles : Gtids → List ChannelFiles → Grants → Bool → List ℕ → Printed → List ℕ → Type 0
ImportsWithFiles accepted logs grants is_explained text printed notes =
    IsImport (ImportsAll accepted grants logs text) printed notes ⊎ IsImportRefused (IsFilesRefusal accepted grants logs text) is_explained text printed notes
