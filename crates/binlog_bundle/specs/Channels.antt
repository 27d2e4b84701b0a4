-- The channels of a bundle of logs, as far as they have come.
use Rattle.std.specs.Prelude.{◌≡◌, ℕ, Bool, true, false, List, [], ◌∷◌, ◌++◌, Option, Some, None}
use Rattle.std.specs.FinSet as set
use Rattle.std.specs.List.{flat_map}
use Rattle.gtid_set.specs.Full.{IsFaultOf}
use Rattle.gtid_set.specs.Sets.{Gtids}
use Rattle.gtid_set.specs.declared.fault.SetFault.{SetFault}
use Rattle.gtid_set.specs.declared.fault.SetFault.TheVariants.{Memory}
use Rattle.journal_words.specs.Gtids.{set_of_word}
use Rattle.rows.specs.declared.schema.Table.{Table}
use Rattle.txn_journal.specs.BundleReaders.{bundle_reading}
use Rattle.txn_journal.specs.BundleStates.{BundleValue}
use Rattle.txn_journal.specs.BundleReading.{BundleProgress}
use Rattle.txn_journal.specs.declared.fault.JournalFault.{JournalFault}
use Rattle.txn_journal.specs.declared.fault.JournalFault.TheVariants as faults
use Rattle.binlog_entries.specs.declared.import.ImportFault.TheVariants as imports
use Rattle.binlog_bundle.specs.Lines.{with_line_feed, HasNoOwn, BeginsOwn, IsCut}
use Rattle.binlog_bundle.specs.Tables.{HasOther, HasNoOther}
use Rattle.binlog_bundle.specs.Notes.{name_in, notes_for}
use Rattle.binlog_bundle.specs.Heads.{IsPlainHead}
use Rattle.binlog_bundle.specs.Executed.{IsCutLine, HadExecuted, IsNoSet}
use Rattle.binlog_bundle.specs.Bundles.{ImportedLog, IsStart, Corresponds, said, all_assumed, assumed_for, DescribesBundle}
use Rattle.binlog_bundle.specs.Refused.{IsFed, IsTaken, StopsAt, IsOfLine}
use Rattle.binlog_bundle.specs.declared.channels.ImportProgress.{ImportProgress}
use Rattle.binlog_bundle.specs.Logs.{Terms, BringsJournal, BringsNone}
use Rattle.binlog_bundle.specs.declared.assumed.AssumedLine.{AssumedLine}
use Rattle.binlog_bundle.specs.declared.grants.Grants.{Grants}
use Rattle.binlog_bundle.specs.declared.fault.SourceFault.{SourceFault}
use Rattle.binlog_bundle.specs.declared.fault.SourceFault.TheVariants as sources
use Rattle.binlog_bundle.specs.declared.fault.ChannelFault.{ChannelFault}
use Rattle.binlog_bundle.specs.declared.fault.ChannelFault.TheVariants as channels

-- this is the head of the text, with its plain head, whether lines of it were passed over, and the text from there on
pub record HasHead (terms : Terms) (text head plain : List ℕ) (passed_over : Bool) (rest : List ℕ) : Type 0 where
  pub cut : IsCut text head rest
  pub plain_head : IsPlainHead terms.grants terms.origin.columns head plain passed_over

-- the reader of bundles has read these bytes
abbrev pub HasRead : ImportProgress → List ℕ → Type 0
HasRead progress bytes = IsFed (bundle_reading progress.reader) bytes

-- All but what is left of the text has come, and the reader of bundles has read the plain head, which begins this bundle, and the journals in the
-- place of the logs; this is what the channels' lines say was executed, and what is assumed and noted.
pub record HasCome (terms : Terms) (start : BundleValue) (text left : List ℕ) (progress : ImportProgress) : Type 0 where
  pub head : List ℕ
  pub plain : List ℕ
  pub alone : HasNoOwn head
  pub plain_head : IsPlainHead terms.grants terms.origin.columns head plain progress.passed_over
  pub has : IsStart plain start
  pub channels : List ImportedLog
  pub front : List ℕ
  pub written : List ℕ
  pub corresponds : Corresponds terms head plain channels front written
  pub parts : text ≡ front ++ left
  pub begins : BeginsOwn left
  pub fed : HasRead progress written
  pub says : progress.executed.items ≡ said channels
  pub assumed : progress.assumed.items ≡ all_assumed channels
  pub noted : progress.notes.items ≡ flat_map (λ c. c.notes) channels

-- ---- a channel that comes

-- a reader that has taken some bytes has now taken these after them
abbrev pub IsFedWith : BundleProgress → BundleProgress → List ℕ → Type 0
IsFedWith old new bytes = (before : List ℕ) → IsFed old before → IsFed new (before ++ bytes)

-- the journal of a channel's log has come
pub record FeedsLog (terms : Terms) (start : BundleValue) (name log : List ℕ) (old new : BundleProgress) (varied : List ℕ) (statements : Gtids) : Type 0 where
  pub journal : List ℕ
  pub imports : BringsJournal terms start name log journal varied statements
  pub fed : IsFedWith old new journal

-- this is added to what was executed
abbrev pub IsSaid : ImportProgress → ImportProgress → Option Gtids → Type 0
IsSaid old new executed = new.executed.items ≡ old.executed.items ++ executed ∷ []

-- these are added to what is assumed
abbrev pub IsAssumed : ImportProgress → ImportProgress → List AssumedLine → Type 0
IsAssumed old new lines = new.assumed.items ≡ old.assumed.items ++ lines

-- these are added to the notes
abbrev pub IsNoted : ImportProgress → ImportProgress → List ℕ → Type 0
IsNoted old new notes = new.notes.items ≡ old.notes.items ++ notes

-- the line of a channel has come, and the journal of its log; this is added to what was executed, is assumed and noted
pub record FeedsChannel (terms : Terms) (start : BundleValue) (line log : List ℕ) (old new : ImportProgress) : Type 0 where
  pub own : List ℕ
  pub executed : Option Gtids
  pub varied : List ℕ
  pub statements : Gtids
  pub says : HadExecuted terms.grants line own executed
  pub middle : BundleProgress
  pub fed : IsFedWith (bundle_reading old.reader) middle (with_line_feed own)
  pub brings : FeedsLog terms start (name_in own) log middle (bundle_reading new.reader) varied statements
  pub said : IsSaid old new executed
  pub assumed : IsAssumed old new (assumed_for terms start own executed statements)
  pub noted : IsNoted old new (notes_for start own varied)
  pub same_head : new.passed_over ≡ old.passed_over

-- why the channel of this name isn't read, if it has no log for this reason; or out of memory
abbrev pub IsNotHad : List ℕ → SourceFault → ChannelFault → Type 0
IsNotHad name (sources.Text fault) (channels.Log (imports.Text other)) = other ≡ fault
IsNotHad name (sources.Logless why) (channels.Logless other) = other ≡ why
IsNotHad name (sources.File fault) (channels.Binlog channel other) = (channel.items ≡ name) × (other ≡ fault)
IsNotHad name (sources.File fault) (channels.Own other) = other ≡ faults.Set Memory
IsNotHad name _ _ = ⊥

-- It is this fault, and if that names a line, no line of the log maps a table that is none of these; or one does, and it is the first. Or
-- there is no memory.
abbrev pub IsJournalFault : List Table → List ℕ → JournalFault → ChannelFault → Type 0
IsJournalFault tables log fault (channels.Own other) = other ≡ faults.Set Memory
IsJournalFault tables log fault channels.Unknown = ⊥
IsJournalFault tables log fault (channels.Log other) = ⊥
IsJournalFault tables log fault (channels.Logless why) = ⊥
IsJournalFault tables log fault (channels.Binlog channel other) = ⊥
IsJournalFault tables log fault (channels.Table at) = IsOfLine fault × HasOther tables at log
IsJournalFault tables log fault (channels.Journal other) = (other ≡ fault) × (IsOfLine fault → HasNoOther tables log)

-- what is read of the word of what was executed: the set; or nothing, and that is granted
abbrev pub IsWordRead : Grants → Option (List ℕ) → Option Gtids → Type 0
IsWordRead grants (Some word) (Some executed) = set_of_word word ≡ Some executed
IsWordRead grants None None = grants.executed_unknown ≡ true
IsWordRead grants _ _ = ⊥

abbrev pub IsWordRefused : Grants → Option (List ℕ) → ChannelFault → Type 0
IsWordRefused grants (Some word) (channels.Own fault) = IsNoSet word fault
IsWordRefused grants None channels.Unknown = grants.executed_unknown ≡ false
IsWordRefused grants _ _ = ⊥

-- ---- a channel that doesn't come

-- the line of a channel, without what was executed, is taken after these bytes; it says this of what was executed
pub record IsLineTaken (line before own : List ℕ) (word : Option (List ℕ)) : Type 0 where
  pub cut : IsCutLine line own word
  pub taken : IsTaken (before ++ with_line_feed own)

-- the same if that is a set, or granted
pub record IsSaidTaken (grants : Grants) (line before own : List ℕ) (executed : Option Gtids) : Type 0 where
  pub says : HadExecuted grants line own executed
  pub taken : IsTaken (before ++ with_line_feed own)

-- Why the line of a channel isn't taken after these bytes, or what it says was executed; or out of memory.
pub data CantTake (grants : Grants) (start : BundleValue) (line before : List ℕ) (fault : JournalFault) : Type 0 where
  NoMemory : fault ≡ faults.Set Memory → CantTake grants start line before fault
  Stops : (own : List ℕ) (word : Option (List ℕ)) → IsCutLine line own word → StopsAt fault (before ++ with_line_feed own) → CantTake grants start line before fault
  NotSet : (own word : List ℕ) → IsLineTaken line before own (Some word) → IsNoSet word fault → CantTake grants start line before fault
  FullPart : (own : List ℕ) (executed : Gtids) (full : SetFault) → IsSaidTaken grants line before own (Some executed) → IsFaultOf full (set.difference start.opened executed) → fault ≡ faults.Set full → CantTake grants start line before fault

-- the log of the channel of this name is a journal that is refused after these bytes
pub record CantJoin (terms : Terms) (start : BundleValue) (name log before : List ℕ) (fault : JournalFault) : Type 0 where
  pub journal : List ℕ
  pub varied : List ℕ
  pub statements : Gtids
  pub imports : BringsJournal terms start name log journal varied statements
  pub stops : StopsAt fault (before ++ journal)

-- why the log of the channel of this name isn't taken after these bytes; or out of memory
abbrev pub CantFeedLog : Terms → BundleValue → List ℕ → List ℕ → List ℕ → ChannelFault → Type 0
CantFeedLog terms start name log before (channels.Own fault) = fault ≡ faults.Set Memory
CantFeedLog terms start name log before channels.Unknown = ⊥
CantFeedLog terms start name log before (channels.Log fault) = BringsNone terms start name log fault
CantFeedLog terms start name log before (channels.Table at) = (fault : JournalFault) × IsOfLine fault × CantJoin terms start name log before fault × HasOther start.start.schema at log
CantFeedLog terms start name log before (channels.Journal fault) = CantJoin terms start name log before fault × (IsOfLine fault → HasNoOther start.start.schema log)
CantFeedLog terms start name log before (channels.Logless why) = terms.origin.refuses name log start.opened (sources.Logless why)
CantFeedLog terms start name log before (channels.Binlog channel fault) = (channel.items ≡ name) × terms.origin.refuses name log start.opened (sources.File fault)

-- its line is taken before
pub record CantBring (terms : Terms) (start : BundleValue) (line log before : List ℕ) (fault : ChannelFault) : Type 0 where
  pub own : List ℕ
  pub executed : Option Gtids
  pub line_taken : IsSaidTaken terms.grants line before own executed
  pub cant : CantFeedLog terms start (name_in own) log (before ++ with_line_feed own) fault

-- why they have not come, after these bytes
abbrev pub CantFeedChannel : Terms → BundleValue → List ℕ → List ℕ → List ℕ → ChannelFault → Type 0
CantFeedChannel terms start line log before (channels.Own fault) = CantTake terms.grants start line before fault
CantFeedChannel terms start line log before channels.Unknown = (own : List ℕ) × IsLineTaken line before own None × (terms.grants.executed_unknown ≡ false)
CantFeedChannel terms start line log before (channels.Log fault) = CantBring terms start line log before (channels.Log fault)
CantFeedChannel terms start line log before (channels.Table at) = CantBring terms start line log before (channels.Table at)
CantFeedChannel terms start line log before (channels.Journal fault) = CantBring terms start line log before (channels.Journal fault)
CantFeedChannel terms start line log before (channels.Logless why) = CantBring terms start line log before (channels.Logless why)
CantFeedChannel terms start line log before (channels.Binlog channel fault) = CantBring terms start line log before (channels.Binlog channel fault)

-- ---- all channels

-- the text describes the bundle, and this is what the channels' lines say was executed
pub record IsDescribed (terms : Terms) (text : List ℕ) (b : BundleValue) (executed : List (Option Gtids)) (notes : List ℕ) : Type 0 where
  pub channels : List ImportedLog
  pub describes : DescribesBundle terms text channels b notes
  pub says : executed ≡ said channels
