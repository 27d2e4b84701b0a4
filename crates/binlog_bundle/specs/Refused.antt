-- What is no bundle of logs.
use Rattle.std.specs.Prelude.{◌≡◌, ◌⊎◌, ℕ, Bool, true, false, List, [], ◌∷◌, ◌++◌, Option, Some, None, Result, Err, IfOk, IfErr, OnOk}
use Rattle.gtid_set.specs.Full.{IsFaultOf, IsMemoryOr}
use Rattle.gtid_set.specs.Sets.{Gtids}
use Rattle.gtid_set.specs.declared.fault.SetFault.{SetFault}
use Rattle.gtid_set.specs.declared.fault.SetFault.TheVariants.{PoolFull, SourcesFull}
use Rattle.journal_words.specs.Gtids.{set_of_word, IsWordFault}
use Rattle.std.specs.FinSet as set
use Rattle.txn_journal.specs.BundleReading.{BundleProgress, bundle_start, feed_bundle_bytes, closing_bundle}
use Rattle.txn_journal.specs.BundleRefused.{RefusesBundle, RefusesBundleBy}
use Rattle.txn_journal.specs.BundleStates.{BundleValue}
use Rattle.txn_journal.specs.Stream.{Reading, Stopped, next_number}
use Rattle.txn_journal.specs.Words.{BeginsWithLine}
use Rattle.txn_journal.specs.declared.fault.Cause.TheVariants as causes
use Rattle.txn_journal.specs.declared.fault.JournalFault.{JournalFault}
use Rattle.txn_journal.specs.declared.fault.JournalFault.TheVariants as faults
use Rattle.binlog_entries.specs.declared.import.ImportFault.{ImportFault}
use Rattle.binlog_bundle.specs.Lines.{with_line_feed, is_channel, lines_in, HasNoOwn, BeginsOwn, IsCut}
use Rattle.binlog_bundle.specs.Tables.{HasOther, HasNoOther}
use Rattle.binlog_bundle.specs.Heads.{IsPlainHead, IsUnsupported, place_of}
use Rattle.binlog_bundle.specs.Executed.{IsCutLine, HadExecuted, HasLack, IsFullAt}
use Rattle.binlog_bundle.specs.Assumed.{IsAssumeText, IsSaidBefore}
use Rattle.binlog_bundle.specs.Bundles.{done_line, ImportedLog, IsStart, Corresponds, said, all_assumed, DescribesBundle}
use Rattle.binlog_bundle.specs.Logs.{Terms, BringsJournal, BringsNone}
use Rattle.binlog_bundle.specs.Notes.{name_in}
use Rattle.binlog_bundle.specs.declared.fault.SourceFault.{SourceFault}
use Rattle.binlog_bundle.specs.declared.fault.SourceFault.TheVariants as sources
use Rattle.binlog_bundle.specs.declared.fault.BundleFault.{BundleFault}
use Rattle.binlog_bundle.specs.declared.fault.BundleFault.TheVariants as bundles
use Rattle.binlog_bundle.specs.declared.fault.ChannelFault.{ChannelFault}
use Rattle.binlog_bundle.specs.declared.fault.ChannelFault.TheVariants as channels
use Rattle.txn_journal.specs.BundleText.{WritesBundle}
use Rattle.txn_journal.specs.declared.lines.Due.TheVariants.{Any, Only}
use Rattle.txn_journal.specs.declared.lines.Version.TheVariants.{Three}

-- ---- faults

-- the same fault at another line
abbrev pub fault_at_line : JournalFault → ℕ → JournalFault
fault_at_line (faults.Set fault) line = faults.Set fault
fault_at_line (faults.Line n cause) line = faults.Line line cause
fault_at_line (faults.Truncated n) line = faults.Truncated line

-- the fault of a line of the plain head, at its line of the head
abbrev pub fault_in_head : List (List ℕ) → JournalFault → JournalFault
fault_in_head lines (faults.Set fault) = faults.Set fault
fault_in_head lines (faults.Line n cause) = faults.Line (place_of lines n) cause
fault_in_head lines (faults.Truncated n) = faults.Truncated (place_of lines n)

-- the fault of a bundle whose channel is at this line
abbrev pub channel_fault_at : ChannelFault → ℕ → BundleFault
channel_fault_at (channels.Own fault) line = bundles.Own (fault_at_line fault line)
channel_fault_at channels.Unknown line = bundles.Unknown line
channel_fault_at (channels.Log fault) line = bundles.Log line fault
channel_fault_at (channels.Table at) line = bundles.Table line at
channel_fault_at (channels.Journal fault) line = bundles.Journal (fault_at_line fault line)
channel_fault_at (channels.Logless why) line = bundles.Logless line why
channel_fault_at (channels.Binlog channel fault) line = bundles.Binlog channel fault

-- ---- the reader of bundles

-- it has not stopped
abbrev pub GoesOn : BundleProgress → Type 0
GoesOn (Reading s n rest) = Unit {0}
GoesOn (Stopped fault) = ⊥

-- these bytes have come, and were taken
abbrev pub IsFed : BundleProgress → List ℕ → Type 0
IsFed p bytes = (p ≡ feed_bundle_bytes (bundle_start Any) bytes) × GoesOn p

-- nothing is wrong with the whole lines of these bytes, as those of a bundle
abbrev pub IsTaken : List ℕ → Type 0
IsTaken bytes = GoesOn (feed_bundle_bytes (bundle_start Any) bytes)

-- A whole line of these bytes is the first that is none of a bundle's, in the words of the format and by the fold over the bytes; or a set is full after
-- some of them, or memory was refused. That they end too early is no such fault.
abbrev pub StopsAt : JournalFault → List ℕ → Type 0
StopsAt (faults.Set fault) bytes = RefusesBundle (faults.Set fault) bytes
StopsAt (faults.Line n cause) bytes = RefusesBundle (faults.Line n cause) bytes × (feed_bundle_bytes (bundle_start Any) bytes ≡ Stopped (faults.Line n cause))
StopsAt (faults.Truncated n) bytes = ⊥

-- the same of bytes that are the whole of a text
abbrev pub IsRefused : JournalFault → List ℕ → Type 0
IsRefused (faults.Set fault) bytes = RefusesBundle (faults.Set fault) bytes
IsRefused (faults.Line n cause) bytes = RefusesBundle (faults.Line n cause) bytes × (closing_bundle (feed_bundle_bytes (bundle_start Any) bytes) ≡ Err (faults.Line n cause))
IsRefused (faults.Truncated n) bytes = RefusesBundle (faults.Truncated n) bytes × (closing_bundle (feed_bundle_bytes (bundle_start Any) bytes) ≡ Err (faults.Truncated n))

-- The same of a head with an end, where version 3 alone is due. A set that is full may be found when the head is read again, as part of the whole.
abbrev pub IsHeadRefused : JournalFault → List ℕ → Type 0
IsHeadRefused (faults.Set fault) bytes = RefusesBundleBy (Only Three) (faults.Set fault) bytes ⊎ RefusesBundle (faults.Set fault) bytes
IsHeadRefused (faults.Line n cause) bytes = RefusesBundleBy (Only Three) (faults.Line n cause) bytes × (closing_bundle (feed_bundle_bytes (bundle_start (Only Three)) bytes) ≡ Err (faults.Line n cause))
IsHeadRefused (faults.Truncated n) bytes = RefusesBundleBy (Only Three) (faults.Truncated n) bytes × (closing_bundle (feed_bundle_bytes (bundle_start (Only Three)) bytes) ≡ Err (faults.Truncated n))

-- a piece more: after all bytes that were taken before it, it is taken, or else refused
abbrev pub TakesMore : {A : Type 0} → Result A JournalFault → BundleProgress → BundleProgress → List ℕ → Type 0
TakesMore result old new piece = (before : List ℕ) → IsFed old before → OnOk result (IsFed new (before ++ piece))

abbrev pub StopsIn : {A : Type 0} → Result A JournalFault → BundleProgress → List ℕ → Type 0
StopsIn result old piece = (before : List ℕ) → IsFed old before → IfErr result (λ fault. StopsAt fault (before ++ piece))

-- the last piece: with all bytes before it, it is the text of this bundle, or else refused
abbrev pub EndsBundle : Result BundleValue JournalFault → BundleProgress → List ℕ → Type 0
EndsBundle result old piece = (before : List ℕ) → IsFed old before → IfOk result (λ b. WritesBundle (before ++ piece) b)

abbrev pub EndsRefused : {A : Type 0} → Result A JournalFault → BundleProgress → List ℕ → Type 0
EndsRefused result old piece = (before : List ℕ) → IsFed old before → IfErr result (λ fault. IsRefused fault (before ++ piece))

-- it names a line
abbrev pub IsOfLine : JournalFault → Type 0
IsOfLine (faults.Set fault) = ⊥
IsOfLine (faults.Line n cause) = Unit {0}
IsOfLine (faults.Truncated n) = ⊥

-- ---- the text

-- what is read with a head: nothing if nothing comes after it, and else the end of a bundle
abbrev pub end_for : List ℕ → List ℕ
end_for [] = []
end_for (b ∷ bs) = done_line

-- The plain head, with the end of a bundle after it if anything comes, is none of version 3; the fault is counted over the lines of the head.
pub record IsNoHead (terms : Terms) (fault : JournalFault) (text : List ℕ) : Type 0 where
  pub head : List ℕ
  pub rest : List ℕ
  pub cut : IsCut text head rest
  pub plain : List ℕ
  pub passed_over : Bool
  pub plain_head : IsPlainHead terms.grants terms.origin.columns head plain passed_over
  pub own : JournalFault
  pub stops : IsHeadRefused own (plain ++ end_for rest)
  pub at : fault ≡ fault_in_head plain_head.lines own

-- a line of the head isn't granted, and the first such line names this
pub record HasUnsupported (terms : Terms) (what text : List ℕ) : Type 0 where
  pub head : List ℕ
  pub rest : List ℕ
  pub cut : IsCut text head rest
  pub first : IsUnsupported terms.grants what head

-- All but what is left of the text has come: the head and whole channels, and nothing is wrong with them if the journals are in the place
-- of the logs.
pub record HasTaken (terms : Terms) (head plain front written left text : List ℕ) : Type 0 where
  pub alone : HasNoOwn head
  pub passed_over : Bool
  pub plain_head : IsPlainHead terms.grants terms.origin.columns head plain passed_over
  pub channels : List ImportedLog
  pub corresponds : Corresponds terms head plain channels front written
  pub parts : text ≡ front ++ left
  pub begins : BeginsOwn left
  pub taken : IsTaken written

-- The line of a channel comes next, which, without what was executed, is none of a bundle's there; it has this number.
pub record IsNoLine (terms : Terms) (fault : JournalFault) (line : ℕ) (text : List ℕ) : Type 0 where
  pub head : List ℕ
  pub plain : List ℕ
  pub front : List ℕ
  pub written : List ℕ
  pub left : List ℕ
  pub come : HasTaken terms head plain front written left text
  pub next : List ℕ
  pub after : List ℕ
  pub begins : BeginsWithLine left next after
  pub channel : is_channel next ≡ true
  pub own : List ℕ
  pub word : Option (List ℕ)
  pub cut : IsCutLine next own word
  pub stops : StopsAt fault (written ++ with_line_feed own)
  pub number : line ≡ next_number (lines_in front)

-- this is the last line of a bundle, or there is none
abbrev pub IsLast : List ℕ → List ℕ → Type 0
IsLast last behind = (last ≡ done_line) ⊎ ((last ≡ []) × (behind ≡ []))

-- No further channel comes, and the lines of what is assumed, or the last line behind them, are refused; this is the number of the last line.
-- (Where a head has a line `assume ..` of its own, those of what is granted may not follow it.)
pub record IsNoLast (terms : Terms) (fault : JournalFault) (line : ℕ) (text : List ℕ) : Type 0 where
  pub head : List ℕ
  pub plain : List ℕ
  pub front : List ℕ
  pub written : List ℕ
  pub after : List ℕ
  pub come : HasTaken terms head plain front written (done_line ++ after) text
  pub assumes : List ℕ
  pub says : IsAssumeText terms.grants (all_assumed come.channels) come.passed_over assumes
  pub stops : StopsAt fault (written ++ (assumes ++ done_line))
  pub number : line ≡ next_number (lines_in front)

-- No further channel comes, and what is after the last line, or that there is none, makes the whole no bundle; this is the number of the
-- line after it.
pub record IsNoEnd (terms : Terms) (fault : JournalFault) (line : ℕ) (text : List ℕ) : Type 0 where
  pub head : List ℕ
  pub plain : List ℕ
  pub front : List ℕ
  pub written : List ℕ
  pub last : List ℕ
  pub behind : List ℕ
  pub come : HasTaken terms head plain front written (last ++ behind) text
  pub ends : IsLast last behind
  pub assumes : List ℕ
  pub says : IsSaidBefore terms.grants (last ++ behind) (all_assumed come.channels) come.passed_over assumes
  pub taken : IsTaken (written ++ (assumes ++ last))
  pub stops : IsRefused fault (written ++ ((assumes ++ last) ++ behind))
  pub number : line ≡ next_number (lines_in (front ++ last))

-- The line of a channel comes next, and this is its log: all before the next line of the bundle's own.
pub record HasChannel (left channel log rest : List ℕ) : Type 0 where
  pub begins : BeginsWithLine left channel (log ++ rest)
  pub is : is_channel channel ≡ true
  pub cut : IsCut (log ++ rest) log rest

-- The line of a channel comes next, and has this number: without what was executed it is taken as a bundle's, after these bytes. This is
-- its log, and this the bundle that the head begins.
pub record HasNext (terms : Terms) (line : ℕ) (text written channel own log : List ℕ) (start : BundleValue) : Type 0 where
  pub head : List ℕ
  pub plain : List ℕ
  pub front : List ℕ
  pub left : List ℕ
  pub come : HasTaken terms head plain front written left text
  pub rest : List ℕ
  pub next : HasChannel left channel log rest
  pub taken : IsTaken (written ++ with_line_feed own)
  pub has : IsStart plain start
  pub number : line ≡ next_number (lines_in front)

-- a channel whose line says by this word, or doesn't say, what was executed
pub record HasWord (terms : Terms) (line : ℕ) (text : List ℕ) (word : Option (List ℕ)) : Type 0 where
  pub written : List ℕ
  pub channel : List ℕ
  pub own : List ℕ
  pub log : List ℕ
  pub start : BundleValue
  pub next : HasNext terms line text written channel own log start
  pub cut : IsCutLine channel own word

-- the line doesn't say what was executed, and that isn't granted
abbrev pub IsUnknown : Terms → ℕ → List ℕ → Type 0
IsUnknown terms line text = HasWord terms line text None × (terms.grants.executed_unknown ≡ false)

-- what it says is no set
abbrev pub HasNoSet : Terms → ℕ → List ℕ → Type 0
HasNoSet terms line text = (word : List ℕ) × HasWord terms line text (Some word) × (set_of_word word ≡ None)

-- what it says is a set with too many sources or intervals
abbrev pub HasFullSet : Terms → SetFault → List ℕ → Type 0
HasFullSet terms fault text = (line : ℕ) × (word : List ℕ) × HasWord terms line text (Some word) × IsWordFault fault (set_of_word word)

-- A channel, as far as its line goes: it says what was executed, or needn't.
pub record HasLog (terms : Terms) (line : ℕ) (text log written channel own : List ℕ) (executed : Option Gtids) (start : BundleValue) : Type 0 where
  pub next : HasNext terms line text written channel own log start
  pub says : HadExecuted terms.grants channel own executed

-- The line of a channel comes next; it has this number. Its log is not imported, of which the text behind the line tells.
pub record IsNoLog (terms : Terms) (fault : ImportFault) (line : ℕ) (text : List ℕ) : Type 0 where
  pub written : List ℕ
  pub channel : List ℕ
  pub own : List ℕ
  pub log : List ℕ
  pub executed : Option Gtids
  pub start : BundleValue
  pub has : HasLog terms line text log written channel own executed start
  pub none : BringsNone terms start (name_in own) log fault

-- The same, but that the channel of this name has no log, for this reason.
pub record IsLogless (terms : Terms) (fault : SourceFault) (line : ℕ) (name text : List ℕ) : Type 0 where
  pub written : List ℕ
  pub channel : List ℕ
  pub own : List ℕ
  pub log : List ℕ
  pub executed : Option Gtids
  pub start : BundleValue
  pub has : HasLog terms line text log written channel own executed start
  pub named : name ≡ name_in own
  pub none : terms.origin.refuses name log start.opened fault

-- The same, but that its log describes a journal that is none of a bundle's there; these are the tables of the head.
pub record CantFollow (terms : Terms) (fault : JournalFault) (line : ℕ) (text : List ℕ) (start : BundleValue) (log : List ℕ) : Type 0 where
  pub written : List ℕ
  pub channel : List ℕ
  pub own : List ℕ
  pub executed : Option Gtids
  pub has : HasLog terms line text log written channel own executed start
  pub journal : List ℕ
  pub varied : List ℕ
  pub statements : Gtids
  pub imports : BringsJournal terms start (name_in own) log journal varied statements
  pub stops : StopsAt fault (written ++ (with_line_feed own ++ journal))

-- a line of the journal is refused, and the first line of the log that maps a table which is none of those of the head has this number
pub record HasTableFault (terms : Terms) (at line : ℕ) (text : List ℕ) : Type 0 where
  pub start : BundleValue
  pub log : List ℕ
  pub fault : JournalFault
  pub of_line : IsOfLine fault
  pub follow : CantFollow terms fault line text start log
  pub other : HasOther start.start.schema at log

-- a journal is refused; if it is for one of its lines, no line of the log maps another table
pub record HasJournalFault (terms : Terms) (fault : JournalFault) (line : ℕ) (text : List ℕ) : Type 0 where
  pub start : BundleValue
  pub log : List ℕ
  pub follow : CantFollow terms fault line text start log
  pub no_other : IsOfLine fault → HasNoOther start.start.schema log

-- what is assumed of a channel has the part of the opening set that wasn't executed, which has too many intervals
pub record HasFullPart (terms : Terms) (fault : SetFault) (text : List ℕ) : Type 0 where
  pub line : ℕ
  pub written : List ℕ
  pub channel : List ℕ
  pub own : List ℕ
  pub log : List ℕ
  pub executed : Gtids
  pub start : BundleValue
  pub has : HasLog terms line text log written channel own (Some executed) start
  pub full : IsFaultOf fault (set.difference start.opened executed)

-- ---- what was executed

-- The text describes a bundle. The server of this channel had executed more than its log describes, and it is the first of which that is so.
pub record HasMore (terms : Terms) (channel : List ℕ) (missing : Gtids) (text : List ℕ) : Type 0 where
  pub bundle : BundleValue
  pub notes : List ℕ
  pub logs : List ImportedLog
  pub describes : DescribesBundle terms text logs bundle notes
  pub lack : HasLack bundle (said logs) channel missing

-- the same, but that the set which a channel lacks isn't made
pub record IsTooLarge (terms : Terms) (fault : SetFault) (text : List ℕ) : Type 0 where
  pub bundle : BundleValue
  pub notes : List ℕ
  pub logs : List ImportedLog
  pub describes : DescribesBundle terms text logs bundle notes
  pub full : IsFullAt fault bundle (said logs)

-- ---- the fault that is reported

abbrev pub IsNoNext : Terms → JournalFault → ℕ → List ℕ → Type 0
IsNoNext terms fault line text = IsNoLine terms fault line text ⊎ (IsNoLast terms fault line text ⊎ IsNoEnd terms fault line text)

-- A set is full: one of the bundle's, that which a channel's line says was executed, one of what is assumed, or that which a channel lacks.
pub data IsFull (terms : Terms) (fault : SetFault) (text : List ℕ) : Type 0 where
  InHead : IsNoHead terms (faults.Set fault) text → IsFull terms fault text
  InLine : (n : ℕ) → IsNoNext terms (faults.Set fault) n text → IsFull terms fault text
  InWord : HasFullSet terms fault text → IsFull terms fault text
  InPart : HasFullPart terms fault text → IsFull terms fault text
  InLack : IsTooLarge terms fault text → IsFull terms fault text

-- the fault names a line of the text's own; if out of memory, nothing is claimed of it
abbrev pub IsNoOwn : Terms → JournalFault → List ℕ → Type 0
IsNoOwn terms (faults.Set fault) text = IsMemoryOr (IsFull terms SourcesFull text) (IsFull terms PoolFull text) fault
IsNoOwn terms (faults.Line n cause) text = IsNoHead terms (faults.Line n cause) text ⊎ (((m : ℕ) × IsNoNext terms (faults.Line m cause) n text) ⊎ ((cause ≡ causes.Body) × HasNoSet terms n text))
IsNoOwn terms (faults.Truncated n) text = IsNoHead terms (faults.Truncated n) text ⊎ ((m : ℕ) × IsNoNext terms (faults.Truncated m) n text)

-- the fault names the line of a channel
abbrev pub IsNoneOf : Terms → JournalFault → List ℕ → Type 0
IsNoneOf terms (faults.Set fault) text = (n : ℕ) × HasJournalFault terms (faults.Set fault) n text
IsNoneOf terms (faults.Line n cause) text = (m : ℕ) × HasJournalFault terms (faults.Line m cause) n text
IsNoneOf terms (faults.Truncated n) text = ⊥

-- Why a text is no bundle of logs, by these terms. Only the fault is reported that the first wrong line, or the log of the first wrong channel, has; lines of the
-- head that aren't granted come before all others, and what was executed comes after them.
abbrev pub IsNoBundle : Terms → BundleFault → List ℕ → Type 0
IsNoBundle terms (bundles.Own fault) text = IsNoOwn terms fault text
IsNoBundle terms (bundles.Log line fault) text = IsNoLog terms fault line text
IsNoBundle terms (bundles.Table line at) text = HasTableFault terms at line text
IsNoBundle terms (bundles.Journal fault) text = IsNoneOf terms fault text
IsNoBundle terms (bundles.Unsupported what) text = HasUnsupported terms what.items text
IsNoBundle terms (bundles.Unknown line) text = IsUnknown terms line text
IsNoBundle terms (bundles.Logless line why) text = (name : List ℕ) × IsLogless terms (sources.Logless why) line name text
IsNoBundle terms (bundles.Binlog channel fault) text = (line : ℕ) × IsLogless terms (sources.File fault) line channel.items text
IsNoBundle terms (bundles.Executed channel missing) text = HasMore terms channel missing text
