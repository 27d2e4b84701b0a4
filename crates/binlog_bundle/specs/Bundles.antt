-- A bundle whose journals are logs: their texts, or what is read elsewhere by the names of its channels.
use Rattle.std.specs.Prelude.{◌≡◌, ◌≤◌, ℕ, Bool, true, List, [], ◌++◌, length, map, codes, Option}
use Rattle.std.specs.List.{flat_map, AllByRecursion}
use Rattle.gtid_set.specs.Sets.{Gtids}
use Rattle.txn_journal.specs.BundleStates.{BundleValue}
use Rattle.txn_journal.specs.BundleText.{WritesBundle, WritesBundleBy}
use Rattle.txn_journal.specs.declared.lines.Due.TheVariants.{Only}
use Rattle.txn_journal.specs.declared.lines.Version.TheVariants.{Three}
use Rattle.binlog_bundle.specs.Lines.{with_line_feed, is_channel, HasNoOwn}
use Rattle.binlog_bundle.specs.Notes.{name_in, notes_for}
use Rattle.binlog_bundle.specs.Assumed.{assumed_of, IsSaidBefore}
use Rattle.binlog_bundle.specs.Heads.{IsPlainHead}
use Rattle.binlog_bundle.specs.Executed.{HadExecuted, AreWithin}
use Rattle.binlog_bundle.specs.Logs.{Terms, BringsJournal}
use Rattle.binlog_bundle.specs.declared.assumed.AssumedLine.{AssumedLine}

abbrev pub done_line : List ℕ
done_line = with_line_feed (codes "done")

-- a text is nothing, or begins with the last line of a bundle
pub data BeginsLast (text : List ℕ) : Type 0 where
  Nowhere : text ≡ [] → BeginsLast text
  Last : (after : List ℕ) → text ≡ done_line ++ after → BeginsLast text

-- A channel's line, that line in the bundle, and what it says was executed; the text behind the line, the text of the journal of the channel's
-- log, the places of the tables with a key that isn't compared by bytes, and the transactions for whose statements an operator answers; and
-- what is assumed and noted of the channel.
pub record ImportedLog : Type 0 where
  pub line : List ℕ
  pub own : List ℕ
  pub executed : Option Gtids
  pub log : List ℕ
  pub journal : List ℕ
  pub varied : List ℕ
  pub statements : Gtids
  pub assumed : List AssumedLine
  pub notes : List ℕ

abbrev pub log_text : ImportedLog → List ℕ
log_text c = with_line_feed c.line ++ c.log

abbrev pub journal_text : ImportedLog → List ℕ
journal_text c = with_line_feed c.own ++ c.journal

-- this bundle is the one, of version 3, that the plain head alone begins: its tables and opening set
abbrev pub IsStart : List ℕ → BundleValue → Type 0
IsStart plain start = WritesBundleBy (Only Three) (plain ++ done_line) start

-- what is assumed of a channel that has this line in its bundle, by what its server had executed, by where its log comes from, and by the
-- transactions for whose statements an operator answers; the bundle is the one that the head begins
abbrev pub assumed_for : Terms → BundleValue → List ℕ → Option Gtids → Gtids → List AssumedLine
assumed_for terms start line executed statements = assumed_of (name_in line) start.opened executed (terms.origin.is_unchecked (name_in line)) statements

-- the channel has a log, which is the journal, whose entries change the tables of this head; and the line says what was executed
pub record IsImported (terms : Terms) (plain : List ℕ) (c : ImportedLog) : Type 0 where
  pub start : BundleValue
  pub has : IsStart plain start
  pub channel : is_channel c.line ≡ true
  pub says : HadExecuted terms.grants c.line c.own c.executed
  pub alone : HasNoOwn c.log
  pub imports : BringsJournal terms start (name_in c.own) c.log c.journal c.varied c.statements
  pub assumed_are : c.assumed ≡ assumed_for terms start c.own c.executed c.statements
  pub notes_are : c.notes ≡ notes_for start c.own c.varied

-- The two texts have the same lines of channels, but for what was executed. What is behind the line of each channel in the one is in the place
-- of the channel's journal in the other. The head of the second is the plain one.
pub record Corresponds (terms : Terms) (head plain : List ℕ) (channels : List ImportedLog) (text written : List ℕ) : Type 0 where
  pub imported : AllByRecursion (IsImported terms plain) channels
  pub text_is : text ≡ head ++ flat_map log_text channels
  pub written_is : written ≡ plain ++ flat_map journal_text channels

-- what was executed, by each channel's line
abbrev pub said : List ImportedLog → List (Option Gtids)
said channels = map (λ c. c.executed) channels

-- what is assumed of all channels
abbrev pub all_assumed : List ImportedLog → List AssumedLine
all_assumed channels = flat_map (λ c. c.assumed) channels

-- The text is a bundle's but for what is in the place of each channel's journal, and that there are lines `unsupported ..` and what
-- was executed. Both end in the same last line, and before that the bundle has the lines of what is assumed: of its channels, and of its head, if
-- lines of that were passed over. What is in the place of a journal is between two lines of the bundle's own, so there is one way to read a
-- text so.
pub record DescribesBundle (terms : Terms) (text : List ℕ) (channels : List ImportedLog) (b : BundleValue) (notes : List ℕ) : Type 0 where
  pub head : List ℕ
  pub plain : List ℕ
  pub passed_over : Bool
  pub alone : HasNoOwn head
  pub plain_head : IsPlainHead terms.grants terms.origin.columns head plain passed_over
  pub front : List ℕ
  pub written : List ℕ
  pub corresponds : Corresponds terms head plain channels front written
  pub tail : List ℕ
  pub ends : BeginsLast tail
  pub parts : text ≡ front ++ tail
  pub assumes : List ℕ
  pub says : IsSaidBefore terms.grants tail (all_assumed channels) passed_over assumes
  pub writes : WritesBundle (written ++ (assumes ++ tail)) b
  pub notes_are : notes ≡ flat_map (λ c. c.notes) channels

-- So it describes the bundle, which has a journal for each channel; and what each channel's server had executed, by the channel's line, lies in the
-- opening set, in what was executed before the channel's journal, and in its entries.
pub record ImportsBundle (terms : Terms) (text : List ℕ) (b : BundleValue) (notes : List ℕ) : Type 0 where
  pub channels : List ImportedLog
  pub describes : DescribesBundle terms text channels b notes
  pub as_many : length channels ≤ length b.journals
  pub within : AreWithin b (said channels)
