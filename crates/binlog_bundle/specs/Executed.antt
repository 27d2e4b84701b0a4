-- What the server of a channel had executed when its log was taken, by the channel's line.
use Rattle.std.specs.Prelude.{◌≡◌, ◌⊎◌, ℕ, ◌<◌, not, ◌==◌, Bool, true, List, ◌∷◌, ◌++◌, codes, length, Option, Some, None, slice_get}
use Rattle.std.specs.List.{list_all}
use Rattle.std.specs.FinSet as set
use Rattle.gtid_set.specs.Full.{IsFaultOf, IsMemoryOr}
use Rattle.gtid_set.specs.Sets.{Gtids}
use Rattle.gtid_set.specs.declared.fault.SetFault.{SetFault}
use Rattle.gtid_set.specs.declared.fault.SetFault.TheVariants.{PoolFull, SourcesFull}
use Rattle.journal.specs.Journals.{JournalValue, whole}
use Rattle.journal.specs.Faults.{IsPurgedFault}
use Rattle.journal_words.specs.Gtids.{set_of_word, IsWordFault}
use Rattle.txn_journal.specs.BundleStates.{BundleValue}
use Rattle.txn_journal.specs.BundleText.{preserve_text}
use Rattle.txn_journal.specs.declared.bundle.BundleChannel.{BundleChannel}
use Rattle.txn_journal.specs.declared.fault.Cause.TheVariants as causes
use Rattle.txn_journal.specs.declared.fault.JournalFault.{JournalFault}
use Rattle.txn_journal.specs.declared.fault.JournalFault.TheVariants as faults
use Rattle.binlog_bundle.specs.declared.executed.Lack.{Lack}
use Rattle.binlog_bundle.specs.declared.grants.Grants.{Grants}

-- ---- the line

-- no blank is in it
abbrev pub IsWord : List ℕ → Type 0
IsWord word = list_all (λ b. not (b == 32)) word ≡ true

-- the line of a channel, in a bundle
abbrev pub channel_text : List ℕ → Bool → List ℕ
channel_text name preserve = codes "channel " ++ (name ++ preserve_text preserve)

-- the line is `channel <name>[ preserve] executed <word>`; what comes before ` executed ` is the line in a bundle
pub record SaysExecuted (line own word : List ℕ) : Type 0 where
  pub name : List ℕ
  pub preserve : Bool
  pub named : IsWord name
  pub own_is : own ≡ channel_text name preserve
  pub parts : line ≡ own ++ (codes " executed " ++ word)

-- the line in a bundle, and the word of what was executed; a line without that word is as it is in a bundle
abbrev pub IsCutLine : List ℕ → List ℕ → Option (List ℕ) → Type 0
IsCutLine line own (Some word) = SaysExecuted line own word
IsCutLine line own None = (own ≡ line) × ((front word : List ℕ) → SaysExecuted line front word → ⊥)

-- the name of a channel comes first in its line, and then this, from a blank on
pub record IsBehindName (line behind : List ℕ) : Type 0 where
  pub name : List ℕ
  pub named : IsWord name
  pub more : List ℕ
  pub blank : behind ≡ 32 ∷ more
  pub parts : line ≡ codes "channel " ++ (name ++ behind)

abbrev pub NoName : List ℕ → Type 0
NoName line = (behind : List ℕ) → IsBehindName line behind → ⊥

-- of what follows a channel's name, the end that says what was executed, and the word in it
abbrev pub IsExecuted : List ℕ → List ℕ → List ℕ → Type 0
IsExecuted behind part word = (preserve : Bool) × (behind ≡ preserve_text preserve ++ part) × (part ≡ codes " executed " ++ word)

abbrev pub NoExecuted : List ℕ → Type 0
NoExecuted behind = (part word : List ℕ) → IsExecuted behind part word → ⊥

-- the line says that this set was executed; or it says nothing, and that is granted
abbrev pub HadExecuted : Grants → List ℕ → List ℕ → Option Gtids → Type 0
HadExecuted grants line own (Some executed) = (word : List ℕ) × SaysExecuted line own word × (set_of_word word ≡ Some executed)
HadExecuted grants line own None = IsCutLine line own None × (grants.executed_unknown ≡ true)

-- why a word is no set that was executed
abbrev pub IsNoSet : List ℕ → JournalFault → Type 0
IsNoSet word (faults.Set fault) = IsWordFault fault (set_of_word word)
IsNoSet word (faults.Line n cause) = (cause ≡ causes.Body) × (set_of_word word ≡ None)
IsNoSet word (faults.Truncated n) = ⊥

-- ---- the bundle

-- all that was executed, whatever its source, is in the opening set, or was executed before the journal's entries, or by them
abbrev pub IsWithin : Gtids → Gtids → JournalValue → Type 0
IsWithin opened executed journal = set.is_subset executed (set.union opened (whole journal)) ≡ true

-- what is in none of these
abbrev pub lack_of : Gtids → Gtids → JournalValue → Gtids
lack_of opened executed journal = set.difference (set.difference executed opened) (whole journal)

-- it says nothing of what was executed, or there is none
abbrev pub SaysNone : List (Option Gtids) → ℕ → Type 0
SaysNone said n = (executed : Gtids) → slice_get said n ≡ Some (Some executed) → ⊥

-- If the line of the channel at this place says what was executed, that is within the opening set and the channel's journal.
abbrev pub IsWithinAt : BundleValue → List (Option Gtids) → ℕ → Type 0
IsWithinAt b said n = (executed : Gtids) (journal : JournalValue) → slice_get said n ≡ Some (Some executed) → slice_get b.journals n ≡ Some journal → IsWithin b.opened executed journal

-- this holds at each channel
abbrev pub AreWithin : BundleValue → List (Option Gtids) → Type 0
AreWithin b said = (n : ℕ) → IsWithinAt b said n

-- nothing is missing, or else this is
abbrev pub IsLack : Gtids → Gtids → JournalValue → Option Gtids → Type 0
IsLack opened executed journal None = IsWithin opened executed journal
IsLack opened executed journal (Some missing) = (IsWithin opened executed journal → ⊥) × (missing ≡ lack_of opened executed journal)

-- the channel at this place lacks this
pub record LacksAt (b : BundleValue) (said : List (Option Gtids)) (place : ℕ) (missing : Gtids) : Type 0 where
  pub executed : Gtids
  pub journal : JournalValue
  pub says : slice_get said place ≡ Some (Some executed)
  pub brings : slice_get b.journals place ≡ Some journal
  pub lack : IsLack b.opened executed journal (Some missing)

abbrev pub IsLackAt : BundleValue → List (Option Gtids) → ℕ → Option Gtids → Type 0
IsLackAt b said place None = IsWithinAt b said place
IsLackAt b said place (Some missing) = LacksAt b said place missing

-- the channel at this place has this name
pub record IsNameAt (b : BundleValue) (place : ℕ) (name : List ℕ) : Type 0 where
  pub channel : BundleChannel
  pub has : slice_get b.channels place ≡ Some channel
  pub named : name ≡ channel.name

-- the first channel that lacks anything has this name, and lacks this
pub record HasLack (b : BundleValue) (said : List (Option Gtids)) (name : List ℕ) (missing : Gtids) : Type 0 where
  pub place : ℕ
  pub before : (n : ℕ) → n < place → IsWithinAt b said n
  pub lacks : LacksAt b said place missing
  pub named : IsNameAt b place name

abbrev pub IsFirstLack : BundleValue → List (Option Gtids) → Option Lack → Type 0
IsFirstLack b said None = AreWithin b said
IsFirstLack b said (Some lack) = HasLack b said lack.channel lack.missing

-- Why the set that a channel lacks was not made: the journal's set has too many sources, or too many intervals once some of its entries are
-- added; or a set that is left has too many intervals, once the opening set is taken away, or the journal's set too.
abbrev pub IsLackFault : SetFault → Gtids → Gtids → JournalValue → Type 0
IsLackFault fault opened executed journal = IsFaultOf fault (set.difference executed opened) ⊎ (IsFaultOf fault (lack_of opened executed journal) ⊎ IsPurgedFault fault (length journal.entries) journal)

-- this is why at a channel
pub record IsFullAt (fault : SetFault) (b : BundleValue) (said : List (Option Gtids)) : Type 0 where
  pub place : ℕ
  pub executed : Gtids
  pub journal : JournalValue
  pub says : slice_get said place ≡ Some (Some executed)
  pub brings : slice_get b.journals place ≡ Some journal
  pub full : IsLackFault fault b.opened executed journal

abbrev pub HasFullLack : SetFault → BundleValue → List (Option Gtids) → Type 0
HasFullLack fault b said = IsMemoryOr (IsFullAt SourcesFull b said) (IsFullAt PoolFull b said) fault
