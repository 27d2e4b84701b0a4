-- Bundles as a format, and a bundle that comes in pieces.
use Rattle.std.specs.Prelude.{◌≡◌, ◌++◌, ℕ, Bool, true, false, List, Option, Some, None, Result, Ok}
use Rattle.gtid_set.specs.declared.fault.SetFault.{SetFault}
use Rattle.rows.specs.declared.change.TableRow.{TableRow}
use Rattle.txn_journal.specs.declared.fault.JournalFault.{JournalFault}
use Rattle.txn_journal.specs.Stream.{Progress}
use Rattle.txn_journal.specs.PlacedFormats.{placed}
use Rattle.txn_journal.specs.declared.placed.Placed.{Placed}
use Rattle.txn_journal.specs.Formats.{Format, start_of, feed_bytes_by, IsFaultBy, closing_by}
use Rattle.txn_journal.specs.BundleStates.{BundleValue, BundleStanding, no_bundle, is_done, bundle_takes_places, judge_bundle, IsFullBundle, CountsFirst}
use Rattle.row_images.specs.Words.{first_word}
use Rattle.txn_journal.specs.Lines.{keyword_of}
use Rattle.txn_journal.specs.Machine.{is_within}
use Rattle.txn_journal.specs.declared.lines.Keyword.{Keyword}
use Rattle.txn_journal.specs.declared.lines.Keyword.TheVariants as keywords
use Rattle.txn_journal.specs.declared.lines.Version.{Version}
use Rattle.txn_journal.specs.declared.lines.LinePlace.{LinePlace}
use Rattle.txn_journal.specs.declared.bundle_draft.Part.{Part}
use Rattle.txn_journal.specs.declared.bundle_draft.Part.TheVariants as parts
use Rattle.txn_journal.specs.BundleText.{BundleLine, bundle_line_text, newest_bundle_header, WritesPlainBundle, AlmostWritesBundle}
use Rattle.txn_journal.specs.BundleLinesSoFar.{bundle_lines_so_far}
use Rattle.txn_journal.specs.BundleCauses.{HasBundleCause}
use Rattle.txn_journal.specs.declared.lines.Due.{Due}
use Rattle.txn_journal.specs.declared.lines.Due.TheVariants.{Any}

abbrev pub is_inside : Option Keyword → Bool
is_inside (Some keywords.Txn) = true
is_inside (Some keywords.Ins) = true
is_inside (Some keywords.Upd) = true
is_inside (Some keywords.Del) = true
is_inside _ = false

-- an entry of the journal that is open
abbrev pub is_entry_open : Part → LinePlace → Bool
is_entry_open parts.Journal place = is_within place
is_entry_open _ place = false

-- bundles of a version that is due, or of any, without places
abbrev pub plain_bundles : Due → Format
plain_bundles due = record {
  Line = BundleLine;
  State = BundleStanding;
  Value = BundleValue;
  start = no_bundle due;
  judge = judge_bundle;
  is_last = λ s. is_done s.part;
  value = λ s. s.bundle;
  IsFull = IsFullBundle;
  line_text = bundle_line_text;
  Writes = WritesPlainBundle due;
  AlmostWrites = AlmostWritesBundle due;
  is_open = λ s. is_entry_open s.part s.draft.place;
  is_inside = λ line. is_inside (keyword_of (first_word line));
  HasLines = λ s ls. (rows : List TableRow) × (bundle_lines_so_far rows s ≡ ls);
  HasCause = HasBundleCause;
}

-- the same, and in version 3 with places before entries
abbrev pub bundles : Due → Format
bundles due = placed (plain_bundles due) bundle_takes_places newest_bundle_header

-- how far a text has come
abbrev pub BundleProgress : Type 0
BundleProgress = Progress (Placed BundleStanding)

-- before the first byte
abbrev pub bundle_start : Due → BundleProgress
bundle_start due = start_of (bundles due)

-- a bundle, byte by byte
abbrev pub feed_bundle_bytes : BundleProgress → List ℕ → BundleProgress
feed_bundle_bytes p bytes = feed_bytes_by (bundles Any) p bytes

-- why bytes are not taken, though nothing is wrong with them: out of memory, or the opening set or that of a channel's journal has too many
-- sources or intervals after some of them
abbrev pub IsFaultOfBundle : BundleProgress → List ℕ → SetFault → Type 0
IsFaultOfBundle p bytes fault = IsFaultBy (bundles Any) p bytes fault

-- sources are counted before memory is asked for, at the line that comes next
abbrev pub CountsFirstHere : Placed BundleStanding → Type 0
CountsFirstHere p = CountsFirst p.made

-- the end of the text
abbrev pub closing_bundle : BundleProgress → Result BundleValue JournalFault
closing_bundle p = closing_by (bundles Any) p

-- the bytes are read as this bundle, by the fold over them
abbrev pub IsReadAs : List ℕ → BundleValue → Type 0
IsReadAs bytes b = closing_bundle (feed_bundle_bytes (bundle_start Any) bytes) ≡ Ok b

-- In whatever two pieces bytes come, what is read is the same.
abbrev pub AnyCutOfBundles : Type 0
AnyCutOfBundles = (p : BundleProgress) (front back : List ℕ) → feed_bundle_bytes p (front ++ back) ≡ feed_bundle_bytes (feed_bundle_bytes p front) back
