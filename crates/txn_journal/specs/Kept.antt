-- What a draft keeps.
use Rattle.std.specs.Prelude.{◌≡◌, ℕ, ◌<◌, true, false, ◌&&◌, nat_le, List, length}
use Rattle.std.specs.List.{list_all}
use Rattle.std.specs.FinSet as set
use Rattle.gtid_text.specs.declared.Gtid.{Gtid}
use Rattle.gtid_set.specs.Sets.{Gtids}
use Rattle.rows.specs.declared.change.Change.{Change}
use Rattle.rows.specs.declared.limits.Limits.{Limits}
use Rattle.rows.specs.Limits.{most_changes}
use Rattle.journal.specs.Journals.{JournalValue, whole}
use Rattle.journal.specs.Writing.{is_number, is_change_writable}
use Rattle.txn_journal.specs.declared.lines.LinePlace.{LinePlace}
use Rattle.txn_journal.specs.declared.lines.LinePlace.TheVariants.{Within}

-- each GTID of the journal was seen
abbrev pub IsSeen : JournalValue → Gtids → Type 0
IsSeen journal seen = (g : Gtid) → set.contains seen g ≡ false → set.contains (whole journal) g ≡ false

-- an entry that is open has a GTID that is new and that a transaction may have, and there is room for it
pub record HasRoomFor (seen : Gtids) (count : ℕ) (gtid : Gtid) : Type 0 where
  pub unseen : set.contains seen gtid ≡ false
  pub number : is_number gtid.number ≡ true
  pub room : count < 4294967294

abbrev pub IsOpenNew : LinePlace → Gtids → ℕ → Gtid → Type 0
IsOpenNew place seen count gtid = place ≡ Within → HasRoomFor seen count gtid

-- the changes of an entry that is open can be written, within these limits
abbrev pub AreWritable : Limits → List Change → Type 0
AreWritable limits changes = (nat_le (length changes) (most_changes limits) && list_all (is_change_writable limits) changes) ≡ true
