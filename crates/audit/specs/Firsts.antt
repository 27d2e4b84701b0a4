-- What journals bring first, as a list.
use Rattle.std.specs.Prelude.{◌≡◌, List, map, None, true}
use Rattle.std.specs.FinMap as finmap
use Rattle.std.specs.List.{list_all}
use Rattle.std.specs.FinSet as set
use Rattle.gtid_set.specs.Sets.{Gtids}
use Rattle.rows.specs.Apply.{Rows}
use Rattle.rows.specs.declared.schema.Table.{Table}
use Rattle.journal.specs.declared.Entry.{Entry}
use Rattle.journal.specs.Journals.{JournalValue}
use Rattle.world.specs.declared.verdict.Verdict.TheVariants.{Sound}
use Rattle.world.specs.Audit.{all_entries, first_contents, shared, verdict_of_keys, world_of}
use Rattle.world.specs.Folds.{shared_from}
use Rattle.audit.specs.Contents.{in_order, as_pair}
use Rattle.audit.specs.Ordered.{AreInOrder}

-- These are all that the world of journals has, in the order of GTIDs; and the journals' keys are sound, whatever the tables, unless two
-- sources touch one.
pub record AreFirsts (opened : Gtids) (journals : List JournalValue) (es : List Entry) : Type 0 where
  pub listed : es ≡ in_order (first_contents opened (all_entries journals))
  pub sound : (schema : List Table) (rows : Rows) → shared (world_of schema opened rows journals) ≡ None → verdict_of_keys (world_of schema opened rows journals) journals ≡ Sound

-- the previous sets of journals are in the opening set, and each journal brings the numbers of a source one after another
pub record BeginInOrder (opened : Gtids) (journals : List JournalValue) : Type 0 where
  pub within : list_all (λ (j : JournalValue). set.is_subset j.previous opened) journals ≡ true
  pub ordered : AreInOrder opened journals

-- these are the firsts of journals, if those begin in order
pub record AreFirstsIf (opened : Gtids) (journals : List JournalValue) (es : List Entry) : Type 0 where
  pub firsts : BeginInOrder opened journals → AreFirsts opened journals es

-- no two sources touch one key of these
abbrev pub HaveNoShared : List Table → List Entry → Type 0
HaveNoShared schema entries = shared_from schema finmap.empty (map as_pair entries) ≡ None
