-- The journals of sources that share no key, merged.
use Rattle.std.specs.Prelude.{◌≡◌, List, Ok, map}
use Rattle.std.specs.FinSet as set
use Rattle.gtid_set.specs.Sets.{Gtids}
use Rattle.rows.specs.Apply.{Rows}
use Rattle.rows.specs.Database.{Database}
use Rattle.rows.specs.Parts.{AreParts}
use Rattle.journal.specs.Journals.{JournalValue}
use Rattle.convergence.specs.Deciding.{all_of}
use Rattle.history.specs.Sources.{rows_of}
use Rattle.world.specs.declared.verdict.Verdict.TheVariants.{Sound}
use Rattle.world.specs.Audit.{verdict, world_of}

-- The verdict on these journals is Sound; this is the executed set of all of them together, and these are parts of the rows that it denotes.
pub record AreMerged (opened : Gtids) (start : Database) (journals : List JournalValue) (executed : Gtids) (parts : List Database) : Type 0 where
  pub sound : verdict (world_of start.schema opened start.rows journals) journals ≡ Sound
  pub executed_by : executed ≡ all_of opened journals
  pub whole : Rows
  pub rows_are : rows_of (world_of start.schema opened start.rows journals) (set.contains (all_of opened journals)) ≡ Ok whole
  pub parts_are : AreParts start.rows (map (λ (part : Database). part.rows) parts) whole
