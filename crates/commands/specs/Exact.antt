-- Bundles whose journals have equal unions.
use Rattle.std.specs.Prelude.{◌≡◌, false, Ok}
use Rattle.rows.specs.Apply.{Rows}
use Rattle.world.specs.Audit.{all_entries}
use Rattle.world.specs.declared.verdict.Verdict.TheVariants.{Sound}
use Rattle.world.specs.Exact.{AgreeInContents}
use Rattle.txn_journal.specs.BundleStates.{BundleValue}
use Rattle.txn_journal.specs.Assumptions.{lacks_rows}
use Rattle.gtid_report.specs.Assumed.{assumed}
use Rattle.serving.specs.declared.order.Order.{Order}
use Rattle.serving.specs.Verdicts.{verdict_over}
use Rattle.commands.specs.Bundles.{union_of_journals, rows_of_union, apply_answer}

-- The opening rows are known, the audit reports Sound, and these are the rows of the union: applying answers with them.
pub record ResultsIn (order : Order) (b : BundleValue) (rows : Rows) : Type 0 where
  pub known : lacks_rows b.assumptions ≡ false
  pub sound : verdict_over order b ≡ Sound
  pub rows_are : rows_of_union order b ≡ Ok rows

-- The bundles have equal tables and opening rows, equal opening sets, one content under each GTID, equal unions, and rest on the same.
pub record AreAlike (a b : BundleValue) : Type 0 where
  pub start : a.start ≡ b.start
  pub opened : a.opened ≡ b.opened
  pub contents : AgreeInContents (all_entries a.journals) (all_entries b.journals)
  pub union : union_of_journals a ≡ union_of_journals b
  pub assumptions : assumed a ≡ assumed b

-- Where applying such bundles results in rows, by whichever order each, the answers are the same.
abbrev pub AnswerAlike : BundleValue → BundleValue → Type 0
AnswerAlike a b = (o p : Order) (x y : Rows) → AreAlike a b → ResultsIn o a x → ResultsIn p b y → apply_answer o a ≡ apply_answer p b
