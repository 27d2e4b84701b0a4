-- Transactions applied one after another.
use Rattle.std.specs.Prelude.{All, List, Option, Some, None, Result, Ok, Err}
use Rattle.gtid_text.specs.declared.Gtid.{Gtid}
use Rattle.rows.specs.declared.change.RowFault.{RowFault}
use Rattle.rows.specs.declared.schema.Table.{Table}
use Rattle.rows.specs.Apply.{Rows}
use Rattle.rows.specs.Fits.{Fits}
use Rattle.world.specs.declared.verdict.Verdict.{Verdict}
use Rattle.world.specs.declared.verdict.Verdict.TheVariants.{DoesNotApply}
use Rattle.history.specs.World.{Entry}

-- the schema takes each of them
abbrev pub AllTaken : List Table → List Entry → Type 0
AllTaken schema es = All (λ (e : Entry). Fits schema e.1) es

-- the verdict on a transaction, by the result of its application
abbrev pub refusal : Gtid → Result Rows RowFault → Option Verdict
refusal g (Ok rows) = None
refusal g (Err fault) = Some (DoesNotApply g fault)
