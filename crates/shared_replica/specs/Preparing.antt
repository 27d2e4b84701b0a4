-- What a worker may prepare without the lock.
use Rattle.std.specs.Prelude.{◌≡◌, List}
use Rattle.rows.specs.declared.schema.Table.{Table}
use Rattle.rows.specs.declared.change.Transaction.{Transaction}
use Rattle.rows.specs.Fits.{Fits}
use Rattle.rows.specs.Patch.{SeesAll}
use Rattle.rows.specs.Prepared.{Sight}

-- a transaction that the schema of a sight takes, and whose keys were all seen
pub record MayPrepare (tables : List Table) (t : Transaction) (sight : Sight) : Type 0 where
  pub same : sight.schema ≡ tables
  pub fits : Fits sight.schema t
  pub all : SeesAll sight.schema t sight.seen
