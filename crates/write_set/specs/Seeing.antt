-- What a footprint has of the keys that a transaction touches.
use Rattle.std.specs.Prelude.{◌≡◌, List}
use Rattle.rows.specs.declared.change.Key.{Key}
use Rattle.rows.specs.declared.change.Transaction.{Transaction}
use Rattle.rows.specs.declared.patch.Seen.{Seen}
use Rattle.rows.specs.declared.schema.Table.{Table}
use Rattle.rows.specs.Patch.{SeesAll}
use Rattle.rows.specs.WriteSet.{is_among, touches}

-- this is all that is needed for a transaction that touches just these keys
abbrev pub SeesAllOf : List Table → List Key → List Seen → Type 0
SeesAllOf schema keys seen = (txn : Transaction) → ((key : Key) → is_among keys key ≡ touches schema txn key) → SeesAll schema txn seen
