-- What a footprint of a transaction's keys has seen.
use Rattle.std.proofs.Common.{◌≡◌, List, Result, Ok, Err, sym, subst, ◌∙◌}
use Rattle.std.specs.Prelude.{IfOk}
use Rattle.rows.specs.declared.change.Key.{Key}
use Rattle.rows.specs.declared.change.Transaction.{Transaction}
use Rattle.rows.specs.declared.schema.Table.{Table}
use Rattle.rows.specs.Apply.{Rows}
use Rattle.rows.specs.Patch.{SeesAll, seen_of_keys}
use Rattle.rows.specs.Prepared.{Sight}
use Rattle.rows.specs.WriteSet.{is_among, touches}
use Rattle.rows.proofs.Patching.{was_seen_here}

all_seen : (schema : List Table) (rows : Rows) (keys : List Key) (txn : Transaction) → ((key : Key) → is_among keys key ≡ touches schema txn key) → SeesAll schema txn (seen_of_keys rows keys)
all_seen schema rows keys txn same k e = was_seen_here rows keys k ∙ same k ∙ e

-- a footprint of these keys sees all that a transaction with these keys touches
pub sees_them : {E : Type 0} (schema : List Table) (rows : Rows) (keys : List Key) (r : Result Sight E)
    → IfOk r (λ f. f.seen ≡ seen_of_keys rows keys)
    → IfOk r (λ f. (txn : Transaction) → ((key : Key) → is_among keys key ≡ touches schema txn key) → SeesAll schema txn f.seen)
sees_them schema rows keys (Ok f) seen = λ txn same. subst (SeesAll schema txn) (sym seen) (all_seen schema rows keys txn same)
sees_them schema rows keys (Err e) seen = tt
