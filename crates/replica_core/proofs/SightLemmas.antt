-- What a sight of a transaction's keys shows.
use Rattle.std.proofs.Common.{◌≡◌, List, Result, Ok, Err, sym, subst}
use Rattle.std.specs.Prelude.{IfOk}
use Rattle.rows.specs.declared.change.Key.{Key}
use Rattle.rows.specs.declared.change.Transaction.{Transaction}
use Rattle.rows.specs.declared.patch.Seen.{Seen}
use Rattle.rows.specs.declared.schema.Table.{Table}
use Rattle.rows.specs.Apply.{Rows}
use Rattle.rows.specs.Patch.{IsAsSeen, SeesAll, seen_of_keys}
use Rattle.rows.specs.Prepared.{Sight}
use Rattle.rows.specs.WriteSet.{is_among, touches}
use Rattle.rows.proofs.Patching.{seen_here}

-- it sees all that the transaction of these keys touches
pub all_seen : {E : Type 0} (schema : List Table) (keys : List Key) (txn : Transaction) (r : Result Sight E)
    → IfOk r (λ f. (t : Transaction) → ((key : Key) → is_among keys key ≡ touches schema t key) → SeesAll schema t f.seen)
    → ((key : Key) → is_among keys key ≡ touches schema txn key) → IfOk r (λ f. SeesAll schema txn f.seen)
all_seen schema keys txn (Ok f) all same = all txn same
all_seen schema keys txn (Err e) all same = tt

-- as it is carried
pub as_seen : {E : Type 0} (rows : Rows) (keys : List Key) (r : Result Sight E) → IfOk r (λ f. f.seen ≡ seen_of_keys rows keys) → IfOk r (λ f. IsAsSeen f.seen rows)
as_seen rows keys (Ok f) is = subst (λ (seen : List Seen). IsAsSeen seen rows) (sym is) (seen_here rows keys)
as_seen rows keys (Err e) is = tt
