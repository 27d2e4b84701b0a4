-- The rows of a set don't depend on the order in which its transactions were committed.
use Rattle.std.proofs.Common.{◌≡◌, Bool, Some, Result, Ok, Err, refl, sym, ap, ◌∙◌}
use Rattle.std.specs.Prelude.{IsOk}
use Rattle.rows.specs.declared.change.Transaction.{Transaction}
use Rattle.rows.specs.Apply.{Rows, apply}
use Rattle.gtid_text.specs.declared.Gtid.{Gtid}
use Rattle.history.specs.World.{OrderedWorld, content, apply_all, rows_of, AreGtidsSound, IsSound, IsClosed}
use Rattle.history.proofs.Placing.{AddsOne, chosen_applies, late, early}
use Rattle.history.proofs.Entries.{is_in, closed_in}

pub got : {A E : Type 0} (r : Result A E) → IsOk r → (x : A) × (r ≡ Ok x)
got (Ok x) h = (x, refl)
got (Err e) h = cc

pub ok_same : {A E : Type 0} (r : Result A E) (a b : A) → r ≡ Ok a → r ≡ Ok b → a ≡ b
ok_same r a b p q = cc

-- the rows of a closed set are defined
pub closed_applies : (world : OrderedWorld) (S : Gtid → Bool) → IsSound world → IsClosed world S → (rows : Rows) × (rows_of world S ≡ Ok rows)
closed_applies world S sound closed =
    let all = got (apply_all world.schema world.order world.opening_rows) sound.applies in
    chosen_applies world.schema S world.order world.opening_rows all.0 (closed_in world S closed) all.1

-- A transaction that comes late: whatever was committed before it, the rows are those of the set with it in its place.
pub late_commit : (world : OrderedWorld) (S S' : Gtid → Bool) (g : Gtid) (t : Transaction) (rows : Rows) → IsSound world → IsClosed world S → IsClosed world S' → AddsOne S S' g → content world g ≡ Some t → rows_of world S ≡ Ok rows → (rows' : Rows) × (apply world.schema t rows ≡ Ok rows') × (rows_of world S' ≡ Ok rows')
late_commit world S S' g t rows sound closed closed' one f e =
    let after = closed_applies world S' sound closed' in
    let m = late world.schema S S' (g, t) world.order world.opening_rows after.0 one sound.gtids.distinct (is_in world g t f) (closed_in world S closed) after.1 in
    let same : m.0 ≡ rows = ok_same (rows_of world S) m.0 rows m.1 e in
    (after.0, ap (apply world.schema t) (sym same) ∙ m.2, after.1)

-- Where a late transaction applies, so does the set with it in its place; nothing is asked of the whole list.
pub early_commit : (world : OrderedWorld) (S S' : Gtid → Bool) (g : Gtid) (t : Transaction) (rows rows' : Rows) → AreGtidsSound world → IsClosed world S → AddsOne S S' g → content world g ≡ Some t → rows_of world S ≡ Ok rows → apply world.schema t rows ≡ Ok rows' → rows_of world S' ≡ Ok rows'
early_commit world S S' g t rows rows' sound closed one f e a =
    early world.schema S S' (g, t) world.order world.opening_rows rows rows' one sound.distinct (is_in world g t f) (closed_in world S closed) e a
