-- The row under a key is what the last transaction that touches it leaves there.
use Rattle.std.proofs.Common.{◌≡◌, Bool, true, false, cond, List, [], ◌∷◌, Option, Some, None, Ok, refl, ap, ◌∙◌}
use Rattle.std.specs.Option.{unwrap_or, is_some}
use Rattle.std.specs.List.{filter}
use Rattle.std.specs.FinMap.{get}
use Rattle.row_images.specs.declared.value.Value.{Value}
use Rattle.rows.specs.declared.change.Key.{Key}
use Rattle.rows.specs.declared.schema.Table.{Table}
use Rattle.rows.specs.Apply.{Rows, apply}
use Rattle.rows.specs.WriteSet.{touches, left_by}
use Rattle.rows.proofs.Local.{bind_ok, after_apply, left-touches}
use Rattle.history.specs.World.{OrderedWorld, Entry, entries_in, apply_all}
use Rattle.history.specs.LastWriter.{or_this, last, left_or_opening}
use Rattle.history.specs.Laws.{RowIsOfLastWriter}
use Rattle.history.proofs.Commuting.{not_touched}

-- what is stored under a key after each of these in turn
abbrev written : List Table → Key → List Entry → Option (List Value) → Option (List Value)
written schema k [] row = row
written schema k (e ∷ es) row = written schema k es (unwrap_or (left_by schema e.1 k) row)

after_all : (schema : List Table) (es : List Entry) (rows new : Rows) (k : Key) → apply_all schema es rows ≡ Ok new → get new k ≡ written schema k es (get rows k)
after_all schema [] rows new k e = cc
after_all schema (x ∷ es) rows new k e =
    let first = bind_ok (apply schema x.1 rows) (apply_all schema es) new e in
    after_all schema es first.0 new k first.2 ∙ ap (written schema k es) (after_apply schema x.1 rows first.0 first.1 k)

-- what the last of these leaves, and where there is none the row
abbrev left_or : List Table → Key → Option Entry → Option (List Value) → Option (List Value)
left_or schema k None row = row
left_or schema k (Some e) row = unwrap_or (left_by schema e.1 k) None

unwrap_some : {A : Type 0} (o : Option A) (x y : A) → is_some o ≡ true → unwrap_or o x ≡ unwrap_or o y
unwrap_some (Some z) x y e = refl
unwrap_some None x y e = cc

-- a later one wins over what an earlier one left
later_wins : (schema : List Table) (k : Key) (e : Entry) (o : Option Entry) (row : Option (List Value)) → touches schema e.1 k ≡ true → left_or schema k o (unwrap_or (left_by schema e.1 k) row) ≡ left_or schema k (Some (or_this o e)) row
later_wins schema k e None row t = unwrap_some (left_by schema e.1 k) row None (left-touches schema e.1 k ∙ t)
later_wins schema k e (Some f) row t = refl

wins_by : (schema : List Table) (k : Key) (e : Entry) (es : List Entry) (row : Option (List Value)) (b : Bool) → touches schema e.1 k ≡ b
    → ((r : Option (List Value)) → written schema k es r ≡ left_or schema k (last (filter (λ f. touches schema f.1 k) es)) r)
    → written schema k es (unwrap_or (left_by schema e.1 k) row) ≡ left_or schema k (last (cond b (e ∷ filter (λ f. touches schema f.1 k) es) (filter (λ f. touches schema f.1 k) es))) row
wins_by schema k e es row true t rest = rest (unwrap_or (left_by schema e.1 k) row) ∙ later_wins schema k e (last (filter (λ f. touches schema f.1 k) es)) row t
wins_by schema k e es row false t rest = ap (λ o. written schema k es (unwrap_or o row)) (not_touched schema e.1 k t) ∙ rest row

last_wins : (schema : List Table) (k : Key) (es : List Entry) (row : Option (List Value)) → written schema k es row ≡ left_or schema k (last (filter (λ f. touches schema f.1 k) es)) row
last_wins schema k [] row = refl
last_wins schema k (e ∷ es) row = wins_by schema k e es row (touches schema e.1 k) refl (λ r. last_wins schema k es r)

left_same : (world : OrderedWorld) (k : Key) (o : Option Entry) → left_or world.schema k o (get world.opening_rows k) ≡ left_or_opening world k o
left_same world k None = refl
left_same world k (Some e) = refl

pub last_writer_stands : RowIsOfLastWriter
last_writer_stands world S rows e k =
    after_all world.schema (entries_in world S) world.opening_rows rows k e
    ∙ last_wins world.schema k (entries_in world S) (get world.opening_rows k)
    ∙ left_same world k (last (filter (λ f. touches world.schema f.1 k) (entries_in world S)))
