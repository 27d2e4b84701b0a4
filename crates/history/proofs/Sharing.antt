-- What conflicts does so both ways, and what touches one key conflicts.
use Rattle.std.proofs.Common.{◌≡◌, Bool, true, inl, inr, List, [], ◌∷◌, sym, ap, ◌∙◌}
use Rattle.std.specs.List.{list_any}
use Rattle.std.proofs.lemmas.Bool.{or_cases, or_left, or_right}
use Rattle.rows.specs.declared.change.Key.{Key}
use Rattle.rows.specs.declared.change.Transaction.{Transaction}
use Rattle.rows.specs.declared.schema.Table.{Table}
use Rattle.rows.specs.Order.{key_eq}
use Rattle.rows.specs.WriteSet.{touches, shares_key, write_set, is_among}
use Rattle.rows.specs.Conflicts.{conflicts, conflicts_both_ways, sharing_is_conflict, conflict_is_sharing, some_key, key_passes}
use Rattle.rows.specs.Total.{key_eq_same, key_eq_self}

pub conflicts_back : (schema : List Table) (t u : Transaction) → conflicts schema t u ≡ true → conflicts schema u t ≡ true
conflicts_back schema t u h = conflicts_both_ways schema u t ∙ h

-- two that touch one key share it
pub shares_by : (schema : List Table) (t u : Transaction) (k : Key) → touches schema t k ≡ true → touches schema u k ≡ true → shares_key schema t u ≡ true
shares_by schema t u k a b = key_passes (touches schema u) (write_set schema t) k a b

shared_key : (schema : List Table) (t u : Transaction) → shares_key schema t u ≡ true → (k : Key) × (touches schema t k ≡ true) × (touches schema u k ≡ true)
shared_key schema t u h = some_key (touches schema u) (write_set schema t) h

-- two that touch one key conflict
pub conflict_by : (schema : List Table) (t u : Transaction) (k : Key) → touches schema t k ≡ true → touches schema u k ≡ true → conflicts schema t u ≡ true
conflict_by schema t u k a b = sharing_is_conflict schema t u (shares_by schema t u k a b)

-- The other way, which chains of keys rest on: no others conflict.
pub conflict_key : (schema : List Table) (t u : Transaction) → conflicts schema t u ≡ true → (k : Key) × (touches schema t k ≡ true) × (touches schema u k ≡ true)
conflict_key schema t u h = shared_key schema t u (sym (conflict_is_sharing schema t u) ∙ h)
