-- The small lists apply.
use Rattle.std.proofs.Common.{◌≡◌, ◌≢◌, ℕ, pos, Bool, true, false, cond, List, [], ◌∷◌, Option, Some, None, Ok, Err, refl, sym, ap, ◌∙◌}
use Rattle.std.specs.FinMap as map
use Rattle.std.specs.FinMap.{get-empty, get-insert, get-remove}
use Rattle.std.proofs.lemmas.List.Sorted.{IsPermutation-append_comm}
use Rattle.lemmas.proofs.Options.{none_some}
use Rattle.row_images.specs.declared.value.Value.{Value}
use Rattle.row_images.specs.declared.value.Value.TheVariants.{Int}
use Rattle.row_images.specs.Order.{row_eq}
use Rattle.row_images.specs.Total.{row_eq_self}
use Rattle.rows.specs.declared.change.Key.{Key}
use Rattle.rows.specs.declared.change.RowFault.TheVariants.{RowDiffers}
use Rattle.rows.specs.declared.change.Transaction.{Transaction}
use Rattle.rows.specs.declared.change.Change.{Change}
use Rattle.rows.specs.declared.change.Change.TheVariants.{Insert, Update}
use Rattle.rows.specs.declared.schema.Table.{Table}
use Rattle.rows.specs.Order.{key_cmp, key_eq}
use Rattle.rows.specs.Total.{key_total}
use Rattle.rows.specs.Apply.{Rows, ◌>>=◌, apply, apply_from, insert_row, insert_if_free, delete_if_same, or_else}
use Rattle.rows.proofs.Carriers.{apply_keeps_carriers, no_carriers}
use Rattle.rows.specs.Counting.{apply_each}
use Rattle.rows.specs.SharedOrders.{accounts, account, key_of, goes, one_account, by_twenty, by_thirty, SharedOrdersExist, CarriersAreNeeded, unique_accounts, opens, closes}

-- ---- two orders

abbrev schema : List Table
schema = accounts ∷ []

-- account 1 with another balance
abbrev moved : Rows → ℕ → Rows
moved rows y = map.insert (map.remove rows (key_of 1)) (key_of 1) (account 1 y)

stands : (rows : Rows) (y : ℕ) → map.get (moved rows y) (key_of 1) ≡ Some (account 1 y)
stands rows y = get-insert key_total (map.remove rows (key_of 1)) (key_of 1) (account 1 y) (key_of 1)

goes_on : (rows : Rows) (x y : ℕ) → map.get rows (key_of 1) ≡ Some (account 1 x) → apply schema (goes x y) rows ≡ Ok (moved rows y)
goes_on rows x y there =
    ap (λ o. delete_if_same o 0 (key_of 1 ∷ []) (account 1 x) rows >>= insert_row 0 (key_of 1 ∷ []) (account 1 y) >>= apply_from schema 1 []) there
    ∙ (ap (λ b. cond b (Ok (map.remove rows (key_of 1))) (Err (RowDiffers 0 0)) >>= insert_row 0 (key_of 1 ∷ []) (account 1 y) >>= apply_from schema 1 []) (row_eq_self (account 1 x))
    ∙ ap (λ o. insert_if_free (or_else None o 0) 0 (key_of 1 ∷ []) (account 1 y) (map.remove rows (key_of 1)) >>= apply_from schema 1 []) (get-remove key_total rows (key_of 1) (key_of 1)))

-- there and back, and there and back
rounds : (rows : Rows) (x y z : ℕ) → map.get rows (key_of 1) ≡ Some (account 1 x)
    → (new : Rows) × (apply_each schema (goes x y ∷ goes y x ∷ goes x z ∷ goes z x ∷ []) rows ≡ Ok new)
rounds rows x y z there =
    let a : Rows = moved rows y in
    let b : Rows = moved a x in
    let c : Rows = moved b z in (
      moved c x,
      ap (λ r. r >>= apply_each schema (goes y x ∷ goes x z ∷ goes z x ∷ [])) (goes_on rows x y there)
          ∙ (ap (λ r. r >>= apply_each schema (goes x z ∷ goes z x ∷ [])) (goes_on a y x (stands rows y))
          ∙ (ap (λ r. r >>= apply_each schema (goes z x ∷ [])) (goes_on b x z (stands a x))
          ∙ ap (λ r. r >>= apply_each schema []) (goes_on c z x (stands b z)))),
    )

opening_applies : apply schema (record { changes = Insert accounts.name (account 1 10) ∷ [] }) map.empty ≡ Ok one_account
opening_applies = ap (λ o. insert_if_free (or_else None o 0) 0 (key_of 1 ∷ []) (account 1 10) map.empty >>= apply_from schema 1 []) (get-empty key_cmp (key_of 1))

there_first : map.get one_account (key_of 1) ≡ Some (account 1 10)
there_first = get-insert key_total map.empty (key_of 1) (account 1 10) (key_of 1)

-- the first change goes to 20
abbrev goes_to_twenty : List Change → Bool
goes_to_twenty (Update table before after ∷ cs) = row_eq after (account 1 20)
goes_to_twenty cs = false

abbrev first_to_twenty : List Transaction → Bool
first_to_twenty [] = false
first_to_twenty (t ∷ ts) = goes_to_twenty t.changes

never : true ≡ false → ⊥
never e = cc

differ : by_twenty ≢ by_thirty
differ e = never (ap first_to_twenty e)

pub shared_orders_exist : SharedOrdersExist
shared_orders_exist = record {
  carriers = apply_keeps_carriers schema (record { changes = Insert accounts.name (account 1 10) ∷ [] }) map.empty one_account (no_carriers schema) opening_applies;
  shared = refl;
  moved = IsPermutation-append_comm (goes 10 20 ∷ goes 20 10 ∷ []) (goes 10 30 ∷ goes 30 10 ∷ []);
  differ = differ;
  one = rounds one_account 10 20 30 there_first;
  other = rounds one_account 10 30 20 there_first;
}

-- ---- rows that are no rows of tables

abbrev uniques : List Table
uniques = unique_accounts ∷ []

-- the unique key of a balance
abbrev key_by : ℕ → Key
key_by balance = record { table = unique_accounts.name; index = 1; values = Int (pos balance) ∷ [] }

-- account 2 has a balance of 7, and is not stored under it
abbrev lone : Rows
lone = map.insert map.empty (key_of 2) (account 2 7)

abbrev opened : Rows → Rows
opened rows = map.insert (map.insert rows (key_by 7) (account 3 7)) (key_of 3) (account 3 7)

abbrev closed : Rows → Rows
closed rows = map.remove (map.remove rows (key_by 7)) (key_of 2)

opens_at : (rows : Rows) → map.get rows (key_by 7) ≡ None → map.get rows (key_of 3) ≡ None → apply uniques (opens (account 3 7)) rows ≡ Ok (opened rows)
opens_at rows e f =
    ap (λ o. insert_if_free (or_else (or_else None o 1) (map.get rows (key_of 3)) 0) 0 (key_of 3 ∷ key_by 7 ∷ []) (account 3 7) rows >>= apply_from uniques 1 []) e
    ∙ ap (λ o. insert_if_free (or_else None o 0) 0 (key_of 3 ∷ key_by 7 ∷ []) (account 3 7) rows >>= apply_from uniques 1 []) f

closes_at : (rows : Rows) → map.get rows (key_of 2) ≡ Some (account 2 7) → apply uniques (closes (account 2 7)) rows ≡ Ok (closed rows)
closes_at rows e = ap (λ o. delete_if_same o 0 (key_of 2 ∷ key_by 7 ∷ []) (account 2 7) rows >>= apply_from uniques 1 []) e

lone_has : (k : Key) (o : Option (List Value)) → cond (key_eq k (key_of 2)) (Some (account 2 7)) None ≡ o → map.get lone k ≡ o
lone_has k o e = get-insert key_total map.empty (key_of 2) (account 2 7) k ∙ (ap (λ x. cond (key_eq k (key_of 2)) (Some (account 2 7)) x) (get-empty key_cmp k) ∙ e)

-- opened, then closed
first_order : apply_each uniques (opens (account 3 7) ∷ closes (account 2 7) ∷ []) lone ≡ Ok (closed (opened lone))
first_order =
    ap (λ r. r >>= apply_each uniques (closes (account 2 7) ∷ [])) (opens_at lone (lone_has (key_by 7) None refl) (lone_has (key_of 3) None refl))
    ∙ ap (λ r. r >>= apply_each uniques []) (closes_at (opened lone)
    (get-insert key_total (map.insert lone (key_by 7) (account 3 7)) (key_of 3) (account 3 7) (key_of 2)
    ∙ (get-insert key_total lone (key_by 7) (account 3 7) (key_of 2) ∙ lone_has (key_of 2) (Some (account 2 7)) refl)))

-- closed, then opened
closed_has_not : (k : Key) → map.get lone k ≡ None → map.get (closed lone) k ≡ None
closed_has_not k none =
    get-remove key_total (map.remove lone (key_by 7)) (key_of 2) k
    ∙ (ap (λ o. cond (key_eq k (key_of 2)) None o) (get-remove key_total lone (key_by 7) k ∙ (ap (λ o. cond (key_eq k (key_by 7)) None o) none ∙ both_none (key_eq k (key_by 7)))) ∙ both_none (key_eq k (key_of 2)))
  where
    both_none : (b : Bool) → ◌≡◌ {A = Option (List Value)} (cond b None None) None
    both_none true = refl
    both_none false = refl

second_order : apply_each uniques (closes (account 2 7) ∷ opens (account 3 7) ∷ []) lone ≡ Ok (opened (closed lone))
second_order =
    ap (λ r. r >>= apply_each uniques (opens (account 3 7) ∷ [])) (closes_at lone (lone_has (key_of 2) (Some (account 2 7)) refl))
    ∙ ap (λ r. r >>= apply_each uniques []) (opens_at (closed lone)
    (closed_has_not (key_by 7) (lone_has (key_by 7) None refl)) (closed_has_not (key_of 3) (lone_has (key_of 3) None refl)))

-- under the balance there is nothing in the one order, and account 3 in the other
lost : map.get (closed (opened lone)) (key_by 7) ≡ None
lost = get-remove key_total (map.remove (opened lone) (key_by 7)) (key_of 2) (key_by 7) ∙ get-remove key_total (opened lone) (key_by 7) (key_by 7)

kept : map.get (opened (closed lone)) (key_by 7) ≡ Some (account 3 7)
kept = get-insert key_total (map.insert (closed lone) (key_by 7) (account 3 7)) (key_of 3) (account 3 7) (key_by 7) ∙ get-insert key_total (closed lone) (key_by 7) (account 3 7) (key_by 7)

pub carriers_are_needed : CarriersAreNeeded
carriers_are_needed law =
    let same = law uniques (opens (account 3 7) ∷ closes (account 2 7) ∷ []) (closes (account 2 7) ∷ opens (account 3 7) ∷ []) lone (closed (opened lone)) (opened (closed lone))
    (IsPermutation-append_comm (opens (account 3 7) ∷ []) (closes (account 2 7) ∷ [])) first_order second_order in
    none_some (account 3 7) (sym lost ∙ (ap (λ (x : Rows). map.get x (key_by 7)) same ∙ kept))
