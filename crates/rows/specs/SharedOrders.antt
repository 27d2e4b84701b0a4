-- Small lists of transactions: two orders that share a key, and what goes wrong with rows that are not rows of tables.
use Rattle.std.specs.Prelude.{◌≡◌, ◌≢◌, ℕ, pos, true, List, [], ◌∷◌, Ok}
use Rattle.std.specs.List.Sorted.{IsPermutation}
use Rattle.std.specs.FinMap as map
use Rattle.row_images.specs.declared.value.Value.{Value}
use Rattle.row_images.specs.declared.value.Value.TheVariants.{Int}
use Rattle.rows.specs.declared.change.Key.{Key}
use Rattle.rows.specs.declared.change.Change.TheVariants.{Insert, Delete, Update}
use Rattle.rows.specs.declared.change.Transaction.{Transaction}
use Rattle.rows.specs.declared.limits.Limits.TheVariants.{Narrow}
use Rattle.rows.specs.declared.schema.Table.{Table}
use Rattle.rows.specs.Apply.{Rows}
use Rattle.rows.specs.Carriers.{AreCarriers}
use Rattle.rows.specs.WriteSet.{shares_key}
use Rattle.rows.specs.Counting.{apply_each}

-- a table of two columns, the first of them its primary key
abbrev pub accounts : Table
accounts = record { name = 97 ∷ []; columns = 2; primary = 0 ∷ []; uniques = []; hidden = 0; limits = Narrow }

abbrev pub account : ℕ → ℕ → List Value
account id balance = Int (pos id) ∷ Int (pos balance) ∷ []

-- the primary key of an account
abbrev pub key_of : ℕ → Key
key_of id = record { table = accounts.name; index = 0; values = Int (pos id) ∷ [] }

-- account 1 goes from one balance to another
abbrev pub goes : ℕ → ℕ → Transaction
goes x y = record { changes = Update accounts.name (account 1 x) (account 1 y) ∷ [] }

-- account 1, with a balance of 10
abbrev pub one_account : Rows
one_account = map.insert map.empty (key_of 1) (account 1 10)

-- to 20 and back, then to 30 and back
abbrev pub by_twenty : List Transaction
by_twenty = goes 10 20 ∷ goes 20 10 ∷ goes 10 30 ∷ goes 30 10 ∷ []

-- to 30 and back, then to 20 and back
abbrev pub by_thirty : List Transaction
by_thirty = goes 10 30 ∷ goes 30 10 ∷ goes 10 20 ∷ goes 20 10 ∷ []

-- There are two orders of transactions that share a key, and both apply.
pub record SharedOrdersExist : Type 0 where
  pub carriers : AreCarriers (accounts ∷ []) one_account
  pub shared : shares_key (accounts ∷ []) (goes 10 20) (goes 10 30) ≡ true
  pub moved : IsPermutation by_twenty by_thirty
  pub differ : by_twenty ≢ by_thirty
  pub one : (rows : Rows) × (apply_each (accounts ∷ []) by_twenty one_account ≡ Ok rows)
  pub other : (rows : Rows) × (apply_each (accounts ∷ []) by_thirty one_account ≡ Ok rows)

-- That the rows are rows of tables is needed: without it the law is false. (A row that is not stored under its unique key can be
-- deleted after another has taken that key, which is then lost.)
abbrev pub CarriersAreNeeded : Type 0
CarriersAreNeeded = ¬ ((schema : List Table) (ts us : List Transaction) (rows a b : Rows) → IsPermutation ts us
    → apply_each schema ts rows ≡ Ok a → apply_each schema us rows ≡ Ok b → a ≡ b)

-- the same table, whose balances are unique
abbrev pub unique_accounts : Table
unique_accounts = record { name = 97 ∷ []; columns = 2; primary = 0 ∷ []; uniques = (1 ∷ []) ∷ []; hidden = 0; limits = Narrow }

abbrev pub opens : List Value → Transaction
opens row = record { changes = Insert unique_accounts.name row ∷ [] }

abbrev pub closes : List Value → Transaction
closes row = record { changes = Delete unique_accounts.name row ∷ [] }
