-- The laws of strict row apply.
use Rattle.std.specs.Prelude.{◌≡◌, ◌+◌, List, Ok}
use Rattle.std.specs.List.Sorted.{IsPermutation}
use Rattle.row_images.specs.declared.value.Value.{Value}
use Rattle.rows.specs.declared.change.Key.{Key}
use Rattle.rows.specs.declared.change.Transaction.{Transaction}
use Rattle.rows.specs.declared.schema.Table.{Table}
use Rattle.rows.specs.Apply.{Rows}
use Rattle.rows.specs.Carriers.{AreCarriers}
use Rattle.rows.specs.Counting.{apply_each, count, all_taken, all_given, changes_of}

-- What there is of an image under a key, with what was taken of it, is what there was, with what was given.
abbrev pub RowsAreCounted : Type 0
RowsAreCounted = (schema : List Table) (ts : List Transaction) (old new : Rows) → AreCarriers schema old → apply_each schema ts old ≡ Ok new
    → (key : Key) (image : List Value) → count new key image + all_taken schema key image ts ≡ count old key image + all_given schema key image ts

-- These give as much of each image under each key more than they take as those do.
abbrev pub HaveOneBalance : List Table → List Transaction → List Transaction → Type 0
HaveOneBalance schema ts us = (key : Key) (image : List Value)
    → all_given schema key image ts + all_taken schema key image us ≡ all_given schema key image us + all_taken schema key image ts

abbrev pub BalancesDecideRows : Type 0
BalancesDecideRows = (schema : List Table) (ts us : List Transaction) (rows a b : Rows) → AreCarriers schema rows → HaveOneBalance schema ts us
    → apply_each schema ts rows ≡ Ok a → apply_each schema us rows ≡ Ok b → a ≡ b

-- The same changes, in any two orders, and cut into transactions in any two ways.
abbrev pub ChangesDecideRows : Type 0
ChangesDecideRows = (schema : List Table) (ts us : List Transaction) (rows a b : Rows) → AreCarriers schema rows → IsPermutation (changes_of ts) (changes_of us)
    → apply_each schema ts rows ≡ Ok a → apply_each schema us rows ≡ Ok b → a ≡ b

-- The same transactions, in any two orders in which none is refused. Nothing is required of keys.
abbrev pub OrderIsNoMatter : Type 0
OrderIsNoMatter = (schema : List Table) (ts us : List Transaction) (rows a b : Rows) → AreCarriers schema rows → IsPermutation ts us
    → apply_each schema ts rows ≡ Ok a → apply_each schema us rows ≡ Ok b → a ≡ b
