-- The transactions of a world, and how they are stored.
use Rattle.std.specs.Prelude.{ℕ, zero, suc, not, List, [], map, ◌≡◌, refl}
use Rattle.std.specs.List.{filter}
use Rattle.std.specs.List.Sorted.{IsStrictlySortedBy}
use Rattle.std.specs.Coded.{Coded, code_by, coded×, coded_ℕ, coded_list}
use Rattle.std.specs.FinMap as finmap
use Rattle.std.specs.FinSet as set
use Rattle.gtid_text.specs.declared.Gtid.{Gtid}
use Rattle.gtid_text.specs.Gtids.{gtid_cmp}
use Rattle.gtid_set.specs.Sets.{Gtids, gtid_code, gtids_code}
use Rattle.rows.specs.declared.change.Change.{Change}
use Rattle.rows.specs.declared.change.Change.TheVariants.{Insert, Delete, Update}
use Rattle.rows.specs.declared.change.Transaction.{Transaction}
use Rattle.rows.specs.declared.schema.Table.{Table}
use Rattle.row_images.specs.declared.value.Value.{Value}
use Rattle.rows.specs.Apply.{Rows}
use Rattle.rows.specs.Coding.{key_code, row_code, rows_code}
use Rattle.rows.specs.Order.{key_cmp}
use Rattle.rows.specs.Database.{table_code}
use Rattle.rows.specs.Fits.{table_of}
use Rattle.journal.specs.declared.Entry.{Entry}
use Rattle.history.specs.Sources.{World}
use Rattle.history.specs.Sources as history

-- from each GTID to its transaction
abbrev pub Contents : Type 0
Contents = finmap.FinMap gtid_cmp Transaction

-- ---- in order

abbrev pub as_entry : history.Entry → Entry
as_entry e = record { gtid = e.0; txn = e.1 }

abbrev pub as_pair : Entry → history.Entry
as_pair e = (e.gtid, e.txn)

-- in the order of GTIDs
abbrev pub in_order : Contents → List Entry
in_order contents = map as_entry (finmap.entries contents)

-- of two with one GTID the first counts
abbrev pub contents_of : List Entry → Contents
contents_of entries = finmap.from_entries (map as_pair entries)

-- each GTID is less than those after it
abbrev pub IsAscending : List Entry → Type 0
IsAscending entries = IsStrictlySortedBy gtid_cmp (map (λ e. e.gtid) entries)

-- those that were not executed from the start
abbrev pub beyond : Gtids → List Entry → List Entry
beyond opened entries = filter (λ e. not (set.contains opened e.gtid)) entries

-- ---- how they are stored

abbrev pub change_kind : Change → ℕ
change_kind (Insert table after) = 0
change_kind (Delete table before) = 1
change_kind (Update table before after) = 2

abbrev pub first_image : Change → List Value
first_image (Insert table after) = after
first_image (Delete table before) = before
first_image (Update table before after) = before

abbrev pub second_image : Change → List Value
second_image (Insert table after) = []
second_image (Delete table before) = []
second_image (Update table before after) = after

abbrev pub change_of : ℕ → List ℕ → List Value → List Value → Change
change_of zero table a b = Insert table a
change_of (suc zero) table a b = Delete table a
change_of (suc (suc k)) table a b = Update table a b

abbrev pub change_back : (c : Change) → change_of (change_kind c) (table_of c) (first_image c) (second_image c) ≡ c
change_back (Insert table after) = refl
change_back (Delete table before) = refl
change_back (Update table before after) = refl

abbrev pub change_code : Coded Change
change_code =
    code_by (ℕ × (List ℕ × (List Value × List Value))) (coded× coded_ℕ (coded× (coded_list coded_ℕ) (coded× row_code row_code)))
    (λ c. (change_kind c, (table_of c, (first_image c, second_image c)))) (λ p. change_of p.0 p.1.0 p.1.1.0 p.1.1.1) change_back

abbrev pub txn_code : Coded Transaction
txn_code = code_by (List Change) (coded_list change_code) (λ t. t.changes) (λ cs. record { changes = cs }) (λ _. refl)

abbrev pub contents_code : Coded Contents
contents_code = finmap.code gtid_code txn_code

abbrev pub world_code : Coded World
world_code =
    code_by (List Table × (Gtids × (Rows × Contents))) (coded× (coded_list table_code) (coded× gtids_code (coded× rows_code contents_code)))
    (λ w. (w.schema, (w.opening_set, (w.opening_rows, w.contents))))
    (λ p. record { schema = p.0; opening_set = p.1.0; opening_rows = p.1.1.0; contents = p.1.1.1 }) (λ _. refl)

abbrev pub touch_code : Coded (finmap.FinMap key_cmp Gtid)
touch_code = finmap.code key_code gtid_code
