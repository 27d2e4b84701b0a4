-- When tests of equality tell that keys, changes and tables are equal.
use Rattle.std.proofs.Common.{◌≡◌, ℕ, Bool, true, ◌&&◌, ◌==◌, nat_eq, List, refl, ap}
use Rattle.std.specs.Bool.{Decides}
use Rattle.std.specs.Ordering.{nat_cmp, eq_by_cmp}
use Rattle.std.specs.Cmp.{unsigned_Decides}
use Rattle.std.specs.Cmp.Lexicographic.{slice_cmp, pointwise}
use Rattle.std.proofs.lemmas.Slice.Eq.{slice_eq-Decides}
use Rattle.row_images.specs.declared.value.Value.{Value}
use Rattle.rows.specs.declared.change.Change.{Change}
use Rattle.rows.specs.declared.change.Change.TheVariants.{Insert, Delete, Update}
use Rattle.rows.specs.declared.change.Key.{Key}
use Rattle.rows.specs.contracts.change.ChangePartialEq.TheImpl as it
use Rattle.rows.specs.contracts.limits.LimitsPartialEq.TheImpl as limits
use Rattle.rows.specs.declared.limits.Limits.{Limits}
use Rattle.rows.specs.declared.limits.Limits.TheVariants.{Narrow, Wide}
use Rattle.rows.specs.Fits.{table_of}
use Rattle.rows.specs.declared.schema.Table.{Table}
use Rattle.rows.specs.Prepared.{table_eq}
use Rattle.row_images.specs.Order.{row_eq}
use Rattle.row_images.proofs.Equal.{names-Decide, rows-Decide, columns-Decide}
use Rattle.std.proofs.lemmas.Bool.{and_parts, and_from}

lists-Decide : (a b : List (List ℕ)) → Decides (pointwise (pointwise nat_eq) a b) (a ≡ b)
lists-Decide a b = slice_eq-Decides columns-Decide a b (pointwise (pointwise nat_eq) a b) refl

abbrev pub key_test : Key → Key → Bool
key_test a b = eq_by_cmp (slice_cmp nat_cmp) a.table b.table && (a.index == b.index && row_eq a.values b.values)

pub keys-Decide : (a b : Key) → Decides (key_test a b) (a ≡ b)
keys-Decide a b =
    let same : key_test a b ≡ true → a ≡ b = λ e.
    let p = and_parts (eq_by_cmp (slice_cmp nat_cmp) a.table b.table) (a.index == b.index && row_eq a.values b.values) e in
    let q = and_parts (a.index == b.index) (row_eq a.values b.values) p.1 in
    let t = (names-Decide a.table b.table).0 p.0 in
    let i = (unsigned_Decides a.index b.index).0 q.0 in
    let v = (rows-Decide a.values b.values).0 q.1 in
    λ j. record { table = t j; index = i j; values = v j } in (
      same,
      λ e. and_from (eq_by_cmp (slice_cmp nat_cmp) a.table b.table) (a.index == b.index && row_eq a.values b.values)
          ((names-Decide a.table b.table).1 (ap (λ (k : Key). k.table) e))
          (and_from (a.index == b.index) (row_eq a.values b.values) ((unsigned_Decides a.index b.index).1 (ap (λ (k : Key). k.index) e)) ((rows-Decide a.values b.values).1 (ap (λ (k : Key). k.values) e))),
    )

limits-Decide : (a b : Limits) → Decides (limits.eq-value.it a b) (a ≡ b)
limits-Decide Narrow Narrow = (λ _ _. Narrow, λ _ _. true)
limits-Decide Narrow Wide = (λ e. cc, λ e. cc)
limits-Decide Wide Narrow = (λ e. cc, λ e. cc)
limits-Decide Wide Wide = (λ _ _. Wide, λ _ _. true)

pub tables-Decide : (a b : Table) → Decides (table_eq a b) (a ≡ b)
tables-Decide a b =
    let n = eq_by_cmp (slice_cmp nat_cmp) a.name b.name in
    let c = a.columns == b.columns in
    let p = pointwise nat_eq a.primary b.primary in
    let u = pointwise (pointwise nat_eq) a.uniques b.uniques in
    let h = a.hidden == b.hidden in
    let l = limits.eq-value.it a.limits b.limits in
    let same : table_eq a b ≡ true → a ≡ b = λ e.
    let x = and_parts n (c && (p && (u && (h && l)))) e in
    let y = and_parts c (p && (u && (h && l))) x.1 in
    let z = and_parts p (u && (h && l)) y.1 in
    let v = and_parts u (h && l) z.1 in
    let w = and_parts h l v.1 in
    let name = (names-Decide a.name b.name).0 x.0 in
    let columns = (unsigned_Decides a.columns b.columns).0 y.0 in
    let primary = (columns-Decide a.primary b.primary).0 z.0 in
    let uniques = (lists-Decide a.uniques b.uniques).0 v.0 in
    let hidden = (unsigned_Decides a.hidden b.hidden).0 w.0 in
    let same_limits = (limits-Decide a.limits b.limits).0 w.1 in
    λ j. record { name = name j; columns = columns j; primary = primary j; uniques = uniques j; hidden = hidden j; limits = same_limits j } in (
      same,
      λ e. and_from n (c && (p && (u && (h && l)))) ((names-Decide a.name b.name).1 (ap (λ (t : Table). t.name) e))
          (and_from c (p && (u && (h && l))) ((unsigned_Decides a.columns b.columns).1 (ap (λ (t : Table). t.columns) e))
          (and_from p (u && (h && l)) ((columns-Decide a.primary b.primary).1 (ap (λ (t : Table). t.primary) e))
          (and_from u (h && l) ((lists-Decide a.uniques b.uniques).1 (ap (λ (t : Table). t.uniques) e))
          (and_from h l ((unsigned_Decides a.hidden b.hidden).1 (ap (λ (t : Table). t.hidden) e)) ((limits-Decide a.limits b.limits).1 (ap (λ (t : Table). t.limits) e)))))),
    )

-- the images of a change, or those of another kind of change
abbrev first_image : Change → List Value
first_image (Insert table after) = after
first_image (Delete table before) = before
first_image (Update table before after) = before

abbrev last_image : Change → List Value
last_image (Insert table after) = after
last_image (Delete table before) = before
last_image (Update table before after) = after

two-Decide : {A B C : Type 0} {p q : Bool} → Decides p A → Decides q B → (A → B → C) → (C → A) → (C → B) → Decides (p && q) C
two-Decide {p = p} {q = q} a b made first second = (
  λ e. made (a.0 (and_parts p q e).0) (b.0 (and_parts p q e).1),
  λ c. and_from p q (a.1 (first c)) (b.1 (second c)),
)

pub changes-Decide : (a b : Change) → Decides (it.eq-value.it a b) (a ≡ b)
changes-Decide (Insert t a) (Insert u b) =
    two-Decide (names-Decide t u) (rows-Decide a b) (λ e f. λ i. Insert (e i) (f i)) (ap table_of) (ap first_image)
changes-Decide (Insert t a) (Delete u b) = (λ e. cc, λ e. cc)
changes-Decide (Insert t a) (Update u b c) = (λ e. cc, λ e. cc)
changes-Decide (Delete t a) (Insert u b) = (λ e. cc, λ e. cc)
changes-Decide (Delete t a) (Delete u b) =
    two-Decide (names-Decide t u) (rows-Decide a b) (λ e f. λ i. Delete (e i) (f i)) (ap table_of) (ap first_image)
changes-Decide (Delete t a) (Update u b c) = (λ e. cc, λ e. cc)
changes-Decide (Update t a d) (Insert u b) = (λ e. cc, λ e. cc)
changes-Decide (Update t a d) (Delete u b) = (λ e. cc, λ e. cc)
changes-Decide (Update t a d) (Update u b c) =
    two-Decide (names-Decide t u)
    (two-Decide {C = (a ≡ b) × (d ≡ c)} (rows-Decide a b) (rows-Decide d c) (λ e f. (e, f)) (λ e. e.0) (λ e. e.1))
    (λ e f. λ i. Update (e i) (f.0 i) (f.1 i)) (ap table_of) (λ e. (ap first_image e, ap last_image e))
