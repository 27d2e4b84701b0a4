-- One step of each walk that reads values, and rows.
use Rattle.std.proofs.Common.{◌≡◌, ℕ, zero, suc, ◌+◌, ◌<◌, ◌≤◌, Bool, false, nat_eq, map, List, [], ◌∷◌, ◌++◌, length, get_or, drop, Option, Some, None, option_map, refl, sym, ap, ◌∙◌, append_assoc, arith}
use Rattle.std.proofs.lemmas.Bool.Decides.{nat_tests}
use Rattle.std.proofs.lemmas.List.{drop_more, append-nil, drop_all}
use Rattle.binlog_rows.specs.declared.columns.MappedColumn.{MappedColumn}
use Rattle.binlog_rows.specs.Numbers.{and_then, is_set}
use Rattle.binlog_rows.specs.Images.{ValueBytes, value_at, values_from}
use Rattle.binlog_rows.specs.Values.{image_value, image_values}
use Rattle.binlog_rows.specs.Rows.{Row, row_at, rows_from, rows_in}
use Rattle.binlog_rows.specs.declared.reading.LoggedRow.{LoggedRow}
use Rattle.binlog_rows.specs.Reading.{Image, flags_of, row_values, row_view, value_behind, values_behind, with_left, rows_with_left, row_behind, rows_behind, rows_if}

-- ---- values

same_some : {A : Type 0} (x y : A) → Some x ≡ Some y → x ≡ y
same_some x y e = cc

values_joined : (old : Image) (column : MappedColumn) (more : List MappedColumn) (v : ValueBytes) (o : Option (List ValueBytes × List ℕ))
    → option_map (values_behind (old ++ image_value column v ∷ []) more) o
    ≡ option_map (values_behind old (column ∷ more)) (and_then o (λ q. Some (v ∷ q.0, q.1)))
unfolding image_values
values_joined old column more v None = refl
values_joined old column more v (Some q) = ap (λ (vs : Image). Some (vs, q.1)) (append_assoc old (image_value column v ∷ []) (image_values more q.0))

-- the value at the front, and those behind it
abbrev then_values : List ℕ → ℕ → List MappedColumn → Option (ValueBytes × List ℕ) → Option (List ValueBytes × List ℕ)
then_values nulls i more o = and_then o (λ p. and_then (values_from nulls (i + 1) more p.1) (λ q. Some (p.0 ∷ q.0, q.1)))

value_none : (nulls : List ℕ) (i : ℕ) (old new : Image) (column : MappedColumn) (more : List MappedColumn) (o : Option (ValueBytes × List ℕ))
    → with_left new None ≡ option_map (value_behind old column) o
    → None ≡ option_map (values_behind old (column ∷ more)) (then_values nulls i more o)
value_none nulls i old new column more None e = refl
value_none nulls i old new column more (Some p) e = absurd (cc)

value_some : (nulls : List ℕ) (i : ℕ) (old mid : Image) (rest : List ℕ) (column : MappedColumn) (more : List MappedColumn)
    (o : Option (ValueBytes × List ℕ))
    → with_left mid (Some rest) ≡ option_map (value_behind old column) o
    → option_map (values_behind mid more) (values_from nulls (i + 1) more rest)
    ≡ option_map (values_behind old (column ∷ more)) (then_values nulls i more o)
value_some nulls i old mid rest column more None e = absurd (cc)
value_some nulls i old mid rest column more (Some p) e =
    let pair = same_some (mid, rest) (value_behind old column p) e in
    let front : mid ≡ old ++ image_value column p.0 ∷ [] = ap (λ q. q.0) pair in
    let behind : rest ≡ p.1 = ap (λ q. q.1) pair in
    (λ k. option_map (values_behind (front k) more) (values_from nulls (i + 1) more (behind k)))
    ∙ values_joined old column more p.0 (values_from nulls (i + 1) more p.1)

pub read_none : (nulls : List ℕ) (i : ℕ) (all : List MappedColumn) (d : MappedColumn) (old new : Image) (bytes : List ℕ) → i < length all
    → with_left new None ≡ option_map (value_behind old (get_or all i d)) (value_at nulls i (get_or all i d) bytes)
    → None ≡ option_map (values_behind old (drop i all)) (values_from nulls i (drop i all) bytes)
unfolding values_from
read_none nulls i all d old new bytes lt e =
    let x = get_or all i d in
    value_none nulls i old new x (drop (i + 1) all) (value_at nulls i x bytes) e
    ∙ ap (λ columns. option_map (values_behind old columns) (values_from nulls i columns bytes)) (sym (drop_more all i d lt))

pub read_on : (nulls : List ℕ) (i : ℕ) (all : List MappedColumn) (d : MappedColumn) (old mid : Image) (bytes rest : List ℕ) → i < length all
    → with_left mid (Some rest) ≡ option_map (value_behind old (get_or all i d)) (value_at nulls i (get_or all i d) bytes)
    → option_map (values_behind mid (drop (i + 1) all)) (values_from nulls (i + 1) (drop (i + 1) all) rest)
    ≡ option_map (values_behind old (drop i all)) (values_from nulls i (drop i all) bytes)
unfolding values_from
read_on nulls i all d old mid bytes rest lt e =
    let x = get_or all i d in
    value_some nulls i old mid rest x (drop (i + 1) all) (value_at nulls i x bytes) e
    ∙ ap (λ columns. option_map (values_behind old columns) (values_from nulls i columns bytes)) (sym (drop_more all i d lt))

pub read_all : (nulls : List ℕ) (i : ℕ) (all : List MappedColumn) (old : Image) (bytes : List ℕ) → length all ≤ i
    → with_left old (Some bytes) ≡ option_map (values_behind old (drop i all)) (values_from nulls i (drop i all) bytes)
unfolding values_from image_values
read_all nulls i all old bytes le =
    ap (λ (vs : Image). Some (vs, bytes)) (sym (append-nil old))
    ∙ ap (λ columns. option_map (values_behind old columns) (values_from nulls i columns bytes)) (sym (drop_all i all le))

-- ---- rows

rows_joined : (old : List LoggedRow) (mid : List LoggedRow) (first second : List MappedColumn) (row : Row) (o : Option (List Row))
    → map row_view mid ≡ map row_view old ++ row_values first second row ∷ []
    → option_map (rows_behind mid first second) o ≡ option_map (rows_behind old first second) (option_map (λ rows. row ∷ rows) o)
rows_joined old mid first second row None e = refl
rows_joined old mid first second row (Some rows) e =
    ap (λ (front : List (Image × Image)). Some (front ++ map (row_values first second) rows)) e
    ∙ ap Some (append_assoc (map row_view old) (row_values first second row ∷ []) (map (row_values first second) rows))

-- the row at the front, and those behind it
abbrev then_rows : ℕ → List MappedColumn → List MappedColumn → Option (Row × List ℕ) → Option (List Row)
then_rows n first second o = and_then o (λ p. option_map (λ rows. p.0 ∷ rows) (rows_from n first second p.1))

row_none : (n : ℕ) (old new : List LoggedRow) (first second : List MappedColumn) (o : Option (Row × List ℕ))
    → rows_with_left new None ≡ option_map (row_behind old first second) o
    → None ≡ option_map (rows_behind old first second) (then_rows n first second o)
row_none n old new first second None e = refl
row_none n old new first second (Some p) e = absurd (cc)

row_some : (n : ℕ) (old mid : List LoggedRow) (rest : List ℕ) (first second : List MappedColumn) (o : Option (Row × List ℕ))
    → rows_with_left mid (Some rest) ≡ option_map (row_behind old first second) o
    → option_map (rows_behind mid first second) (rows_from n first second rest)
    ≡ option_map (rows_behind old first second) (then_rows n first second o)
row_some n old mid rest first second None e = absurd (cc)
row_some n old mid rest first second (Some p) e =
    let pair = same_some (map row_view mid, rest) (row_behind old first second p) e in
    let front : map row_view mid ≡ map row_view old ++ row_values first second p.0 ∷ [] = ap (λ q. q.0) pair in
    let behind : rest ≡ p.1 = ap (λ q. q.1) pair in
    ap (λ (left : List ℕ). option_map (rows_behind mid first second) (rows_from n first second left)) behind
    ∙ rows_joined old mid first second p.0 (rows_from n first second p.1) front

pub rows_none : (m n : ℕ) (old new : List LoggedRow) (first second : List MappedColumn) (bytes : List ℕ) → suc n ≡ m → 0 < length bytes
    → rows_with_left new None ≡ option_map (row_behind old first second) (row_at first second bytes)
    → None ≡ option_map (rows_behind old first second) (rows_from m first second bytes)
unfolding rows_from
rows_none m n old new first second [] is lt e = absurd (omega (arith, lt))
rows_none m n old new first second (b ∷ bs) is lt e =
    row_none n old new first second (row_at first second (b ∷ bs)) e
    ∙ ap (λ (fuel : ℕ). option_map (rows_behind old first second) (rows_from fuel first second (b ∷ bs))) is

pub rows_on : (m n : ℕ) (old mid : List LoggedRow) (first second : List MappedColumn) (bytes rest : List ℕ) → suc n ≡ m → 0 < length bytes
    → rows_with_left mid (Some rest) ≡ option_map (row_behind old first second) (row_at first second bytes)
    → option_map (rows_behind mid first second) (rows_from n first second rest)
    ≡ option_map (rows_behind old first second) (rows_from m first second bytes)
unfolding rows_from
rows_on m n old mid first second [] rest is lt e = absurd (omega (arith, lt))
rows_on m n old mid first second (b ∷ bs) rest is lt e =
    row_some n old mid rest first second (row_at first second (b ∷ bs)) e
    ∙ ap (λ (fuel : ℕ). option_map (rows_behind old first second) (rows_from fuel first second (b ∷ bs))) is

pub rows_ended : (m : ℕ) (old : List LoggedRow) (first second : List MappedColumn) (bytes : List ℕ) → length bytes ≡ 0
    → Some (map row_view old) ≡ option_map (rows_behind old first second) (rows_from m first second bytes)
unfolding rows_from
rows_ended zero old first second [] e = ap Some (sym (append-nil (map row_view old)))
rows_ended (suc n) old first second [] e = ap Some (sym (append-nil (map row_view old)))
rows_ended m old first second (b ∷ bs) e = absurd (omega (arith, e))

rows_more : (old : List LoggedRow) (first second : List MappedColumn) (bytes : List ℕ) → 0 < length bytes
    → None ≡ option_map (rows_behind old first second) (rows_from 0 first second bytes)
unfolding rows_from
rows_more old first second [] lt = absurd (omega (arith, lt))
rows_more old first second (b ∷ bs) lt = refl

rows_last : (m : ℕ) (old : List LoggedRow) (first second : List MappedColumn) (bytes : List ℕ) → 0 ≡ m
    → rows_if (nat_eq (length bytes) 0) old ≡ option_map (rows_behind old first second) (rows_from m first second bytes)
rows_last m old first second [] is = rows_ended m old first second [] refl
rows_last m old first second (b ∷ bs) is =
    let some : nat_eq (length (b ∷ bs)) 0 ≡ false = grind (arith, nat_tests) in
    ap (λ (done : Bool). rows_if done old) some
    ∙ rows_more old first second (b ∷ bs) (omega arith)
    ∙ ap (λ (fuel : ℕ). option_map (rows_behind old first second) (rows_from fuel first second (b ∷ bs))) is

pub rows_done : (m : ℕ) (old : List LoggedRow) (first second : List MappedColumn) (bytes : List ℕ) (done : Bool) → 0 ≡ m
    → done ≡ nat_eq (length bytes) 0
    → rows_if done old ≡ option_map (rows_behind old first second) (rows_from m first second bytes)
rows_done m old first second bytes done is e = ap (λ (b : Bool). rows_if b old) e ∙ rows_last m old first second bytes is

pub rows_empty : (old new : List LoggedRow) (first second : List MappedColumn) (bytes : List ℕ)
    → length first ≡ 0 → length second ≡ 0 → length bytes ≡ 0 → map row_view new ≡ map row_view old ++ ([], []) ∷ []
    → Some (map row_view new) ≡ option_map (rows_behind old first second) (rows_in first second bytes)
unfolding image_values
rows_empty old new [] [] [] p q r e = ap Some e
rows_empty old new (c ∷ cs) second bytes p q r e = absurd (omega (arith, p))
rows_empty old new [] (c ∷ cs) bytes p q r e = absurd (omega (arith, q))
rows_empty old new [] [] (b ∷ bs) p q r e = absurd (omega (arith, r))

-- ---- flags

pub flags_none : (bits : List ℕ) → [] ≡ flags_of bits 0
unfolding flags_of
flags_none bits = refl

pub flags_on : (bits : List ℕ) (i : ℕ) (flag : Bool) (old new : List Bool) → new ≡ old ++ flag ∷ [] → flag ≡ is_set bits i → old ≡ flags_of bits i
    → new ≡ flags_of bits (i + 1)
unfolding flags_of
flags_on bits i flag old new new_is flag_is old_is =
    let next : suc i ≡ i + 1 = omega arith in
    new_is ∙ (λ k. old_is k ++ flag_is k ∷ []) ∙ ap (λ n. flags_of bits n) next
