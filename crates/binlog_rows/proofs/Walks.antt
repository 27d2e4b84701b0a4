-- One step of each walk over columns, and over rows.
use Rattle.std.proofs.Common.{◌≡◌, ℕ, zero, suc, ◌+◌, ◌<◌, ◌≤◌, Bool, true, false, cond, List, [], ◌∷◌, ◌++◌, length, get_or, drop, Option, Some, None, option_map, refl, sym, ap, ◌∙◌, append_assoc, arith}
use Rattle.std.proofs.lemmas.List.{drop_more, append-nil, drop_all}
use Rattle.binlog_rows.specs.declared.columns.MappedColumn.{MappedColumn}
use Rattle.binlog_rows.specs.declared.columns.MappedColumn.TheVariants.{Year}
use Rattle.binlog_rows.specs.Numbers.{and_then, is_set}
use Rattle.binlog_rows.specs.Columns.{column_at, columns_from}
use Rattle.binlog_rows.specs.Images.{ValueBytes, value_at, values_from, present_from}
use Rattle.binlog_rows.specs.Rows.{Row, row_at, rows_from}

-- what is behind a part
abbrev rest_of : {A : Type 0} → Option (A × List ℕ) → Option (List ℕ)
rest_of o = option_map (λ p. p.1) o

-- ---- values

rest_then : {A B : Type 0} (o : Option (A × List ℕ)) (f : A → B) → rest_of (and_then o (λ q. Some (f q.0, q.1))) ≡ rest_of o
rest_then None f = refl
rest_then (Some q) f = refl

value_then : (nulls : List ℕ) (i : ℕ) (columns : List MappedColumn) (o : Option (ValueBytes × List ℕ))
    → rest_of (and_then o (λ p. and_then (values_from nulls (i + 1) columns p.1) (λ q. Some (p.0 ∷ q.0, q.1))))
    ≡ and_then (rest_of o) (λ rest. rest_of (values_from nulls (i + 1) columns rest))
value_then nulls i columns None = refl
value_then nulls i columns (Some p) = rest_then (values_from nulls (i + 1) columns p.1) (λ (vs : List ValueBytes). p.0 ∷ vs)

values_step : (nulls : List ℕ) (i : ℕ) (all : List MappedColumn) (d : MappedColumn) (bytes : List ℕ) → i < length all
    → rest_of (values_from nulls i (drop i all) bytes)
    ≡ and_then (rest_of (value_at nulls i (get_or all i d) bytes)) (λ rest. rest_of (values_from nulls (i + 1) (drop (i + 1) all) rest))
unfolding values_from
values_step nulls i all d bytes lt =
    ap (λ columns. rest_of (values_from nulls i columns bytes)) (drop_more all i d lt)
    ∙ value_then nulls i (drop (i + 1) all) (value_at nulls i (get_or all i d) bytes)

pub values_end : (nulls : List ℕ) (i : ℕ) (all : List MappedColumn) (d : MappedColumn) (bytes : List ℕ) → i < length all
    → None ≡ rest_of (value_at nulls i (get_or all i d) bytes) → None ≡ rest_of (values_from nulls i (drop i all) bytes)
values_end nulls i all d bytes lt e =
    ap (λ (o : Option (List ℕ)). and_then o (λ rest. rest_of (values_from nulls (i + 1) (drop (i + 1) all) rest))) e
    ∙ sym (values_step nulls i all d bytes lt)

pub values_on : (nulls : List ℕ) (i : ℕ) (all : List MappedColumn) (d : MappedColumn) (bytes rest : List ℕ) → i < length all
    → Some rest ≡ rest_of (value_at nulls i (get_or all i d) bytes)
    → rest_of (values_from nulls (i + 1) (drop (i + 1) all) rest) ≡ rest_of (values_from nulls i (drop i all) bytes)
values_on nulls i all d bytes rest lt e =
    ap (λ (o : Option (List ℕ)). and_then o (λ r. rest_of (values_from nulls (i + 1) (drop (i + 1) all) r))) e
    ∙ sym (values_step nulls i all d bytes lt)

pub values_all : (nulls : List ℕ) (i : ℕ) (all : List MappedColumn) (bytes : List ℕ) → length all ≤ i
    → Some bytes ≡ rest_of (values_from nulls i (drop i all) bytes)
unfolding values_from
values_all nulls i all bytes le = ap (λ columns. rest_of (values_from nulls i columns bytes)) (sym (drop_all i all le))

-- ---- the columns of an image

pub present_on : (bits : List ℕ) (i : ℕ) (all : List MappedColumn) (d : MappedColumn) (before : List MappedColumn)
    → i < length all → is_set bits i ≡ true
    → (before ++ get_or all i d ∷ []) ++ present_from bits (i + 1) (drop (i + 1) all) ≡ before ++ present_from bits i (drop i all)
unfolding present_from
present_on bits i all d before lt e =
    let x = get_or all i d in
    let behind = present_from bits (i + 1) (drop (i + 1) all) in
    append_assoc before (x ∷ []) behind
    ∙ ap (λ (b : Bool). before ++ cond b (x ∷ behind) behind) (sym e)
    ∙ ap (λ columns. before ++ present_from bits i columns) (sym (drop_more all i d lt))

pub present_not : (bits : List ℕ) (i : ℕ) (all : List MappedColumn) → i < length all → is_set bits i ≡ false
    → present_from bits (i + 1) (drop (i + 1) all) ≡ present_from bits i (drop i all)
unfolding present_from
present_not bits i all lt e =
    let x = get_or all i Year in
    let behind = present_from bits (i + 1) (drop (i + 1) all) in
    ap (λ (b : Bool). cond b (x ∷ behind) behind) (sym e)
    ∙ ap (λ columns. present_from bits i columns) (sym (drop_more all i Year lt))

pub present_all : (bits : List ℕ) (i : ℕ) (all before : List MappedColumn) → length all ≤ i
    → before ≡ before ++ present_from bits i (drop i all)
unfolding present_from
present_all bits i all before le = sym (append-nil before) ∙ ap (λ columns. before ++ present_from bits i columns) (sym (drop_all i all le))

-- ---- the columns of a map

columns_then : (before : List MappedColumn) (column : MappedColumn) (o : Option (List MappedColumn))
    → option_map (λ columns. (before ++ column ∷ []) ++ columns) o ≡ option_map (λ columns. before ++ columns) (option_map (λ columns. column ∷ columns) o)
columns_then before column None = refl
columns_then before column (Some columns) = ap Some (append_assoc before (column ∷ []) columns)

columns_step : (kinds metadata : List ℕ) (i : ℕ) → i < length kinds
    → columns_from (drop i kinds) metadata
    ≡ and_then (column_at (get_or kinds i 0) metadata) (λ p. option_map (λ columns. p.0 ∷ columns) (columns_from (drop (i + 1) kinds) p.1))
unfolding columns_from
columns_step kinds metadata i lt = ap (λ ks. columns_from ks metadata) (drop_more kinds i 0 lt)

pub columns_end : (before : List MappedColumn) (kinds metadata : List ℕ) (i : ℕ) → i < length kinds
    → None ≡ column_at (get_or kinds i 0) metadata
    → None ≡ option_map (λ columns. before ++ columns) (columns_from (drop i kinds) metadata)
columns_end before kinds metadata i lt e =
    ap (λ (o : Option (MappedColumn × List ℕ)). option_map (λ columns. before ++ columns) (and_then o (λ p. option_map (λ columns. p.0 ∷ columns) (columns_from (drop (i + 1) kinds) p.1)))) e
    ∙ ap (λ o. option_map (λ columns. before ++ columns) o) (sym (columns_step kinds metadata i lt))

pub columns_on : (before : List MappedColumn) (kinds metadata : List ℕ) (i : ℕ) (column : MappedColumn) (rest : List ℕ) → i < length kinds
    → Some (column, rest) ≡ column_at (get_or kinds i 0) metadata
    → option_map (λ columns. (before ++ column ∷ []) ++ columns) (columns_from (drop (i + 1) kinds) rest)
    ≡ option_map (λ columns. before ++ columns) (columns_from (drop i kinds) metadata)
columns_on before kinds metadata i column rest lt e =
    columns_then before column (columns_from (drop (i + 1) kinds) rest)
    ∙ ap (λ (o : Option (MappedColumn × List ℕ)). option_map (λ columns. before ++ columns) (and_then o (λ p. option_map (λ columns. p.0 ∷ columns) (columns_from (drop (i + 1) kinds) p.1)))) e
    ∙ ap (λ o. option_map (λ columns. before ++ columns) o) (sym (columns_step kinds metadata i lt))

columns_none : (before : List MappedColumn) (rest : List ℕ) → length rest ≡ 0
    → Some before ≡ option_map (λ columns. before ++ columns) (columns_from [] rest)
unfolding columns_from
columns_none before [] e = ap Some (sym (append-nil before))
columns_none before (b ∷ bs) e = absurd (omega (arith, e))

pub columns_all : (before : List MappedColumn) (kinds rest : List ℕ) (i : ℕ) → length kinds ≤ i → length rest ≡ 0
    → Some before ≡ option_map (λ columns. before ++ columns) (columns_from (drop i kinds) rest)
columns_all before kinds rest i le e =
    columns_none before rest e ∙ ap (λ ks. option_map (λ columns. before ++ columns) (columns_from ks rest)) (sym (drop_all i kinds le))

columns_over : (before : List MappedColumn) (rest : List ℕ) → 0 < length rest
    → None ≡ option_map (λ columns. before ++ columns) (columns_from [] rest)
unfolding columns_from
columns_over before [] e = absurd (omega (arith, e))
columns_over before (b ∷ bs) e = refl

pub columns_left : (before : List MappedColumn) (kinds rest : List ℕ) (i : ℕ) → length kinds ≤ i → 0 < length rest
    → None ≡ option_map (λ columns. before ++ columns) (columns_from (drop i kinds) rest)
columns_left before kinds rest i le e =
    columns_over before rest e ∙ ap (λ ks. option_map (λ columns. before ++ columns) (columns_from ks rest)) (sym (drop_all i kinds le))

-- ---- rows

-- as many rows, and so many before them
abbrev counted : ℕ → Option (List Row) → Option ℕ
counted k o = option_map (λ rows. length rows + k) o

pub rows_all : (n : ℕ) (first second : List MappedColumn) (bytes : List ℕ) (k : ℕ) → length bytes ≡ 0
    → Some k ≡ counted k (rows_from n first second bytes)
unfolding rows_from
rows_all zero first second [] k e = ap Some (omega arith)
rows_all (suc n) first second [] k e = ap Some (omega arith)
rows_all n first second (b ∷ bs) k e = absurd (omega (arith, e))

rows_over : (first second : List MappedColumn) (bytes : List ℕ) (k : ℕ) → 0 < length bytes
    → None ≡ counted k (rows_from 0 first second bytes)
unfolding rows_from
rows_over first second [] k e = absurd (omega (arith, e))
rows_over first second (b ∷ bs) k e = refl

counted_then : (k : ℕ) (row : Row) (o : Option (List Row)) → counted (k + 1) o ≡ counted k (option_map (λ rows. row ∷ rows) o)
counted_then k row None = refl
counted_then k row (Some rows) = ap Some (omega arith)

row_then : (k n : ℕ) (first second : List MappedColumn) (o : Option (Row × List ℕ)) (r : Option (List ℕ)) → r ≡ rest_of o
    → and_then r (λ rest. counted (k + 1) (rows_from n first second rest)) ≡ counted k (and_then o (λ p. option_map (λ rows. p.0 ∷ rows) (rows_from n first second p.1)))
row_then k n first second None r e = ap (λ (o : Option (List ℕ)). and_then o (λ rest. counted (k + 1) (rows_from n first second rest))) e
row_then k n first second (Some p) r e =
    ap (λ (o : Option (List ℕ)). and_then o (λ rest. counted (k + 1) (rows_from n first second rest))) e
    ∙ counted_then k p.0 (rows_from n first second p.1)

pub rows_step : (k m n : ℕ) (first second : List MappedColumn) (bytes : List ℕ) (r : Option (List ℕ)) → suc n ≡ m
    → 0 < length bytes → r ≡ rest_of (row_at first second bytes)
    → and_then r (λ rest. counted (k + 1) (rows_from n first second rest)) ≡ counted k (rows_from m first second bytes)
unfolding rows_from
rows_step k m n first second [] r is lt e = absurd (omega (arith, lt))
rows_step k m n first second (b ∷ bs) r is lt e =
    row_then k n first second (row_at first second (b ∷ bs)) r e ∙ ap (λ (fuel : ℕ). counted k (rows_from fuel first second (b ∷ bs))) is

pub rows_last : (k m : ℕ) (first second : List MappedColumn) (bytes : List ℕ) → 0 ≡ m → 0 < length bytes
    → None ≡ counted k (rows_from m first second bytes)
rows_last k m first second bytes is lt = rows_over first second bytes k lt ∙ ap (λ (fuel : ℕ). counted k (rows_from fuel first second bytes)) is
