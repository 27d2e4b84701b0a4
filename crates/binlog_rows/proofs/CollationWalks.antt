-- One step of the walk over columns and their collations.
use Rattle.std.proofs.Common.{◌≡◌, ℕ, ◌+◌, ◌<◌, ◌≤◌, List, [], ◌∷◌, ◌++◌, length, get_or, drop, Option, Some, None, option_map, refl, sym, ap, ◌∙◌, append_assoc, arith}
use Rattle.std.proofs.lemmas.List.{drop_more, append-nil, drop_all}
use Rattle.std.proofs.lemmas.Bool.Decides.{nat_tests}
use Rattle.binlog_rows.specs.declared.comparisons.Comparison.{Comparison}
use Rattle.binlog_rows.specs.declared.comparisons.Comparison.TheVariants.{Bytes, Otherwise}
use Rattle.binlog_rows.specs.declared.comparisons.VariedPlace.{VariedPlace}
use Rattle.binlog_rows.specs.declared.columns.MappedColumn.{MappedColumn}
use Rattle.binlog_rows.specs.Numbers.{and_then}
use Rattle.binlog_rows.specs.Collations.{read_column, with_place, index_behind, varied_from}

-- places behind others
abbrev behind : List VariedPlace → Option (List VariedPlace) → Option (List VariedPlace)
behind before o = option_map (λ places. before ++ places) o

column_step : (default : Option ℕ) (index i : ℕ) (all : List MappedColumn) (d : MappedColumn) (before : List VariedPlace) (bytes : List ℕ) → i < length all
    → behind before (and_then (read_column default index bytes (get_or all i d)) (λ p.
    option_map (λ places. with_place p.0 i places) (varied_from default (index_behind (get_or all i d) index) (i + 1) (drop (i + 1) all) p.1)))
    ≡ behind before (varied_from default index i (drop i all) bytes)
unfolding varied_from
column_step default index i all d before bytes lt = ap (λ columns. behind before (varied_from default index i columns bytes)) (sym (drop_more all i d lt))

pub column_none : (default : Option ℕ) (index i : ℕ) (all : List MappedColumn) (d : MappedColumn) (before : List VariedPlace) (bytes : List ℕ) → i < length all
    → None ≡ read_column default index bytes (get_or all i d) → None ≡ behind before (varied_from default index i (drop i all) bytes)
column_none default index i all d before bytes lt e =
    ap (λ (o : Option (Comparison × List ℕ)). behind before (and_then o (λ p.
    option_map (λ places. with_place p.0 i places) (varied_from default (index_behind (get_or all i d) index) (i + 1) (drop (i + 1) all) p.1)))) e
    ∙ column_step default index i all d before bytes lt

placed : (b : Comparison) (i : ℕ) (before : List VariedPlace) (o : Option (List VariedPlace))
    → behind (before ++ with_place b i []) o ≡ behind before (option_map (λ places. with_place b i places) o)
placed b i before None = refl
placed (Otherwise collation) i before (Some places) = ap Some (append_assoc before (record { place = i; collation = collation } ∷ []) places)
placed Bytes i before (Some places) = ap (λ (xs : List VariedPlace). Some (xs ++ places)) (append-nil before)

some_read : (default : Option ℕ) (index i : ℕ) (all : List MappedColumn) (d : MappedColumn) (before : List VariedPlace) (bytes : List ℕ) (p : Comparison × List ℕ) → i < length all
    → Some p ≡ read_column default index bytes (get_or all i d)
    → behind before (option_map (λ places. with_place p.0 i places) (varied_from default (index_behind (get_or all i d) index) (i + 1) (drop (i + 1) all) p.1))
    ≡ behind before (varied_from default index i (drop i all) bytes)
some_read default index i all d before bytes p lt e =
    ap (λ (o : Option (Comparison × List ℕ)). behind before (and_then o (λ p.
    option_map (λ places. with_place p.0 i places) (varied_from default (index_behind (get_or all i d) index) (i + 1) (drop (i + 1) all) p.1)))) e
    ∙ column_step default index i all d before bytes lt

pub column_on : (default : Option ℕ) (index next i : ℕ) (all : List MappedColumn) (d : MappedColumn) (before items : List VariedPlace) (bytes rest : List ℕ) (b : Comparison)
    → i < length all → Some (b, rest) ≡ read_column default index bytes (get_or all i d) → items ≡ before ++ with_place b i []
    → next ≡ index_behind (get_or all i d) index
    → behind items (varied_from default next (i + 1) (drop (i + 1) all) rest) ≡ behind before (varied_from default index i (drop i all) bytes)
column_on default index next i all d before items bytes rest b lt e items_are next_is =
    (λ k. behind (items_are k) (varied_from default (next_is k) (i + 1) (drop (i + 1) all) rest))
    ∙ placed b i before (varied_from default (index_behind (get_or all i d) index) (i + 1) (drop (i + 1) all) rest)
    ∙ some_read default index i all d before bytes (b, rest) lt e

none_left : (default : Option ℕ) (index i : ℕ) (before : List VariedPlace) (bytes : List ℕ) → length bytes ≡ 0 → Some before ≡ behind before (varied_from default index i [] bytes)
unfolding varied_from
none_left default index i before [] e = ap Some (sym (append-nil before))
none_left default index i before (b ∷ bs) e = absurd (omega (arith, e))

some_left : (default : Option ℕ) (index i : ℕ) (before : List VariedPlace) (bytes : List ℕ) → 0 < length bytes → None ≡ behind before (varied_from default index i [] bytes)
unfolding varied_from
some_left default index i before [] e = absurd (omega (arith, e))
some_left default index i before (b ∷ bs) e = refl

pub columns_ended : (default : Option ℕ) (index i : ℕ) (all : List MappedColumn) (before : List VariedPlace) (bytes : List ℕ) → length all ≤ i → length bytes ≡ 0
    → Some before ≡ behind before (varied_from default index i (drop i all) bytes)
columns_ended default index i all before bytes le e =
    none_left default index i before bytes e ∙ ap (λ columns. behind before (varied_from default index i columns bytes)) (sym (drop_all i all le))

pub bytes_left : (default : Option ℕ) (index i : ℕ) (all : List MappedColumn) (before : List VariedPlace) (bytes : List ℕ) → length all ≤ i → 0 < length bytes
    → None ≡ behind before (varied_from default index i (drop i all) bytes)
bytes_left default index i all before bytes le e =
    some_left default index i before bytes e ∙ ap (λ columns. behind before (varied_from default index i columns bytes)) (sym (drop_all i all le))

pub index_within : (column : MappedColumn) (index next i : ℕ) → next ≡ index_behind column index → index ≤ i → next ≤ i + 1
index_within column index next i is le = grind (arith, nat_tests)
