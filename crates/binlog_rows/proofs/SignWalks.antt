-- One step of each walk over columns that get their signs.
use Rattle.std.proofs.Common.{◌≡◌, ℕ, ◌+◌, ◌<◌, ◌≤◌, List, [], ◌∷◌, ◌++◌, length, get_or, drop, sym, ap, ◌∙◌, append_assoc, arith}
use Rattle.std.proofs.lemmas.List.{drop_more, append-nil, drop_all}
use Rattle.std.proofs.lemmas.Bool.Decides.{nat_tests}
use Rattle.binlog_rows.specs.declared.columns.MappedColumn.{MappedColumn}
use Rattle.binlog_rows.specs.declared.columns.Signedness.{Signedness}
use Rattle.binlog_rows.specs.Signs.{sign_at, with_sign, place_behind, signed_from, numbered_from}

pub place_within : (column : MappedColumn) (place next i : ℕ) → next ≡ place_behind column place → place ≤ i → next ≤ i + 1
place_within column place next i is le = grind (arith, nat_tests)

signed_on : (bits : List ℕ) (place i : ℕ) (all : List MappedColumn) (d : MappedColumn) (before : List MappedColumn) → i < length all
    → (before ++ with_sign (sign_at bits place) (get_or all i d) ∷ []) ++ signed_from bits (place_behind (get_or all i d) place) (drop (i + 1) all)
    ≡ before ++ signed_from bits place (drop i all)
unfolding signed_from
signed_on bits place i all d before lt =
    let x = get_or all i d in
    append_assoc before (with_sign (sign_at bits place) x ∷ []) (signed_from bits (place_behind x place) (drop (i + 1) all))
    ∙ ap (λ columns. before ++ signed_from bits place columns) (sym (drop_more all i d lt))

pub signed_next : (bits : List ℕ) (place next i : ℕ) (all before items : List MappedColumn) (d x : MappedColumn) (sign : Signedness) → i < length all
    → items ≡ before ++ x ∷ [] → x ≡ with_sign sign (get_or all i d) → sign ≡ sign_at bits place → next ≡ place_behind (get_or all i d) place
    → items ++ signed_from bits next (drop (i + 1) all) ≡ before ++ signed_from bits place (drop i all)
signed_next bits place next i all before items d x sign lt items_are x_is sign_is next_is =
    (λ k. items_are k ++ signed_from bits (next_is k) (drop (i + 1) all))
    ∙ ap (λ y. (before ++ y ∷ []) ++ signed_from bits (place_behind (get_or all i d) place) (drop (i + 1) all))
    (x_is ∙ ap (λ s. with_sign s (get_or all i d)) sign_is)
    ∙ signed_on bits place i all d before lt

pub signed_all : (bits : List ℕ) (place i : ℕ) (all before : List MappedColumn) → length all ≤ i
    → before ≡ before ++ signed_from bits place (drop i all)
unfolding signed_from
signed_all bits place i all before le =
    sym (append-nil before) ∙ ap (λ columns. before ++ signed_from bits place columns) (sym (drop_all i all le))

-- ---- places of numeric columns

pub numbered_on : (place i : ℕ) (all : List MappedColumn) (d : MappedColumn) → i < length all
    → numbered_from (place_behind (get_or all i d) place) (drop (i + 1) all) ≡ numbered_from place (drop i all)
unfolding numbered_from
numbered_on place i all d lt = ap (λ columns. numbered_from place columns) (sym (drop_more all i d lt))

pub numbered_all : (place i : ℕ) (all : List MappedColumn) → length all ≤ i → place ≡ numbered_from place (drop i all)
unfolding numbered_from
numbered_all place i all le = ap (λ columns. numbered_from place columns) (sym (drop_all i all le))
