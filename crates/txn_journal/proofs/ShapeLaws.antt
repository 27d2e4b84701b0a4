-- A table's line: the numbers of its words, and the table that it adds.
use Rattle.std.proofs.Common.{◌≡◌, ℕ, zero, suc, ◌<◌, ◌≤◌, inl, inr, Bool, true, false, not, cond, leb, ltb, List, [], ◌∷◌, ◌++◌, length, map, Option, Some, None, Result, Ok, Err, refl, sym, subst, ap, ◌∙◌, append_assoc, arith}
use Rattle.std.specs.Prelude.{◌&&◌, ◌||◌, decimal, MatchResult}
use Rattle.std.specs.List.{list_all}
use Rattle.std.proofs.lemmas.Bool.{leb-true, leb-false, le-leb, lt-leb, ltb-true, lt-ltb, le-ltb, and_parts, not-false, or_parts}
use Rattle.std.proofs.lemmas.Bool.Decides.{nat_tests}
use Rattle.std.proofs.lemmas.Option.{same_Some}
use Rattle.std.proofs.lemmas.List.{append-nil, length-map}
use Rattle.lemmas.proofs.Options.{cond_none}
use Rattle.txn_journal.specs.Versions.{is_named}
use Rattle.rows.specs.declared.limits.Limits.{Limits}
use Rattle.rows.specs.declared.limits.Limits.TheVariants.{Narrow, Wide}
use Rattle.rows.specs.declared.schema.Table.{Table}
use Rattle.rows.specs.declared.schema.TableFault.{TableFault}
use Rattle.rows.specs.declared.schema.TableFault.TheVariants as table_faults
use Rattle.rows.specs.Tables.{are_distinct, is_column_list, has_column_lists, is_within_limits, are_below, has_its_columns, is_taken, table_fault}
use Rattle.rows.specs.Limits.{most_tables, most_columns, most_uniques}
use Rattle.row_images.specs.Words.{is_count, count_of}
use Rattle.row_images.proofs.Counts.{is_count_decimal, count_again, count_found}
use Rattle.row_images.specs.Parts.{parts_of, joined_by}
use Rattle.txn_journal.specs.Splits.{are_new_to, are_columns, is_columns_text, column_words, columns_text}
use Rattle.txn_journal.specs.Shapes.{Shape, hides, may_hide, FitsShape, few_columns, width_of, some_hidden, hidden_of, MayHide, hidden_text, column_below, numbers_from, columns_in, keys_from, table_of, FitsTable, shape_for, after_fault, with_table}
use Rattle.txn_journal.specs.declared.fault.Cause.{Cause}
use Rattle.txn_journal.specs.declared.fault.Cause.TheVariants as causes
use Rattle.txn_journal.specs.BundleCauses.{HasHidden, PassesTableLimit, HasNoPlace}
use Rattle.txn_journal.proofs.Judged.{then_both, if_both, found_weaker, IsSchema, ok_is}
use Rattle.row_images.proofs.PartLaws.{parts_joined, parts_cut}
use Rattle.txn_journal.proofs.SplitLaws.{are_small, new_distinct, columns_parts, columns_written}

abbrev ok_list : List (List ℕ) → Result (List (List ℕ)) Cause
ok_list x = Ok x

-- ---- numbers

record NumbersFound (limit : ℕ) (before : List ℕ) (words : List (List ℕ)) (cs : List ℕ) : Type 0 where
  read : List ℕ
  whole : before ++ read ≡ cs
  spelt : words ≡ column_words read
  below : are_below limit read ≡ true

below_both : (limit : ℕ) (o : Option ℕ) → MatchResult (column_below limit o) (λ n. (o ≡ Some n) × (ltb n limit ≡ true)) IsSchema
below_both limit None = tt
below_both limit (Some m) = if_both _ _ (ltb m limit) _ _ (λ lt. (refl, lt)) (λ no. tt)

numbers_both : (limit : ℕ) (before : List ℕ) (words : List (List ℕ)) → MatchResult (numbers_from limit before words) (NumbersFound limit before words) IsSchema
unfolding numbers_from
numbers_both limit before [] = record { read = []; whole = append-nil before; spelt = refl; below = refl }
numbers_both limit before (w ∷ ws) = then_both _ _ (column_below limit (count_of w)) _ (below_both limit (count_of w)) (λ n b.
    found_weaker (numbers_from limit (before ++ n ∷ []) ws) _ _ _ (λ cs more. record {
      read = n ∷ more.read;
      whole = sym (append_assoc before (n ∷ []) more.read) ∙ more.whole;
      spelt = (λ i. (count_found w n b.0).0 i ∷ more.spelt i);
      below = rw b.1 more.below;
    }) (numbers_both limit (before ++ n ∷ []) ws))

pub record ColumnsFound (limit : ℕ) (text : List ℕ) (cs : List ℕ) : Type 0 where
  pub spelt : text ≡ columns_text cs
  pub below : are_below limit cs ≡ true
  pub list : is_column_list cs ≡ true

some_words : (cs : List ℕ) (w : List ℕ) (ws : List (List ℕ)) → w ∷ ws ≡ column_words cs → 0 < length cs
some_words [] w ws e = absurd (let k = ap (λ (x : List (List ℕ)). length x) e in omega arith)
some_words (c ∷ cs) w ws e = omega arith

pub columns_both : (limit : ℕ) (text : List ℕ) → is_columns_text text ≡ true → MatchResult (columns_in limit text) (ColumnsFound limit text) IsSchema
unfolding columns_in
columns_both limit text fits = found_weaker (numbers_from limit [] (parts_of 44 text)) _ _ _ (λ cs f.
    let words : parts_of 44 text ≡ column_words cs = f.spelt ∙ ap column_words f.whole in
    let some : 0 < length cs = some_words cs _ _ (sym (parts_cut 44 text) ∙ words) in
    let new = and_parts (list_all is_count (column_words cs)) (are_new_to (λ v. false) (column_words cs)) (ap are_columns (sym words) ∙ fits) in
    record {
      spelt = sym (parts_joined 44 text) ∙ ap (joined_by 44) words;
      below = ap (are_below limit) (sym f.whole) ∙ f.below;
      list = rw (le-leb 1 (length cs) (omega arith), (new_distinct (λ v. false) cs new.1).0) refl;
    }) (numbers_both limit [] (parts_of 44 text))

record KeysFound (limit : ℕ) (before : List (List ℕ)) (texts : List (List ℕ)) (keys : List (List ℕ)) : Type 0 where
  read : List (List ℕ)
  whole : before ++ read ≡ keys
  spelt : texts ≡ map columns_text read
  below : list_all (are_below limit) read ≡ true
  lists : list_all is_column_list read ≡ true

keys_both : (limit : ℕ) (before texts : List (List ℕ)) → list_all is_columns_text texts ≡ true → MatchResult (keys_from limit before texts) (KeysFound limit before texts) IsSchema
unfolding keys_from
keys_both limit before [] fits = record { read = []; whole = append-nil before; spelt = refl; below = refl; lists = refl }
keys_both limit before (t ∷ ts) fits =
    let p = and_parts (is_columns_text t) (list_all is_columns_text ts) fits in
    then_both _ _ (columns_in limit t) _ (columns_both limit t p.0) (λ columns c. found_weaker (keys_from limit (before ++ columns ∷ []) ts) _ _ _ (λ keys more. record {
      read = columns ∷ more.read;
      whole = sym (append_assoc before (columns ∷ []) more.read) ∙ more.whole;
      spelt = (λ i. c.spelt i ∷ more.spelt i);
      below = rw c.below more.below;
      lists = rw c.list more.lists;
    }) (keys_both limit (before ++ columns ∷ []) ts p.1))

-- how many columns are hidden, as it is written
record HiddenFound (limits : Limits) (s : Shape) (n m : ℕ) : Type 0 where
  spelt : s.hidden ≡ hidden_text m
  may : MayHide limits m
  below : ltb m n ≡ true

-- the table of a shape has this text
record TableFound (limits : Limits) (s : Shape) (n m : ℕ) (t : Table) : Type 0 where
  shape : s ≡ shape_for t
  lists : has_column_lists t ≡ true
  below : has_its_columns t ≡ true
  width : t.columns ≡ n
  name : t.name ≡ s.name
  hidden : t.hidden ≡ m
  narrow : t.limits ≡ limits
  uniques : length t.uniques ≡ length s.uniques

table_both : (limits : Limits) (s : Shape) (n m : ℕ) → FitsShape limits s → count_of s.columns ≡ Some n → HiddenFound limits s n m → MatchResult (table_of limits s n m) (TableFound limits s n m) IsSchema
unfolding table_of
table_both limits s n m f w hides = then_both _ _ (columns_in n s.primary) _ (columns_both n s.primary f.primary) (λ primary c. then_both _ _ (keys_from n [] s.uniques) _ (keys_both n [] s.uniques f.uniques) (λ keys k.
    let uniques : s.uniques ≡ map columns_text keys = k.spelt ∙ ap (map columns_text) k.whole in
    record {
      shape = (λ i. record { name = s.name; columns = (count_found s.columns n w).0 i; primary = c.spelt i; uniques = uniques i; hidden = hides.spelt i });
      lists = rw (c.list, ap (list_all is_column_list) (sym k.whole) ∙ k.lists) refl;
      below = rw (c.below, ap (list_all (are_below n)) (sym k.whole) ∙ k.below) refl;
      width = refl;
      name = refl;
      hidden = refl;
      narrow = refl;
      uniques = sym (ap (λ (x : List (List ℕ)). length x) uniques ∙ length-map keys columns_text);
    }))

-- ---- the line of a table is read

abbrev ok_numbers : List ℕ → Result (List ℕ) Cause
ok_numbers x = Ok x

small_below : (limit : ℕ) (cs : List ℕ) → limit ≤ 4096 → are_below limit cs ≡ true → are_small cs
small_below limit [] few e = tt
small_below limit (c ∷ cs) few e = let p = and_parts (ltb c limit) (are_below limit cs) e in let lt = ltb-true c limit p.0 in (omega (arith, lt, few), small_below limit cs few p.1)

numbers_again : (limit : ℕ) (before cs : List ℕ) → are_small cs → are_below limit cs ≡ true → numbers_from limit before (column_words cs) ≡ Ok (before ++ cs)
unfolding numbers_from
numbers_again limit before [] small e = ap ok_numbers (sym (append-nil before))
numbers_again limit before (c ∷ cs) small e =
    let p = and_parts (ltb c limit) (are_below limit cs) e in
    rw (count_again c small.0, p.0) (numbers_again limit (before ++ c ∷ []) cs small.1 p.1) ∙ ap ok_numbers (append_assoc before (c ∷ []) cs)

list_some : (cs : List ℕ) → is_column_list cs ≡ true → (0 < length cs) × (are_distinct cs ≡ true)
list_some cs e = let p = and_parts (leb 1 (length cs)) (are_distinct cs) e in let some = leb-true 1 (length cs) p.0 in (omega (arith, some), p.1)

pub columns_again : (limit : ℕ) (cs : List ℕ) → limit ≤ 4096 → are_below limit cs ≡ true → is_column_list cs ≡ true → columns_in limit (columns_text cs) ≡ Ok cs
unfolding columns_in
columns_again limit cs few e list =
    let small = small_below limit cs few e in
    ap (numbers_from limit []) (columns_parts cs small (list_some cs list).0) ∙ numbers_again limit [] cs small e

keys_again : (limit : ℕ) (before keys : List (List ℕ)) → limit ≤ 4096 → list_all (are_below limit) keys ≡ true → list_all is_column_list keys ≡ true → keys_from limit before (map columns_text keys) ≡ Ok (before ++ keys)
unfolding keys_from
keys_again limit before [] few e lists = ap ok_list (sym (append-nil before))
keys_again limit before (k ∷ ks) few e lists =
    let p = and_parts (are_below limit k) (list_all (are_below limit) ks) e in
    let q = and_parts (is_column_list k) (list_all is_column_list ks) lists in
    rw (columns_again limit k few p.0 q.0) (keys_again limit (before ++ k ∷ []) ks few p.1 q.1) ∙ ap ok_list (append_assoc before (k ∷ []) ks)

pub columns_fit : (limit : ℕ) (cs : List ℕ) → limit ≤ 4096 → are_below limit cs ≡ true → is_column_list cs ≡ true → is_columns_text (columns_text cs) ≡ true
columns_fit limit cs few e list = let l = list_some cs list in columns_written cs (small_below limit cs few e) l.0 l.1

keys_fit : (limit : ℕ) (keys : List (List ℕ)) → limit ≤ 4096 → list_all (are_below limit) keys ≡ true → list_all is_column_list keys ≡ true → list_all is_columns_text (map columns_text keys) ≡ true
keys_fit limit [] few e lists = refl
keys_fit limit (k ∷ ks) few e lists =
    let p = and_parts (are_below limit k) (list_all (are_below limit) ks) e in
    let q = and_parts (is_column_list k) (list_all is_column_list ks) lists in
    rw (columns_fit limit k few p.0 q.0) (keys_fit limit ks few p.1 q.1)

-- what a table is that may come after others
pub record Allowed (tables : List Table) (t : Table) : Type 0 where
  pub lists : has_column_lists t ≡ true
  pub limits : is_within_limits t ≡ true
  pub room : ltb (length tables) (most_tables t.limits) ≡ true
  pub new : is_taken t.name tables ≡ false
  pub below : has_its_columns t ≡ true

pub allowed : (tables : List Table) (t : Table) → table_fault tables t ≡ None → Allowed tables t
allowed tables t e =
    let third : Option TableFault = cond (is_taken t.name tables || not (has_its_columns t)) (Some table_faults.Schema) None in
    let second : Option TableFault = cond (not (is_within_limits t && ltb (length tables) (most_tables t.limits))) (Some table_faults.Limit) third in
    let p = cond_none (not (has_column_lists t)) table_faults.Body second e in
    let q = cond_none (not (is_within_limits t && ltb (length tables) (most_tables t.limits))) table_faults.Limit third p.1 in
    let r = cond_none (is_taken t.name tables || not (has_its_columns t)) table_faults.Schema None q.1 in
    let w = and_parts (is_within_limits t) (ltb (length tables) (most_tables t.limits)) (not-false (is_within_limits t && ltb (length tables) (most_tables t.limits)) q.0) in
    let n = or_parts (is_taken t.name tables) (not (has_its_columns t)) r.0 in
    record { lists = not-false (has_column_lists t) p.0; limits = w.0; room = w.1; new = n.0; below = not-false (has_its_columns t) n.1 }

record Bounds (limits : Limits) (t : Table) : Type 0 where
  some : leb 1 t.columns ≡ true
  hidden : ltb t.hidden t.columns ≡ true
  few : leb t.columns (most_columns limits) ≡ true
  uniques : leb (length t.uniques) (most_uniques limits) ≡ true
  primary_list : is_column_list t.primary ≡ true
  unique_lists : list_all is_column_list t.uniques ≡ true
  primary_below : are_below t.columns t.primary ≡ true
  uniques_below : list_all (are_below t.columns) t.uniques ≡ true

some_shown : (m n : ℕ) → ltb m n ≡ true → leb 1 n ≡ true
some_shown m n e = grind (arith, nat_tests, e)

bounds : (limits : Limits) (tables : List Table) (t : Table) → FitsTable limits t → Allowed tables t → Bounds limits t
bounds limits tables t f a =
    let p = and_parts (ltb t.hidden t.columns && leb t.columns (most_columns t.limits)) (leb (length t.uniques) (most_uniques t.limits)) a.limits in
    let q = and_parts (ltb t.hidden t.columns) (leb t.columns (most_columns t.limits)) p.0 in
    let l = and_parts (is_column_list t.primary) (list_all is_column_list t.uniques) a.lists in
    let b = and_parts (are_below t.columns t.primary) (list_all (are_below t.columns) t.uniques) a.below in
    record {
      some = some_shown t.hidden t.columns q.0;
      hidden = q.0;
      few = subst (λ (l : Limits). leb t.columns (most_columns l) ≡ true) f.same_limits q.1;
      uniques = subst (λ (l : Limits). leb (length t.uniques) (most_uniques l) ≡ true) f.same_limits p.1;
      primary_list = l.0;
      unique_lists = l.1;
      primary_below = b.0;
      uniques_below = b.1;
    }

few_of_most : (limits : Limits) (n : ℕ) → leb n (most_columns limits) ≡ true → n ≤ 4096
few_of_most Narrow n e = let few = leb-true n 64 e in omega (arith, few)
few_of_most Wide n e = leb-true n 4096 e

pub bounds_of : (limits : Limits) (tables : List Table) (t : Table) → FitsTable limits t → Allowed tables t → t.columns ≤ 4096
bounds_of limits tables t f a = few_of_most limits t.columns (bounds limits tables t f a).few

few_uniques : (limits : Limits) (n : ℕ) → leb n (most_uniques limits) ≡ true → n ≤ 64
few_uniques Narrow n e = let few = leb-true n 8 e in omega (arith, few)
few_uniques Wide n e = leb-true n 64 e

pub uniques_of : (limits : Limits) (tables : List Table) (t : Table) → FitsTable limits t → Allowed tables t → length t.uniques ≤ 64
uniques_of limits tables t f a = few_uniques limits (length t.uniques) (bounds limits tables t f a).uniques

-- a small number, as it is written
pub number_again : (n : ℕ) → n ≤ 4096 → (is_count (decimal n) ≡ true) × (count_of (decimal n) ≡ Some n)
number_again n few = (is_count_decimal n (omega (arith, few)), count_again n (omega (arith, few)))

pub number_found : (word : List ℕ) (n : ℕ) → count_of word ≡ Some n → word ≡ decimal n
number_found word n e = (count_found word n e).0

hidden_fits : (limits : Limits) (n m : ℕ) → MayHide limits m → ltb m n ≡ true → n ≤ 4096 → may_hide limits (hidden_text m) ≡ true
hidden_fits limits n zero may lt few = refl
hidden_fits Narrow n (suc m) may lt few = absurd (omega (arith, may))
hidden_fits Wide n (suc m) may lt few = let k = ltb-true (suc m) n lt in is_count_decimal (suc m) (omega (arith, k, few))

-- how many are hidden is read again
hidden_again : (n m : ℕ) → ltb m n ≡ true → n ≤ 4096 → hidden_of n (hidden_text m) ≡ Ok m
hidden_again n zero lt few = refl
hidden_again n (suc m) lt few = let k = ltb-true (suc m) n lt in rw (count_again (suc m) (omega (arith, k, few)), le-leb 1 (suc m) (omega arith), lt) refl

pub shape_fits : (limits : Limits) (tables : List Table) (t : Table) → FitsTable limits t → Allowed tables t → FitsShape limits (shape_for t)
shape_fits limits tables t f a =
    let b = bounds limits tables t f a in
    let few = few_of_most limits t.columns b.few in
    record {
      name = f.name;
      columns = is_count_decimal t.columns (omega (arith, few));
      primary = columns_fit t.columns t.primary few b.primary_below b.primary_list;
      uniques = keys_fit t.columns t.uniques few b.uniques_below b.unique_lists;
      hidden = hidden_fits limits t.columns t.hidden f.hidden b.hidden few;
    }

few_ltb : (most n : ℕ) → leb n most ≡ true → ltb most n ≡ false
few_ltb most n e = let k = leb-true n most e in le-ltb most n k

abbrev ok_table : Table → Result Table Cause
ok_table x = Ok x

abbrev ok_number : ℕ → Result ℕ Cause
ok_number x = Ok x

as_read : (limits : Limits) (t : Table) → FitsTable limits t → ok_table (record t { limits = limits }) ≡ Ok t
as_read limits t f = λ i. ok_table (record t { limits = sym f.same_limits i })

pub table_again : (limits : Limits) (tables : List Table) (t : Table) → FitsTable limits t → Allowed tables t → (width_of limits (shape_for t) ≡ Ok t.columns) × (hidden_of t.columns (hidden_text t.hidden) ≡ Ok t.hidden) × (table_of limits (shape_for t) t.columns t.hidden ≡ Ok t)
unfolding width_of table_of
table_again limits tables t f a =
    let b = bounds limits tables t f a in
    let few = few_of_most limits t.columns b.few in (
      rw (length-map t.uniques columns_text, few_ltb (most_uniques limits) (length t.uniques) b.uniques, count_again t.columns (omega (arith, few)), b.some, b.few) refl,
      hidden_again t.columns t.hidden b.hidden few,
      rw (columns_again t.columns t.primary few b.primary_below b.primary_list, keys_again t.columns [] t.uniques few b.uniques_below b.unique_lists) (as_read limits t f),
    )

room_leb : (most n : ℕ) → ltb n most ≡ true → leb most n ≡ false
room_leb most n e = let k = ltb-true n most e in lt-leb most n k

pub with_again : (limits : Limits) (tables : List Table) (t : Table) → FitsTable limits t → table_fault tables t ≡ None → with_table limits tables (shape_for t) ≡ Ok (tables ++ t ∷ [])
unfolding with_table
with_again limits tables t f e =
    let a = allowed tables t e in
    let g = table_again limits tables t f a in
    rw (g.0, g.1, room_leb (most_tables limits) (length tables) (subst (λ (l : Limits). ltb (length tables) (most_tables l) ≡ true) f.same_limits a.room), g.2, e) refl

-- ---- the table that a line adds, or why it adds none

pub record Adds (limits : Limits) (tables : List Table) (s : Shape) (new : List Table) : Type 0 where
  pub table : Table
  pub shape : s ≡ shape_for table
  pub fits : FitsTable limits table
  pub free : table_fault tables table ≡ None
  pub after : tables ++ table ∷ [] ≡ new

-- a limit is passed, or else the tables before do not allow it
unfoldable pub TableErr : (limits : Limits) → List Table → Shape → Cause → Type 0
TableErr limits tables s causes.Limit = PassesTableLimit limits tables s
TableErr limits tables s causes.Schema = (PassesTableLimit limits tables s → ⊥) × HasNoPlace limits tables s
TableErr limits tables s _ = ⊥

record WidthFound (limits : Limits) (s : Shape) (n : ℕ) : Type 0 where
  few_uniques : ltb (most_uniques limits) (length s.uniques) ≡ false
  written : count_of s.columns ≡ Some n
  some : leb 1 n ≡ true
  few : leb n (most_columns limits) ≡ true

few_both : (limits : Limits) (tables : List Table) (s : Shape) (o : Option ℕ) → ltb (most_uniques limits) (length s.uniques) ≡ false → count_of s.columns ≡ o → MatchResult (few_columns limits o) (WidthFound limits s) (TableErr limits tables s)
unfolding TableErr
few_both limits tables s None few e = inr (inl (λ w. let k = sym e ∙ w.written in cc))
few_both limits tables s (Some m) few e = if_both _ _ (leb 1 m && leb m (most_columns limits)) _ _
    (λ within. let q = and_parts (leb 1 m) (leb m (most_columns limits)) within in record { few_uniques = few; written = e; some = q.0; few = q.1 })
    (λ out. inr (inl (λ w.
    let same = same_Some m w.width (sym e ∙ w.written) in
    let k : (leb 1 m && leb m (most_columns limits)) ≡ true = ap (λ (x : ℕ). leb 1 x && leb x (most_columns limits)) same ∙ rw (le-leb 1 w.width w.some, le-leb w.width (most_columns limits) w.few) refl in cc)))

width_both : (limits : Limits) (tables : List Table) (s : Shape) → MatchResult (width_of limits s) (WidthFound limits s) (TableErr limits tables s)
unfolding width_of TableErr
width_both limits tables s = if_both _ _ (ltb (most_uniques limits) (length s.uniques)) _ _ (λ many. inl (ltb-true (most_uniques limits) (length s.uniques) many)) (λ few. few_both limits tables s (count_of s.columns) few refl)

abbrev some_text : List ℕ → Option (List ℕ)
some_text x = Some x

-- how many are hidden, or why a table may not hide so many
some_both : (limits : Limits) (tables : List Table) (s : Shape) (n : ℕ) (count : List ℕ) (o : Option ℕ) → count_of s.columns ≡ Some n → s.hidden ≡ Some count → hides limits count ≡ true → count_of count ≡ o → MatchResult (some_hidden n o) (HiddenFound limits s n) (TableErr limits tables s)
unfolding TableErr
some_both limits tables s n count None w e h c = inr (inr (inl (record { columns = n; count = count; written = w; hides = e; wrong = λ k. let m = sym c ∙ k.written in cc })))
some_both limits tables s n count (Some m) w e h c = if_both _ _ (leb 1 m && ltb m n) _ _
    (λ within. let q = and_parts (leb 1 m) (ltb m n) within in record { spelt = e ∙ ap (λ (x : List ℕ). some_text x) (count_found count m c).0 ∙ sym (shown m q.0); may = wide limits h; below = q.1 })
    (λ out. inr (inr (inl (record {
      columns = n;
      count = count;
      written = w;
      hides = e;
      wrong = λ k.
          let same = same_Some m k.hidden (sym c ∙ k.written) in
          let l : (leb 1 m && ltb m n) ≡ true = ap (λ (x : ℕ). leb 1 x && ltb x n) same ∙ rw (le-leb 1 k.hidden k.some, lt-ltb k.hidden n k.few) refl in cc;
    }))))
  where
    shown : (m : ℕ) → leb 1 m ≡ true → hidden_text m ≡ Some (decimal m)
    shown zero e = absurd cc
    shown (suc m) e = refl

    wide : (limits : Limits) → hides limits count ≡ true → MayHide limits m
    wide Narrow e = absurd cc
    wide Wide e = tt

hidden_both_of : (limits : Limits) (tables : List Table) (s : Shape) (n : ℕ) (o : Option (List ℕ)) → count_of s.columns ≡ Some n → leb 1 n ≡ true → s.hidden ≡ o → may_hide limits o ≡ true → MatchResult (hidden_of n o) (HiddenFound limits s n) (TableErr limits tables s)
hidden_both_of limits tables s n None w some e h = record { spelt = e; may = none limits; below = (let k = leb-true 1 n some in lt-ltb 0 n k) }
  where
    none : (limits : Limits) → MayHide limits 0
    none Narrow = refl
    none Wide = tt
hidden_both_of limits tables s n (Some count) w some e h = some_both limits tables s n count (count_of count) w e h refl

hidden_both : (limits : Limits) (tables : List Table) (s : Shape) (n : ℕ) → FitsShape limits s → WidthFound limits s n → MatchResult (hidden_of n s.hidden) (HiddenFound limits s n) (TableErr limits tables s)
hidden_both limits tables s n f w = hidden_both_of limits tables s n s.hidden w.written w.some refl f.hidden

-- a table of this shape that may come is the one that is read
read_table : (limits : Limits) (tables : List Table) (s : Shape) (n m : ℕ) (t : Table) → FitsTable limits t → count_of s.columns ≡ Some n → hidden_of n s.hidden ≡ Ok m → s ≡ shape_for t → table_fault tables t ≡ None → table_of limits s n m ≡ Ok t
read_table limits tables s n m t f w hides same free =
    let a = allowed tables t free in
    let g = table_again limits tables t f a in
    let width : t.columns ≡ n = same_Some t.columns n (sym (count_again t.columns (omega (arith, bounds_of limits tables t f a))) ∙ ap (λ (x : Shape). count_of x.columns) (sym same) ∙ w) in
    let hidden : t.hidden ≡ m = same_ok t.hidden m (sym g.1 ∙ (λ i. hidden_of (width i) ((sym same i).hidden)) ∙ hides) in
    (λ i. table_of limits (same i) (sym width i) (sym hidden i)) ∙ g.2
  where
    same_ok : (a b : ℕ) → ok_number a ≡ Ok b → a ≡ b
    same_ok a b e = ok_is a b e

-- a number of hidden columns that was found may be
hides_right : (limits : Limits) (s : Shape) (n m : ℕ) → n ≤ 4096 → HiddenFound limits s n m → (count : List ℕ) → s.hidden ≡ Some count → HasHidden n count
hides_right limits s n zero few h count e = absurd (let k = sym h.spelt ∙ e in cc)
hides_right limits s n (suc m) few h count e =
    let same : decimal (suc m) ≡ count = same_Some (decimal (suc m)) count (sym h.spelt ∙ e) in
    let lt = ltb-true (suc m) n h.below in
    record { hidden = suc m; written = ap count_of (sym same) ∙ count_again (suc m) (omega (arith, lt, few)); some = omega arith; few = lt }

within_of : (limits : Limits) (tables : List Table) (s : Shape) (n m : ℕ) → WidthFound limits s n → HiddenFound limits s n m → leb (most_tables limits) (length tables) ≡ false → PassesTableLimit limits tables s → ⊥
within_of limits tables s n m w h room (inl many) = let k = lt-ltb (most_uniques limits) (length s.uniques) many in let f = w.few_uniques in cc
within_of limits tables s n m w h room (inr (inl none)) = none (record { width = n; written = w.written; some = leb-true 1 n w.some; few = leb-true n (most_columns limits) w.few })
within_of limits tables s n m w h room (inr (inr (inl hides))) =
    let same : n ≡ hides.columns = same_Some n hides.columns (sym w.written ∙ hides.written) in
    hides.wrong (subst (λ (c : ℕ). HasHidden c hides.count) same (hides_right limits s n m (few_of_most limits n w.few) h hides.count hides.hides))
within_of limits tables s n m w h room (inr (inr (inr full))) = let k = le-leb (most_tables limits) (length tables) full in cc

-- what is in the grammar and within the limits does not fit the tables before, where it fails
only_schema : (tables : List Table) (t : Table) → has_column_lists t ≡ true → is_within_limits t ≡ true → ltb (length tables) (most_tables t.limits) ≡ true → table_fault tables t ≡ cond (is_taken t.name tables || not (has_its_columns t)) (Some table_faults.Schema) None
only_schema tables t lists limits room = rw (lists, limits, room) refl

within_t : (limits : Limits) (t : Table) (n h m : ℕ) → t.hidden ≡ h → t.limits ≡ limits → t.columns ≡ n → length t.uniques ≡ m → ltb h n ≡ true → leb n (most_columns limits) ≡ true → ltb (most_uniques limits) m ≡ false → is_within_limits t ≡ true
within_t limits t n h m hidden narrow width uniques a b c = rw (hidden, narrow, width, uniques, a, b) (few_of (most_uniques limits) m c)
  where
    few_of : (most n : ℕ) → ltb most n ≡ false → leb n most ≡ true
    few_of most n e = grind arith

-- where the table was read
added_both : (limits : Limits) (tables : List Table) (s : Shape) (n m : ℕ) (t : Table) (b : Bool) → FitsShape limits s → WidthFound limits s n → HiddenFound limits s n m → hidden_of n s.hidden ≡ Ok m → leb (most_tables limits) (length tables) ≡ false → table_of limits s n m ≡ Ok t → TableFound limits s n m t → table_fault tables t ≡ cond b (Some table_faults.Schema) None
    → MatchResult (after_fault (cond b (Some table_faults.Schema) None) (tables ++ t ∷ [])) (Adds limits tables s) (TableErr limits tables s)
unfolding TableErr
added_both limits tables s n m t true f w g hides room e h fault = (
  within_of limits tables s n m w g room,
  λ u fits same free.
      let one : t ≡ u = ok_is t u (sym e ∙ read_table limits tables s n m u fits w.written hides same free) in
      let k = sym (ap (table_fault tables) one ∙ free) ∙ fault in cc,
)
added_both limits tables s n m t false f w g hides room e h fault = record { table = t; shape = h.shape; fits = record { name = ap (is_named limits) h.name ∙ f.name; hidden = subst (MayHide limits) (sym h.hidden) g.may; same_limits = h.narrow }; free = fault; after = refl }

table_read : (limits : Limits) (tables : List Table) (s : Shape) (n m : ℕ) (r : Result Table Cause) → WidthFound limits s n → HiddenFound limits s n m → hidden_of n s.hidden ≡ Ok m → leb (most_tables limits) (length tables) ≡ false → table_of limits s n m ≡ r → MatchResult r (TableFound limits s n m) IsSchema → MatchResult r (λ t. (leb (most_tables limits) (length tables) ≡ false) × (table_of limits s n m ≡ Ok t) × TableFound limits s n m t) (TableErr limits tables s)
unfolding TableErr
table_read limits tables s n m (Ok t) w g hides room e h = (room, e, h)
table_read limits tables s n m (Err causes.Schema) w g hides room e h = (within_of limits tables s n m w g room, λ t fits same free. let k = sym (read_table limits tables s n m t fits w.written hides same free) ∙ e in cc)
table_read limits tables s n m (Err c) w g hides room e h = absurd h

-- what was found, and what it was found of
and_found : (B : ℕ → Type 0) (E : Cause → Type 0) (r : Result ℕ Cause) → MatchResult r B E → MatchResult r (λ n. (r ≡ Ok n) × B n) E
and_found B E (Ok n) h = (refl, h)
and_found B E (Err c) h = h

pub with_both : (limits : Limits) (tables : List Table) (s : Shape) → FitsShape limits s → MatchResult (with_table limits tables s) (Adds limits tables s) (TableErr limits tables s)
unfolding with_table TableErr
with_both limits tables s f = then_both _ _ (width_of limits s) _ (width_both limits tables s) (λ n w.
    then_both _ _ (hidden_of n s.hidden) _ (and_found (HiddenFound limits s n) (TableErr limits tables s) (hidden_of n s.hidden) (hidden_both limits tables s n f w)) (λ m g.
    then_both _ _ (cond (leb (most_tables limits) (length tables)) (Err causes.Limit) (table_of limits s n m)) _
    (if_both (λ t. (leb (most_tables limits) (length tables) ≡ false) × (table_of limits s n m ≡ Ok t) × TableFound limits s n m t) _ (leb (most_tables limits) (length tables)) _ _ (λ full. inr (inr (inr (leb-true (most_tables limits) (length tables) full))))
    (λ room. table_read limits tables s n m (table_of limits s n m) w g.1 g.0 room refl (table_both limits s n m f w.written g.1)))
    (λ t h.
    let inside = within_t limits t n m (length s.uniques) h.2.hidden h.2.narrow h.2.width h.2.uniques g.1.below w.few w.few_uniques in
    let fault = only_schema tables t h.2.lists inside (subst (λ (l : Limits). ltb (length tables) (most_tables l) ≡ true) (sym h.2.narrow) (not_leb (most_tables limits) (length tables) h.0)) in
    rw fault (added_both limits tables s n m t (is_taken t.name tables || not (has_its_columns t)) f w g.1 g.0 h.0 h.1 h.2 fault))))
  where
    not_leb : (most n : ℕ) → leb most n ≡ false → ltb n most ≡ true
    not_leb most n e = let k = leb-false most n e in lt-ltb n most k
