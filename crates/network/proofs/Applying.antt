-- What a node accepted of its own applies after all that was committed before, at all nodes.
use Rattle.std.proofs.Common.{◌≡◌, Bool, true, false, cond, List, [], ◌∷◌, ◌++◌, map, Option, Some, None, Result, Ok, Err, refl, sym, ap, ◌∙◌, inl, inr}
use Rattle.std.specs.List.{filter}
use Rattle.std.proofs.lemmas.Bool.{cases_Bool, or_from, or_right}
use Rattle.std.proofs.lemmas.List.{append-nil}
use Rattle.std.proofs.lemmas.List.Elements.{filter-append}
use Rattle.lemmas.proofs.Tests.{not_both}
use Rattle.lemmas.proofs.SameGtid.{same_is_equal}
use Rattle.gtid_text.specs.declared.Gtid.{Gtid}
use Rattle.gtid_text.specs.Gtids.{same_gtid}
use Rattle.rows.specs.declared.change.Key.{Key}
use Rattle.rows.specs.declared.change.RowFault.{RowFault}
use Rattle.rows.specs.declared.schema.Table.{Table}
use Rattle.rows.specs.Apply.{Rows, ◌>>=◌, apply}
use Rattle.rows.specs.WriteSet.{touches}
use Rattle.rows.specs.Conflicts.{conflicts}
use Rattle.journal.specs.declared.Entry.{Entry}
use Rattle.history.specs.World as ordered
use Rattle.history.specs.World.{OrderedWorld, entries_in, apply_all, rows_of}
use Rattle.history.specs.LastWriter.{last, left_or_opening}
use Rattle.history.proofs.Commuting.{applies_too, apart_unless}
use Rattle.history.proofs.Writing.{last_writer_stands}
use Rattle.history.proofs.Covering.{entry_of, entries_append}
use Rattle.convergence.proofs.Invariant.{IsIn}
use Rattle.network.specs.Sending.{is_entry}
use Rattle.network.specs.Runs.{pair}
use Rattle.network.proofs.Prefixes.{IsOnce}
use Rattle.convergence.proofs.Permuting.{is_in_entry}
use Rattle.network.proofs.Contents.{pair_from, pairs_append}

and_then : (t : Result Rows RowFault) (f g : Rows → Result Rows RowFault) → ((t >>= f) >>= g) ≡ (t >>= λ r. f r >>= g)
and_then (Ok r) f g = refl
and_then (Err e) f g = refl

-- the rows after two lists
apply_both : (schema : List Table) (xs ys : List ordered.Entry) (rows : Rows) → apply_all schema (xs ++ ys) rows ≡ (apply_all schema xs rows >>= apply_all schema ys)
apply_both schema [] ys rows = refl
apply_both schema (x ∷ xs) ys rows =
    (λ i. apply schema x.1 rows >>= λ r. apply_both schema xs ys r i)
    ∙ sym (and_then (apply schema x.1 rows) (apply_all schema xs) (apply_all schema ys))

all_pass : (es : List ordered.Entry) → filter (λ (e : ordered.Entry). true) es ≡ es
all_pass [] = refl
all_pass (e ∷ es) = ap (λ (x : List ordered.Entry). e ∷ x) (all_pass es)

none_passes : (p : ordered.Entry → Bool) (es : List ordered.Entry) → ((e : ordered.Entry) → ordered.IsIn e es → p e ≡ false) → filter p es ≡ []
none_passes p [] h = refl
none_passes p (e ∷ es) h = λ i. cond (h e (inl refl) i) (e ∷ none_passes p es (λ x k. h x (inr k)) i) (none_passes p es (λ x k. h x (inr k)) i)

-- a part has all that passes a test
part_by : (p : ordered.Entry → Bool) (x : ordered.Entry) (xs ys : List ordered.Entry) (b : Bool) → (p x ≡ true → b ≡ true) → filter p ys ≡ filter p xs → filter p (cond b (x ∷ ys) ys) ≡ filter p (x ∷ xs)
part_by p x xs ys true h rest = λ i. cond (p x) (x ∷ rest i) (rest i)
part_by p x xs ys false h rest = by_test (p x) (λ e. h e)
  where
    by_test : (c : Bool) → (c ≡ true → false ≡ true) → filter p ys ≡ cond c (x ∷ filter p xs) (filter p xs)
    by_test true n = let e = n refl in cc
    by_test false n = rest

same_part : (p q : ordered.Entry → Bool) (es : List ordered.Entry) → ((e : ordered.Entry) → ordered.IsIn e es → p e ≡ true → q e ≡ true) → filter p (filter q es) ≡ filter p es
same_part p q [] h = refl
same_part p q (x ∷ es) h = part_by p x es (filter q es) (q x) (λ y. h x (inl refl) y) (same_part p q es (λ e i y. h e (inr i) y))

-- what comes later is none of these
once_apart : (L more : List Entry) → IsOnce (L ++ more) → (e : Entry) → IsIn e more → is_entry L e.gtid ≡ false
once_apart [] more once e i = refl
once_apart (l ∷ L) more once e i = or_from (same_gtid e.gtid l.gtid) (is_entry L e.gtid) (elim (cases_Bool (same_gtid e.gtid l.gtid)) [
  | inl same ↦ not_both (is_entry (L ++ more) l.gtid)
      (ap (is_entry (L ++ more)) (sym (same_is_equal e.gtid l.gtid same)) ∙ (entries_append L more e.gtid ∙ or_right (is_entry L e.gtid) (is_entry more e.gtid) (is_in_entry more e i))) once.0
  | inr other ↦ other
]) (once_apart L more once.1 e i)

opening_same : (world : OrderedWorld) (order : List ordered.Entry) (k : Key) (o : Option ordered.Entry) → left_or_opening world k o ≡ left_or_opening (record world { order = order }) k o
opening_same world order k None = refl
opening_same world order k (Some e) = refl

-- These were committed so far, and a set has those of them that share a key with a transaction: where that applies after the set, it
-- applies after them all.
pub still_applies : (world : OrderedWorld) (L more : List Entry) (S : Gtid → Bool) (rows all new : Rows) (x : Entry)
    → world.order ≡ map pair (L ++ more) → IsOnce (L ++ more) → rows_of world S ≡ Ok rows
    → ((g : Gtid) → S g ≡ true → is_entry L g ≡ true)
    → ((e : Entry) → IsIn e L → conflicts world.schema e.txn x.txn ≡ true → S e.gtid ≡ true)
    → apply_all world.schema (map pair L) world.opening_rows ≡ Ok all → apply world.schema x.txn rows ≡ Ok new
    → (next : Rows) × (apply_all world.schema (map pair (L ++ x ∷ [])) world.opening_rows ≡ Ok next)
still_applies world L more S rows all new x whole once stands known seen before applied =
    let PL : List ordered.Entry = map pair L in
    let so_far : OrderedWorld = record world { order = PL } in
    let here : rows_of so_far (λ g. true) ≡ Ok all = ap (λ es. apply_all world.schema es world.opening_rows) (all_pass PL) ∙ before in
    let next = applies_too world.schema x.txn rows new all applied (λ k t.
    last_writer_stands world S rows stands k
    ∙ (ap (λ es. left_or_opening world k (last es)) (parts k t)
    ∙ (opening_same world PL k (last (filter (λ (e : ordered.Entry). touches world.schema e.1 k) PL))
    ∙ (ap (λ es. left_or_opening so_far k (last (filter (λ (e : ordered.Entry). touches world.schema e.1 k) es))) (sym (all_pass PL))
    ∙ sym (last_writer_stands so_far (λ g. true) all here k))))) in (
      next.0,
      ap (λ es. apply_all world.schema es world.opening_rows) (pairs_append L (x ∷ []))
          ∙ (apply_both world.schema PL (pair x ∷ []) world.opening_rows ∙ (ap (λ r. r >>= apply_all world.schema (pair x ∷ [])) before ∙ ap (λ r. r >>= apply_all world.schema []) next.1)),
    )
  where
    later : (e : ordered.Entry) → ordered.IsIn e (map pair more) → S e.0 ≡ false
    later e i = elim (cases_Bool (S e.0)) [
      | inl there ↦ not_both (is_entry L e.0) (known e.0 there) (once_apart L more once (entry_of e.0 e.1) (pair_from more e i))
      | inr none ↦ none
    ]

    parts : (k : Key) → touches world.schema x.txn k ≡ true
        → filter (λ (e : ordered.Entry). touches world.schema e.1 k) (entries_in world S) ≡ filter (λ (e : ordered.Entry). touches world.schema e.1 k) (map pair L)
    parts k t =
        ap (λ es. filter (λ (e : ordered.Entry). touches world.schema e.1 k) (filter (λ (e : ordered.Entry). S e.0) es)) (whole ∙ pairs_append L more)
        ∙ (ap (filter (λ (e : ordered.Entry). touches world.schema e.1 k)) (filter-append (λ (e : ordered.Entry). S e.0) (map pair L) (map pair more)
        ∙ (ap (λ es. filter (λ (e : ordered.Entry). S e.0) (map pair L) ++ es) (none_passes (λ (e : ordered.Entry). S e.0) (map pair more) later) ∙ append-nil (filter (λ (e : ordered.Entry). S e.0) (map pair L))))
        ∙ same_part (λ (e : ordered.Entry). touches world.schema e.1 k) (λ (e : ordered.Entry). S e.0) (map pair L)
        (λ e i y. seen (entry_of e.0 e.1) (pair_from L e i) (elim (cases_Bool (conflicts world.schema e.1 x.txn)) [
          | inl shares ↦ shares
          | inr none ↦ not_both (touches world.schema x.txn k) t (apart_unless world.schema e.1 x.txn none k y)
        ])))
