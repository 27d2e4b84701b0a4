-- Entries in the order of GTIDs, the first of each GTID alone.
use Rattle.std.proofs.Common.{◌≡◌, ℕ, zero, suc, ◌+◌, ◌<◌, Bool, true, false, cond, not, ◌&&◌, inl, inr, List, [], ◌∷◌, length, map, get_or, Option, Some, None, Err, refl, sym, ap, ◌∙◌, subst, arith}
use Rattle.std.specs.declared.cmp.Ordering.{Ordering}
use Rattle.std.specs.declared.cmp.Ordering.TheVariants.{Less, Equal, Greater}
use Rattle.std.specs.Ordering.{is_lt, is_eq, on, ordering_reverse}
use Rattle.std.specs.FinMap as finmap
use Rattle.std.specs.FinMap.{same_map}
use Rattle.std.specs.Prelude.{slice_get}
use Rattle.std.specs.List.{AllAdjacentBelow, AllByRecursion, HoldsAt, dedup, dedup_from, filter}
use Rattle.std.specs.List.Sorted.{IsBinarySearchResult, IsSortedByKey, IsStableByKey, IsStrictlySortedBy, ties}
use Rattle.std.proofs.lemmas.Bool.{cases_lt}
use Rattle.std.proofs.lemmas.Cmp.{alike_right, on_total, tied_back}
use Rattle.std.proofs.lemmas.List.Kept.{IsStrictlySortedBy-dedup}
use Rattle.std.proofs.lemmas.List.Sorted.{searchable_from_sorted}
use Rattle.gtid_text.specs.declared.Gtid.{Gtid}
use Rattle.gtid_text.specs.Gtids.{gtid_cmp, same_gtid}
use Rattle.gtid_set.proofs.SetLemmas.{gtid_tied}
use Rattle.rows.specs.declared.change.Transaction.{Transaction}
use Rattle.journal.specs.declared.Entry.{Entry}
use Rattle.audit.specs.Contents.{IsAscending, as_entry, as_pair, contents_of, in_order}
use Rattle.audit.specs.Worlds.{IsPlaceOf}
use Rattle.std.proofs.lemmas.Option.{slice_get-get_or}
use Rattle.lemmas.proofs.SameGtid.{same_is_equal, gtid_total, gtid_exact}
use Rattle.audit.proofs.Stored.{at, entries-stored, get-stored}

abbrev pub gtid_of : Entry → Gtid
gtid_of e = e.gtid

-- the transaction of the first entry with a GTID
abbrev first_at : List Entry → Gtid → Option Transaction
first_at es q = at gtid_cmp (map as_pair es) q

same_contents : (es fs : List Entry) → ((q : Gtid) → first_at es q ≡ first_at fs q) → contents_of es ≡ contents_of fs
same_contents es fs h = same_map gtid_total gtid_exact (contents_of es) (contents_of fs) (λ q.
    get-stored gtid_cmp gtid_total (map as_pair es) q ∙ h q ∙ sym (get-stored gtid_cmp gtid_total (map as_pair fs) q))

-- ---- a stable sort

abbrev less : Entry → Entry → Bool
less a b = is_lt (gtid_cmp a.gtid b.gtid)

tie : (r : Ordering) → (not (is_lt r) && not (is_lt (ordering_reverse r))) ≡ is_eq r
tie Less = refl
tie Equal = refl
tie Greater = refl

tied : (a b : Entry) → ties less a b ≡ is_eq (gtid_cmp a.gtid b.gtid)
tied a b = ap (λ r. not (is_lt (gtid_cmp a.gtid b.gtid)) && not (is_lt r)) (gtid_total.antisymm b.gtid a.gtid) ∙ tie (gtid_cmp a.gtid b.gtid)

abbrev head_txn : List Entry → Option Transaction
head_txn [] = None
head_txn (e ∷ es) = Some e.txn

one_tied : (b : Bool) (e : Entry) (o : Option Transaction) (fs : List Entry) → o ≡ head_txn fs → cond b (Some e.txn) o ≡ head_txn (cond b (e ∷ fs) fs)
one_tied true e o fs h = refl
one_tied false e o fs h = h

first_tied : (q : Entry) (es : List Entry) → first_at es q.gtid ≡ head_txn (filter (ties less q) es)
first_tied q [] = refl
first_tied q (e ∷ es) =
    ap (λ b. cond b (Some e.txn) (first_at es q.gtid)) (sym (tied q e))
    ∙ one_tied (ties less q e) e (first_at es q.gtid) (filter (ties less q) es) (first_tied q es)

stable_firsts : (es fs : List Entry) → IsStableByKey gtid_of gtid_cmp es fs → contents_of fs ≡ contents_of es
stable_firsts es fs stable = same_contents fs es (λ q.
    let x : Entry = record { gtid = q; txn = record { changes = [] } } in
    first_tied x fs ∙ ap head_txn (stable x) ∙ sym (first_tied x es))

-- ---- without those that have the GTID of the one before

abbrev pub has_same : Entry → Entry → Bool
has_same a b = same_gtid a.gtid b.gtid

twice : {A : Type 0} (b : Bool) (x y z : A) → cond b x z ≡ cond b x (cond b y z)
twice true x y z = refl
twice false x y z = refl

one_kept : (q : Gtid) (k e : Entry) (es : List Entry) (b : Bool) → has_same e k ≡ b → first_at (dedup_from has_same k es) q ≡ first_at (k ∷ es) q
    → first_at (dedup_from has_same e es) q ≡ first_at (e ∷ es) q → first_at (cond b (dedup_from has_same k es) (k ∷ dedup_from has_same e es)) q ≡ first_at (k ∷ e ∷ es) q
one_kept q k e es true same rest more =
    rest ∙ twice (is_eq (gtid_cmp q k.gtid)) (Some k.txn) (Some e.txn) (first_at es q)
    ∙ ap (λ g. cond (is_eq (gtid_cmp q k.gtid)) (Some k.txn) (cond (is_eq (gtid_cmp q g)) (Some e.txn) (first_at es q))) (sym (same_is_equal e.gtid k.gtid same))
one_kept q k e es false same rest more = ap (cond (is_eq (gtid_cmp q k.gtid)) (Some k.txn)) more

kept_first : (q : Gtid) (k : Entry) (es : List Entry) → first_at (dedup_from has_same k es) q ≡ first_at (k ∷ es) q
kept_first q k [] = refl
kept_first q k (e ∷ es) = one_kept q k e es (has_same e k) refl (kept_first q k es) (kept_first q e es)

dedup_firsts : (es : List Entry) → contents_of (dedup has_same es) ≡ contents_of es
dedup_firsts [] = refl
dedup_firsts (e ∷ es) = same_contents (dedup_from has_same e es) (e ∷ es) (λ q. kept_first q e es)

all_gtids : (g : Gtid) (es : List Entry) → AllByRecursion (λ (e : Entry). gtid_cmp g e.gtid ≡ Less) es → AllByRecursion (λ h. gtid_cmp g h ≡ Less) (map gtid_of es)
all_gtids g [] h = tt
all_gtids g (e ∷ es) h = (h.0, all_gtids g es h.1)

rising_gtids : (es : List Entry) → IsStrictlySortedBy (on gtid_of gtid_cmp) es → IsAscending es
unfolding IsStrictlySortedBy
rising_gtids [] h = tt
rising_gtids (e ∷ es) h = (all_gtids e.gtid es h.0, rising_gtids es h.1)

dedup_rises : (es : List Entry) → IsSortedByKey gtid_of gtid_cmp es → IsAscending (dedup has_same es)
dedup_rises es up = rising_gtids (dedup has_same es) (IsStrictlySortedBy-dedup (on_total gtid_of gtid_total) (λ a b. sym (gtid_tied a.gtid b.gtid)) es up)

-- what a stable sort and a dedup leave
pub firsts_rise : (fs list : List Entry) → IsSortedByKey gtid_of gtid_cmp fs → list ≡ dedup has_same fs → IsAscending list
firsts_rise fs list up left = subst IsAscending (sym left) (dedup_rises fs up)

pub firsts_stay : (es fs list : List Entry) → IsStableByKey gtid_of gtid_cmp es fs → list ≡ dedup has_same fs → contents_of list ≡ contents_of es
firsts_stay es fs list stable left = ap contents_of left ∙ dedup_firsts fs ∙ stable_firsts es fs stable

-- ---- each entry and the next

less_is : (r : Ordering) → true ≡ is_lt r → r ≡ Less
less_is Less e = refl
less_is Equal e = cc
less_is Greater e = cc

all_above : (g h : Gtid) (gs : List Gtid) → gtid_cmp g h ≡ Less → AllByRecursion (λ x. gtid_cmp h x ≡ Less) gs → AllByRecursion (λ x. gtid_cmp g x ≡ Less) gs
all_above g h [] l a = tt
all_above g h (x ∷ gs) l a = (gtid_total.trans g h x l a.0, all_above g h gs l a.1)

module _ {X : Type 0} (f : X → Entry) where
  pub adjacent_rise : (xs : List X) → AllAdjacentBelow (λ a b. true ≡ less (f a) (f b)) xs (length xs) → IsAscending (map f xs)
  unfolding IsStrictlySortedBy
  adjacent_rise [] h = tt
  adjacent_rise (x ∷ []) h = (tt, tt)
  adjacent_rise (x ∷ y ∷ xs) h =
      let first : gtid_cmp (f x).gtid (f y).gtid ≡ Less = less_is (gtid_cmp (f x).gtid (f y).gtid) (h 0 x (omega arith)) in
      let rest = adjacent_rise (y ∷ xs) (λ k d within.
      let next : suc k + 1 ≡ suc (k + 1) = omega arith in
      subst (λ (n : ℕ). true ≡ less (f (get_or (y ∷ xs) k d)) (f (get_or (x ∷ y ∷ xs) n d))) next (h (suc k) d (omega arith))) in
      ((first, all_above (f x).gtid (f y).gtid (map gtid_of (map f xs)) first rest.0), rest)

pub each_itself : (es : List Entry) → map (λ e. e) es ≡ es
each_itself [] = refl
each_itself (e ∷ es) = ap (λ rest. e ∷ rest) (each_itself es)

-- ---- in order

keys_of_pairs : (es : List Entry) → map (λ (p : Gtid × Transaction). p.0) (map as_pair es) ≡ map gtid_of es
keys_of_pairs [] = refl
keys_of_pairs (e ∷ es) = ap (λ gs. e.gtid ∷ gs) (keys_of_pairs es)

entries_back : (es : List Entry) → map as_entry (map as_pair es) ≡ es
entries_back [] = refl
entries_back (e ∷ es) = ap (λ rest. e ∷ rest) (entries_back es)

-- ascending entries are listed as they are
pub listed : (es : List Entry) → IsAscending es → es ≡ in_order (contents_of es)
listed es up =
    sym (ap (map as_entry) (entries-stored gtid_cmp gtid_total gtid_exact (map as_pair es) (subst (IsStrictlySortedBy gtid_cmp) (sym (keys_of_pairs es)) up)) ∙ entries_back es)

-- ---- a binary search

sorted_of : (es : List Entry) → IsAscending es → IsSortedByKey gtid_of gtid_cmp es
unfolding IsStrictlySortedBy
sorted_of [] h k d low within = absurd (omega arith)
sorted_of (e ∷ []) h k d low within = absurd (omega arith)
sorted_of (e ∷ f ∷ es) h zero d low within = ap is_lt (gtid_total.antisymm f.gtid e.gtid ∙ ap ordering_reverse h.0.0)
sorted_of (e ∷ f ∷ es) h (suc k) d low within =
    let next : suc k + 1 ≡ suc (k + 1) = omega arith in
    subst (λ (n : ℕ). less (get_or (e ∷ f ∷ es) n d) (get_or (f ∷ es) k d) ≡ false) (sym next) (sorted_of (f ∷ es) h.1 k d (omega arith) (omega arith))

above_at : (g : Gtid) (es : List Entry) (k : ℕ) (d : Entry) → AllByRecursion (λ x. gtid_cmp g x ≡ Less) (map gtid_of es) → k < length es → gtid_cmp g (get_or es k d).gtid ≡ Less
above_at g [] k d h l = absurd (omega arith)
above_at g (e ∷ es) zero d h l = h.0
above_at g (e ∷ es) (suc k) d h l = above_at g es k d h.1 (omega arith)

found_first : (es : List Entry) (q : Gtid) (k : ℕ) (d : Entry) → IsAscending es → k < length es → gtid_cmp (get_or es k d).gtid q ≡ Equal → first_at es q ≡ Some (get_or es k d).txn
unfolding IsStrictlySortedBy
found_first [] q k d h l e = absurd (omega arith)
found_first (f ∷ es) q zero d h l e = ap (λ r. cond (is_eq r) (Some f.txn) (first_at es q)) (tied_back gtid_total f.gtid q e)
found_first (f ∷ es) q (suc k) d h l e =
    let x : Gtid = (get_or es k d).gtid in
    let before : gtid_cmp f.gtid q ≡ Less = sym (alike_right gtid_total x q f.gtid e) ∙ above_at f.gtid es k d h.0 (omega arith) in
    ap (λ r. cond (is_eq r) (Some f.txn) (first_at es q)) (gtid_total.antisymm q f.gtid ∙ ap ordering_reverse before)
    ∙ found_first es q k d h.1 (omega arith) e

none_first : (es : List Entry) (q : Gtid) → ((k : ℕ) (d : Entry) → k < length es → is_eq (gtid_cmp q (get_or es k d).gtid) ≡ false) → first_at es q ≡ None
none_first [] q h = refl
none_first (e ∷ es) q h = ap (λ b. cond b (Some e.txn) (first_at es q)) (h 0 e (omega arith)) ∙ none_first es q (λ k d l. h (suc k) d (omega arith))

-- the entry at the place where a search ends has the transaction
pub found_at : (es : List Entry) (q : Gtid) (k : ℕ) (d : Entry) → IsAscending es → k < length es → gtid_cmp (get_or es k d).gtid q ≡ Equal → finmap.get (contents_of es) q ≡ Some (get_or es k d).txn
found_at es q k d up within here = get-stored gtid_cmp gtid_total (map as_pair es) q ∙ found_first es q k d up within here

-- where a search finds nothing there is none
pub not_found : (es : List Entry) (q : Gtid) (i : ℕ) → IsAscending es → IsBinarySearchResult (λ (e : Entry). gtid_cmp e.gtid q) es (Err i) → finmap.get (contents_of es) q ≡ None
not_found es q i up ends =
    let parted = ends (searchable_from_sorted gtid_total gtid_of es q (sorted_of es up)) in
    get-stored gtid_cmp gtid_total (map as_pair es) q
    ∙ none_first es q (λ k d within. elim (cases_lt k i) [
      | inl low ↦ ap is_eq (gtid_total.antisymm q (get_or es k d).gtid ∙ ap ordering_reverse (parted.0 k d (omega arith) low))
      | inr high ↦ ap is_eq (gtid_total.antisymm q (get_or es k d).gtid ∙ ap ordering_reverse (parted.1 k d high within))
    ])

-- a place that a search finds
pub place_is : (es : List Entry) (q : Gtid) (k : ℕ) → IsAscending es → k < length es → HoldsAt (λ (x : Entry). gtid_cmp x.gtid q ≡ Equal) es k → IsPlaceOf (contents_of es) q k
place_is es q k up within tied_at =
    let d : Entry = record { gtid = q; txn = record { changes = [] } } in
    let e : Entry = get_or es k d in
    record {
      entry = e;
      there = ap (λ (xs : List Entry). slice_get xs k) (sym (listed es up)) ∙ slice_get-get_or es k d within;
      named = gtid_exact e.gtid q (tied_at d);
      content = found_at es q k d up within (tied_at d);
    }
