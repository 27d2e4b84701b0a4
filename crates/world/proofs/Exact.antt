-- Equal unions have equal rows: what is applied for either is the same transactions, each once.
use Rattle.std.proofs.Common.{◌≡◌, ◌≢◌, ℕ, zero, suc, true, false, cond, inl, inr, List, [], ◌∷◌, ◌++◌, map, Option, Some, None, Ok, refl, sym, ap, ◌∙◌, subst}
use Rattle.std.specs.Prelude.{not, slice_get}
use Rattle.std.specs.List.{filter, AllByRecursion}
use Rattle.std.specs.List.Sorted.{IsPermutation}
use Rattle.std.specs.Option.{unwrap_or}
use Rattle.std.specs.FinMap.{entries}
use Rattle.std.specs.FinSet as set
use Rattle.std.specs.FinSet.{is_subset-contains}
use Rattle.std.proofs.lemmas.Bool.{or_cases, or_left, or_right, or_from}
use Rattle.std.proofs.lemmas.Option.{same_Some}
use Rattle.std.proofs.lemmas.List.Sorted.{IsPermutation-refl, IsPermutation-sym, IsPermutation-trans, IsPermutation-cons, IsPermutation-middle, IsPermutation-map}
use Rattle.lemmas.proofs.Tests.{not_both}
use Rattle.lemmas.proofs.Lists.{get_append_left}
use Rattle.lemmas.proofs.Options.{none_some}
use Rattle.lemmas.proofs.SameGtid.{gtid_total}
use Rattle.gtid_text.specs.declared.Gtid.{Gtid}
use Rattle.gtid_text.specs.Gtids.{same_gtid}
use Rattle.gtid_set.specs.Sets.{Gtids}
use Rattle.rows.specs.declared.change.Transaction.{Transaction}
use Rattle.rows.specs.declared.schema.Table.{Table}
use Rattle.rows.specs.Apply.{Rows, apply, ◌>>=◌}
use Rattle.rows.specs.Counting.{apply_each}
use Rattle.rows.proofs.Counted.{order_is_no_matter}
use Rattle.journal.specs.declared.Entry as journal
use Rattle.journal.specs.Journals.{JournalValue, whole}
use Rattle.history.specs.Sources as source
use Rattle.history.proofs.SourceEntries as found
use Rattle.history.proofs.Same.{stands}
use Rattle.world.specs.declared.verdict.Verdict.{Verdict}
use Rattle.world.specs.declared.verdict.Verdict.TheVariants.{Sound}
use Rattle.world.specs.Search.{or_next}
use Rattle.world.specs.Audit.{all_entries, unequal, purged}
use Rattle.world.specs.Audit as sources
use Rattle.world.specs.Meaning.{AreJournals}
use Rattle.world.proofs.Finding.{next_none}
use Rattle.world.proofs.Meanings as sources_mean
use Rattle.world.proofs.Contents.{in_all, contents_outside, contents_entry}
use Rattle.history.specs.World.{Entry, IsIn, AreDistinct, apply_all}
use Rattle.history.proofs.Gtids.{same_gtid_other}
use Rattle.history.proofs.Placing.{all_in}
use Rattle.history.proofs.Covering.{is_entry, covered, entries_append, in_whole}
use Rattle.history.specs.Histories.{History, IsAmong, has, beyond, order_of}
use Rattle.history.proofs.Lists.{has_of, in_part, into_part, part_distinct}
use Rattle.history.proofs.Joining.{in_beyond}
use Rattle.history.proofs.Chains.{order_from, order_known, order_distinct}
use Rattle.world.specs.Bundles.{history_of, histories_of, IsOpen}
use Rattle.world.specs.AuditInOrder as in_order
use Rattle.world.specs.Exact.{union_of, HasRowsOfSources, HasRowsInOrder, HasRows, AgreeInContents, EqualUnionsEqualRows}
use Rattle.world.proofs.Opening.{listed}
use Rattle.world.proofs.Histories.{IsAt, entry_behind, journal_behind, all_new, has_content, one_content, are_open}
use Rattle.world.proofs.Sounding.{keys_not}

-- ---- lists without doubles that have the same members

apart_from : (x z : Entry) → x.0 ≢ z.0 → has (x ∷ []) z.0 ≡ false
apart_from x z n = or_from (same_gtid z.0 x.0) false (same_gtid_other z.0 x.0 (λ same. n (sym same))) refl

nothing_out : (x : Entry) (es : List Entry) → AllByRecursion (λ (f : Entry). x.0 ≢ f.0) es → beyond (x ∷ []) es ≡ es
nothing_out x [] n = refl
nothing_out x (e ∷ es) n = ap (λ b. cond (not b) (e ∷ beyond (x ∷ []) es) (beyond (x ∷ []) es)) (apart_from x e n.0) ∙ ap (λ zs. e ∷ zs) (nothing_out x es n.1)

-- one of them first
taken_out : (es : List Entry) (x : Entry) → AreDistinct es → IsIn x es → IsPermutation es (x ∷ beyond (x ∷ []) es)
taken_out [] x d i = absurd i
taken_out (e ∷ es) x d (inl same) = subst (IsPermutation (e ∷ es)) (λ i. same i ∷ sym out i) (IsPermutation-refl (e ∷ es))
  where
    out : beyond (x ∷ []) (e ∷ es) ≡ es
    out =
        ap (λ b. cond (not b) (e ∷ beyond (x ∷ []) es) (beyond (x ∷ []) es)) (has_of (x ∷ []) e (inl (sym same)))
        ∙ nothing_out x es (subst (λ (y : Entry). AllByRecursion (λ (f : Entry). y.0 ≢ f.0) es) same d.0)
taken_out (e ∷ es) x d (inr later) =
    let rest = beyond (x ∷ []) es in
    let other : e.0 ≢ x.0 = all_in (λ (f : Entry). e.0 ≢ f.0) x es d.0 later in
    let stays : beyond (x ∷ []) (e ∷ es) ≡ e ∷ rest = ap (λ b. cond (not b) (e ∷ rest) rest) (apart_from x e (λ same. other (sym same))) in
    subst (λ zs. IsPermutation (e ∷ es) (x ∷ zs)) (sym stays)
    (IsPermutation-trans (e ∷ es) (e ∷ x ∷ rest) (x ∷ e ∷ rest) (IsPermutation-cons e es (x ∷ rest) (taken_out es x d.1 later)) (IsPermutation-middle (e ∷ []) x rest))

-- each once, and the same members: the same in another order
permuted : (xs ys : List Entry) → AreDistinct xs → AreDistinct ys → ((z : Entry) → IsIn z xs → IsIn z ys) → ((z : Entry) → IsIn z ys → IsIn z xs) → IsPermutation xs ys
permuted [] [] d c there back = IsPermutation-refl []
permuted [] (y ∷ ys) d c there back = absurd (back y (inl refl))
permuted (x ∷ xs) ys d c there back =
    let rest = beyond (x ∷ []) ys in
    IsPermutation-trans (x ∷ xs) (x ∷ rest) ys
    (IsPermutation-cons x xs rest (permuted xs rest d.1 (part_distinct (λ e. not (has (x ∷ []) e.0)) ys c) into from))
    (IsPermutation-sym ys (x ∷ rest) (taken_out ys x c (there x (inl refl))))
  where
    into : (z : Entry) → IsIn z xs → IsIn z (beyond (x ∷ []) ys)
    into z i = into_part (λ e. not (has (x ∷ []) e.0)) ys z (there z (inr i)) (ap not (apart_from x z (all_in (λ (f : Entry). x.0 ≢ f.0) z xs d.0 i)))

    from : (z : Entry) → IsIn z (beyond (x ∷ []) ys) → IsIn z xs
    from z i = let r = in_beyond (x ∷ []) ys z i in elim (back z r.0) [
      | inl same ↦ not_both (has (x ∷ []) z.0) (has_of (x ∷ []) z (inl same)) r.1
      | inr later ↦ later
    ]

-- ---- what journals have beyond the opening set

-- in the history of one of the journals
abbrev IsBrought : Gtids → List JournalValue → Entry → Type 0
IsBrought opened js x = (h : History) × IsAmong h (histories_of opened js) × IsIn x h

history_among : (opened : Gtids) (js : List JournalValue) (i : ℕ) (j : JournalValue) → slice_get js i ≡ Some j → IsAmong (history_of opened j) (histories_of opened js)
history_among opened [] i j e = none_some j e
history_among opened (x ∷ js) zero j e = inl (ap (history_of opened) (same_Some x j e))
history_among opened (x ∷ js) (suc i) j e = inr (history_among opened js i j e)

place_behind : (xs ys : List journal.Entry) (n : ℕ) (e : journal.Entry) → slice_get ys n ≡ Some e → (m : ℕ) × (slice_get (xs ++ ys) m ≡ Some e)
place_behind [] ys n e h = (n, h)
place_behind (x ∷ xs) ys n e h = let r = place_behind xs ys n e h in (suc r.0, r.1)

place_in_all : (js : List JournalValue) (i : ℕ) (j : JournalValue) (k : ℕ) (e : journal.Entry) → slice_get js i ≡ Some j → slice_get j.entries k ≡ Some e
    → (n : ℕ) × (slice_get (all_entries js) n ≡ Some e)
place_in_all [] i j k e h g = none_some j h
place_in_all (x ∷ js) zero j k e h g = (k, get_append_left x.entries (all_entries js) k e (ap (λ (y : JournalValue). slice_get y.entries k) (same_Some x j h) ∙ g))
place_in_all (x ∷ js) (suc i) j k e h g = let r = place_in_all js i j k e h g in place_behind x.entries (all_entries js) r.0 e r.1

module _ (opened : Gtids) (js : List JournalValue) where
  entry_of : (x : Entry) → IsBrought opened js x → IsAt opened (all_entries js) x
  entry_of x b =
      let a = journal_behind opened js b.0 b.1 in
      let r = entry_behind opened a.1.entries x (subst (IsIn x) (sym a.3) b.2) in
      let p = place_in_all js a.0 a.1 r.place r.entry a.2 r.there in
      record { place = p.0; entry = r.entry; there = p.1; beyond = r.beyond; same = r.same }

  outside : (x : Entry) → IsBrought opened js x → set.contains opened x.0 ≡ false
  outside x b = let r = entry_of x b in ap (λ (y : Entry). set.contains opened y.0) (sym r.same) ∙ r.beyond

  brought : (g : Gtid) → is_entry (all_entries js) g ≡ true → set.contains opened g ≡ false → (t : Transaction) × IsBrought opened js (g, t)
  brought g y n =
      let a = in_all js g y in
      let r = listed opened a.1.entries g a.3 n in
      (r.0, (history_of opened a.1, history_among opened js a.0 a.1 a.2, r.1))

-- what is in the union beyond the opening set is an entry
in_union : (opened : Gtids) (js : List JournalValue) → AllByRecursion (IsOpen opened) js
    → (g : Gtid) → set.contains (union_of opened js) g ≡ true → set.contains opened g ≡ false → is_entry (all_entries js) g ≡ true
in_union opened [] fits g y n = not_both (set.contains opened g) y n
in_union opened (j ∷ js) fits g y n =
    entries_append j.entries (all_entries js) g
    ∙ elim (or_cases (set.contains (whole j) g) (set.contains (union_of opened js) g) (sym (set.contains-union gtid_total (whole j) (union_of opened js) g) ∙ y)) [
      | inl here ↦ or_left (is_entry j.entries g) (is_entry (all_entries js) g) (of_journal (sym (in_whole j g) ∙ here))
      | inr later ↦ or_right (is_entry j.entries g) (is_entry (all_entries js) g) (in_union opened js fits.1 g later n)
    ]
  where
    of_journal : covered j.previous j.entries g ≡ true → is_entry j.entries g ≡ true
    of_journal c = elim (or_cases (set.contains j.previous g) (is_entry j.entries g) c) [
      | inl p ↦ not_both (set.contains opened g) (is_subset-contains gtid_total j.previous opened fits.0.within g p) n
      | inr e ↦ e
    ]

-- ---- what is applied

-- a list of what the journals have beyond the opening set, each once, of which what is in the union leaves these rows
record IsApplied (schema : List Table) (opened : Gtids) (rows : Rows) (js : List JournalValue) (left : Rows) : Type 0 where
  order : List Entry
  distinct : AreDistinct order
  from_them : (x : Entry) → IsIn x order → IsBrought opened js x
  known : (x : Entry) → IsBrought opened js x → IsIn x order
  fits : AllByRecursion (IsOpen opened) js
  leaves : apply_all schema (filter (λ e. set.contains (union_of opened js) e.0) order) rows ≡ Ok left

-- where a verdict is Sound, nothing was found first
none_found : (o p : Option Verdict) → (o ≡ Some Sound → ⊥) → unwrap_or (or_next o p) Sound ≡ Sound → o ≡ None
none_found None p n e = refl
none_found (Some v) p n e = absurd (n (ap Some e))

module _ (schema : List Table) (opened : Gtids) (rows : Rows) (js : List JournalValue) (left : Rows) (are : AreJournals js) where
  abbrev w : source.World
  w = sources.world_of schema opened rows js

  content_brought : unequal w js ≡ None → (x : Entry) → source.content w x.0 ≡ Some x.1 → IsBrought opened js x
  content_brought equal x c =
      let b = brought opened js x.0 (contents_entry opened (all_entries js) x.0 x.1 c) (contents_outside opened (all_entries js) x.0 x.1 c) in
      let same : b.0 ≡ x.1 = same_Some b.0 x.1 (sym (has_content w js equal b.1.0 b.1.1 (x.0, b.0) b.1.2) ∙ c) in
      subst (λ (t : Transaction). IsBrought opened js (x.0, t)) same b.1

  by_sources : HasRowsOfSources schema opened rows js left → IsApplied schema opened rows js left
  by_sources h =
      let a = next_none (unequal w js) _ (none_found (sources.found_in_keys w js) (sources.does_not_apply w) (sources_mean.keys_not w js) h.sound) in
      let b = next_none (purged w js) _ a.1 in
      record {
        order = entries w.contents;
        distinct = found.distinct (entries w.contents) (found.rising w);
        from_them = λ x i. content_brought a.0 x (stands w x i);
        known = λ x r. found.is_in w x.0 x.1 (has_content w js a.0 r.0 r.1 x r.2);
        fits = are_open w js are b.0;
        leaves = h.rows_are;
      }

  by_order : HasRowsInOrder schema opened rows js left → IsApplied schema opened rows js left
  by_order h =
      let a = next_none (unequal w js) _ (none_found (in_order.found_in_keys_in_order w js) (in_order.fails_in_order w js) (keys_not w js) h.sound) in
      let b = next_none (purged w js) _ a.1 in
      let hs = histories_of opened js in
      record {
        order = order_of hs;
        distinct = order_distinct opened hs (all_new opened js are);
        from_them = λ x i. order_from hs x i;
        known = λ x r. order_known hs (one_content w js a.0) r.0 r.1 x r.2;
        fits = are_open w js are b.0;
        leaves = h.rows_are;
      }

  is_applied : HasRows schema opened rows js left → IsApplied schema opened rows js left
  is_applied (inl h) = by_sources h
  is_applied (inr h) = by_order h

-- ---- the same is applied

-- the GTIDs have no part in it
as_each : (schema : List Table) (es : List Entry) → apply_all schema es ≡ apply_each schema (map (λ (e : Entry). e.1) es)
as_each schema [] = refl
as_each schema (e ∷ es) = λ i rows. apply schema e.1 rows >>= as_each schema es i

-- what is applied for some journals is applied for others that have an equal union
applied_there : (schema : List Table) (opened : Gtids) (rows a b : Rows) (js ks : List JournalValue) (L : IsApplied schema opened rows js a) (M : IsApplied schema opened rows ks b)
    → AgreeInContents (all_entries js) (all_entries ks) → union_of opened js ≡ union_of opened ks
    → (z : Entry) → IsIn z (filter (λ e. set.contains (union_of opened js) e.0) L.order) → IsIn z (filter (λ e. set.contains (union_of opened ks) e.0) M.order)
applied_there schema opened rows a b js ks L M agree equal z i =
    let r = in_part (λ e. set.contains (union_of opened js) e.0) L.order z i in
    let here = L.from_them z r.0 in
    let out = outside opened js z here in
    let y : set.contains (union_of opened ks) z.0 ≡ true = ap (λ (s : Gtids). set.contains s z.0) (sym equal) ∙ r.1 in
    let there = brought opened ks z.0 (in_union opened ks M.fits z.0 y out) out in
    let e = entry_of opened js z here in
    let f = entry_of opened ks (z.0, there.0) there.1 in
    let txn : e.entry.txn ≡ f.entry.txn = agree e.place f.place e.entry f.entry e.there f.there (ap (λ (x : Entry). x.0) e.same ∙ sym (ap (λ (x : Entry). x.0) f.same)) in
    let same : there.0 ≡ z.1 = sym (ap (λ (x : Entry). x.1) f.same) ∙ (sym txn ∙ ap (λ (x : Entry). x.1) e.same) in
    into_part (λ e. set.contains (union_of opened ks) e.0) M.order z (M.known z (subst (λ (t : Transaction). IsBrought opened ks (z.0, t)) same there.1)) y

pub equal_unions_equal_rows : EqualUnionsEqualRows
equal_unions_equal_rows schema opened rows a b js ks carriers are ours agree equal h g =
    let L = is_applied schema opened rows js a are h in
    let M = is_applied schema opened rows ks b ours g in
    let xs = filter (λ (e : Entry). set.contains (union_of opened js) e.0) L.order in
    let ys = filter (λ (e : Entry). set.contains (union_of opened ks) e.0) M.order in
    let moved : IsPermutation xs ys = permuted xs ys
    (part_distinct (λ e. set.contains (union_of opened js) e.0) L.order L.distinct)
    (part_distinct (λ e. set.contains (union_of opened ks) e.0) M.order M.distinct)
    (applied_there schema opened rows a b js ks L M agree equal)
    (applied_there schema opened rows b a ks js M L (λ i k e f p q same. sym (agree k i f e q p (sym same))) (sym equal)) in
    order_is_no_matter schema (map (λ (e : Entry). e.1) xs) (map (λ (e : Entry). e.1) ys) rows a b carriers (IsPermutation-map (λ (e : Entry). e.1) xs ys moved)
    (sym (λ i. as_each schema xs i rows) ∙ L.leaves) (sym (λ i. as_each schema ys i rows) ∙ M.leaves)
