-- What one pass gathered as a list in the order of GTIDs, and what its application finds.
use Rattle.std.proofs.Common.{◌≡◌, ℕ, zero, suc, Bool, true, false, cond, inl, inr, List, [], ◌∷◌, map, Option, Some, refl, sym, ap, ◌∙◌, subst, arith}
use Rattle.std.specs.Prelude.{slice_get}
use Rattle.std.specs.Option.{option_map, unwrap_or}
use Rattle.std.specs.List.{Contains, list_all}
use Rattle.std.specs.List.Sorted.{IsPermutation}
use Rattle.std.specs.Ordering.{is_eq}
use Rattle.std.specs.declared.cmp.Ordering.TheVariants.{Equal}
use Rattle.std.specs.FinMap as finmap
use Rattle.std.specs.FinMap.{same_map}
use Rattle.std.specs.FinSet as set
use Rattle.std.proofs.lemmas.List.Elements.{Contains-append_cases, Contains-append_left, Contains-append_right}
use Rattle.std.proofs.lemmas.List.Sorted.{Contains-permutation, IsPermutation-sym}
use Rattle.std.proofs.lemmas.Option.{get_or_from_slice_get, same_Some, slice_get_within, slice_get-get_or}
use Rattle.lemmas.proofs.Lists.{get_map}
use Rattle.lemmas.proofs.Options.{none_some}
use Rattle.lemmas.proofs.SameGtid.{gtid_total, gtid_exact, same_is_equal, same_itself}
use Rattle.lemmas.proofs.Numbers.{equal_of}
use Rattle.gtid_text.specs.declared.Gtid.{Gtid}
use Rattle.gtid_text.specs.Gtids.{gtid_cmp}
use Rattle.gtid_set.specs.Sets.{Gtids}
use Rattle.gtid_set.proofs.SetLemmas.{gtid_tied}
use Rattle.rows.specs.Apply.{Rows}
use Rattle.rows.specs.declared.change.Transaction.{Transaction}
use Rattle.rows.specs.declared.schema.Table.{Table}
use Rattle.rows.specs.Fits.{Fits}
use Rattle.journal.specs.declared.Entry.{Entry}
use Rattle.journal.specs.Journals.{JournalValue}
use Rattle.history.specs.Sources.{World}
use Rattle.world.specs.declared.verdict.Verdict.TheVariants.{DoesNotApply, Sound}
use Rattle.world.specs.Audit.{all_entries, does_not_apply, first_contents, first_fault, verdict, world_of}
use Rattle.world.specs.Meaning.{AreJournals}
use Rattle.world.specs.Search.{or_next}
use Rattle.world.proofs.OnePass.{one_pass_applies}
use Rattle.audit.specs.Contents.{Contents, IsAscending, as_pair, contents_of, in_order}
use Rattle.audit.specs.Gathering.{AgreeApart, AreListed, AreRuns, IsGathered, Run, entries_of}
use Rattle.audit.specs.Ordered.{AreInOrder}
use Rattle.audit.specs.Worlds.{AllFit}
use Rattle.audit.proofs.Bringing.{firsts_are, same_options}
use Rattle.audit.proofs.Firsts.{found_at, listed}
use Rattle.audit.proofs.Gatherings.{none_in_keys}
use Rattle.audit.proofs.Lying.{firsts_lie_beyond}
use Rattle.audit.proofs.Made.{pairs_of}
use Rattle.audit.proofs.Sounding.{filled, filled_sound}
use Rattle.audit.proofs.Stored.{at, get-stored}

-- ---- places of a list

holds : {A : Type 0} (xs : List A) (i : ℕ) (x : A) → slice_get xs i ≡ Some x → Contains xs x
holds xs i x e = (i, slice_get_within xs i x e, get_or_from_slice_get xs i x x e)

place_of : {A : Type 0} (xs : List A) (x : A) → Contains xs x → (i : ℕ) × (slice_get xs i ≡ Some x)
place_of xs x (i, within, is) = (i, slice_get-get_or xs i x within ∙ ap Some is)

-- ---- the entries of all runs

of_run : (rs : List Run) (r : Run) (e : Entry) → Contains rs r → Contains r.entries e → Contains (entries_of rs) e
of_run [] r e (k, within, is) h = absurd (omega arith)
of_run (x ∷ rs) r e (zero, within, is) h = Contains-append_left x.entries (entries_of rs) e (subst (λ (q : Run). Contains q.entries e) (sym is) h)
of_run (x ∷ rs) r e (suc k, within, is) h = Contains-append_right x.entries (entries_of rs) e (of_run rs r e (k, omega arith, is) h)

in_run : (rs : List Run) (e : Entry) → Contains (entries_of rs) e → (r : Run) × Contains rs r × Contains r.entries e
in_run [] e (k, within, is) = absurd (omega arith)
in_run (x ∷ rs) e h = elim (Contains-append_cases x.entries (entries_of rs) e h) [
  | inl here ↦ (x, (zero, omega arith, refl), here)
  | inr later ↦ let r = in_run rs e later in (r.0, (suc r.1.0, omega (arith, r.1.1), r.1.2), r.2)
]

in_either : (rs ss : List Run) (e : Entry) → IsPermutation rs ss → Contains (entries_of rs) e → Contains (entries_of ss) e
in_either rs ss e moved h = let r = in_run rs e h in of_run ss r.0 e (Contains-permutation rs ss r.0 moved r.1) r.2

-- the runs list what came first, whatever their order
runs_list : (m : Contents) (rs ss : List Run) → AreRuns m rs → IsPermutation rs ss → AreListed m (entries_of ss)
runs_list m rs ss are moved = record {
  only = λ e h.
      let r = in_run rs e (in_either ss rs e (IsPermutation-sym rs ss moved) h) in
      let i = place_of rs r.0 r.1 in
      let k = place_of r.0.entries e r.2 in
      are.firsts i.0 r.0 i.1 k.0 e k.1;
  every = λ g t h.
      let r = are.of_each g t h in
      in_either rs ss (record { gtid = g; txn = t }) moved (of_run rs r.1.run (record { gtid = g; txn = t }) (holds rs r.0 r.1.run r.1.there) (are.listed g t h r.0 r.1.run r.1.there r.1.own));
}

pub gathered_listed : (opened : Gtids) (schema : List Table) (journals : List JournalValue) (rs ss : List Run) (owner : ℕ → Option ℕ) → IsGathered opened schema (all_entries journals) rs owner → IsPermutation rs ss → AreListed (first_contents opened (all_entries journals)) (entries_of ss)
gathered_listed opened schema journals rs ss owner g moved = subst (λ (m : Contents). AreListed m (entries_of ss)) (firsts_are opened g.contents (all_entries journals) g.known g.all g.outside) (runs_list g.contents rs ss g.standing moved)

-- ---- in order

one_of : (e : Entry) (es : List Entry) (q : Gtid) (t : Transaction) (b : Bool) → is_eq (gtid_cmp q e.gtid) ≡ b → (at gtid_cmp (map as_pair es) q ≡ Some t → Contains es (record { gtid = q; txn = t }))
    → cond b (Some e.txn) (at gtid_cmp (map as_pair es) q) ≡ Some t → Contains (e ∷ es) (record { gtid = q; txn = t })
one_of e es q t true tied more h = (zero, omega arith, λ k. record { gtid = sym (same_is_equal q e.gtid (sym (gtid_tied q e.gtid) ∙ tied)) k; txn = same_Some e.txn t h k })
one_of e es q t false tied more h = let c = more h in (suc c.0, omega (arith, c.1), c.2)

-- a transaction that a list gives is in it
one_listed : (es : List Entry) (q : Gtid) (t : Transaction) → at gtid_cmp (map as_pair es) q ≡ Some t → Contains es (record { gtid = q; txn = t })
one_listed [] q t h = none_some t h
one_listed (e ∷ es) q t h = one_of e es q t (is_eq (gtid_cmp q e.gtid)) refl (one_listed es q t) h

itself : (g : Gtid) → gtid_cmp g g ≡ Equal
itself g = equal_of (gtid_cmp g g) (gtid_tied g g ∙ same_itself g)

-- what is ascending and lists a map's transactions is the map in order
ascending_is : (m : Contents) (es : List Entry) → AreListed m es → IsAscending es → es ≡ in_order m
ascending_is m es are up =
    listed es up
    ∙ ap in_order (same_map gtid_total gtid_exact (contents_of es) m (λ g.
    same_options (finmap.get (contents_of es) g) (finmap.get m g) (λ t h. are.only (record { gtid = g; txn = t }) (one_listed es g t (sym (get-stored gtid_cmp gtid_total (map as_pair es) g) ∙ h)))
    (λ t h.
    let e : Entry = record { gtid = g; txn = t } in
    let c = are.every g t h in
    found_at es g c.0 e up c.1 (ap (λ (x : Entry). gtid_cmp x.gtid g) c.2 ∙ itself g) ∙ ap (λ (x : Entry). Some x.txn) c.2)))

module _ {X : Type 0} (f : X → Entry) where
  pub list_in_order : (m : Contents) (xs ys : List X) → ys ≡ xs → AreListed m (map f xs) → IsAscending (map f ys) → map f xs ≡ in_order m
  list_in_order m xs ys same are up = ascending_is m (map f xs) are (subst (λ zs. IsAscending (map f zs)) same up)

  -- each that is listed fits
  pub listed_fits : (schema : List Table) (xs : List X) (k : ℕ) (x : X) → slice_get xs k ≡ Some x → AllFit schema (map f xs) → Fits schema (f x).txn
  listed_fits schema xs k x h all =
      let there = get_map f xs k x h in
      subst (λ (e : Entry). Fits schema e.txn) (get_or_from_slice_get (map f xs) k (f x) (f x) there) (all k (f x) (slice_get_within (map f xs) k (f x) there))

-- ---- the verdict

-- where nothing is found in keys, the verdict is what the application of the transactions in the order of GTIDs finds
pub verdict_applied : (schema : List Table) (opened : Gtids) (rows : Rows) (journals : List JournalValue) → AreJournals journals → list_all (λ (j : JournalValue). set.is_subset j.previous opened) journals ≡ true
    → AreInOrder opened journals → AgreeApart opened schema journals → (es : List Entry) → es ≡ in_order (first_contents opened (all_entries journals))
    → unwrap_or (option_map (λ fault. DoesNotApply fault.0 fault.1) (first_fault schema (map as_pair es) rows)) Sound ≡ verdict (world_of schema opened rows journals) journals
verdict_applied schema opened rows journals are within ordered agree es listed =
    let world : World = world_of schema opened rows journals in
    let beyond = firsts_lie_beyond opened journals world.contents are refl in
    ap (λ ps. unwrap_or (option_map (λ fault. DoesNotApply fault.0 fault.1) (first_fault schema ps rows)) Sound) (pairs_of es world.contents listed)
    ∙ ap (λ o. unwrap_or o Sound) (sym (one_pass_applies (filled world) (filled_sound world beyond (agree.apart rows))))
    ∙ ap (λ o. unwrap_or (or_next o (does_not_apply world)) Sound) (sym (none_in_keys schema opened rows journals are within ordered agree))
