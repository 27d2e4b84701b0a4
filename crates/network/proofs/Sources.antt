-- What was committed by Local, in the order of time and in the words of sources: the contents are the same, both are sound, and what is closed
-- or faithful in the order of time is so by source.
use Rattle.std.proofs.Common.{◌≡◌, ◌≢◌, ℕ, ◌<◌, ◌≤◌, ◌⊎◌, Bool, true, false, cond, inl, inr, List, [], ◌∷◌, map, Option, Some, None, refl, sym, ap, ◌∙◌, subst, arith, eqb}
use Rattle.std.specs.Prelude.{IsSome}
use Rattle.std.specs.List.{AllByRecursion}
use Rattle.std.specs.FinMap.{get, entries, get-empty, get-insert}
use Rattle.std.specs.FinSet as set
use Rattle.std.proofs.Math.Nat.{eq-or-lt_of_le}
use Rattle.std.proofs.lemmas.Bool.{cases_Bool, eqb-true, eq-eqb}
use Rattle.lemmas.proofs.Tests.{not_both}
use Rattle.lemmas.proofs.SameGtid.{gtid_total}
use Rattle.gtid_text.specs.declared.Gtid.{Gtid}
use Rattle.gtid_text.specs.Gtids.{gtid_cmp, same_gtid}
use Rattle.gtid_set.specs.Sets.{gtid}
use Rattle.gtid_set.proofs.SetLemmas.{gtid_tied}
use Rattle.rows.specs.Apply.{Rows}
use Rattle.rows.specs.Conflicts.{conflicts}
use Rattle.rows.specs.declared.change.Transaction.{Transaction}
use Rattle.rows.specs.declared.schema.Table.{Table}
use Rattle.journal.specs.declared.Entry.{Entry}
use Rattle.journal.specs.Journals.{JournalValue}
use Rattle.history.specs.World as ordered
use Rattle.history.specs.World.{OrderedWorld, Precedes}
use Rattle.history.specs.Sources as sources
use Rattle.history.specs.Sources.{World, content, AreKeysSound, IsClosedBySource}
use Rattle.history.specs.Extension.{IsLinearExtension}
use Rattle.history.specs.Faithful.{IsFaithful}
use Rattle.history.specs.SourceJournals.{IsFaithfulBySource}
use Rattle.history.proofs.Alone.{alone_or_together}
use Rattle.history.proofs.Closing.{is_ok_of}
use Rattle.history.proofs.Covering.{entry_of}
use Rattle.history.proofs.Entries.{some_is, is_in_of, found_in}
use Rattle.history.proofs.Extending.{extensions_merge}
use Rattle.history.proofs.Ordering.{first_in, second_in, either_first}
use Rattle.history.proofs.Same.{stands, rises, same_gtids}
use Rattle.history.proofs.SourceEntries as found
use Rattle.history.proofs.SourceGtids.{number_less}
use Rattle.convergence.proofs.Invariant.{IsIn}
use Rattle.convergence.proofs.Permuting.{entry_is_in, in_place}
use Rattle.network.specs.Sending.{is_entry}
use Rattle.network.specs.Runs.{AreApart, pair, world_of}
use Rattle.network.specs.RingsBySource.{contents_of}
use Rattle.network.proofs.Contents.{pair_from, pairs_distinct, content_there}
use Rattle.network.proofs.Prefixes.{IsOnce}
use Rattle.network.proofs.Rising.{AreCounted}

some_of : (o : Option Transaction) → IsSome o → (t : Transaction) × (o ≡ Some t)
some_of (Some t) h = (t, refl)
some_of None h = cc

-- ---- contents

-- what the map has under a GTID is what the list has
pub same_contents : (L : List Entry) (g : Gtid) → get (contents_of L) g ≡ ordered.find g (map pair L)
same_contents [] g = get-empty gtid_cmp g
same_contents (e ∷ es) g =
    get-insert gtid_total (contents_of es) e.gtid e.txn g
    ∙ (ap (λ b. cond b (Some e.txn) (get (contents_of es) g)) (gtid_tied g e.gtid)
    ∙ ap (λ o. cond (same_gtid g e.gtid) (Some e.txn) o) (same_contents es g))

-- what was committed by Local, as a world of sources
abbrev pub world_by_source : List Table → Rows → List Entry → World
world_by_source schema rows L = record { schema = schema; opening_set = set.empty; opening_rows = rows; contents = contents_of L }

module _ (schema : List Table) (rows : Rows) (L : List Entry) (once : IsOnce L) (counted : AreCounted L) (apart : AreApart schema L) where
  abbrev in_time : OrderedWorld
  in_time = world_of schema rows L

  abbrev world : World
  world = world_by_source schema rows L

  in_list : (g : Gtid) (t : Transaction) → content world g ≡ Some t → ordered.IsIn (g, t) (map pair L)
  in_list g t e = is_in_of g t (map pair L) (sym (same_contents L g) ∙ e)

  in_world : (e : ordered.Entry) → ordered.IsIn e (map pair L) → content world e.0 ≡ Some e.1
  in_world e i = same_contents L e.0 ∙ found_in (map pair L) e (pairs_distinct L once) i

  entry_in_world : (g : Gtid) → is_entry L g ≡ true → IsSome (content world g)
  entry_in_world g h =
      let x = entry_is_in L g h in
      some_is (content world g) x.0.txn (same_contents L g ∙ (ap (λ k. ordered.find k (map pair L)) x.2 ∙ content_there L x.0 once x.1))

  -- what is of two sources doesn't conflict
  sources_apart : (e f : ordered.Entry) → ordered.IsIn e (map pair L) → ordered.IsIn f (map pair L) → e.0.source ≢ f.0.source → conflicts schema e.1 f.1 ≡ false
  sources_apart e f i k other =
      let a = in_place L (entry_of e.0 e.1) (pair_from L e i) in
      let b = in_place L (entry_of f.0 f.1) (pair_from L f k) in
      apart a.0 b.0 (entry_of e.0 e.1) (entry_of f.0 f.1) a.1 b.1 other

  -- so what conflicts is of one source
  one_source : (e f : ordered.Entry) → ordered.IsIn e (map pair L) → ordered.IsIn f (map pair L) → conflicts schema e.1 f.1 ≡ true → e.0.source ≡ f.0.source
  one_source e f i k shares = elim (cases_Bool (eqb e.0.source f.0.source)) [
    | inl same ↦ eqb-true e.0.source f.0.source same
    | inr other ↦ not_both (conflicts schema e.1 f.1) shares (sources_apart e f i k (λ s. not_both (eqb e.0.source f.0.source) (eq-eqb e.0.source f.0.source s) other))
  ]

  -- ---- soundness

  entry_at : (g : Gtid) → IsSome (content world g) → (t : Transaction) × IsIn (entry_of g t) L
  entry_at g h = let t = some_of (content world g) h in (t.0, pair_from L (g, t.0) (in_list g t.0 t.1))

  there_below : (g : Gtid) (m : ℕ) → 0 < m → m ≤ g.number → IsSome (content world g) → IsSome (content world (gtid g.source m))
  there_below g m low high h =
      let e = entry_at g h in
      elim (eq-or-lt_of_le {n = m} {m = g.number} high) [
        | inl same ↦ subst (λ (k : Gtid). IsSome (content world k)) (λ i. record { source = g.source; number = (sym same) i }) h
        | inr less ↦ entry_in_world (gtid g.source m) (counted.down (entry_of g e.0) m e.1 low less)
      ]

  pub keys_sound : AreKeysSound world
  keys_sound = record {
    outside = λ g h. set.contains-empty gtid_cmp g;
    from_one = λ g h. let e = entry_at g h in counted.positive (entry_of g e.0) e.1;
    without_gap = λ g m low high h. inr (there_below g m low high h);
    apart = λ g h t u e f other. sources_apart (g, t) (h, u) (in_list g t e) (in_list h u f) other;
  }

  -- of two of one source that are in the order of time, the first is first in the order of sources too
  kept_by : (e f : ordered.Entry) → e.0.number < f.0.number → e.0.source ≡ f.0.source → (e ≡ f) ⊎ (Precedes (entries world.contents) e f ⊎ Precedes (entries world.contents) f e) → Precedes (entries world.contents) e f
  kept_by e f less same (inl is) = let k : e.0.number ≡ f.0.number = ap (λ (x : ordered.Entry). x.0.number) is in absurd (omega arith)
  kept_by e f less same (inr (inl p)) = p
  kept_by e f less same (inr (inr p)) = let k = number_less f.0 e.0 (rises world f e p) (sym same) in absurd (omega arith)

  kept : (e f : ordered.Entry) → Precedes (map pair L) e f → conflicts schema e.1 f.1 ≡ true → Precedes (entries world.contents) e f
  kept e f p shares =
      let i = first_in (map pair L) e f p in
      let k = second_in (map pair L) e f p in
      let same = one_source e f i k shares in
      kept_by e f (counted.rising e f p same) same
      (either_first (entries world.contents) e f (found.is_in world e.0 e.1 (in_world e i)) (found.is_in world f.0 f.1 (in_world f k)))

  -- the order of sources is a linear extension of the order of time
  extends : IsLinearExtension in_time (entries world.contents)
  extends = record {
    distinct = (same_gtids world keys_sound).distinct;
    known = λ e i. in_list e.0 e.1 (stands world e i);
    ordered = λ e f p shares i. kept e f p shares;
  }

  pub sources_sound : ordered.IsSound in_time → sources.IsSound world
  sources_sound sound =
      let m = extensions_merge in_time (entries world.contents) sound extends in
      record { keys = keys_sound; alone = (alone_or_together world keys_sound).1 (is_ok_of (ordered.apply_all schema (entries world.contents) rows) m.0 m.1) }

  -- ---- closed sets and journals

  earlier_by : (S : Gtid → Bool) → ordered.IsClosed in_time S → (e f : ordered.Entry) → e.0.source ≡ f.0.source → e.0.number < f.0.number → conflicts schema e.1 f.1 ≡ true
      → (e ≡ f) ⊎ (Precedes (map pair L) e f ⊎ Precedes (map pair L) f e) → S f.0 ≡ true → S e.0 ≡ true
  earlier_by S closed e f same less shares (inl is) there = ap (λ (x : ordered.Entry). S x.0) is ∙ there
  earlier_by S closed e f same less shares (inr (inl p)) there = closed.earlier e f p shares there
  earlier_by S closed e f same less shares (inr (inr p)) there = let k = counted.rising f e p (sym same) in absurd (omega arith)

  pub closed_by_source : (S : Gtid → Bool) → ordered.IsClosed in_time S → IsClosedBySource world S
  closed_by_source S closed = record {
    opened = closed.opened;
    known = λ g there. by g (closed.known g there);
    earlier = λ g h t u e f same less shares there. earlier_by S closed (g, t) (h, u) same less shares (either_first (map pair L) (g, t) (h, u) (in_list g t e) (in_list h u f)) there;
  }
    where
      by : (g : Gtid) → (ordered.is_opened in_time g ≡ true) ⊎ IsSome (ordered.content in_time g) → (sources.is_opened world g ≡ true) ⊎ IsSome (content world g)
      by g (inl opened) = inl opened
      by g (inr there) = inr (subst IsSome (sym (same_contents L g)) there)

  journal_contents : (es : List Entry) → AllByRecursion (λ (e : Entry). ordered.is_opened in_time e.gtid ≡ false → ordered.content in_time e.gtid ≡ Some e.txn) es
      → AllByRecursion (λ (e : Entry). sources.is_opened world e.gtid ≡ false → content world e.gtid ≡ Some e.txn) es
  journal_contents [] h = tt
  journal_contents (e ∷ es) h = (λ new. same_contents L e.gtid ∙ h.0 new, journal_contents es h.1)

  pub faithful_by_source : (journal : JournalValue) → IsFaithful in_time journal → IsFaithfulBySource world journal
  faithful_by_source journal f = record {
    fronts = λ k below. closed_by_source _ (f.fronts k below);
    contents = journal_contents journal.entries f.contents;
    new = f.new;
  }
