-- What one pass over journals gathers, entry after entry.
use Rattle.std.proofs.Common.{◌≡◌, ◌<◌, ◌+◌, ℕ, zero, suc, Bool, true, false, cond, not, ◌&&◌, ◌⊎◌, inl, inr, List, [], ◌∷◌, ◌++◌, map, take, Option, Some, None, refl, sym, ap, ◌∙◌, subst, append_assoc, arith}
use Rattle.std.proofs.lemmas.List.{append-nil}
use Rattle.std.specs.Prelude.{flat_map, slice_get, slice_set, nat_lt}
use Rattle.std.specs.Option.{option_map_or, unwrap_or}
use Rattle.std.specs.List.{Contains, list_all}
use Rattle.std.proofs.lemmas.List.Elements.{Contains-append_left, Contains-push}
use Rattle.std.specs.FinMap as finmap
use Rattle.std.specs.FinMap.{get-empty, get-insert}
use Rattle.std.specs.FinSet as set
use Rattle.std.proofs.lemmas.Bool.{or_left, or_right, and_parts, false_from_ne_true}
use Rattle.std.proofs.lemmas.Option.{same_Some}
use Rattle.lemmas.proofs.Tests.{not_both}
use Rattle.lemmas.proofs.Numbers.{lt_cases, not_less}
use Rattle.lemmas.proofs.Lists.{get_append_left, get_push_cases, get_set_cases, get_set_from, get_take, taken}
use Rattle.lemmas.proofs.Options.{none_some}
use Rattle.lemmas.proofs.SameGtid.{gtid_total, same_is_equal, same_itself}
use Rattle.gtid_text.specs.declared.Gtid.{Gtid}
use Rattle.gtid_text.specs.Gtids.{gtid_cmp, same_gtid}
use Rattle.gtid_set.specs.Sets.{Gtids}
use Rattle.gtid_set.proofs.SetLemmas.{gtid_tied}
use Rattle.rows.specs.Apply.{Rows}
use Rattle.rows.specs.declared.change.Change.{Change}
use Rattle.rows.specs.declared.change.Change.TheVariants.{Insert, Delete, Update}
use Rattle.rows.specs.declared.change.Key.{Key}
use Rattle.rows.specs.declared.change.Transaction.{Transaction}
use Rattle.rows.specs.declared.schema.Table.{Table}
use Rattle.rows.specs.WriteSet.{keys_of_change, touches, write_set}
use Rattle.rows.specs.Conflicts.{conflicts_at, conflict_at_both}
use Rattle.journal.specs.declared.Entry.{Entry}
use Rattle.journal.specs.Journals.{JournalValue}
use Rattle.history.proofs.Covering.{entries_append}
use Rattle.history.specs.Sources.{World, is_opened}
use Rattle.history.specs.Sources as history
use Rattle.world.specs.declared.verdict.Verdict.TheVariants.{Unequal, Purged, Shared, Sound}
use Rattle.world.specs.Audit.{all_entries, first_contents, found_in_keys, is_content, is_recorded_in, is_unequal, missing, not_closed, purged, shared, unequal, verdict_of_keys, world_of}
use Rattle.world.specs.Meaning.{AreJournals}
use Rattle.world.specs.Search.{or_next}
use Rattle.world.specs.Equal.{txn_eq}
use Rattle.world.proofs.Contents.{at_content}
use Rattle.world.proofs.Finding.{none_first, none_next, none_when}
use Rattle.world.proofs.Same.{txn_same, txn_self}
use Rattle.audit.specs.Contents.{Contents}
use Rattle.audit.specs.Gathering.{AgreeApart, AreOwned, AreRuns, HasNoRun, IsGathered, IsListed, IsPut, IsRunAt, Run, begun, longer}
use Rattle.audit.specs.Marks.{TouchesMarks, key_mark}
use Rattle.audit.specs.Ordered.{AreInOrder}
use Rattle.audit.proofs.Bringing.{firsts_are}
use Rattle.audit.proofs.Lying.{firsts_lie_beyond}
use Rattle.audit.proofs.MarkLemmas.{marked_among}
use Rattle.audit.proofs.Rising.{order_closes, order_misses_none}
use Rattle.audit.proofs.OtherUnequals.{of_entry}

-- ---- a first entry is put into the contents

module _ (m : Contents) (e : Entry) where
  get_put : (g : Gtid) → finmap.get (finmap.insert m e.gtid e.txn) g ≡ cond (same_gtid g e.gtid) (Some e.txn) (finmap.get m g)
  get_put g = get-insert gtid_total m e.gtid e.txn g ∙ ap (λ b. cond b (Some e.txn) (finmap.get m g)) (gtid_tied g e.gtid)

  put_there : finmap.get (finmap.insert m e.gtid e.txn) e.gtid ≡ Some e.txn
  put_there = get_put e.gtid ∙ ap (λ b. cond b (Some e.txn) (finmap.get m e.gtid)) (same_itself e.gtid)

  cases_by : (g : Gtid) (t : Transaction) (b : Bool) → same_gtid g e.gtid ≡ b → cond b (Some e.txn) (finmap.get m g) ≡ Some t → ((g ≡ e.gtid) × (e.txn ≡ t)) ⊎ (finmap.get m g ≡ Some t)
  cases_by g t true is h = inl (same_is_equal g e.gtid is, same_Some e.txn t h)
  cases_by g t false is h = inr h

  put_cases : (g : Gtid) (t : Transaction) → finmap.get (finmap.insert m e.gtid e.txn) g ≡ Some t → ((g ≡ e.gtid) × (e.txn ≡ t)) ⊎ (finmap.get m g ≡ Some t)
  put_cases g t h = cases_by g t (same_gtid g e.gtid) refl (sym (get_put g) ∙ h)

  module _ (new : finmap.get m e.gtid ≡ None) where
    stays_by : (g : Gtid) (t : Transaction) (b : Bool) → same_gtid g e.gtid ≡ b → finmap.get m g ≡ Some t → cond b (Some e.txn) (finmap.get m g) ≡ Some t
    stays_by g t true is h = none_some t (sym new ∙ (ap (finmap.get m) (sym (same_is_equal g e.gtid is)) ∙ h))
    stays_by g t false is h = h

    put_stays : (g : Gtid) (t : Transaction) → finmap.get m g ≡ Some t → finmap.get (finmap.insert m e.gtid e.txn) g ≡ Some t
    put_stays g t h = get_put g ∙ stays_by g t (same_gtid g e.gtid) refl h

-- ---- runs

pub no_runs : AreRuns finmap.empty []
no_runs = record {
  firsts = λ place run h. none_some run h;
  below = λ g t h. none_some t (sym (get-empty gtid_cmp g) ∙ h);
  of_each = λ g t h. none_some t (sym (get-empty gtid_cmp g) ∙ h);
  listed = λ g t h. none_some t (sym (get-empty gtid_cmp g) ∙ h);
  once = λ i j a b h. none_some a h;
}

module _ (m : Contents) (runs : List Run) (are : AreRuns m runs) where
  -- a source of which nothing came
  module _ (source : ℕ) (no : HasNoRun runs source) where
    pub run_begun : AreRuns m (runs ++ begun source ∷ [])
    run_begun = record {
      firsts = λ place run h k e he. elim (get_push_cases runs (begun source) place run h) [
        | inl old ↦ are.firsts place run old k e he
        | inr new ↦ none_some e (ap (λ (r : Run). slice_get r.entries k) new.1 ∙ he)
      ];
      below = λ g t at place run h own. elim (get_push_cases runs (begun source) place run h) [
        | inl old ↦ are.below g t at place run old own
        | inr new ↦ let other = are.of_each g t at in absurd (no other.0 other.1.run other.1.there (other.1.own ∙ (sym own ∙ sym (ap (λ (r : Run). r.source) new.1))))
      ];
      of_each = λ g t at. let r = are.of_each g t at in (r.0, record { run = r.1.run; there = get_append_left runs (begun source ∷ []) r.0 r.1.run r.1.there; own = r.1.own });
      listed = λ g t at place run h own. elim (get_push_cases runs (begun source) place run h) [
        | inl old ↦ are.listed g t at place run old own
        | inr new ↦ let other = are.of_each g t at in absurd (no other.0 other.1.run other.1.there (other.1.own ∙ (sym own ∙ sym (ap (λ (r : Run). r.source) new.1))))
      ];
      once = λ i j a b ha hb same. elim (get_push_cases runs (begun source) i a ha) [
        | inl old ↦ elim (get_push_cases runs (begun source) j b hb) [
          | inl both ↦ are.once i j a b old both same
          | inr new ↦ absurd (no i a old (same ∙ sym (ap (λ (r : Run). r.source) new.1)))
        ]
        | inr new ↦ elim (get_push_cases runs (begun source) j b hb) [
          | inl old ↦ absurd (no j b old (sym same ∙ sym (ap (λ (r : Run). r.source) new.1)))
          | inr both ↦ new.0 ∙ sym both.0
        ]
      ];
    }

  module _ (e : Entry) (place : ℕ) (run : Run) (there : slice_get runs place ≡ Some run) (own : run.source ≡ e.gtid.source) where
    none_by : run.last < e.gtid.number → (o : Option Transaction) → finmap.get m e.gtid ≡ o → o ≡ None
    none_by over None is = refl
    none_by over (Some t) is = let low = are.below e.gtid t is place run there own in absurd (omega arith)

    -- a number above the last is new
    pub is_new : run.last < e.gtid.number → finmap.get m e.gtid ≡ None
    is_new over = none_by over (finmap.get m e.gtid) refl

    module _ (over : run.last < e.gtid.number) where
      abbrev put : List Run
      put = slice_set runs place (longer run e)

      abbrev after : Contents
      after = finmap.insert m e.gtid e.txn

      put_first : (k : ℕ) (x : Entry) → slice_get (run.entries ++ e ∷ []) k ≡ Some x → finmap.get after x.gtid ≡ Some x.txn
      put_first k x h = elim (get_push_cases run.entries e k x h) [
        | inl old ↦ put_stays m e (is_new over) x.gtid x.txn (are.firsts place run there k x old)
        | inr new ↦ subst (λ (y : Entry). finmap.get after y.gtid ≡ Some y.txn) new.1 (put_there m e)
      ]

      -- the run that was there has the same source
      old_run : (i : ℕ) (r : Run) → slice_get put i ≡ Some r → IsRunAt runs r.source i
      old_run i r h = elim (get_set_cases runs place (longer run e) i r h) [
        | inl here ↦ record { run = run; there = ap (slice_get runs) here.0 ∙ there; own = ap (λ (q : Run). q.source) here.1 }
        | inr other ↦ record { run = r; there = other.1; own = refl }
      ]

      new_run : (source : ℕ) (i : ℕ) → IsRunAt runs source i → IsRunAt put source i
      new_run source i r = elim (get_set_from runs place (longer run e) i r.run r.there) [
        | inl same ↦ record { run = r.run; there = same; own = r.own }
        | inr at ↦ record { run = longer run e; there = at.1; own = ap (λ (q : Run). q.source) (same_Some run r.run (sym there ∙ (ap (slice_get runs) (sym at.0) ∙ r.there))) ∙ r.own }
      ]

      pub run_longer : AreRuns after put
      run_longer = record {
        firsts = λ i r h k x hx. elim (get_set_cases runs place (longer run e) i r h) [
          | inl here ↦ put_first k x (ap (λ (q : Run). slice_get q.entries k) here.1 ∙ hx)
          | inr other ↦ put_stays m e (is_new over) x.gtid x.txn (are.firsts i r other.1 k x hx)
        ];
        below = λ g t at i r h same. elim (put_cases m e g t at) [
          | inl here ↦ elim (get_set_cases runs place (longer run e) i r h) [
            | inl now ↦ let a : g.number ≡ e.gtid.number = ap (λ (x : Gtid). x.number) here.0 in let b : e.gtid.number ≡ r.last = ap (λ (q : Run). q.last) now.1 in omega arith
            | inr other ↦ absurd (other.0 (are.once i place r run other.1 there (same ∙ (ap (λ (x : Gtid). x.source) here.0 ∙ sym own))))
          ]
          | inr old ↦ elim (get_set_cases runs place (longer run e) i r h) [
            | inl now ↦ let a = are.below g t old place run there (ap (λ (q : Run). q.source) now.1 ∙ same) in let b : e.gtid.number ≡ r.last = ap (λ (q : Run). q.last) now.1 in omega arith
            | inr other ↦ are.below g t old i r other.1 same
          ]
        ];
        of_each = λ g t at. elim (put_cases m e g t at) [
          | inl here ↦ (place, new_run g.source place (record { run = run; there = there; own = own ∙ sym (ap (λ (x : Gtid). x.source) here.0) }))
          | inr old ↦ let r = are.of_each g t old in (r.0, new_run g.source r.0 r.1)
        ];
        listed = λ g t at i r h same. elim (put_cases m e g t at) [
          | inl here ↦ elim (get_set_cases runs place (longer run e) i r h) [
            | inl now ↦
                subst (λ (q : Run). Contains q.entries (record { gtid = g; txn = t })) now.1
                (subst (Contains (run.entries ++ e ∷ [])) (λ k. record { gtid = sym here.0 k; txn = here.1 k }) (Contains-push run.entries e))
            | inr other ↦ absurd (other.0 (are.once i place r run other.1 there (same ∙ (ap (λ (x : Gtid). x.source) here.0 ∙ sym own))))
          ]
          | inr old ↦ elim (get_set_cases runs place (longer run e) i r h) [
            | inl now ↦
                subst (λ (q : Run). Contains q.entries (record { gtid = g; txn = t })) now.1
                (Contains-append_left run.entries (e ∷ []) (record { gtid = g; txn = t }) (are.listed g t old place run there (ap (λ (q : Run). q.source) now.1 ∙ same)))
            | inr other ↦ are.listed g t old i r other.1 same
          ]
        ];
        once = λ i j a b ha hb same. let p = old_run i a ha in let q = old_run j b hb in are.once i j p.run q.run p.there q.there (p.own ∙ (same ∙ sym q.own));
      }

-- one of a list is equal to this
pub listed_same : (es : List Entry) (a b : Entry) → IsListed es a → same_gtid a.gtid b.gtid ≡ true → txn_eq a.txn b.txn ≡ true → IsListed es b
listed_same es a b listed gtids txns = subst (IsListed es) (λ i. record { gtid = same_is_equal a.gtid b.gtid gtids i; txn = txn_same a.txn b.txn txns i }) listed

-- one run more is of another source
pub none_further : (runs : List Run) (source k : ℕ) (run : Run) → slice_get runs k ≡ Some run → (run.source ≡ source → ⊥) → HasNoRun (take k runs) source → HasNoRun (take (k + 1) runs) source
none_further runs source k run here other before place r h own =
    let t = taken runs (k + 1) place r h in
    elim (lt_cases place k t.1) [
      | inl low ↦ before place r (get_take runs k place r t.0 low) own
      | inr same ↦ other (ap (λ (q : Run). q.source) (same_Some run r (sym here ∙ (ap (slice_get runs) (sym same) ∙ t.0))) ∙ own)
    ]

-- ---- lists that are gone over

take_one : {A : Type 0} (xs : List A) (i : ℕ) (x : A) → slice_get xs i ≡ Some x → take i xs ++ x ∷ [] ≡ take (i + 1) xs
take_one [] i x e = none_some x e
take_one (y ∷ xs) zero x e = ap (λ z. z ∷ []) (sym (same_Some y x e))
take_one (y ∷ xs) (suc i) x e =
    let next : suc (i + 1) ≡ suc i + 1 = omega arith in
    ap (λ zs. y ∷ zs) (take_one xs i x e) ∙ ap (λ n. take n (y ∷ xs)) next

pub mark_more : (xs : List ℕ) (i x : ℕ) → slice_get xs i ≡ Some x → take i xs ++ x ∷ [] ≡ take (i + 1) xs
mark_more xs i x e = take_one xs i x e

pub entry_more : (es xs : List Entry) (i : ℕ) (x : Entry) → slice_get xs i ≡ Some x → (es ++ take i xs) ++ x ∷ [] ≡ es ++ take (i + 1) xs
entry_more es xs i x e = append_assoc es (take i xs) (x ∷ []) ∙ ap (λ zs. es ++ zs) (take_one xs i x e)

pub journal_more : (js : List JournalValue) (i : ℕ) (j : JournalValue) → slice_get js i ≡ Some j → all_entries (take i js) ++ j.entries ≡ all_entries (take (i + 1) js)
journal_more [] i j e = none_some j e
journal_more (k ∷ js) zero j e = ap (λ (x : JournalValue). x.entries) (sym (same_Some k j e)) ∙ sym (append-nil k.entries)
journal_more (k ∷ js) (suc i) j e =
    let next : suc (i + 1) ≡ suc i + 1 = omega arith in
    append_assoc k.entries (all_entries (take i js)) j.entries ∙ ap (λ zs. k.entries ++ zs) (journal_more js i j e) ∙ ap (λ n. all_entries (take n (k ∷ js))) next

-- ---- an entry more

more_recorded : (es : List Entry) (e : Entry) (g : Gtid) → is_recorded_in es g ≡ true → is_recorded_in (es ++ e ∷ []) g ≡ true
more_recorded es e g h = entries_append es (e ∷ []) g ∙ or_left (is_recorded_in es g) (is_recorded_in (e ∷ []) g) h

last_recorded : (es : List Entry) (e : Entry) (g : Gtid) → g ≡ e.gtid → is_recorded_in (es ++ e ∷ []) g ≡ true
last_recorded es e g same =
    entries_append es (e ∷ []) g ∙ or_right (is_recorded_in es g) (is_recorded_in (e ∷ []) g) (or_left (same_gtid g e.gtid) false (ap (λ h. same_gtid h e.gtid) same ∙ same_itself e.gtid))

pub none_gathered : (opened : Gtids) (schema : List Table) (owner : ℕ → Option ℕ) → IsGathered opened schema [] [] owner
none_gathered opened schema owner = record {
  contents = finmap.empty;
  known = λ k x h. none_some x h;
  all = λ g t h. none_some t (sym (get-empty gtid_cmp g) ∙ h);
  outside = λ g t h. none_some t (sym (get-empty gtid_cmp g) ∙ h);
  standing = no_runs;
  owned = λ g t h. none_some t (sym (get-empty gtid_cmp g) ∙ h);
}

module _ (opened : Gtids) (schema : List Table) (es : List Entry) (owner : ℕ → Option ℕ) (e : Entry) where
  -- it was executed from the start
  pub gathered_opened : (runs : List Run) → IsGathered opened schema es runs owner → set.contains opened e.gtid ≡ true → IsGathered opened schema (es ++ e ∷ []) runs owner
  gathered_opened runs g is = record {
    contents = g.contents;
    known = λ k x h out. elim (get_push_cases es e k x h) [
      | inl old ↦ g.known k x old out
      | inr new ↦ not_both (set.contains opened x.gtid) (ap (λ (y : Entry). set.contains opened y.gtid) (sym new.1) ∙ is) out
    ];
    all = λ h t at. more_recorded es e h (g.all h t at);
    outside = g.outside;
    standing = g.standing;
    owned = g.owned;
  }

  -- runs were begun
  pub gathered_kept : (runs new : List Run) → ((m : Contents) → AreRuns m runs → AreRuns m new) → IsGathered opened schema es runs owner → IsGathered opened schema es new owner
  gathered_kept runs new kept g = record { contents = g.contents; known = g.known; all = g.all; outside = g.outside; standing = kept g.contents g.standing; owned = g.owned }

  -- an equal one came first
  pub gathered_again : (runs : List Run) → (g : IsGathered opened schema es runs owner) → finmap.get g.contents e.gtid ≡ Some e.txn → IsGathered opened schema (es ++ e ∷ []) runs owner
  gathered_again runs g is = record {
    contents = g.contents;
    known = λ k x h out. elim (get_push_cases es e k x h) [
      | inl old ↦ g.known k x old out
      | inr new ↦ subst (λ (y : Entry). finmap.get g.contents y.gtid ≡ Some y.txn) new.1 is
    ];
    all = λ h t at. more_recorded es e h (g.all h t at);
    outside = g.outside;
    standing = g.standing;
    owned = g.owned;
  }

  module _ (new_owner : ℕ → Option ℕ) (touched : TouchesMarks owner (map key_mark (write_set schema e.txn)) e.gtid.source new_owner) where
    owned_more : (m : Contents) → AreOwned schema m owner → AreOwned schema (finmap.insert m e.gtid e.txn) new_owner
    owned_more m owned g t at key touches_it = elim (put_cases m e g t at) [
      | inl here ↦
          touched.now (key_mark key) (marked_among (write_set schema e.txn) key (ap (λ (u : Transaction). touches schema u key) here.1 ∙ touches_it))
          ∙ ap (λ (x : Gtid). Some x.source) (sym here.0)
      | inr old ↦ touched.kept (key_mark key) g.source (owned g t old key touches_it)
    ]

    -- it is the first of its GTID
    pub gathered_first : (runs new_runs : List Run) (place : ℕ) → IsGathered opened schema es runs owner → set.contains opened e.gtid ≡ false
        → (r : IsRunAt runs e.gtid.source place) → r.run.last < e.gtid.number → IsPut runs new_runs place e → IsGathered opened schema (es ++ e ∷ []) new_runs new_owner
    gathered_first runs new_runs place g out r over put =
        let new = is_new g.contents runs g.standing e place r.run r.there r.own over in
        let same : r.run ≡ put.run = same_Some r.run put.run (sym r.there ∙ put.there) in
        record {
          contents = finmap.insert g.contents e.gtid e.txn;
          known = λ k x h beyond. elim (get_push_cases es e k x h) [
            | inl old ↦ put_stays g.contents e new x.gtid x.txn (g.known k x old beyond)
            | inr now ↦ subst (λ (y : Entry). finmap.get (finmap.insert g.contents e.gtid e.txn) y.gtid ≡ Some y.txn) now.1 (put_there g.contents e)
          ];
          all = λ h t at. elim (put_cases g.contents e h t at) [
            | inl here ↦ last_recorded es e h here.0
            | inr old ↦ more_recorded es e h (g.all h t old)
          ];
          outside = λ h t at. elim (put_cases g.contents e h t at) [
            | inl here ↦ ap (set.contains opened) here.0 ∙ out
            | inr old ↦ g.outside h t old
          ];
          standing = subst (AreRuns (finmap.insert g.contents e.gtid e.txn)) (ap (λ (q : Run). slice_set runs place (longer q e)) same ∙ sym put.now)
              (run_longer g.contents runs g.standing e place r.run r.there r.own over);
          owned = owned_more g.contents g.owned;
        }

-- ---- all entries of journals

module _ (opened : Gtids) (schema : List Table) (journals : List JournalValue) (runs : List Run) (owner : ℕ → Option ℕ) (g : IsGathered opened schema (all_entries journals) runs owner) (rows : Rows) where
  abbrev theirs : World
  theirs = world_of schema opened rows journals

  contents_same : g.contents ≡ first_contents opened (all_entries journals)
  contents_same = firsts_are opened g.contents (all_entries journals) g.known g.all g.outside

  neither : (b c : Bool) → (b ≡ false → c ≡ true) → (not b && not c) ≡ false
  neither true c h = refl
  neither false c h = ap not (h refl)

  gathered_equal : unequal theirs journals ≡ None
  gathered_equal = none_first _ journals (λ i j hj. none_first _ j.entries (λ k e he.
      let at = of_entry journals i j k e hj he in
      none_when (is_unequal theirs e) (Unequal e.gtid) (neither (is_opened theirs e.gtid) (is_content theirs e) (λ out.
      ap (λ o. option_map_or (txn_eq e.txn) o false) (ap (λ (c : Contents). finmap.get c e.gtid) (sym contents_same) ∙ g.known at.0 e at.1 out) ∙ txn_self e.txn))))

  source_owns : (i : ℕ) (h : history.Entry) → slice_get (finmap.entries theirs.contents) i ≡ Some h → (key : Key) → touches schema h.1 key ≡ true → owner (key_mark key) ≡ Some h.0.source
  source_owns i h hi key is = g.owned h.0 h.1 (ap (λ (c : Contents). finmap.get c h.0) contents_same ∙ at_content theirs i h hi) key is

  gathered_apart : shared theirs ≡ None
  gathered_apart = none_first _ (finmap.entries theirs.contents) (λ i h hi. none_first _ (write_set schema h.1) (λ k key hk. none_first _ (finmap.entries theirs.contents) (λ l b hl.
      none_when (nat_lt b.0.source h.0.source && conflicts_at schema b.1 h.1 key) (Shared b.0 h.0 key) (false_from_ne_true (nat_lt b.0.source h.0.source && conflicts_at schema b.1 h.1 key) (λ both.
      let p = and_parts (nat_lt b.0.source h.0.source) (conflicts_at schema b.1 h.1 key) both in
      let touched = conflict_at_both schema b.1 h.1 key p.1 in
      let same : b.0.source ≡ h.0.source = same_Some b.0.source h.0.source (sym (source_owns l b hl key touched.0) ∙ source_owns i h hi key touched.1) in
      not_both (nat_lt b.0.source h.0.source) p.0 (ap (λ n. nat_lt n h.0.source) same ∙ not_less h.0.source))))))

-- what was gathered agrees
pub gathered_agree : (opened : Gtids) (schema : List Table) (journals : List JournalValue) (runs : List Run) (owner : ℕ → Option ℕ) → IsGathered opened schema (all_entries journals) runs owner → AgreeApart opened schema journals
gathered_agree opened schema journals runs owner g = record {
  equal = λ rows. gathered_equal opened schema journals runs owner g rows;
  apart = λ rows. gathered_apart opened schema journals runs owner g rows;
}

-- ---- the verdict

passes_at : (p : JournalValue → Bool) (js : List JournalValue) → list_all p js ≡ true → (i : ℕ) (j : JournalValue) → slice_get js i ≡ Some j → p j ≡ true
passes_at p [] all i j e = none_some j e
passes_at p (k ∷ js) all zero j e = ap p (sym (same_Some k j e)) ∙ (and_parts (p k) (list_all p js) all).0
passes_at p (k ∷ js) all (suc i) j e = passes_at p js (and_parts (p k) (list_all p js) all).1 i j e

-- where journals are in order, begin before the opening set, agree, and no two sources touch one key, nothing is found in keys
pub none_in_keys : (schema : List Table) (opened : Gtids) (rows : Rows) (journals : List JournalValue) → AreJournals journals → list_all (λ (j : JournalValue). set.is_subset j.previous opened) journals ≡ true
    → AreInOrder opened journals → AgreeApart opened schema journals → found_in_keys (world_of schema opened rows journals) journals ≡ None
none_in_keys schema opened rows journals are within ordered agree =
    let world : World = world_of schema opened rows journals in
    let beyond = firsts_lie_beyond opened journals world.contents are refl in
    let begins : purged world journals ≡ None = none_first _ journals (λ i j hj.
    none_when (not (set.is_subset j.previous opened)) (Purged i (set.difference j.previous opened)) (ap not (passes_at (λ (x : JournalValue). set.is_subset x.previous opened) journals within i j hj))) in
    none_next (unequal world journals) (or_next (purged world journals) (or_next (missing world journals) (or_next (shared world) (not_closed world journals)))) (agree.equal rows)
    (none_next (purged world journals) (or_next (missing world journals) (or_next (shared world) (not_closed world journals))) begins
    (none_next (missing world journals) (or_next (shared world) (not_closed world journals)) (order_misses_none world journals ordered)
    (none_next (shared world) (not_closed world journals) (agree.apart rows) (order_closes world beyond journals ordered))))

-- so the keys are sound
pub keys_sound : (schema : List Table) (opened : Gtids) (rows : Rows) (journals : List JournalValue) → AreJournals journals → list_all (λ (j : JournalValue). set.is_subset j.previous opened) journals ≡ true
    → AreInOrder opened journals → AgreeApart opened schema journals → verdict_of_keys (world_of schema opened rows journals) journals ≡ Sound
keys_sound schema opened rows journals are within ordered agree = ap (λ o. unwrap_or o Sound) (none_in_keys schema opened rows journals are within ordered agree)

-- ---- where there are no tables

no_keys : (cs : List Change) → flat_map (keys_of_change []) cs ≡ []
no_keys [] = refl
no_keys (Insert name row ∷ cs) = no_keys cs
no_keys (Delete name row ∷ cs) = no_keys cs
no_keys (Update name old new ∷ cs) = no_keys cs

-- no mark is touched
pub touches_none : (owners : ℕ → Option ℕ) (tables : List Table) (t : Transaction) (source : ℕ) → tables ≡ [] → TouchesMarks owners (map key_mark (write_set tables t)) source owners
touches_none owners tables t source none =
    subst (λ (keys : List Key). TouchesMarks owners (map key_mark keys) source owners) (sym (ap (λ (ts : List Table). write_set ts t) none ∙ no_keys t.changes))
    (record { now = λ mark is. absurd cc; kept = λ mark owner is. is })
