-- Where nothing is found, the world is sound and the journals are faithful.
use Rattle.std.proofs.Common.{◌≡◌, ◌≢◌, ℕ, zero, suc, ◌<◌, ◌+◌, ◌-◌, ◌≤◌, Bool, true, false, cond, not, ◌&&◌, ◌||◌, ◌⊎◌, inl, inr, List, [], ◌∷◌, take, Option, Some, None, Result, Ok, Err, refl, sym, ap, ◌∙◌, subst, arith}
use Rattle.std.specs.Prelude.{slice_get, IsSome, IsOk, nat_lt, nat_le, ◌==◌}
use Rattle.std.specs.List.{list_any, list_all, filter, range_with_len, AllByRecursion}
use Rattle.std.specs.Option.{option_map, option_map_or, unwrap_or}
use Rattle.std.specs.FinMap as finmap
use Rattle.std.specs.FinSet as set
use Rattle.std.specs.FinSet.{is_subset-contains}
use Rattle.std.proofs.lemmas.Bool.{eqb-true, eq-eqb, cases_Bool, or_cases, or_left, or_right, and_parts, false_from_ne_true, true_from_ne_false, and_from, not_from_false}
use Rattle.rows.specs.declared.change.Transaction.{Transaction}
use Rattle.rows.specs.declared.change.RowFault.{RowFault}
use Rattle.rows.specs.declared.schema.Table.{Table}
use Rattle.rows.specs.Order.{key_eq}
use Rattle.rows.specs.Total.{key_eq_same, key_eq_self}
use Rattle.rows.specs.Apply.{Rows, apply, ◌>>=◌}
use Rattle.rows.specs.WriteSet.{write_set, touches}
use Rattle.rows.specs.Conflicts.{conflicts, conflict_is_sharing, conflicts_at, conflict_at_touched}
use Rattle.gtid_text.specs.declared.Gtid.{Gtid}
use Rattle.gtid_set.specs.Sets.{Gtids, greatest}
use Rattle.journal.specs.declared.Entry.{Entry}
use Rattle.rows.specs.declared.limits.Limits.TheVariants.{Wide}
use Rattle.journal.specs.Writing.{is_writable, is_number, is_txn_writable}
use Rattle.journal.specs.Journals.{JournalValue, IsJournal}
use Rattle.history.specs.Sources.{World, content, is_opened, of_source, entries_in, apply_all, rows_of, HasNumber, AreKeysSound, IsClosedBySource, in_order}
use Rattle.history.specs.Sources as history
use Rattle.history.proofs.Commuting.{AreApart, apart_back}
use Rattle.history.specs.SourceJournals.{IsFaithful, IsFaithfulBySource}
use Rattle.history.proofs.Covering.{is_entry, covered, front, to_fronts}
use Rattle.history.proofs.Same.{same_content, same_closed, same_faithful}
use Rattle.world.specs.declared.verdict.Verdict.{Verdict}
use Rattle.world.specs.declared.verdict.Verdict.TheVariants.{Unequal, Purged, Missing, Shared, NotClosed, DoesNotApply, Sound}
use Rattle.world.specs.Search.{or_next, when, first_at}
use Rattle.world.specs.Equal.{txn_eq}
use Rattle.world.specs.Audit.{all_entries, world_of, is_content, is_unequal, unequal, purged, present, is_absent, below, missing, shared, is_left_out, not_closed, fault_after, first_fault, does_not_apply, found_in_keys}
use Rattle.world.specs.Meaning.{AreJournals, SoundMeansSound, KeysSoundMeans}
use Rattle.world.proofs.Finding.{next_none, next_some, when_none, when_some, first_none, first_some}
use Rattle.world.proofs.Same.{txn_same}
use Rattle.world.proofs.Contents.{entry_at, entry_from, in_all, content_at, some_of, contents_outside, contents_entry, entry_content}
use Rattle.std.proofs.lemmas.Option.{same_Some}
use Rattle.std.proofs.lemmas.Map.Keys.{any_passes_from_place}
use Rattle.lemmas.proofs.Tests.{not_both}
use Rattle.lemmas.proofs.SameGtid.{gtid_total}
use Rattle.lemmas.proofs.Numbers.{below_test}
use Rattle.lemmas.proofs.Lists.{get_map, get_take, all_at, all_from, taken, get_range, any_at}
use Rattle.lemmas.proofs.Options.{none_mapped, none_some, map_some}
use Rattle.history.proofs.Entries.{some_is}

-- ---- nothing that is found is called Sound

first_not : {A : Type 0} (f : ℕ → A → Option Verdict) (xs : List A) → ((i : ℕ) (x : A) → f i x ≡ Some Sound → ⊥) → first_at f xs ≡ Some Sound → ⊥
first_not f xs h e = let r = first_some f xs Sound e in h r.place r.element r.gives

when_not : (b : Bool) (y : Verdict) → (y ≡ Sound → ⊥) → when b y ≡ Some Sound → ⊥
when_not b y h e = h (when_some b y Sound e).1

pub next_not : (o p : Option Verdict) → (o ≡ Some Sound → ⊥) → (p ≡ Some Sound → ⊥) → or_next o p ≡ Some Sound → ⊥
next_not o p h g e = elim (next_some o p Sound e) [ inl x ↦ h x | inr y ↦ g y.1 ]

pub none_of_sound : (o : Option Verdict) → (o ≡ Some Sound → ⊥) → unwrap_or o Sound ≡ Sound → o ≡ None
none_of_sound None h e = refl
none_of_sound (Some v) h e = absurd (h (ap Some e))

pub keys_not : (world : World) (journals : List JournalValue) → found_in_keys world journals ≡ Some Sound → ⊥
keys_not world journals =
    next_not (unequal world journals) _ (first_not _ journals (λ i j. first_not _ j.entries (λ k e. when_not _ (Unequal e.gtid) (λ p. cc))))
    (next_not (purged world journals) _ (first_not _ journals (λ i j. when_not _ (Purged i (set.difference j.previous world.opening_set)) (λ p. cc)))
    (next_not (missing world journals) _ (first_not _ (present world journals) (λ i g. first_not _ (below g.0) (λ k h. when_not _ (Missing h) (λ p. cc))))
    (next_not (shared world) (not_closed world journals)
    (first_not _ (finmap.entries world.contents) (λ i h. first_not _ (write_set world.schema h.1) (λ k key. first_not _ (finmap.entries world.contents) (λ l g. when_not _ (Shared g.0 h.0 key) (λ p. cc)))))
    (first_not _ journals (λ i j. first_not _ j.entries (λ k e. first_not _ (finmap.entries world.contents) (λ l h. when_not _ (NotClosed e.gtid h.0) (λ p. cc))))))))

pub applies_not : (world : World) → does_not_apply world ≡ Some Sound → ⊥
applies_not world = first_not _ (finmap.entries world.contents) (λ i e p.
    let r = map_some (λ (fault : Gtid × RowFault). DoesNotApply fault.0 fault.1) (first_fault world.schema (entries_in world (of_source e.0.source)) world.opening_rows) Sound p in
    cc)

-- ---- what is not found is not there

pub content_is_by : (t : Transaction) (o : Option Transaction) → option_map_or (txn_eq t) o false ≡ true → o ≡ Some t
content_is_by t None e = cc
content_is_by t (Some u) e = ap Some (sym (txn_same t u e))

pub le_cases : (m n : ℕ) → m ≤ n → (m < n) ⊎ (m ≡ n)
le_cases m n h = grind arith

two_sides : (a b : ℕ) → a ≢ b → (a < b) ⊎ (b < a)
two_sides a b h = by (nat_lt a b) (nat_lt b a) refl refl
  where
    by : (x y : Bool) → nat_lt a b ≡ x → nat_lt b a ≡ y → (a < b) ⊎ (b < a)
    by x y e f = grind arith

pub one_and : (m : ℕ) → 0 < m → 1 + (m - 1) ≡ m
one_and m h = omega arith

-- an entry that can be written has a number from 1 on
pub numbered : (es : List Entry) (i : ℕ) (e : Entry) → list_all (is_writable Wide) es ≡ true → slice_get es i ≡ Some e → 0 < e.gtid.number
numbered [] i e h at = none_some e at
numbered (x ∷ es) zero e h at =
    let a = and_parts (is_writable Wide x) (list_all (is_writable Wide) es) h in
    let b = and_parts (is_number x.gtid.number) (is_txn_writable Wide x.txn) a.0 in
    let c = and_parts (nat_le 1 x.gtid.number) (nat_le x.gtid.number greatest) b.0 in
    subst (λ (y : Entry). 0 < y.gtid.number) (same_Some x e at) (from_test x.gtid.number c.0)
  where
    from_test : (n : ℕ) → nat_le 1 n ≡ true → 0 < n
    from_test n t = grind arith
numbered (x ∷ es) (suc i) e h at = numbered es i e (and_parts (is_writable Wide x) (list_all (is_writable Wide) es) h).1 at

-- two that touch no common key don't conflict: the audit looks for keys alone
pub no_conflict_from : (schema : List Table) (t u : Transaction) → AreApart schema t u → conflicts schema t u ≡ false
no_conflict_from schema t u apart = false_from_ne_true (conflicts schema t u) (λ e.
    let r = any_at (touches schema u) (write_set schema t) (sym (conflict_is_sharing schema t u) ∙ e) in
    not_both (touches schema u r.1) r.3 (apart r.1 (any_passes_from_place (key_eq r.1) (write_set schema t) r.0 r.1 r.2 (key_eq_self r.1))))

-- where nothing is shared, transactions of two sources share no key
module _ (w : World) (shared_none : shared w ≡ None) where
  untouched : (g h : Gtid) (t u : Transaction) → content w g ≡ Some t → content w h ≡ Some u → g.source < h.source → AreApart w.schema u t
  untouched g h t u eg eh less k touched =
      let a = content_at w h u eh in
      let b = any_at (key_eq k) (write_set w.schema u) touched in
      let c = content_at w g t eg in
      let is_k : k ≡ b.1 = key_eq_same k b.1 b.3 in
      let one = first_none _ (finmap.entries w.contents) shared_none a.0 (h, u) a.1 in
      let two = first_none _ (write_set w.schema u) one b.0 b.1 b.2 in
      let test = when_none (nat_lt g.source h.source && conflicts_at w.schema t u b.1) (Shared g h b.1) (first_none _ (finmap.entries w.contents) two c.0 (g, t) c.1) in
      false_from_ne_true (touches w.schema t k) (λ e. not_both (nat_lt g.source h.source && conflicts_at w.schema t u b.1) (and_from (nat_lt g.source h.source) (conflicts_at w.schema t u b.1) (below_test g.source h.source less) (ap (conflicts_at w.schema t u) (sym is_k) ∙ conflict_at_touched w.schema t u k touched ∙ e)) test)

  pub sources_apart : (g h : Gtid) (t u : Transaction) → content w g ≡ Some t → content w h ≡ Some u → g.source ≢ h.source → conflicts w.schema t u ≡ false
  sources_apart g h t u eg eh other = elim (two_sides g.source h.source other) [
    | inl less ↦ no_conflict_from w.schema t u (apart_back w.schema u t (untouched g h t u eg eh less))
    | inr more ↦ no_conflict_from w.schema t u (untouched h g u t eh eg more)
  ]

module _ (schema : List Table) (opened : Gtids) (rows : Rows) (journals : List JournalValue) (are : AreJournals journals) where
  abbrev w : World
  w = world_of schema opened rows journals

  record Nothing : Type 0 where
    unequal_none : unequal w journals ≡ None
    purged_none : purged w journals ≡ None
    missing_none : missing w journals ≡ None
    shared_none : shared w ≡ None
    closed_none : not_closed w journals ≡ None

  nothing : found_in_keys w journals ≡ None → Nothing
  nothing e =
      let a = next_none (unequal w journals) _ e in
      let b = next_none (purged w journals) _ a.1 in
      let c = next_none (missing w journals) _ b.1 in
      let d = next_none (shared w) (not_closed w journals) c.1 in
      record { unequal_none = a.0; purged_none = b.0; missing_none = c.0; shared_none = d.0; closed_none = d.1 }

  module _ (n : Nothing) where
    equal_here : (i : ℕ) (j : JournalValue) (k : ℕ) (e : Entry) → slice_get journals i ≡ Some j → slice_get j.entries k ≡ Some e → is_opened w e.gtid ≡ false → content w e.gtid ≡ Some e.txn
    equal_here i j k e hj he out =
        let inner = first_none _ journals n.unequal_none i j hj in
        let test : is_unequal w e ≡ false = when_none (is_unequal w e) (Unequal e.gtid) (first_none _ j.entries inner k e he) in
        content_is_by e.txn (content w e.gtid) (true_from_ne_false (is_content w e) (λ no.
        not_both (is_unequal w e) (and_from (not (is_opened w e.gtid)) (not (is_content w e)) (not_from_false (is_opened w e.gtid) out) (not_from_false (is_content w e) no)) test))

    journal_at : (i : ℕ) (j : JournalValue) → slice_get journals i ≡ Some j → IsJournal j.previous j.entries
    journal_at i j hj = all_at (λ (x : JournalValue). IsJournal x.previous x.entries) journals i j are hj

    within : (i : ℕ) (j : JournalValue) → slice_get journals i ≡ Some j → set.is_subset j.previous opened ≡ true
    within i j hj =
        let test = when_none (not (set.is_subset j.previous opened)) (Purged i (set.difference j.previous opened)) (first_none _ journals n.purged_none i j hj) in
        true_from_ne_false (set.is_subset j.previous opened) (λ no. not_both (not (set.is_subset j.previous opened)) (not_from_false (set.is_subset j.previous opened) no) test)

    previous_opened : (i : ℕ) (j : JournalValue) (g : Gtid) → slice_get journals i ≡ Some j → set.contains j.previous g ≡ true → is_opened w g ≡ true
    previous_opened i j g hj h = is_subset-contains gtid_total j.previous opened (within i j hj) g h

    outside : (g : Gtid) → IsSome (content w g) → is_opened w g ≡ false
    outside g h = let t = some_of (content w g) h in contents_outside opened (all_entries journals) g t.0 t.1

    from_one : (g : Gtid) → IsSome (content w g) → 0 < g.number
    from_one g h =
        let t = some_of (content w g) h in
        let a = in_all journals g (contents_entry opened (all_entries journals) g t.0 t.1) in
        let b = entry_at a.1.entries g a.3 in
        subst (λ (x : Gtid). 0 < x.number) b.3 (numbered a.1.entries b.0 b.1 (journal_at a.0 a.1 a.2).writable b.2)

    in_present : (g : Gtid) (t : Transaction) → content w g ≡ Some t → (i : ℕ) × (slice_get (present w journals) i ≡ Some (g, t))
    in_present g t h = content_at w g t h

    lower_stands : (s m k : ℕ) → 0 < m → m < k → (t : Transaction) → content w (record { source = s; number = k }) ≡ Some t → (is_opened w (record { source = s; number = m }) ≡ true) ⊎ IsSome (content w (record { source = s; number = m }))
    lower_stands s m k pos less t there =
        let g : Gtid = record { source = s; number = k } in
        let h : Gtid = record { source = s; number = m } in
        let a = in_present g t there in
        let inner = first_none _ (present w journals) n.missing_none a.0 (g, t) a.1 in
        let at : slice_get (below g) (m - 1) ≡ Some (record { source = s; number = 1 + (m - 1) }) = get_map (λ (x : ℕ). record { source = s; number = x }) (range_with_len 1 (k - 1)) (m - 1) (1 + (m - 1)) (get_range 1 (k - 1) (m - 1) (omega arith)) in
        let is_h : slice_get (below g) (m - 1) ≡ Some h = at ∙ ap (λ (x : ℕ). Some (record { source = s; number = x })) (one_and m pos) in
        let test : is_absent w journals h ≡ false = when_none (is_absent w journals h) (Missing h) (first_none _ (below g) inner (m - 1) h is_h) in
        elim (cases_Bool (is_opened w h)) [
          | inl yes_opened ↦ inl yes_opened
          | inr out ↦
              let there : is_entry (all_entries journals) h ≡ true = true_from_ne_false (is_entry (all_entries journals) h) (λ no.
              not_both (is_absent w journals h) (and_from (not (is_opened w h)) (not (is_entry (all_entries journals) h)) (not_from_false (is_opened w h) out) (not_from_false (is_entry (all_entries journals) h) no)) test) in
              inr (entry_content opened (all_entries journals) h there out)
        ]

    without_gap : (g : Gtid) (m : ℕ) → 0 < m → m ≤ g.number → IsSome (content w g) → HasNumber w g.source m
    without_gap g m pos le h = elim (le_cases m g.number le) [
      | inl less ↦ let t = some_of (content w g) h in lower_stands g.source m g.number pos less t.0 t.1
      | inr same ↦ inr (subst (λ (x : ℕ). IsSome (content w (record { source = g.source; number = x }))) (sym same) h)
    ]

    apart : (g h : Gtid) (t u : Transaction) → content w g ≡ Some t → content w h ≡ Some u → g.source ≢ h.source → conflicts schema t u ≡ false
    apart = sources_apart w n.shared_none

    keys_sound : AreKeysSound w
    keys_sound = record { outside = outside; from_one = from_one; without_gap = without_gap; apart = apart }

    -- a prefix of a journal
    earlier_too : (es : List Entry) (i k : ℕ) (g : Gtid) → i ≤ k → is_entry (take i es) g ≡ true → is_entry (take k es) g ≡ true
    earlier_too es i k g le h =
        let a = entry_at (take i es) g h in
        let b = taken es i a.0 a.1 a.2 in
        subst (λ (x : Gtid). is_entry (take k es) x ≡ true) a.3 (entry_from (take k es) a.0 a.1 (get_take es k a.0 a.1 b.0 (omega arith)))

    needed_here : (i : ℕ) (j : JournalValue) (k : ℕ) (e : Entry) (g : Gtid) (t : Transaction) → slice_get journals i ≡ Some j → slice_get j.entries k ≡ Some e → is_opened w e.gtid ≡ false → content w g ≡ Some t → g.source ≡ e.gtid.source → g.number < e.gtid.number → conflicts schema t e.txn ≡ true → covered j.previous (take k j.entries) g ≡ true
    needed_here i j k e g t hj he out eg same less shares =
        let c = content_at w g t eg in
        let one = first_none _ journals n.closed_none i j hj in
        let two = first_none _ j.entries one k e he in
        let test : is_left_out w j k e (g, t) ≡ false = when_none (is_left_out w j k e (g, t)) (NotClosed e.gtid g) (first_none _ (finmap.entries w.contents) two c.0 (g, t) c.1) in
        true_from_ne_false (covered j.previous (take k j.entries) g) (λ no.
        not_both (is_left_out w j k e (g, t))
        (and_from (not (is_opened w e.gtid)) _ (not_from_false (is_opened w e.gtid) out)
        (and_from (g.source == e.gtid.source) _ (eq-eqb g.source e.gtid.source same)
        (and_from (nat_lt g.number e.gtid.number) _ (below_test g.number e.gtid.number less)
        (and_from (conflicts schema t e.txn) (not (covered j.previous (take k j.entries) g)) shares (not_from_false (covered j.previous (take k j.entries) g) no))))) test)

    front_closed : (i : ℕ) (j : JournalValue) → slice_get journals i ≡ Some j → (k : ℕ) → IsClosedBySource w (front (in_order w) j.previous (take k j.entries))
    front_closed i j hj k = record {
      opened = λ g e. or_left (is_opened w g) (covered j.previous (take k j.entries) g) e;
      known = λ g e. elim (cases_Bool (is_opened w g)) [
        | inl o ↦ inl o
        | inr out ↦ elim (or_cases (is_opened w g) (covered j.previous (take k j.entries) g) e) [
          | inl o ↦ inl o
          | inr c ↦ elim (or_cases (set.contains j.previous g) (is_entry (take k j.entries) g) c) [
            | inl p ↦ inl (previous_opened i j g hj p)
            | inr en ↦
                let a = entry_at (take k j.entries) g en in
                let b = taken j.entries k a.0 a.1 a.2 in
                let c = equal_here i j a.0 a.1 hj b.0 (ap (is_opened w) a.3 ∙ out) in
                inr (subst (λ (x : Gtid). IsSome (content w x)) a.3 (some_is (content w a.1.gtid) a.1.txn c))
          ]
        ]
      ];
      earlier = λ g h t u eg eh same less shares e.
          let out : is_opened w h ≡ false = outside h (some_is (content w h) u eh) in
          let cov : (set.contains j.previous h ≡ true) ⊎ (is_entry (take k j.entries) h ≡ true) = elim (or_cases (is_opened w h) (covered j.previous (take k j.entries) h) e) [
            | inl o ↦ not_both (is_opened w h) o out
            | inr c ↦ or_cases (set.contains j.previous h) (is_entry (take k j.entries) h) c
          ] in
          or_right (is_opened w g) (covered j.previous (take k j.entries) g) (elim cov [
            | inl p ↦ not_both (is_opened w h) (previous_opened i j h hj p) out
            | inr en ↦
                let a = entry_at (take k j.entries) h en in
                let b = taken j.entries k a.0 a.1 a.2 in
                let c = equal_here i j a.0 a.1 hj b.0 (ap (is_opened w) a.3 ∙ out) in
                let is_u : u ≡ a.1.txn = same_Some u a.1.txn (sym eh ∙ (ap (content w) (sym a.3) ∙ c)) in
                let d = needed_here i j a.0 a.1 g t hj b.0 (ap (is_opened w) a.3 ∙ out) eg (same ∙ ap (λ (x : Gtid). x.source) (sym a.3)) (subst (λ (x : Gtid). g.number < x.number) (sym a.3) less) (ap (conflicts schema t) (sym is_u) ∙ shares) in
                elim (or_cases (set.contains j.previous g) (is_entry (take a.0 j.entries) g) d) [
                  | inl p ↦ or_left (set.contains j.previous g) (is_entry (take k j.entries) g) p
                  | inr f ↦ or_right (set.contains j.previous g) (is_entry (take k j.entries) g) (earlier_too j.entries a.0 k g (omega arith) f)
                ]
          ]);
    }

    all_faithful : AllByRecursion (IsFaithful w) journals
    all_faithful = all_from (IsFaithful w) journals (λ i j hj. record {
      fronts = to_fronts (in_order w) j (λ k l. (same_closed w _ keys_sound).0 (front_closed i j hj k));
      contents = all_from _ j.entries (λ k e he out. same_content w e.gtid ∙ equal_here i j k e hj he out);
      new = (journal_at i j hj).new;
    })

-- ---- application

fault_none : (e : history.Entry) (r : Result Rows RowFault) (more : Rows → Option (Gtid × RowFault)) → fault_after e r more ≡ None → (rows : Rows) × (r ≡ Ok rows) × (more rows ≡ None)
fault_none e (Ok rows) more h = (rows, refl, h)
fault_none e (Err fault) more h = cc

pub no_fault : (schema : List Table) (es : List history.Entry) (rows : Rows) → first_fault schema es rows ≡ None → IsOk (apply_all schema es rows)
no_fault schema [] rows h = refl
no_fault schema (e ∷ es) rows h =
    let r = fault_none e (apply schema e.1 rows) (first_fault schema es) h in
    subst (λ (x : Result Rows RowFault). IsOk (x >>= apply_all schema es)) (sym r.1) (no_fault schema es r.0 r.2)

nothing_chosen : (p : history.Entry → Bool) (es : List history.Entry) → ((i : ℕ) × (e : history.Entry) × (slice_get es i ≡ Some e) × (p e ≡ true)) ⊎ (filter p es ≡ [])
nothing_chosen p es = elim (cases_Bool (list_any p es)) [ inl t ↦ inl (any_at p es t) | inr f ↦ inr (empty es f) ]
  where
    empty_by : (e : history.Entry) (es : List history.Entry) (b : Bool) → (list_any p es ≡ false → filter p es ≡ []) → (b || list_any p es) ≡ false → cond b (e ∷ filter p es) (filter p es) ≡ []
    empty_by e es true h f = cc
    empty_by e es false h f = h f

    empty : (es : List history.Entry) → list_any p es ≡ false → filter p es ≡ []
    empty [] f = refl
    empty (e ∷ es) f = empty_by e es (p e) (empty es) f

-- where nothing of a source fails, what it committed applies alone
pub alone_from_none : (world : World) (s : ℕ) → ((i : ℕ) (e : history.Entry) → slice_get (finmap.entries world.contents) i ≡ Some e → e.0.source ≡ s → option_map (λ (fault : Gtid × RowFault). DoesNotApply fault.0 fault.1) (first_fault world.schema (entries_in world (of_source e.0.source)) world.opening_rows) ≡ None) → IsOk (rows_of world (of_source s))
alone_from_none world s none = elim (nothing_chosen (λ e. of_source s e.0) (finmap.entries world.contents)) [
  | inl r ↦
      let is_s : r.1.0.source ≡ s = sym (eqb-true s r.1.0.source r.3) in
      let f = none_mapped (λ (fault : Gtid × RowFault). DoesNotApply fault.0 fault.1) (first_fault world.schema (entries_in world (of_source r.1.0.source)) world.opening_rows) (none r.0 r.1 r.2 is_s) in
      subst (λ (x : ℕ). IsOk (rows_of world (of_source x))) is_s (no_fault world.schema (entries_in world (of_source r.1.0.source)) world.opening_rows f)
  | inr empty ↦ subst (λ (es : List history.Entry). IsOk (apply_all world.schema es world.opening_rows)) (sym empty) refl
]

pub alone_here : (world : World) → does_not_apply world ≡ None → (s : ℕ) → IsOk (rows_of world (of_source s))
alone_here world none s = alone_from_none world s (λ i e h is. first_none _ (finmap.entries world.contents) none i e h)

pub keys_sound_mean : KeysSoundMeans
keys_sound_mean schema opened rows journals are e =
    let n = nothing schema opened rows journals are (none_of_sound (found_in_keys (world_of schema opened rows journals) journals) (keys_not (world_of schema opened rows journals) journals) e) in
    (keys_sound schema opened rows journals are n, all_faithful schema opened rows journals are n)

pub sound_means_sound : SoundMeansSound
sound_means_sound schema opened rows journals are e =
    let w = world_of schema opened rows journals in
    let none = next_none (found_in_keys w journals) (does_not_apply w) (none_of_sound (or_next (found_in_keys w journals) (does_not_apply w)) (next_not (found_in_keys w journals) (does_not_apply w) (keys_not w journals) (applies_not w)) e) in
    let n = nothing schema opened rows journals are none.0 in
    let keys = keys_sound schema opened rows journals are n in
    (record { keys = keys; alone = alone_here w none.1 }, by_source w keys journals (all_faithful schema opened rows journals are n))
  where
    by_source : (w : World) → AreKeysSound w → (js : List JournalValue) → AllByRecursion (IsFaithful w) js → AllByRecursion (IsFaithfulBySource w) js
    by_source w keys [] f = tt
    by_source w keys (j ∷ js) f = ((same_faithful w j keys).1 f.0, by_source w keys js f.1)
