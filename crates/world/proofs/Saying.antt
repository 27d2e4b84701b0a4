-- In a sound world with faithful journals nothing is found.
use Rattle.std.proofs.Common.{◌≡◌, ◌≢◌, ℕ, suc, ◌<◌, ◌-◌, true, false, not, ◌&&◌, inl, inr, List, [], ◌∷◌, take, length, Some, None, refl, sym, ap, ◌∙◌, subst, arith}
use Rattle.std.specs.Prelude.{slice_get, IsSome, IsOk, nat_lt, ◌==◌}
use Rattle.std.specs.List.{range_with_len, AllByRecursion}
use Rattle.std.specs.Option.{option_map, option_map_or, unwrap_or}
use Rattle.std.specs.FinMap as finmap
use Rattle.std.specs.FinSet as set
use Rattle.std.proofs.lemmas.Bool.{eqb-true, or_cases, or_left, or_right, and_parts, not-true, false_from_ne_true, not_from_true}
use Rattle.rows.specs.declared.change.RowFault.{RowFault}
use Rattle.rows.specs.declared.schema.Table.{Table}
use Rattle.rows.specs.Apply.{Rows, apply}
use Rattle.rows.specs.WriteSet.{write_set}
use Rattle.rows.specs.Conflicts.{conflicts, conflicts_at, key_is_conflict, conflicts_both_ways}
use Rattle.rows.proofs.Local.{bind_ok}
use Rattle.gtid_text.specs.declared.Gtid.{Gtid}
use Rattle.gtid_set.specs.Sets.{Gtids}
use Rattle.journal.specs.declared.Entry.{Entry}
use Rattle.journal.specs.Journals.{JournalValue}
use Rattle.history.specs.Sources.{World, content, is_opened, of_source, entries_in, apply_all, rows_of, AreKeysSound, in_order}
use Rattle.history.specs.SourceJournals.{IsFaithful}
use Rattle.history.proofs.Covering.{is_entry, covered, front, fronts_of}
use Rattle.history.proofs.Same.{same_content, same_closed}
use Rattle.history.specs.Sources as history
use Rattle.history.specs.World as ordered
use Rattle.world.specs.declared.verdict.Verdict.TheVariants.{Unequal, Purged, Missing, Shared, NotClosed, DoesNotApply, Sound}
use Rattle.world.specs.Equal.{txn_eq}
use Rattle.world.specs.Audit.{all_entries, world_of, is_content, is_unequal, unequal, purged, present, is_absent, below, missing, shared, is_left_out, not_closed, fault_after, first_fault, does_not_apply, found_in_keys}
use Rattle.world.specs.Meaning.{FaithfulIsSound}
use Rattle.world.proofs.Finding.{none_next, none_when, none_first}
use Rattle.world.proofs.Same.{txn_self}
use Rattle.world.proofs.Contents.{entry_at, entry_from, at_content, some_of, contents_entry}
use Rattle.std.proofs.lemmas.Option.{same_Some, slice_get_within}
use Rattle.lemmas.proofs.Numbers.{lt_of_test}
use Rattle.lemmas.proofs.Tests.{not_both}
use Rattle.lemmas.proofs.Lists.{get_take, all_at, taken, range_above, get_map_cases}
use Rattle.history.proofs.Entries.{some_is}
use Rattle.history.proofs.Closing.{is_ok_of}
use Rattle.history.proofs.Merging.{got}

module _ (schema : List Table) (opened : Gtids) (rows : Rows) (journals : List JournalValue) where
  abbrev w : World
  w = world_of schema opened rows journals

  module _ (sound : AreKeysSound w) (faithful : AllByRecursion (IsFaithful w) journals) (within : AllByRecursion (λ j. set.is_subset j.previous opened ≡ true) journals) where
    unequal_none : unequal w journals ≡ None
    unequal_none = none_first _ journals (λ i j hj. none_first _ j.entries (λ k e he. none_when (is_unequal w e) (Unequal e.gtid) (false_from_ne_true (is_unequal w e) (λ t.
        let p = and_parts (not (is_opened w e.gtid)) (not (is_content w e)) t in
        let c = sym (same_content w e.gtid) ∙ all_at (λ (x : Entry). is_opened w x.gtid ≡ false → ordered.content (in_order w) x.gtid ≡ Some x.txn) j.entries k e (all_at (IsFaithful w) journals i j faithful hj).contents he (not-true (is_opened w e.gtid) p.0) in
        not_both (is_content w e) (ap (λ o. option_map_or (txn_eq e.txn) o false) c ∙ txn_self e.txn) (not-true (is_content w e) p.1)))))

    purged_none : purged w journals ≡ None
    purged_none = none_first _ journals (λ i j hj. none_when (not (set.is_subset j.previous opened)) (Purged i (set.difference j.previous opened)) (not_from_true (set.is_subset j.previous opened) (all_at (λ (x : JournalValue). set.is_subset x.previous opened ≡ true) journals i j within hj)))

    -- what is present has a content
    present_content : (i : ℕ) (g : history.Entry) → slice_get (present w journals) i ≡ Some g → IsSome (content w g.0)
    present_content i g h = some_is (content w g.0) g.1 (at_content w i g h)

    missing_none : missing w journals ≡ None
    missing_none = none_first _ (present w journals) (λ i g hg. none_first _ (below g.0) (λ k h hh. none_when (is_absent w journals h) (Missing h) (false_from_ne_true (is_absent w journals h) (λ t.
        let p = and_parts (not (is_opened w h)) (not (is_entry (all_entries journals) h)) t in
        let r = get_map_cases (λ (n : ℕ). record { source = g.0.source; number = n }) (range_with_len 1 (g.0.number - 1)) k h hh in
        let b = range_above 1 (g.0.number - 1) k r.0 r.1 in
        let low : Gtid = record { source = g.0.source; number = r.0 } in
        let is_h : low ≡ h = r.2 in
        elim (sound.without_gap g.0 r.0 (omega arith) (omega arith) (present_content i g hg)) [
          | inl o ↦ not_both (is_opened w h) (ap (is_opened w) (sym is_h) ∙ o) (not-true (is_opened w h) p.0)
          | inr c ↦
              let u = some_of (content w low) c in
              not_both (is_entry (all_entries journals) h) (ap (is_entry (all_entries journals)) (sym is_h) ∙ contents_entry opened (all_entries journals) low u.0 u.1) (not-true (is_entry (all_entries journals) h) p.1)
        ]))))

    shared_none : shared w ≡ None
    shared_none = none_first _ (finmap.entries w.contents) (λ i h hh. none_first _ (write_set schema h.1) (λ k key hk. none_first _ (finmap.entries w.contents) (λ l g hg.
        none_when (nat_lt g.0.source h.0.source && conflicts_at schema g.1 h.1 key) (Shared g.0 h.0 key) (false_from_ne_true (nat_lt g.0.source h.0.source && conflicts_at schema g.1 h.1 key) (λ t.
        let p = and_parts (nat_lt g.0.source h.0.source) (conflicts_at schema g.1 h.1 key) t in
        let less = lt_of_test g.0.source h.0.source p.0 in
        not_both (conflicts schema h.1 g.1) (conflicts_both_ways schema h.1 g.1 ∙ key_is_conflict schema g.1 h.1 key p.1)
        (sound.apart h.0 g.0 h.1 g.1 (at_content w i h hh) (at_content w l g hg) (λ same. omega arith)))))))

    closed_none : not_closed w journals ≡ None
    closed_none = none_first _ journals (λ i j hj. none_first _ j.entries (λ k e he. none_first _ (finmap.entries w.contents) (λ l h hh.
        none_when (is_left_out w j k e h) (NotClosed e.gtid h.0) (false_from_ne_true (is_left_out w j k e h) (λ t.
        let a = and_parts (not (is_opened w e.gtid)) _ t in
        let b = and_parts (h.0.source == e.gtid.source) _ a.1 in
        let c = and_parts (nat_lt h.0.number e.gtid.number) _ b.1 in
        let d = and_parts (conflicts schema h.1 e.txn) (not (covered j.previous (take k j.entries) h.0)) c.1 in
        let less = lt_of_test h.0.number e.gtid.number c.0 in
        let f = all_at (IsFaithful w) journals i j faithful hj in
        let len : k < length j.entries = slice_get_within j.entries k e he in
        let ce = sym (same_content w e.gtid) ∙ all_at (λ (x : Entry). is_opened w x.gtid ≡ false → ordered.content (in_order w) x.gtid ≡ Some x.txn) j.entries k e f.contents he (not-true (is_opened w e.gtid) a.0) in
        let next = take (suc k) j.entries in
        let here = entry_from next k e (get_take j.entries (suc k) k e he (omega arith)) in
        let with_e : front (in_order w) j.previous next e.gtid ≡ true = or_right (is_opened w e.gtid) (covered j.previous next e.gtid) (or_right (set.contains j.previous e.gtid) (is_entry next e.gtid) here) in
        let with_h = ((same_closed w _ sound).1 (fronts_of (in_order w) j f (suc k) (omega arith))).earlier h.0 e.gtid h.1 e.txn (at_content w l h hh) ce (eqb-true h.0.source e.gtid.source b.0) less d.0 with_e in
        let out = sound.outside h.0 (some_is (content w h.0) h.1 (at_content w l h hh)) in
        not_both (covered j.previous (take k j.entries) h.0) (elim (or_cases (is_opened w h.0) (covered j.previous next h.0) with_h) [
          | inl o ↦ not_both (is_opened w h.0) o out
          | inr cov ↦ elim (or_cases (set.contains j.previous h.0) (is_entry next h.0) cov) [
            | inl p ↦ or_left (set.contains j.previous h.0) (is_entry (take k j.entries) h.0) p
            | inr en ↦
                let x = entry_at next h.0 en in
                let y = taken j.entries (suc k) x.0 x.1 x.2 in
                or_right (set.contains j.previous h.0) (is_entry (take k j.entries) h.0) (subst (λ (z : Gtid). is_entry (take k j.entries) z ≡ true) x.3 (entry_from (take k j.entries) x.0 x.1 (get_take j.entries k x.0 x.1 y.0 (before x.0 k y.1 (λ same. other e x.1 h.0 less x.3 (same_Some e x.1 (sym he ∙ (ap (slice_get j.entries) (sym same) ∙ y.0))))))))
          ]
        ]) (not-true (covered j.previous (take k j.entries) h.0) d.1))))))
      where
        before : (a b : ℕ) → a < suc b → (a ≢ b) → a < b
        before a b l n = grind arith

        other : (e x : Entry) (h : Gtid) → h.number < e.gtid.number → x.gtid ≡ h → e ≡ x → ⊥
        other e x h l is same = let n : e.gtid.number ≡ h.number = ap (λ (y : Entry). y.gtid.number) same ∙ ap (λ (y : Gtid). y.number) is in omega arith

    pub keys_said : found_in_keys w journals ≡ None
    keys_said = none_next (unequal w journals) _ unequal_none (none_next (purged w journals) _ purged_none (none_next (missing w journals) _ missing_none (none_next (shared w) (not_closed w journals) shared_none closed_none)))

pub fault_free : (schema : List Table) (es : List history.Entry) (rows : Rows) → IsOk (apply_all schema es rows) → first_fault schema es rows ≡ None
fault_free schema [] rows h = refl
fault_free schema (e ∷ es) rows h =
    let end = got (apply_all schema (e ∷ es) rows) h in
    let r = bind_ok (apply schema e.1 rows) (apply_all schema es) end.0 end.1 in
    ap (λ x. fault_after e x (first_fault schema es)) r.1 ∙ fault_free schema es r.0 (is_ok_of (apply_all schema es r.0) end.0 r.2)

pub applies_none : (world : World) → ((s : ℕ) → IsOk (rows_of world (of_source s))) → does_not_apply world ≡ None
applies_none world alone = none_first _ (finmap.entries world.contents) (λ i e h.
    ap (option_map (λ (fault : Gtid × RowFault). DoesNotApply fault.0 fault.1)) (fault_free world.schema (entries_in world (of_source e.0.source)) world.opening_rows (alone e.0.source)))

pub sound_is_said : FaithfulIsSound
sound_is_said schema opened rows journals sound faithful within =
    ap (λ o. unwrap_or o Sound) (none_next (found_in_keys (world_of schema opened rows journals) journals) (does_not_apply (world_of schema opened rows journals))
    (keys_said schema opened rows journals sound.keys faithful within) (applies_none (world_of schema opened rows journals) sound.alone))
