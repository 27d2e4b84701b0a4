-- Each verdict names a fault that is there.
use Rattle.std.proofs.Common.{◌≡◌, ℕ, ◌-◌, false, not, ◌&&◌, inl, inr, List, [], ◌∷◌, ◌++◌, take, Option, Some, None, Result, Ok, Err, refl, ap, ◌∙◌, subst, arith}
use Rattle.std.specs.Prelude.{nat_lt, ◌==◌}
use Rattle.std.specs.List.{range_with_len}
use Rattle.std.specs.Option.{option_map_or, unwrap_or}
use Rattle.std.specs.FinMap as finmap
use Rattle.std.specs.FinSet as set
use Rattle.std.proofs.lemmas.Bool.{eqb-true, and_parts, not-true}
use Rattle.rows.specs.declared.change.Transaction.{Transaction}
use Rattle.rows.specs.declared.change.RowFault.{RowFault}
use Rattle.rows.specs.declared.schema.Table.{Table}
use Rattle.rows.specs.Apply.{Rows, apply, ◌>>=◌}
use Rattle.rows.specs.WriteSet.{write_set}
use Rattle.rows.specs.Conflicts.{conflicts, conflicts_at}
use Rattle.gtid_text.specs.declared.Gtid.{Gtid}
use Rattle.journal.specs.Journals.{JournalValue}
use Rattle.history.specs.Sources.{World, content, is_opened, of_source, entries_in, apply_all}
use Rattle.history.specs.Sources as history
use Rattle.history.proofs.Covering.{is_entry, covered}
use Rattle.world.specs.declared.verdict.Verdict.{Verdict}
use Rattle.world.specs.declared.verdict.Verdict.TheVariants.{Unequal, Purged, Missing, Shared, NotClosed, DoesNotApply, Sound}
use Rattle.world.specs.Search.{or_next}
use Rattle.world.specs.Equal.{txn_eq}
use Rattle.world.specs.Audit.{all_entries, world_of, is_content, is_unequal, unequal, purged, present, is_absent, below, missing, shared, is_left_out, not_closed, fault_after, first_fault, does_not_apply, found_in_keys}
use Rattle.world.specs.Cases.{NamesFault, VerdictsNameFaults}
use Rattle.world.proofs.Finding.{next_some, when_some, first_some}
use Rattle.world.proofs.Same.{txn_self}
use Rattle.world.proofs.Contents.{at_content, contents_outside, contents_entry}
use Rattle.std.proofs.lemmas.Option.{same_Some}
use Rattle.lemmas.proofs.Numbers.{lt_of_test}
use Rattle.lemmas.proofs.Options.{none_some, map_some}
use Rattle.lemmas.proofs.Tests.{not_both}
use Rattle.lemmas.proofs.Lists.{range_above, get_map_cases}

module _ (world : World) (journals : List JournalValue) where
  pub unequal_stands : (v : Verdict) → unequal world journals ≡ Some v → NamesFault world journals v
  unequal_stands v f =
      let a = first_some _ journals v f in
      let b = first_some _ a.element.entries v a.gives in
      let c = when_some (is_unequal world b.element) (Unequal b.element.gtid) v b.gives in
      let p = and_parts (not (is_opened world b.element.gtid)) (not (is_content world b.element)) c.0 in
      subst (NamesFault world journals) c.1 (record {
        entry = b.element;
        there = record { number = a.place; journal = a.element; place = b.place; listed = a.there; there = b.there };
        named = refl;
        new = not-true (is_opened world b.element.gtid) p.0;
        differs = λ e. not_both (is_content world b.element) (ap (λ o. option_map_or (txn_eq b.element.txn) o false) e ∙ txn_self b.element.txn) (not-true (is_content world b.element) p.1);
      })

  pub purged_stands : (v : Verdict) → purged world journals ≡ Some v → NamesFault world journals v
  purged_stands v f =
      let a = first_some _ journals v f in
      let c = when_some (not (set.is_subset a.element.previous world.opening_set)) (Purged a.place (set.difference a.element.previous world.opening_set)) v a.gives in
      subst (NamesFault world journals) c.1 (record { journal = a.element; there = a.there; named = refl; more = not-true (set.is_subset a.element.previous world.opening_set) c.0 })

  pub missing_stands : (v : Verdict) → missing world journals ≡ Some v → NamesFault world journals v
  missing_stands v f =
      let a = first_some _ (present world journals) v f in
      let there = at_content (world_of world.schema world.opening_set world.opening_rows journals) a.place a.element a.there in
      let b = first_some _ (below a.element.0) v a.gives in
      let h = b.element in
      let c = when_some (is_absent world journals h) (Missing h) v b.gives in
      let p = and_parts (not (is_opened world h)) (not (is_entry (all_entries journals) h)) c.0 in
      let r = get_map_cases (λ (n : ℕ). record { source = a.element.0.source; number = n }) (range_with_len 1 (a.element.0.number - 1)) b.place h b.there in
      let q = range_above 1 (a.element.0.number - 1) b.place r.0 r.1 in
      let is_number : r.0 ≡ h.number = ap (λ (x : Gtid). x.number) r.2 in
      subst (NamesFault world journals) c.1 (record {
        new = not-true (is_opened world h) p.0;
        absent = not-true (is_entry (all_entries journals) h) p.1;
        positive = omega arith;
        greater = a.element.0;
        beyond = contents_outside world.opening_set (all_entries journals) a.element.0 a.element.1 there;
        there = contents_entry world.opening_set (all_entries journals) a.element.0 a.element.1 there;
        same = ap (λ (x : Gtid). x.source) r.2;
        below = omega arith;
      })

  shared_stands : (v : Verdict) → shared world ≡ Some v → NamesFault world journals v
  shared_stands v f =
      let a = first_some _ (finmap.entries world.contents) v f in
      let b = first_some _ (write_set world.schema a.element.1) v a.gives in
      let g = first_some _ (finmap.entries world.contents) v b.gives in
      let c = when_some (nat_lt g.element.0.source a.element.0.source && conflicts_at world.schema g.element.1 a.element.1 b.element) (Shared g.element.0 a.element.0 b.element) v g.gives in
      let p = and_parts (nat_lt g.element.0.source a.element.0.source) (conflicts_at world.schema g.element.1 a.element.1 b.element) c.0 in
      subst (NamesFault world journals) c.1 (record {
        t = g.element.1;
        u = a.element.1;
        first = at_content world g.place g.element g.there;
        second = at_content world a.place a.element a.there;
        smaller = lt_of_test g.element.0.source a.element.0.source p.0;
        conflict = p.1;
      })

  closed_stands : (v : Verdict) → not_closed world journals ≡ Some v → NamesFault world journals v
  closed_stands v f =
      let a = first_some _ journals v f in
      let b = first_some _ a.element.entries v a.gives in
      let g = first_some _ (finmap.entries world.contents) v b.gives in
      let c = when_some (is_left_out world a.element b.place b.element g.element) (NotClosed b.element.gtid g.element.0) v g.gives in
      let p = and_parts (not (is_opened world b.element.gtid)) _ c.0 in
      let q = and_parts (g.element.0.source == b.element.gtid.source) _ p.1 in
      let r = and_parts (nat_lt g.element.0.number b.element.gtid.number) _ q.1 in
      let s = and_parts (conflicts world.schema g.element.1 b.element.txn) (not (covered a.element.previous (take b.place a.element.entries) g.element.0)) r.1 in
      subst (NamesFault world journals) c.1 (record {
        entry = b.element;
        there = record { number = a.place; journal = a.element; place = b.place; listed = a.there; there = b.there };
        named = refl;
        u = g.element.1;
        content = at_content world g.place g.element g.there;
        source = eqb-true g.element.0.source b.element.gtid.source q.0;
        smaller = lt_of_test g.element.0.number b.element.gtid.number r.0;
        shares = s.0;
        left_out = not-true (covered a.element.previous (take b.place a.element.entries) g.element.0) s.1;
      })

pub record FailsIn (schema : List Table) (es : List history.Entry) (rows : Rows) (g : Gtid) (fault : RowFault) : Type 0 where
  pub before : List history.Entry
  pub later : List history.Entry
  pub t : Transaction
  pub reached_rows : Rows
  pub parts : es ≡ before ++ (g, t) ∷ later
  pub reached : apply_all schema before rows ≡ Ok reached_rows
  pub refused : apply schema t reached_rows ≡ Err fault

fault_some : (schema : List Table) (e : history.Entry) (es : List history.Entry) (rows : Rows) (f : Gtid × RowFault) (r : Result Rows RowFault) → apply schema e.1 rows ≡ r → ((new : Rows) → first_fault schema es new ≡ Some f → FailsIn schema es new f.0 f.1) → fault_after e r (first_fault schema es) ≡ Some f → FailsIn schema (e ∷ es) rows f.0 f.1
fault_some schema e es rows f (Ok new) a h g =
    let r = h new g in
    record { before = e ∷ r.before; later = r.later; t = r.t; reached_rows = r.reached_rows; parts = ap (λ (xs : List history.Entry). e ∷ xs) r.parts; reached = ap (λ x. x >>= apply_all schema r.before) a ∙ r.reached; refused = r.refused }
fault_some schema e es rows f (Err fault) a h g =
    let same : (e.0, fault) ≡ f = same_Some (e.0, fault) f g in
    subst (λ (x : Gtid × RowFault). FailsIn schema (e ∷ es) rows x.0 x.1) same (record { before = []; later = es; t = e.1; reached_rows = rows; parts = refl; reached = refl; refused = a })

pub fails_in : (schema : List Table) (es : List history.Entry) (rows : Rows) (f : Gtid × RowFault) → first_fault schema es rows ≡ Some f → FailsIn schema es rows f.0 f.1
fails_in schema [] rows f h = none_some f h
fails_in schema (e ∷ es) rows f h = fault_some schema e es rows f (apply schema e.1 rows) refl (λ new g. fails_in schema es new f g) h

applies_stands : (world : World) (journals : List JournalValue) (v : Verdict) → does_not_apply world ≡ Some v → NamesFault world journals v
applies_stands world journals v f =
    let a = first_some _ (finmap.entries world.contents) v f in
    let r = map_some (λ (fault : Gtid × RowFault). DoesNotApply fault.0 fault.1) (first_fault world.schema (entries_in world (of_source a.element.0.source)) world.opening_rows) v a.gives in
    let x = fails_in world.schema (entries_in world (of_source a.element.0.source)) world.opening_rows r.0 r.1 in
    subst (NamesFault world journals) r.2 (record { before = x.before; later = x.later; t = x.t; rows = x.reached_rows; source = a.element.0.source; parts = x.parts; reached = x.reached; refused = x.refused })

stands_by : (world : World) (journals : List JournalValue) (o : Option Verdict) → ((v : Verdict) → o ≡ Some v → NamesFault world journals v) → NamesFault world journals (unwrap_or o Sound)
stands_by world journals None h = tt
stands_by world journals (Some v) h = h v refl

either : (world : World) (journals : List JournalValue) (o p : Option Verdict) → ((v : Verdict) → o ≡ Some v → NamesFault world journals v) → ((v : Verdict) → p ≡ Some v → NamesFault world journals v) → (v : Verdict) → or_next o p ≡ Some v → NamesFault world journals v
either world journals o p h g v e = elim (next_some o p v e) [ inl x ↦ h v x | inr y ↦ g v y.1 ]

pub verdicts_stand : VerdictsNameFaults
verdicts_stand world journals =
    stands_by world journals (or_next (found_in_keys world journals) (does_not_apply world))
    (either world journals (found_in_keys world journals) (does_not_apply world)
    (either world journals (unequal world journals) _ (unequal_stands world journals)
    (either world journals (purged world journals) _ (purged_stands world journals)
    (either world journals (missing world journals) _ (missing_stands world journals)
    (either world journals (shared world) (not_closed world journals) (shared_stands world journals) (closed_stands world journals)))))
    (applies_stands world journals))
