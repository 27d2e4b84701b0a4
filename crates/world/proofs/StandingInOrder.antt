-- Each verdict of an audit in one order names a fault that is there.
use Rattle.std.proofs.Common.{◌≡◌, inl, inr, List, Option, Some, None, refl, sym, subst}
use Rattle.std.specs.Prelude.{not}
use Rattle.std.specs.List.{AllByRecursion}
use Rattle.std.specs.Option.{unwrap_or}
use Rattle.std.specs.FinSet as set
use Rattle.lemmas.proofs.Options.{map_some}
use Rattle.gtid_text.specs.declared.Gtid.{Gtid}
use Rattle.rows.specs.declared.change.RowFault.{RowFault}
use Rattle.journal.specs.Journals.{JournalValue}
use Rattle.history.specs.Sources as source
use Rattle.world.specs.declared.verdict.Verdict.{Verdict}
use Rattle.world.specs.declared.verdict.Verdict.TheVariants.{Unequal, Purged, Missing, Shared, Reordered, NotClosed, Concurrent, DoesNotApply, Sound}
use Rattle.world.specs.Search.{or_next}
use Rattle.world.specs.Audit.{is_unequal, unequal, purged, is_absent, present, below, missing, first_fault}
use Rattle.world.specs.Audit as sources
use Rattle.world.specs.Meaning.{AreJournals}
use Rattle.world.proofs.Finding.{next_some, when_some, first_some}
use Rattle.world.proofs.Standing.{unequal_stands, purged_stands, missing_stands}
use Rattle.history.specs.Histories.{order_of}
use Rattle.history.specs.HistoryLaws as laws
use Rattle.history.proofs.Joining.{among_all}
use Rattle.history.proofs.Chains.{order_distinct}
use Rattle.world.specs.Bundles.{histories_of}
use Rattle.world.specs.AuditInOrder.{conflict, fails_in_order, found_in_keys_in_order}
use Rattle.world.specs.CasesInOrder.{NamesFaultInOrder, VerdictsNameFaultsInOrder}
use Rattle.world.proofs.Histories.{all_new, one_content}
use Rattle.world.proofs.Naming.{Says, conflict_stands, fault_stands_in_order}

module _ (world : source.World) (journals : List JournalValue) where
  unequal_here : (v : Verdict) → unequal world journals ≡ Some v → NamesFaultInOrder world journals v
  unequal_here v f =
      let a = first_some _ journals v f in
      let b = first_some _ a.element.entries v a.gives in
      let c = when_some (is_unequal world b.element) (Unequal b.element.gtid) v b.gives in
      subst (NamesFaultInOrder world journals) c.1 (unequal_stands world journals (Unequal b.element.gtid) (subst (λ (w : Verdict). unequal world journals ≡ Some w) (sym c.1) f))

  purged_here : (v : Verdict) → purged world journals ≡ Some v → NamesFaultInOrder world journals v
  purged_here v f =
      let a = first_some _ journals v f in
      let gone = set.difference a.element.previous world.opening_set in
      let c = when_some (not (set.is_subset a.element.previous world.opening_set)) (Purged a.place gone) v a.gives in
      subst (NamesFaultInOrder world journals) c.1 (purged_stands world journals (Purged a.place gone) (subst (λ (w : Verdict). purged world journals ≡ Some w) (sym c.1) f))

  missing_here : (v : Verdict) → missing world journals ≡ Some v → NamesFaultInOrder world journals v
  missing_here v f =
      let a = first_some _ (present world journals) v f in
      let b = first_some _ (below a.element.0) v a.gives in
      let c = when_some (is_absent world journals b.element) (Missing b.element) v b.gives in
      subst (NamesFaultInOrder world journals) c.1 (missing_stands world journals (Missing b.element) (subst (λ (w : Verdict). missing world journals ≡ Some w) (sym c.1) f))

  applies_here : (v : Verdict) → fails_in_order world journals ≡ Some v → NamesFaultInOrder world journals v
  applies_here v f =
      let order = order_of (histories_of world.opening_set journals) in
      let r = map_some (λ (fault : Gtid × RowFault). DoesNotApply fault.0 fault.1) (first_fault world.schema order world.opening_rows) v f in
      subst (NamesFaultInOrder world journals) r.2 (fault_stands_in_order world.schema order world.opening_rows r.0 r.1)

  module _ (are : AreJournals journals) where
    said : (hs_equal : unequal world journals ≡ None) (v : Verdict) → conflict world.schema (histories_of world.opening_set journals) ≡ Some v → NamesFaultInOrder world journals v
    said equal v f =
        let hs = histories_of world.opening_set journals in
        let new : AllByRecursion (laws.AreNew world.opening_set) hs = all_new world.opening_set journals are in
        as_said v (conflict_stands world.schema hs (order_distinct world.opening_set hs new) (one_content world journals equal) (λ h k. (among_all (laws.AreNew world.opening_set) hs new h k).0) v f)
      where
        as_said : (v : Verdict) → Says world.schema (histories_of world.opening_set journals) (order_distinct world.opening_set (histories_of world.opening_set journals) (all_new world.opening_set journals are)) (one_content world journals equal) (λ h k. (among_all (laws.AreNew world.opening_set) (histories_of world.opening_set journals) (all_new world.opening_set journals are) h k).0) v → NamesFaultInOrder world journals v
        as_said (Unequal g) s = absurd s
        as_said (Purged i gs) s = absurd s
        as_said (Missing g) s = absurd s
        as_said (Shared g h key) s = absurd s
        as_said (Reordered g h key) s = s
        as_said (NotClosed g h) s = s
        as_said (Concurrent g h key) s = s
        as_said (DoesNotApply g fault) s = absurd s
        as_said Sound s = absurd s

    keys_here : (v : Verdict) → found_in_keys_in_order world journals ≡ Some v → NamesFaultInOrder world journals v
    keys_here v f = elim (next_some (unequal world journals) _ v f) [
      | inl x ↦ unequal_here v x
      | inr y ↦ elim (next_some (purged world journals) _ v y.1) [
        | inl x ↦ purged_here v x
        | inr z ↦ elim (next_some (missing world journals) _ v z.1) [
          | inl x ↦ missing_here v x
          | inr c ↦ said y.0 v c.1
        ]
      ]
    ]

    all_here : (v : Verdict) → or_next (found_in_keys_in_order world journals) (fails_in_order world journals) ≡ Some v → NamesFaultInOrder world journals v
    all_here v f = elim (next_some (found_in_keys_in_order world journals) (fails_in_order world journals) v f) [ inl x ↦ keys_here v x | inr y ↦ applies_here v y.1 ]

stands_by : (world : source.World) (journals : List JournalValue) (o : Option Verdict) → ((v : Verdict) → o ≡ Some v → NamesFaultInOrder world journals v) → NamesFaultInOrder world journals (unwrap_or o Sound)
stands_by world journals None h = tt
stands_by world journals (Some v) h = h v refl

pub verdicts_stand_in_order : VerdictsNameFaultsInOrder
verdicts_stand_in_order schema opened rows journals are =
    let w = sources.world_of schema opened rows journals in
    stands_by w journals (or_next (found_in_keys_in_order w journals) (fails_in_order w journals)) (all_here w journals are)
