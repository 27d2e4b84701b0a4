-- A run that was served all journals of a bundle, and the verdict of its audit in one order.
use Rattle.std.proofs.Common.{◌≡◌, ℕ, zero, suc, true, ◌⊎◌, inl, inr, List, [], ◌∷◌, ◌++◌, Option, Some, None, Result, Ok, Err, refl, sym, ap, ◌∙◌, subst}
use Rattle.std.specs.Prelude.{IsOk, IsSome, slice_get}
use Rattle.std.specs.Option.{option_map, unwrap_or}
use Rattle.std.specs.FinSet as set
use Rattle.std.proofs.lemmas.Bool.{or_right, or_left}
use Rattle.gtid_text.specs.declared.Gtid.{Gtid}
use Rattle.gtid_set.specs.Sets.{Gtids}
use Rattle.rows.specs.declared.schema.Table.{Table}
use Rattle.rows.specs.declared.change.RowFault.{RowFault}
use Rattle.rows.specs.declared.change.Transaction.{Transaction}
use Rattle.rows.specs.Apply.{Rows, apply, ◌>>=◌}
use Rattle.journal.specs.declared.Entry as journal
use Rattle.journal.specs.Journals.{JournalValue}
use Rattle.history.specs.World.{Entry, IsIn, find, apply_all}
use Rattle.history.proofs.Entries.{is_in_of}
use Rattle.history.proofs.Covering.{is_entry, in_whole}
use Rattle.convergence.specs.Deciding.{AreJournalsOf, IsRecorded}
use Rattle.convergence.proofs.Deciding.{served_runs_decide, served_runs_hold_all}
use Rattle.history.specs.Histories.{History, IsAmong, order_of, join_histories, beyond}
use Rattle.history.proofs.Lists.{in_either}
use Rattle.history.proofs.Joining.{in_beyond}
use Rattle.history.specs.Sources as sources
use Rattle.world.specs.declared.verdict.Verdict.TheVariants.{Sound, DoesNotApply}
use Rattle.world.specs.Audit.{world_of, first_fault, fault_after}
use Rattle.world.specs.Meaning.{AreJournals}
use Rattle.world.proofs.Finding.{none_next}
use Rattle.world.proofs.Meanings.{none_of_sound}
use Rattle.world.specs.Bundles.{histories_of}
use Rattle.world.specs.AuditInOrder.{fails_in_order, found_in_keys_in_order, verdict_of_keys_in_order, verdict_in_order}
use Rattle.world.specs.MeaningInOrder.{joined_world}
use Rattle.world.proofs.Histories.{entry_behind, journal_behind}
use Rattle.world.proofs.Sounding.{keys_not, keys_in_order_mean, sound_in_order_means}
use Rattle.std.proofs.lemmas.Option.{same_Some}
use Rattle.lemmas.proofs.SameGtid.{same_itself}
use Rattle.gtid_text.specs.Gtids.{same_gtid}
use Rattle.convergence.specs.AuditingInOrder.{WorkersDecideInOrder, ServedHoldsAllInOrder}

-- ---- what is in the joined world is in a journal

joined_from : (es : List Entry) (hs : List History) (e : Entry) → IsIn e (join_histories es hs) → IsIn e es ⊎ ((h : History) × IsAmong h hs × IsIn e h)
joined_from es [] e i = inl i
joined_from es (h ∷ hs) e i = elim (joined_from (es ++ beyond es h) hs e i) [
  | inl before ↦ elim (in_either es (beyond es h) e before) [
    | inl was ↦ inl was
    | inr more ↦ inr (h, inl refl, (in_beyond es h e more).0)
  ]
  | inr later ↦ inr (later.0, inr later.1, later.2)
]

entry_stands : (es : List journal.Entry) (i : ℕ) (e : journal.Entry) → slice_get es i ≡ Some e → is_entry es e.gtid ≡ true
entry_stands [] i e h = cc
entry_stands (x ∷ es) zero e h = or_left (same_gtid e.gtid x.gtid) (is_entry es e.gtid) (ap (λ (y : journal.Entry). same_gtid e.gtid y.gtid) (same_Some x e h) ∙ same_itself e.gtid)
entry_stands (x ∷ es) (suc i) e h = or_right (same_gtid e.gtid x.gtid) (is_entry es e.gtid) (entry_stands es i e h)

recorded_by : (opened : Gtids) (journals : List JournalValue) (e : Entry) (h : History) → IsAmong h (histories_of opened journals) → IsIn e h → IsRecorded journals e.0
recorded_by opened journals e h k i =
    let a = journal_behind opened journals h k in
    let r = entry_behind opened a.1.entries e (subst (IsIn e) (sym a.3) i) in
    let named : r.entry.gtid ≡ e.0 = ap (λ (y : Entry). y.0) r.same in
    record {
      number = a.0;
      journal = a.1;
      listed = a.2;
      recorded = in_whole a.1 e.0 ∙ or_right (set.contains a.1.previous e.0) (is_entry a.1.entries e.0) (ap (is_entry a.1.entries) (sym named) ∙ entry_stands a.1.entries r.place r.entry r.there);
    }

some_there : (o : Option Transaction) → IsSome o → (t : Transaction) × (o ≡ Some t)
some_there (Some t) h = (t, refl)
some_there None h = cc

-- ---- where the list applies, nothing fails

fault_ok : (e : Entry) (r : Result Rows RowFault) (f : Rows → Result Rows RowFault) (more : Rows → Option (Gtid × RowFault)) → ((rows : Rows) → IsOk (f rows) → more rows ≡ None) → IsOk (r >>= f) → fault_after e r more ≡ None
fault_ok e (Ok rows) f more h ok = h rows ok
fault_ok e (Err fault) f more h ok = cc

pub none_fails : (schema : List Table) (es : List Entry) (rows : Rows) → IsOk (apply_all schema es rows) → first_fault schema es rows ≡ None
none_fails schema [] rows ok = refl
none_fails schema (e ∷ es) rows ok = fault_ok e (apply schema e.1 rows) (apply_all schema es) (first_fault schema es) (λ r. none_fails schema es r) ok

module _ (schema : List Table) (opened : Gtids) (rows : Rows) (journals : List JournalValue) (are : AreJournals journals) where
  abbrev w : sources.World
  w = world_of schema opened rows journals

  abbrev order : List Entry
  order = order_of (histories_of opened journals)

  module _ (said : verdict_of_keys_in_order w journals ≡ Sound) where
    pub are_of : AreJournalsOf (joined_world schema opened rows journals) journals
    are_of =
        let means = keys_in_order_mean schema opened rows journals are said in
        record {
          gtids = means.0;
          faithful = means.1;
          recorded = λ g h.
              let t = some_there (find g order) h in
              elim (joined_from [] (histories_of opened journals) (g, t.0) (is_in_of g t.0 order t.1)) [
                | inl none ↦ absurd none
                | inr r ↦ recorded_by opened journals (g, t.0) r.0 r.1 r.2
              ];
        }

    pub applies_is_sound : IsOk (apply_all schema order rows) → verdict_in_order w journals ≡ Sound
    applies_is_sound applies = ap (λ o. unwrap_or o Sound) (none_next (found_in_keys_in_order w journals) (fails_in_order w journals) (none_of_sound (found_in_keys_in_order w journals) (keys_not w journals) said)
        (ap (option_map (λ fault. DoesNotApply fault.0 fault.1)) (none_fails schema order rows applies)))

    pub sound_applies : verdict_in_order w journals ≡ Sound → IsOk (apply_all schema order rows)
    sound_applies sound = (sound_in_order_means schema opened rows journals are sound).0.applies

pub workers_decide_in_order : WorkersDecideInOrder
workers_decide_in_order site opened rows journals events are said serves ended =
    let d = served_runs_decide (joined_world site.schema opened rows journals) site journals events refl (are_of site.schema opened rows journals are said) serves ended in
    (λ drained. applies_is_sound site.schema opened rows journals are said (d.0 drained), λ sound. d.1 (sound_applies site.schema opened rows journals are said sound))

pub served_holds_all_in_order : ServedHoldsAllInOrder
served_holds_all_in_order site opened rows journals events are said serves drained =
    served_runs_hold_all (joined_world site.schema opened rows journals) site journals events refl (are_of site.schema opened rows journals are said) serves drained
