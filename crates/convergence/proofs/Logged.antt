-- Runs, and what their logs decide.
use Rattle.std.proofs.Common.{◌≡◌, Bool, true, false, ◌||◌, inl, inr, List, [], ◌∷◌, ◌++◌, Ok, refl, sym, ap, ◌∙◌, subst, append_assoc}
use Rattle.std.specs.List.Sorted.{IsPermutation}
use Rattle.std.specs.FinSet as set
use Rattle.std.proofs.lemmas.Bool.{or_cases, or_right}
use Rattle.std.proofs.lemmas.List.{append-nil}
use Rattle.std.proofs.lemmas.List.Sorted.{IsPermutation-map}
use Rattle.lemmas.proofs.Options.{none_some}
use Rattle.lemmas.proofs.Tests.{not_both}
use Rattle.gtid_text.specs.declared.Gtid.{Gtid}
use Rattle.gtid_text.specs.Gtids.{same_gtid}
use Rattle.gtid_set.specs.Sets.{Gtids}
use Rattle.gtid_set.proofs.SetLemmas.{same_members}
use Rattle.rows.specs.declared.change.Transaction.{Transaction}
use Rattle.rows.specs.declared.schema.Table.{Table}
use Rattle.rows.specs.Apply.{Rows, ◌>>=◌, apply}
use Rattle.rows.proofs.Local.{bind_ok}
use Rattle.rows.proofs.Carriers.{same_ok}
use Rattle.journal.specs.declared.Entry.{Entry}
use Rattle.journal.specs.Journals.{gtids_of, AreNew}
use Rattle.replica_core.specs.declared.event.Event.{Event}
use Rattle.replica_core.specs.declared.event.Reply.{Reply}
use Rattle.replica_core.specs.State.{State, Site}
use Rattle.replica_core.specs.Machine.{opening, step, after}
use Rattle.history.proofs.Covering.{is_entry, covered, in_insert, in_covered}
use Rattle.history.proofs.Keeping.{covered_push}
use Rattle.convergence.proofs.Invariant.{IsIn}
use Rattle.rows.specs.Counting.{apply_each}
use Rattle.rows.proofs.Counted.{order_is_no_matter}
use Rattle.convergence.specs.Logs.{committed, log, transactions}
use Rattle.world.specs.Exact.{AgreeInContents}
use Rattle.convergence.specs.Exact.{RunsAreOfLogs, LogsDecideRows}
use Rattle.convergence.proofs.Waiting.{Waits}
use Rattle.convergence.proofs.Telling.{Rests, Commits}
use Rattle.convergence.proofs.Moving.{step_tells}
use Rattle.convergence.proofs.Permuting.{is_in_entry, entry_is_in, in_place, unseen, once_from_new, new_push, permuted}

-- ---- what every run keeps

pub record Logged (site : Site) (opened : Gtids) (opening_rows : Rows) (L : List Entry) (s : State) : Type 0 where
  pub rows : apply_each site.schema (transactions L) opening_rows ≡ Ok s.rows
  pub executed : (g : Gtid) → set.contains s.executed g ≡ covered opened L g
  pub new : AreNew opened L
  pub purged : List Entry
  pub journal : purged ++ s.journal.entries ≡ L
  -- what waits is not executed
  pub waiting : (x : Entry) → Waits s.channels x → set.contains s.executed x.gtid ≡ false

-- one transaction more
one_more : (schema : List Table) (ts : List Transaction) (t : Transaction) (old mid new : Rows) → apply_each schema ts old ≡ Ok mid → apply schema t mid ≡ Ok new → apply_each schema (ts ++ t ∷ []) old ≡ Ok new
one_more schema [] t old mid new e f = ap (λ r. r >>= apply_each schema []) (ap (apply schema t) (same_ok old mid e) ∙ f)
one_more schema (u ∷ ts) t old mid new e f =
    let first = bind_ok (apply schema u old) (apply_each schema ts) mid e in
    ap (λ r. r >>= apply_each schema (ts ++ t ∷ [])) first.1 ∙ one_more schema ts t first.0 mid new first.2 f

transactions_push : (L : List Entry) (x : Entry) → transactions (L ++ x ∷ []) ≡ transactions L ++ x.txn ∷ []
transactions_push [] x = refl
transactions_push (e ∷ L) x = ap (λ (ts : List Transaction). e.txn ∷ ts) (transactions_push L x)

module _ (site : Site) (opened : Gtids) (rows : Rows) where
  waits_open : (L : List Entry) (s : State) (e : Event) → Logged site opened rows L s → (x : Entry) → Waits (step site s e).1.channels x → set.contains (step site s e).1.executed x.gtid ≡ false
  waits_open L s e h x w =
      let c = (step_tells site s e).came x w in
      c.executed ∙ elim c.from [ inl before ↦ h.waiting x before | inr came ↦ came.1 ]

  rests : (L : List Entry) (s s' : State) (made : List Entry) → Logged site opened rows L s → ((x : Entry) → Waits s'.channels x → set.contains s'.executed x.gtid ≡ false) → Rests s s' made → Logged site opened rows (L ++ made) s'
  rests L s s' made h still m =
      let same : L ≡ L ++ made = sym (append-nil L) ∙ ap (λ es. L ++ es) (sym m.none) in
      subst (λ es. Logged site opened rows es s') same (record {
        rows = h.rows ∙ ap Ok (sym m.rows);
        executed = λ g. ap (λ (y : Gtids). set.contains y g) m.executed ∙ h.executed g;
        new = h.new;
        purged = h.purged ++ m.purged;
        journal = append_assoc h.purged m.purged s'.journal.entries ∙ (ap (λ es. h.purged ++ es) m.journal ∙ h.journal);
        waiting = still;
      })

  commits : (L : List Entry) (s s' : State) (e : Event) (r : Reply) (made : List Entry) → Logged site opened rows L s → ((x : Entry) → Waits s'.channels x → set.contains s'.executed x.gtid ≡ false) → Commits site s s' e r made → Logged site opened rows (L ++ made) s'
  commits L s s' e r made h still m =
      let x = m.entry in
      let new : set.contains s.executed x.gtid ≡ false = elim m.origin [ inl waited ↦ h.waiting x waited | inr own ↦ own.1 ] in
      subst (λ es. Logged site opened rows (L ++ es) s') (sym m.one) (record {
        rows = ap (λ ts. apply_each site.schema ts rows) (transactions_push L x) ∙ one_more site.schema (transactions L) x.txn rows s.rows s'.rows h.rows m.applies;
        executed = λ g. ap (λ (y : Gtids). set.contains y g) m.executed
            ∙ (in_insert s.executed x.gtid g ∙ (ap (λ b. same_gtid g x.gtid || b) (h.executed g) ∙ sym (covered_push opened L x.gtid x.txn g)));
        new = new_push opened L x h.new (sym (h.executed x.gtid) ∙ new);
        purged = h.purged;
        journal = ap (λ es. h.purged ++ es) m.journal ∙ (sym (append_assoc h.purged s.journal.entries (x ∷ [])) ∙ ap (λ es. es ++ x ∷ []) h.journal);
        waiting = still;
      })

  logged_step : (L : List Entry) (s : State) (e : Event) → Logged site opened rows L s → Logged site opened rows (L ++ committed s e (step site s e).0) (step site s e).1
  logged_step L s e h = elim (step_tells site s e).made [
    | inl m ↦ rests L s (step site s e).1 (committed s e (step site s e).0) h (waits_open L s e h) m
    | inr m ↦ commits L s (step site s e).1 e (step site s e).0 (committed s e (step site s e).0) h (waits_open L s e h) m
  ]

  logged_run : (L : List Entry) (s : State) (events : List Event) → Logged site opened rows L s → Logged site opened rows (L ++ log site s events) (after site s events)
  logged_run L s [] h = subst (λ es. Logged site opened rows es s) (sym (append-nil L)) h
  logged_run L s (e ∷ es) h =
      let s' = (step site s e).1 in
      let made = committed s e (step site s e).0 in
      subst (λ xs. Logged site opened rows xs (after site s' es)) (append_assoc L made (log site s' es)) (logged_run (L ++ made) s' es (logged_step L s e h))

  opened_logged : Logged site opened rows [] (opening opened rows)
  opened_logged = record {
    rows = refl;
    executed = λ g. sym (or_none (set.contains opened g));
    new = tt;
    purged = [];
    journal = refl;
    waiting = λ x w. none_some w.1 w.2;
  }
    where
      or_none : (b : Bool) → (b || false) ≡ b
      or_none true = refl
      or_none false = refl

  pub run_logged : (events : List Event) → Logged site opened rows (log site (opening opened rows) events) (after site (opening opened rows) events)
  run_logged events = logged_run [] (opening opened rows) events opened_logged

pub runs_are_of_logs : RunsAreOfLogs
runs_are_of_logs site opened rows events =
    let s = after site (opening opened rows) events in
    let L = log site (opening opened rows) events in
    let h = run_logged site opened rows events in
    record {
      rows = h.rows;
      executed = same_members s.executed (set.union opened (gtids_of L)) (λ g. h.executed g ∙ sym (in_covered opened L g));
      new = h.new;
      journal = (h.purged, h.journal);
    }

-- ---- two runs

-- what is in one log is in the other, where the other has executed it and has its content
there_too : (opened : Gtids) (L M : List Entry) → AreNew opened L → AgreeInContents L M → ((g : Gtid) → covered opened L g ≡ covered opened M g) → (z : Entry) → IsIn z L → IsIn z M
there_too opened L M new agree same z i =
    let here : covered opened L z.gtid ≡ true = or_right (set.contains opened z.gtid) (is_entry L z.gtid) (is_in_entry L z i) in
    elim (or_cases (set.contains opened z.gtid) (is_entry M z.gtid) (sym (same z.gtid) ∙ here)) [
      | inl old ↦ not_both (set.contains opened z.gtid) old (unseen_in z i)
      | inr there ↦
          let w = entry_is_in M z.gtid there in
          let a = in_place L z i in
          let b = in_place M w.0 w.1 in
          let t : z.txn ≡ w.0.txn = agree a.0 b.0 z w.0 a.1 b.1 w.2 in
          let is : w.0 ≡ z = λ k. record { gtid = (sym w.2) k; txn = (sym t) k } in
          subst (λ (y : Entry). IsIn y M) is w.1
    ]
  where
    unseen_in : (x : Entry) → IsIn x L → set.contains opened x.gtid ≡ false
    unseen_in x k = unseen opened L x new k

agree_back : (L M : List Entry) → AgreeInContents L M → AgreeInContents M L
agree_back L M agree i k e f p q same = sym (agree k i f e q p (sym same))

pub logs_decide_rows : LogsDecideRows
logs_decide_rows a b opened rows es fs schemas carriers agree equal =
    let A = after a (opening opened rows) es in
    let B = after b (opening opened rows) fs in
    let L = log a (opening opened rows) es in
    let M = log b (opening opened rows) fs in
    let h = run_logged a opened rows es in
    let k = run_logged b opened rows fs in
    let same : (g : Gtid) → covered opened L g ≡ covered opened M g = λ g. sym (h.executed g) ∙ (ap (λ (y : Gtids). set.contains y g) equal ∙ k.executed g) in
    let moved : IsPermutation L M = permuted L M (once_from_new opened L h.new) (once_from_new opened M k.new)
    (there_too opened L M h.new agree same) (there_too opened M L k.new (agree_back L M agree) (λ g. sym (same g))) in
    let in_a : apply_each a.schema (transactions M) rows ≡ Ok B.rows = ap (λ (schema : List Table). apply_each schema (transactions M) rows) schemas ∙ k.rows in
    order_is_no_matter a.schema (transactions L) (transactions M) rows A.rows B.rows carriers (IsPermutation-map (λ (e : Entry). e.txn) L M moved) h.rows in_a
