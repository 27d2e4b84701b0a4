-- What a run that was served all journals of a world shows about it.
use Rattle.std.proofs.Common.{◌≡◌, ℕ, zero, suc, Bool, true, cond, not, ◌⊎◌, inl, inr, List, [], ◌∷◌, ◌++◌, Option, Some, None, refl, sym, ap, ◌∙◌, subst}
use Rattle.std.specs.Prelude.{◌↔◌, slice_get, IsOk, IsSome}
use Rattle.std.specs.List.{filter, AllByRecursion}
use Rattle.std.specs.FinSet as set
use Rattle.std.specs.FinSet.{contains-union, same_set}
use Rattle.gtid_text.specs.declared.Gtid.{Gtid}
use Rattle.gtid_set.specs.Sets.{Gtids}
use Rattle.rows.specs.Apply.{Rows}
use Rattle.journal.specs.declared.Entry.{Entry}
use Rattle.journal.specs.Journals.{JournalValue, whole}
use Rattle.replica_core.specs.declared.event.Event.{Event}
use Rattle.replica_core.specs.declared.event.Event.TheVariants.{Local}
use Rattle.replica_core.specs.declared.event.Reply.{Reply}
use Rattle.replica_core.specs.declared.event.Reply.TheVariants.{Committed}
use Rattle.replica_core.specs.State.{State, Site}
use Rattle.replica_core.specs.Machine.{step, after}
use Rattle.replica_core.specs.Draining.{AreStoppedOrDone}
use Rattle.history.specs.World.{OrderedWorld, content, apply_all, rows_of}
use Rattle.history.specs.World as history
use Rattle.history.proofs.Placing.{all_map}
use Rattle.history.proofs.Entries.{some_is, all_found}
use Rattle.history.proofs.Closing.{is_ok_of}
use Rattle.history.proofs.Committing.{opening_is_closed}
use Rattle.history.specs.Faithful.{IsFaithful}
use Rattle.history.proofs.Covering.{is_entry, has, in_whole}
use Rattle.auto_position.specs.Sending.{own_of}
use Rattle.convergence.specs.Faithful.{start_with, Since, IsFaithfulFrom}
use Rattle.convergence.specs.Served.{IsDrained, NoLocalCommits, received_on, local_commits, committed_here, IsNoLocalCommit, WasServed}
use Rattle.convergence.specs.Whole.{WasServedOnce}
use Rattle.convergence.specs.Deciding.{ServesAll, IsRecorded, AreJournalsOf, start_of, ServedRunsDecide, all_of, HoldsAll, ServedRunsHoldAll}
use Rattle.convergence.proofs.Invariant.{Invariant}
use Rattle.convergence.proofs.Sending.{sent_cases}
use Rattle.convergence.proofs.Growing.{nothing}
use Rattle.convergence.proofs.Runs.{opening_holds, run_keeps}
use Rattle.convergence.proofs.Serving.{drained_known, in_filtered}
use Rattle.convergence.proofs.Sharing.{run_moves, served_all, served_known}
use Rattle.convergence.proofs.Wholes.{served_is_faithful}
use Rattle.std.proofs.lemmas.Bool.{or_cases, or_left, or_right}
use Rattle.std.proofs.lemmas.Option.{same_Some}
use Rattle.lemmas.proofs.Options.{none_some}
use Rattle.lemmas.proofs.Tests.{same_bool, not_both}
use Rattle.lemmas.proofs.SameGtid.{gtid_total, gtid_exact}
use Rattle.lemmas.proofs.Lists.{all_at}

all_pass : (p : history.Entry → Bool) (es : List history.Entry) → AllByRecursion (λ e. p e ≡ true) es → filter p es ≡ es
all_pass p [] h = refl
all_pass p (e ∷ es) h = λ i. cond (h.0 i) (e ∷ all_pass p es h.1 i) (all_pass p es h.1 i)

looked : (o : Option JournalValue) → ((j : JournalValue) × (o ≡ Some j)) ⊎ (o ≡ None)
looked None = inr refl
looked (Some j) = inl (j, refl)

-- where each journal is served on the channel of its number, and no other channel receives anything
pub serves_by_number : (site : Site) (s : State) (journals : List JournalValue) (events : List Event) → NoLocalCommits site s events
    → ((c : ℕ) (journal : JournalValue) → slice_get journals c ≡ Some journal → WasServedOnce site s events c journal)
    → ((c : ℕ) → slice_get journals c ≡ None → received_on c site s events ≡ []) → ServesAll site s journals events
serves_by_number site s journals events no_local served nothing_else = record {
  no_local = no_local;
  each_channel = λ c. elim (looked (slice_get journals c)) [
    | inl j ↦ inl (record { number = c; journal = j.0; listed = j.1; served = served c j.0 j.1 })
    | inr none ↦ inr (nothing_else c none)
  ];
  each_journal = λ i journal listed. (i, served i journal listed);
}

-- a run from the opening that was served all journals
module _ (world : OrderedWorld) (own : ℕ) (journals : List JournalValue) (events : List Event) (are : AreJournalsOf world journals) where
  abbrev here : Site
  here = record { own = own; schema = world.schema }

  abbrev end : State
  end = after here (start_of world) events

  module _ (serves : ServesAll here (start_of world) journals events) where
    faithful_here : IsFaithfulFrom world here (start_of world) (λ c. []) events
    faithful_here = served_is_faithful world here (start_of world) events serves.no_local (λ c. elim (serves.each_channel c) [
      | inl one ↦ inl (one.journal, all_at (IsFaithful world) journals one.number one.journal are.faithful one.listed, one.served)
      | inr none ↦ inr none
    ])

    kept : (later : Since) × Invariant world end later
    kept =
        let begin = opening_is_closed world are.gtids in
        (run_keeps world own are.gtids events (start_of world) (λ c. []) (opening_holds world world.opening_set world.opening_rows (record { closed = begin.0; stands_for = begin.1 })) faithful_here).0

    -- where it has executed all that it received, it has executed all that was committed
    executed_all : IsDrained end → (g : Gtid) → IsSome (content world g) → set.contains end.executed g ≡ true
    executed_all drained g there =
        let r = are.recorded g there in
        let on = serves.each_journal r.number r.journal r.listed in
        drained_known end g drained (served_known here (start_of world) events on.0 r.journal on.1.served g (sym (in_whole r.journal g) ∙ r.recorded))

    drained_says : IsDrained end → IsOk (apply_all world.schema world.order world.opening_rows)
    drained_says drained =
        let all : filter (λ (e : history.Entry). set.contains end.executed e.0) world.order ≡ world.order = all_pass (λ (e : history.Entry). set.contains end.executed e.0) world.order
        (all_map (λ e. content world e.0 ≡ Some e.1) (λ e. set.contains end.executed e.0 ≡ true) world.order
        (λ e found. executed_all drained e.0 (some_is (content world e.0) e.1 found)) (all_found world.order are.gtids.distinct)) in
        is_ok_of (apply_all world.schema world.order world.opening_rows) end.rows (ap (λ es. apply_all world.schema es world.opening_rows) (sym all) ∙ kept.1.rows)

    applies_drains : AreStoppedOrDone end → IsOk (apply_all world.schema world.order world.opening_rows) → IsDrained end
    applies_drains ended applies = λ c p channel e here there. elim (ended c channel here) [
      | inl stopped ↦ not_both channel.stopped stopped ((kept.1.channels c channel here).running applies)
      | inr done ↦ done p e there
    ]

on_schema : (P : Site → Type 0) (world : OrderedWorld) (site : Site) → site.schema ≡ world.schema → P (record { own = site.own; schema = world.schema }) → P site
on_schema P world site same h =
    let here : record { own = site.own; schema = world.schema } ≡ site = λ i. record { own = site.own; schema = (sym same) i } in
    subst P here h

pub served_runs_decide : ServedRunsDecide
served_runs_decide world site journals events same are =
    let P : Site → Type 0 = λ x. ServesAll x (start_of world) journals events → AreStoppedOrDone (after x (start_of world) events) → IsDrained (after x (start_of world) events) ↔ IsOk (apply_all world.schema world.order world.opening_rows) in
    on_schema P world site same (λ serves ended. (drained_says world site.own journals events are serves, applies_drains world site.own journals events are serves ended))

-- ---- what it holds

in_all_of : (opened : Gtids) (js : List JournalValue) (g : Gtid) → set.contains (all_of opened js) g ≡ true → (set.contains opened g ≡ true) ⊎ IsRecorded js g
in_all_of opened [] g h = inl h
in_all_of opened (j ∷ js) g h = elim (or_cases (set.contains (whole j) g) (set.contains (all_of opened js) g) (sym (contains-union gtid_total (whole j) (all_of opened js) g) ∙ h)) [
  | inl here ↦ inr (record { number = zero; journal = j; listed = refl; recorded = here })
  | inr later ↦ elim (in_all_of opened js g later) [
    | inl o ↦ inl o
    | inr r ↦ inr (record { number = suc r.number; journal = r.journal; listed = r.listed; recorded = r.recorded })
  ]
]

opened_in : (opened : Gtids) (js : List JournalValue) (g : Gtid) → set.contains opened g ≡ true → set.contains (all_of opened js) g ≡ true
opened_in opened [] g h = h
opened_in opened (j ∷ js) g h = contains-union gtid_total (whole j) (all_of opened js) g ∙ or_right (set.contains (whole j) g) (set.contains (all_of opened js) g) (opened_in opened js g h)

whole_in : (opened : Gtids) (js : List JournalValue) (i : ℕ) (j : JournalValue) (g : Gtid) → slice_get js i ≡ Some j → has j g ≡ true → set.contains (all_of opened js) g ≡ true
whole_in opened [] i j g e h = none_some j e
whole_in opened (k ∷ js) zero j g e h = contains-union gtid_total (whole k) (all_of opened js) g ∙ or_left (set.contains (whole k) g) (set.contains (all_of opened js) g) (in_whole k g ∙ (ap (λ (x : JournalValue). has x g) (same_Some k j e) ∙ h))
whole_in opened (k ∷ js) (suc i) j g e h = contains-union gtid_total (whole k) (all_of opened js) g ∙ or_right (set.contains (whole k) g) (set.contains (all_of opened js) g) (whole_in opened js i j g e h)

received_whole : (site : Site) (s : State) (events : List Event) (c : ℕ) (j : JournalValue) → WasServed site s events c j → (g : Gtid) → is_entry (received_on c site s events) g ≡ true → has j g ≡ true
received_whole site s events c j w g h =
    let cases = sent_cases (set.is_subset j.previous w.ask) (set.is_subset (own_of w.ask w.own) (whole j)) _ _ (filter (λ (e : Entry). not (set.contains w.ask e.gtid)) j.entries) w.all w.all_sent in
    or_right (set.contains j.previous g) (is_entry j.entries g) (in_filtered (λ (e : Entry). not (set.contains w.ask e.gtid)) j.entries g (ap (λ es. is_entry es g) (cases.1 ∙ sym (served_all site s events c j w)) ∙ h))

none_here : (e : Event) (r : Reply) → IsNoLocalCommit e r → committed_here e r ≡ []
none_here (Local t) (Committed g) never = absurd never
none_here (Local t) other none = refl
none_here other r none = refl

no_commits : (site : Site) (events : List Event) (s : State) → NoLocalCommits site s events → local_commits site s events ≡ []
no_commits site [] s none = refl
no_commits site (e ∷ es) s none =
    ap (λ xs. xs ++ local_commits site (step site s e).1 es) (none_here e (step site s e).0 none.0) ∙ no_commits site es (step site s e).1 none.1

-- what it has executed, once it has executed all that it received: nothing is asked of the journals
pub executed_is_all : (site : Site) (opened : Gtids) (rows : Rows) (journals : List JournalValue) (events : List Event) → ServesAll site (start_with opened rows) journals events
    → IsDrained (after site (start_with opened rows) events) → (after site (start_with opened rows) events).executed ≡ all_of opened journals
executed_is_all site opened rows journals events serves drained =
    let start : State = start_with opened rows in
    let end : State = after site start events in
    let moves = run_moves site start events in
    same_set gtid_total gtid_exact end.executed (all_of opened journals) (λ g.
    same_bool (set.contains end.executed g) (set.contains (all_of opened journals) g)
    (λ h. elim (moves.origin g (inl h)) [
      | inl known ↦ elim known [
        | inl was ↦ opened_in opened journals g was
        | inr somewhere ↦ none_some somewhere.1 somewhere.2
      ]
      | inr brought ↦ elim brought [
        | inl here ↦ nothing g (ap (λ es. is_entry es g) (sym (no_commits site events start serves.no_local)) ∙ here)
        | inr came ↦ elim (serves.each_channel came.0) [
          | inl one ↦ whole_in opened journals one.number one.journal g one.listed (received_whole site start events came.0 one.journal one.served.served g came.1)
          | inr none ↦ nothing g (ap (λ es. is_entry es g) (sym none) ∙ came.1)
        ]
      ]
    ])
    (λ h. elim (in_all_of opened journals g h) [
      | inl was ↦ drained_known end g drained (moves.stays g (inl was))
      | inr r ↦
          let on = serves.each_journal r.number r.journal r.listed in
          drained_known end g drained (served_known site start events on.0 r.journal on.1.served g (sym (in_whole r.journal g) ∙ r.recorded))
    ]))

pub served_runs_hold_all : ServedRunsHoldAll
served_runs_hold_all world site journals events same are =
    let P : Site → Type 0 = λ x. ServesAll x (start_of world) journals events → IsDrained (after x (start_of world) events) → HoldsAll world journals (after x (start_of world) events) in
    on_schema P world site same (λ serves drained.
    let executed = executed_is_all (record { own = site.own; schema = world.schema }) world.opening_set world.opening_rows journals events serves drained in
    record { executed = executed; rows_are = ap (λ (U : Gtids). rows_of world (set.contains U)) (sym executed) ∙ (kept world site.own journals events are serves).1.rows })
