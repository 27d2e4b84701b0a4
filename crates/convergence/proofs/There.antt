-- A faithful run of a world of sources is a faithful run of its order, and what is merged there is merged here.
use Rattle.std.proofs.Common.{◌≡◌, ℕ, ◌<◌, true, inl, inr, List, [], ◌∷◌, ◌++◌, Result, Ok, Err, refl, sym, ap, ◌∙◌, eqb}
use Rattle.std.specs.FinMap.{entries}
use Rattle.std.specs.FinSet as set
use Rattle.std.proofs.lemmas.Bool.{eqb-true, eq-eqb, cases_Bool}
use Rattle.lemmas.proofs.Tests.{not_both}
use Rattle.lemmas.proofs.Options.{on_option}
use Rattle.gtid_text.specs.declared.Gtid.{Gtid}
use Rattle.gtid_set.specs.Sets.{Gtids, gtid}
use Rattle.rows.specs.declared.change.RowFault.{RowFault}
use Rattle.rows.specs.declared.change.Transaction.{Transaction}
use Rattle.rows.specs.Apply.{Rows, apply}
use Rattle.rows.specs.Fits.{misfit}
use Rattle.rows.specs.Conflicts.{conflicts}
use Rattle.journal.specs.declared.Entry.{Entry}
use Rattle.replica_core.specs.declared.event.Event.{Event}
use Rattle.replica_core.specs.declared.event.Event.TheVariants.{OpenChannel, Position, Receive, Take, Commit, Rollback, Restart, Local, Purge, Look}
use Rattle.replica_core.specs.declared.event.Reply.{Reply}
use Rattle.replica_core.specs.declared.event.Reply.TheVariants.{NotInSchema, Received, Committed}
use Rattle.replica_core.specs.State.{State, Site}
use Rattle.replica_core.specs.Machine.{Step, next_number, local_answer, local, step, after}
use Rattle.history.specs.World.{Precedes}
use Rattle.history.proofs.Entries.{some_is}
use Rattle.history.proofs.Ordering.{first_in, second_in}
use Rattle.convergence.specs.Faithful.{Since, since_after}
use Rattle.convergence.specs.Faithful as ordered
use Rattle.history.specs.Sources.{World, in_order, content, AreKeysSound}
use Rattle.history.proofs.SourceGtids.{number_less}
use Rattle.history.proofs.Same.{stands, rises, same_content, same_closed, same_sound, same_faithful}
use Rattle.history.proofs.SourceWriting.{same_writer}
use Rattle.convergence.proofs.Runs.{faithful_runs_merge, equal_sets_equal_rows}
use Rattle.convergence.specs.FaithfulToSources.{FaithfulInOrder, IsFaithfulStep, IsFaithfulFrom, IsOpeningBySource, WasSentBySource, IsMergedBySource, RunsOfSourcesMerge, EqualSetsOfSources}

-- ---- what commits here

-- what a Local commits has the server's own UUID
abbrev IsOwn : ℕ → Reply → Type 0
IsOwn own (Committed g) = g.source ≡ own
IsOwn own reply = Unit {0}

answer_own : (own n : ℕ) (t : Transaction) (s : State) (r : Result Rows RowFault) → IsOwn own (local_answer (gtid own n) t s r).0
answer_own own n t s (Ok rows) = refl
answer_own own n t s (Err fault) = tt

local_own : (site : Site) (t : Transaction) (s : State) → IsOwn site.own (local site t s).0
local_own site t s =
    on_option (λ (x : Step). IsOwn site.own x.0) (λ fault. (NotInSchema fault, s)) (misfit site.schema t) _
    (λ e. on_option (λ (x : Step). IsOwn site.own x.0) _ (next_number site s) _
    (λ n. tt)
    (λ n is. answer_own site.own n t s (apply site.schema t s.rows)))
    (λ fault e. tt)

-- what comes before it in the order and shares a key with it is an earlier one of its source
before_is_earlier : (world : World) → AreKeysSound world → (h g : Gtid) (t u : Transaction) → Precedes (entries world.contents) (h, t) (g, u) → conflicts world.schema t u ≡ true → (h.source ≡ g.source) × (0 < h.number) × (h.number < g.number)
before_is_earlier world keys h g t u p s =
    let c = stands world (h, t) (first_in (entries world.contents) (h, t) (g, u) p) in
    let d = stands world (g, u) (second_in (entries world.contents) (h, t) (g, u) p) in
    elim (cases_Bool (eqb h.source g.source)) [
      | inl same ↦
          let at : h.source ≡ g.source = eqb-true h.source g.source same in
          (at, keys.from_one h (some_is (content world h) t c), number_less h g (rises world (h, t) (g, u) p) at)
      | inr other ↦ not_both (conflicts world.schema t u) s (keys.apart h g t u c d (λ at. not_both (eqb h.source g.source) (eq-eqb h.source g.source at) other))
    ]

local_there : (world : World) (site : Site) (s : State) (since : Since) (t : Transaction) → AreKeysSound world → (r : Reply) → IsOwn site.own r
    → IsFaithfulStep world site s since (Local t) r → ordered.IsFaithfulStep (in_order world) site s since (Local t) r
local_there world site s since t keys (Committed g) mine f = (
  same_content world g ∙ f.0,
  λ h u p shares.
      let e = before_is_earlier world keys h g u t p shares in
      let is_h : gtid site.own h.number ≡ h = λ i. record { source = (sym (e.0 ∙ mine)) i; number = h.number } in
      ap (set.contains s.executed) (sym is_h) ∙ f.1 h.number e.1 e.2,
)
local_there world site s since t keys other mine f = tt

-- ---- steps and runs

sent_there : (world : World) (ask : Gtids) (entries : List Entry) → AreKeysSound world → WasSentBySource world ask entries → ordered.WasSent (in_order world) ask entries
sent_there world ask entries keys sent = record { journal = sent.journal; own = sent.own; rest = sent.rest; faithful = (same_faithful world sent.journal keys).0 sent.faithful; front = sent.front }

receive_there : (world : World) (site : Site) (s : State) (since : Since) (c : ℕ) (entry : Entry) → AreKeysSound world → (r : Reply)
    → IsFaithfulStep world site s since (Receive c entry) r → ordered.IsFaithfulStep (in_order world) site s since (Receive c entry) r
receive_there world site s since c entry keys (Received p) f = λ ask a. sent_there world ask (since c ++ entry ∷ []) keys (f ask a)
receive_there world site s since c entry keys other f = tt

pub step_there : (world : World) (site : Site) (s : State) (since : Since) (e : Event) → AreKeysSound world
    → IsFaithfulStep world site s since e (step site s e).0 → ordered.IsFaithfulStep (in_order world) site s since e (step site s e).0
step_there world site s since (OpenChannel name preserve) keys f = tt
step_there world site s since (Position c) keys f = tt
step_there world site s since (Receive c entry) keys f = receive_there world site s since c entry keys (step site s (Receive c entry)).0 f
step_there world site s since (Take seat c p) keys f = tt
step_there world site s since (Commit seat) keys f = tt
step_there world site s since (Rollback seat) keys f = tt
step_there world site s since (Restart c) keys f = tt
step_there world site s since (Local t) keys f = local_there world site s since t keys (step site s (Local t)).0 (local_own site t s) f
step_there world site s since (Purge n) keys f = tt
step_there world site s since Look keys f = tt

pub run_there : (world : World) (site : Site) (s : State) (since : Since) (events : List Event) → AreKeysSound world
    → IsFaithfulFrom world site s since events → ordered.IsFaithfulFrom (in_order world) site s since events
run_there world site s since [] keys f = tt
run_there world site s since (e ∷ es) keys f = (
  step_there world site s since e keys f.0,
  run_there world site (step site s e).1 (since_after e (step site s e).0 since) es keys f.1,
)

pub faithful_in_order : FaithfulInOrder
faithful_in_order world site executed rows events keys f = run_there world site (ordered.start_with executed rows) (λ c. []) events keys f

-- ---- what is merged

opening_there : (world : World) (executed : Gtids) (rows : Rows) → AreKeysSound world → IsOpeningBySource world executed rows → ordered.IsOpening (in_order world) executed rows
opening_there world executed rows keys o = record { closed = (same_closed world (set.contains executed) keys).0 o.closed; stands_for = o.stands_for }

merged_back : (world : World) (s : State) → AreKeysSound world → ordered.IsMerged (in_order world) s → IsMergedBySource world s
merged_back world s keys m = record {
  closed = (same_closed world (set.contains s.executed) keys).1 m.closed;
  rows = m.rows;
  writers = λ k. m.writers k ∙ same_writer world (set.contains s.executed) k keys;
  running = m.running;
  journal = (same_faithful world s.journal keys).1 m.journal;
}

pub runs_of_sources_merge : RunsOfSourcesMerge
runs_of_sources_merge world site executed rows events schema sound opened f =
    let keys = sound.keys in
    let m = faithful_runs_merge (in_order world) site executed rows events schema ((same_sound world keys).0 sound) (opening_there world executed rows keys opened) (faithful_in_order world site executed rows events keys f) in
    (merged_back world (after site (ordered.start_with executed rows) events) keys m.0, m.1)

pub equal_sets_of_sources : EqualSetsOfSources
equal_sets_of_sources world a b A B x y es fs one two sound p q f g same =
    let keys = sound.keys in
    equal_sets_equal_rows (in_order world) a b A B x y es fs one two ((same_sound world keys).0 sound) (opening_there world A x keys p) (opening_there world B y keys q)
    (faithful_in_order world a A x es keys f) (faithful_in_order world b B y fs keys g) same
