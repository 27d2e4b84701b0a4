-- The merge theorem for networks in the words of sources.
use Rattle.std.proofs.Common.{◌≡◌, ℕ, ◌<◌, true, inl, List, [], ◌∷◌, ◌++◌, Some, refl, sym, ◌∙◌, subst}
use Rattle.std.specs.Prelude.{slice_get}
use Rattle.std.specs.FinSet as set
use Rattle.gtid_set.specs.Sets.{Gtids, gtid}
use Rattle.lemmas.proofs.Lists.{get_map}
use Rattle.rows.specs.Apply.{Rows}
use Rattle.rows.specs.declared.change.Transaction.{Transaction}
use Rattle.rows.specs.declared.schema.Table.{Table}
use Rattle.journal.specs.declared.Entry.{Entry}
use Rattle.replica_core.specs.declared.event.Event.{Event}
use Rattle.replica_core.specs.declared.event.Event.TheVariants.{OpenChannel, Position, Receive, Take, Commit, Rollback, Restart, Local, Purge, Look}
use Rattle.replica_core.specs.declared.event.Reply.{Reply}
use Rattle.replica_core.specs.declared.event.Reply.TheVariants.{Received, Committed}
use Rattle.replica_core.specs.State.{State, Site}
use Rattle.replica_core.specs.Machine.{step}
use Rattle.history.specs.World.{OrderedWorld}
use Rattle.history.specs.Sources.{World, in_order, AreKeysSound, IsSound}
use Rattle.history.proofs.Committing.{opening_is_closed}
use Rattle.history.proofs.Same.{same_gtids, same_closed}
use Rattle.convergence.specs.Faithful as ordered
use Rattle.convergence.specs.Faithful.{Since, since_after, start_with}
use Rattle.convergence.specs.FaithfulToSources.{WasSentBySource, IsOpeningBySource, IsFaithfulStep, IsFaithfulFrom, IsFaithfulRun, IsMergedBySource}
use Rattle.convergence.specs.Served.{committed_here}
use Rattle.convergence.proofs.Invariant.{IsIn}
use Rattle.convergence.proofs.There.{runs_of_sources_merge}
use Rattle.network.specs.Nodes.{opened_node}
use Rattle.network.specs.Runs.{AreApart, start, end, run_locals, run_of, world_of}
use Rattle.network.specs.Rings.{site_of}
use Rattle.network.specs.RingsBySource.{sources_of, RingsMergeBySource}
use Rattle.network.proofs.Merging.{opened_at, numbers_open, rings_merge, apart_is_in_turn}
use Rattle.network.proofs.Numbers.{Numbers}
use Rattle.network.proofs.Prefixes.{IsOnce}
use Rattle.network.proofs.Reaching.{came, numbers_run}
use Rattle.network.proofs.Rising.{AreCounted, AreFilled, counted_none, counted_run, filled_run}
use Rattle.network.proofs.Sources.{world_by_source, same_contents, sources_sound, faithful_by_source}

-- ---- runs

module _ (schema : List Table) (rows : Rows) (L : List Entry) (once : IsOnce L) (counted : AreCounted L) (apart : AreApart schema L) where
  abbrev in_time : OrderedWorld
  in_time = world_of schema rows L

  abbrev world : World
  world = world_by_source schema rows L

  sent_by_source : (ask : Gtids) (es : List Entry) → ordered.WasSent in_time ask es → WasSentBySource world ask es
  sent_by_source ask es sent = record { journal = sent.journal; own = sent.own; rest = sent.rest; faithful = faithful_by_source schema rows L once counted apart sent.journal sent.faithful; front = sent.front }

  receive_by_source : (site : Site) (s : State) (since : Since) (c : ℕ) (entry : Entry) (r : Reply) → ordered.IsFaithfulStep in_time site s since (Receive c entry) r → IsFaithfulStep world site s since (Receive c entry) r
  receive_by_source site s since c entry (Received p) f = λ ask a. sent_by_source ask (since c ++ entry ∷ []) (f ask a)
  receive_by_source site s since c entry other f = tt

  local_by_source : (site : Site) (s : State) (since : Since) (t : Transaction) (r : Reply) → ordered.IsFaithfulStep in_time site s since (Local t) r
      → ((x : Entry) → IsIn x (committed_here (Local t) r) → (m : ℕ) → 0 < m → m < x.gtid.number → set.contains s.executed (gtid site.own m) ≡ true) → IsFaithfulStep world site s since (Local t) r
  local_by_source site s since t (Committed g) f filled = (same_contents L g ∙ f.0, λ m low high. filled (record { gtid = g; txn = t }) (inl refl) m low high)
  local_by_source site s since t other f filled = tt

  step_by_source : (site : Site) (s : State) (since : Since) (e : Event) → ordered.IsFaithfulStep in_time site s since e (step site s e).0
      → ((x : Entry) → IsIn x (committed_here e (step site s e).0) → (m : ℕ) → 0 < m → m < x.gtid.number → set.contains s.executed (gtid site.own m) ≡ true) → IsFaithfulStep world site s since e (step site s e).0
  step_by_source site s since (OpenChannel name preserve) f filled = tt
  step_by_source site s since (Position c) f filled = tt
  step_by_source site s since (Receive c entry) f filled = receive_by_source site s since c entry (step site s (Receive c entry)).0 f
  step_by_source site s since (Take seat c p) f filled = tt
  step_by_source site s since (Commit seat) f filled = tt
  step_by_source site s since (Rollback seat) f filled = tt
  step_by_source site s since (Restart c) f filled = tt
  step_by_source site s since (Local t) f filled = local_by_source site s since t (step site s (Local t)).0 f filled
  step_by_source site s since (Purge n) f filled = tt
  step_by_source site s since Look f filled = tt

  pub run_by_source : (site : Site) (s : State) (since : Since) (events : List Event) → ordered.IsFaithfulFrom in_time site s since events → AreFilled site s events → IsFaithfulFrom world site s since events
  run_by_source site s since [] f filled = tt
  run_by_source site s since (e ∷ es) f filled = (
    step_by_source site s since e f.0 filled.0,
    run_by_source site (step site s e).1 (since_after e (step site s e).0 since) es f.1 filled.1,
  )

-- ---- the theorem

-- the opening is one in the words of sources
opens_by_source : (world : World) → AreKeysSound world → IsOpeningBySource world world.opening_set world.opening_rows
opens_by_source world keys =
    let o = opening_is_closed (in_order world) (same_gtids world keys) in
    record { closed = (same_closed world (set.contains world.opening_set) keys).1 o.0; stands_for = o.1 }

pub rings_merge_by_source : RingsMergeBySource
rings_merge_by_source run distinct apart =
    let schema = run.schema in
    let rows = run.rows in
    let L : List Entry = run_locals run in
    let W : World = sources_of run in
    let m = rings_merge run distinct (apart_is_in_turn run distinct apart) in
    let first = numbers_open run.ids schema rows distinct in
    let n : Numbers (end run) L = numbers_run run.events (start run) [] first in
    let counted : AreCounted L = counted_run run.events (start run) [] first counted_none in
    let sound : IsSound W = sources_sound schema rows L n.once counted apart m.sound in
    let opening : IsOpeningBySource W set.empty rows = opens_by_source W sound.keys in
    let faithful : (i own : ℕ) → slice_get run.ids i ≡ Some own → IsFaithfulRun W (site_of run own) set.empty rows (run_of run i) = λ i own e.
    run_by_source schema rows L n.once counted apart (site_of run own) (start_with set.empty rows) (λ c. []) (run_of run i) (m.faithful i own e)
    (filled_run run.events (start run) [] first i (opened_node schema rows own) (get_map (opened_node schema rows) run.ids i own e)) in
    record {
      sound = sound;
      faithful = faithful;
      merged = λ i node e.
          let r = came run.events (start run) i node e in
          let u = opened_at run.ids schema rows i r.node r.at in
          subst (IsMergedBySource W) (sym (m.reached i u.0 node u.1 e)) (runs_of_sources_merge W (site_of run u.0) set.empty rows (run_of run i) refl sound opening (faithful i u.0 u.1)).0;
    }
