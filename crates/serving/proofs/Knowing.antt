-- What is executed and received stays within a cover, and so does each set that an event makes.
use Rattle.std.proofs.Common.{◌≡◌, ℕ, ◌+◌, ◌*◌, ◌<◌, zero, suc, Bool, true, false, cond, eqb, ◌||◌, inl, inr, List, [], ◌∷◌, ◌++◌, map, take, drop, drop-cons, length, get_or, Option, Some, None, refl, sym, ap, ◌∙◌, subst, arith, true≢false}
use Rattle.std.specs.Prelude.{slice_get, ◌⊎◌}
use Rattle.std.specs.List.{AllByRecursion}
use Rattle.std.specs.Option.{option_and_then}
use Rattle.std.specs.FinMap as finmap
use Rattle.std.specs.FinSet as set
use Rattle.std.specs.FinSet.{contains-union}
use Rattle.std.proofs.lemmas.Bool.{cases_eq, or_cases, or_left, or_right, ne_eqb}
use Rattle.std.proofs.lemmas.List.{length-append}
use Rattle.std.proofs.lemmas.List.Folds.{list_any-append}
use Rattle.std.proofs.lemmas.Option.{same_Some}
use Rattle.lemmas.proofs.Lists.{all_at, all_from, all_drop}
use Rattle.lemmas.proofs.Options.{none_some, map_some, and_then_some}
use Rattle.lemmas.proofs.SameGtid.{same_itself, same_is_equal, gtid_total}
use Rattle.lemmas.proofs.Tests.{from_or_false}
use Rattle.gtid_text.specs.declared.Gtid.{Gtid}
use Rattle.gtid_text.specs.Gtids.{same_gtid}
use Rattle.gtid_set.specs.declared.fault.SetFault.{SetFault}
use Rattle.gtid_set.specs.Full.{most_intervals, IsFaultOf}
use Rattle.gtid_set.specs.Edges.{next_to, ends_of, HasEdges, HasEnds, AreManyEdges}
use Rattle.gtid_set.specs.Runs.{runs}
use Rattle.gtid_set.proofs.EdgeLemmas.{contains-listed, length-ends, len-listed, many_edges, moved_edges, members_edges, listed_edges, empty_edges, union_edges, insert_edges}
use Rattle.gtid_set.proofs.RunLemmas.{among as is_listed}
use Rattle.gtid_set.proofs.FaultLemmas.{fault_map, memory_fault}
use Rattle.gtid_set.specs.Sets.{Gtids}
use Rattle.gtid_set.proofs.SetSources.{fewer_sources}
use Rattle.rows.specs.declared.change.Transaction.{Transaction}
use Rattle.journal.specs.declared.Entry.{Entry}
use Rattle.journal.specs.Journals.{JournalValue, whole}
use Rattle.journal.specs.Edges.{HasEndsOf}
use Rattle.auto_position.specs.Sending.{IsPlanFault}
use Rattle.audit.specs.Faults.{IsAuditFault, intervals_of}
use Rattle.audit.proofs.Counting.{lacks_few}
use Rattle.apply_channel.specs.Channels.{ChannelValue, Received, received_gtids}
use Rattle.apply_channel.specs.Full.{gtids_with}
use Rattle.replica_core.specs.declared.event.Event.{Event}
use Rattle.replica_core.specs.declared.event.Event.TheVariants.{OpenChannel, Position, Receive, Take}
use Rattle.replica_core.specs.declared.event.Reply.{Reply}
use Rattle.replica_core.specs.declared.event.Reply.TheVariants.{Received as TheReceived}
use Rattle.replica_core.specs.State.{State, Replica}
use Rattle.replica_core.specs.Machine.{step, ask, Held, held_of, held_at, held}
use Rattle.replica_core.specs.AtOnce.{IsFaultAtOnce}
use Rattle.replica_core.specs.Faults.{ask_set, received_set, committed_set, executed_with, IsFaultIn}
use Rattle.history.proofs.Covering.{is_entry, in_insert, in_gtids, in_whole}
use Rattle.convergence.specs.Served.{accepted_entries, received_on, local_commits, NoLocalCommits}
use Rattle.convergence.proofs.Receiving.{among_received}
use Rattle.convergence.proofs.Growing.{nothing}
use Rattle.convergence.proofs.Serving.{run_grows}
use Rattle.convergence.proofs.Sharing.{Moves, Brought, run_moves}
use Rattle.world.proofs.Contents.{entry_at, entry_from}
use Rattle.convergence.specs.Deciding.{all_of}
use Rattle.txn_journal.specs.BundleStates.{BundleValue}
use Rattle.txn_journal.specs.declared.bundle.BundleChannel.{BundleChannel}
use Rattle.serving.specs.declared.receiving.Apply.{Apply}
use Rattle.serving.specs.declared.receiving.Apply.TheVariants.{AtOnce}
use Rattle.serving.specs.Faults.{Cover, IsFaultWhere, HasGtid, HasSet, IsReceived, Knows, HasEntries, KnowsWith, HasJournal, KnowsToo, IsBundleFault, IsVerdictFault}
use Rattle.serving.specs.declared.order.Order.{Order}
use Rattle.serving.specs.Serving.{run, IsBetween, IsFeed, Applies, Receives, with_opened, Asks, Starts, ServesEach, opening, IsServed, IsRun}
use Rattle.serving.proofs.Conditions.{sent_all}
use Rattle.serving.proofs.Runs.{all_by, IsApart, no_receipts, no_locals, no_commits, between_apart, feed_apart}

-- ---- what a run brings

brought_in : (cover : Cover) (r : Replica) (es : List Event) (g : Gtid) → local_commits r.site r.state es ≡ []
    → ((c : ℕ) (h : Gtid) → is_entry (received_on c r.site r.state es) h ≡ true → HasGtid cover h) → Brought r.site r.state es g → HasGtid cover g
brought_in cover r es g local came (inl h) = nothing g (ap (λ xs. is_entry xs g) (sym local) ∙ h)
brought_in cover r es g local came (inr h) = came h.0 g h.1

-- a run without local commits that brings no GTID but those of a cover stays within it
knows_run : (cover : Cover) (r : Replica) (es : List Event) → NoLocalCommits r.site r.state es → local_commits r.site r.state es ≡ []
    → ((c : ℕ) (g : Gtid) → is_entry (received_on c r.site r.state es) g ≡ true → HasGtid cover g) → Knows r.state cover → Knows (run r es).state cover
knows_run cover r es quiet local came within = record {
  executed = record {
    in_all = λ g done. elim (moves.origin g (inl done)) [
      | inl (inl was) ↦ within.executed.in_all g was
      | inl (inr there) ↦ (within.received g there).in_all
      | inr brought ↦ (brought_in cover r es g local came brought).in_all
    ];
    edges = moved_edges cover.places r.state.executed (run r es).state.executed within.executed.edges (λ g. changed g (set.contains r.state.executed g) refl (set.contains (run r es).state.executed g) refl);
  };
  received = λ g there. elim (moves.received g there) [ inl was ↦ within.received g was | inr brought ↦ brought_in cover r es g local came brought ];
}
  where
    moves : Moves r.state (run r es).state (Brought r.site r.state es)
    moves = run_moves r.site r.state es

    kept : (g : Gtid) → set.contains r.state.executed g ≡ true → set.contains (run r es).state.executed g ≡ true
    kept = (run_grows r.site r.state es quiet).kept

    changed : (g : Gtid) (old : Bool) → set.contains r.state.executed g ≡ old → (new : Bool) → set.contains (run r es).state.executed g ≡ new → (set.contains (run r es).state.executed g ≡ set.contains r.state.executed g) ⊎ HasEnds cover.places g
    changed g true was new now = inl (kept g was ∙ sym was)
    changed g false was false now = inl (now ∙ sym was)
    changed g false was true now = elim (moves.origin g (inl now)) [
      | inl (inl done) ↦ absurd (true≢false (sym done ∙ was))
      | inl (inr there) ↦ inr (within.received g there).ends
      | inr brought ↦ inr (brought_in cover r es g local came brought).ends
    ]

pub knows_applied : (cover : Cover) (apply : Apply) (r t : Replica) → Applies apply r t → Knows r.state cover → Knows t.state cover
knows_applied cover apply r t w within =
    let off : (d : ℕ) → AllByRecursion (IsApart d) w.events = λ d. all_by (IsBetween apply) (IsApart d) (between_apart apply d) w.events w.between in
    subst (λ (x : Replica). Knows x.state cover) (sym w.now)
    (knows_run cover r w.events (no_locals 0 r.site r.state w.events (off 0)) (no_commits 0 r.site r.state w.events (off 0)) (λ c g h. nothing g (ap (λ es. is_entry es g) (sym (no_receipts c r.site r.state w.events (off c))) ∙ h)) within)

among : (es : List Entry) (cover : Cover) (g : Gtid) → HasEntries cover es → is_entry es g ≡ true → HasGtid cover g
among es cover g h i = let at = entry_at es g i in subst (HasGtid cover) at.3 (all_at (λ (e : Entry). HasGtid cover e.gtid) es at.0 at.1 h at.2)

-- a channel that receives these brings nothing else
pub knows_received : (cover : Cover) (apply : Apply) (r t : Replica) (c : ℕ) (entries : List Entry) → Receives apply r c entries t → HasEntries cover entries → Knows r.state cover → Knows t.state cover
knows_received cover apply r t c entries v h within =
    let off : (d : ℕ) → (c ≡ d → ⊥) → AllByRecursion (IsApart d) v.events = λ d other. all_by (IsFeed apply c) (IsApart d) (λ e. feed_apart apply c d e (ne_eqb c d other)) v.events v.feeds in
    let past = off (suc c) (λ same. absurd (omega (arith, same))) in
    subst (λ (x : Replica). Knows x.state cover) (sym v.now)
    (knows_run cover r v.events (no_locals (suc c) r.site r.state v.events past) (no_commits (suc c) r.site r.state v.events past)
    (λ d g k. elim (cases_eq c d) [
      | inl same ↦ among entries cover g h (ap (λ es. is_entry es g) (sym v.got ∙ ap (λ x. received_on x r.site r.state v.events) same) ∙ k)
      | inr other ↦ nothing g (ap (λ es. is_entry es g) (sym (no_receipts d r.site r.state v.events (off d other))) ∙ k)
    ]) within)

pub knows_opened : (cover : Cover) (r : Replica) (channel : BundleChannel) → Knows r.state cover → Knows (with_opened r channel).state cover
knows_opened cover r channel within = knows_run cover r (OpenChannel channel.name channel.preserve ∷ []) (tt, tt) refl (λ c g h. nothing g h) within

pub knows_asking : (cover : Cover) (r t : Replica) (c : ℕ) (channel : BundleChannel) (j : JournalValue) (es : List Entry) → Asks r c channel j es t → Knows r.state cover → Knows t.state cover
knows_asking cover r t c channel j es asks within =
    subst (λ (x : Replica). Knows x.state cover) (sym asks.now) (knows_run cover (with_opened r channel) (Position c ∷ []) (tt, tt) refl (λ d g h. nothing g h) (knows_opened cover r channel within))

pub sends_known : (cover : Cover) (r t : Replica) (c : ℕ) (channel : BundleChannel) (j : JournalValue) (es : List Entry) → Asks r c channel j es t → HasEntries cover j.entries → HasEntries cover es
sends_known cover r t c channel j es asks h = sent_all (λ (e : Entry). HasGtid cover e.gtid) j asks.ask es asks.all_sent h

all_left : {A : Type 0} (P : A → Type 0) (xs ys : List A) → AllByRecursion P (xs ++ ys) → AllByRecursion P xs
all_left P [] ys h = tt
all_left P (x ∷ xs) ys h = (h.0, all_left P xs ys h.1)

all_right : {A : Type 0} (P : A → Type 0) (xs ys : List A) → AllByRecursion P (xs ++ ys) → AllByRecursion P ys
all_right P [] ys h = h
all_right P (x ∷ xs) ys h = all_right P xs ys h.1

-- what it has received by then, and what it will
pub sends_both : (cover : Cover) (apply : Apply) (r t : Replica) (c : ℕ) (channel : BundleChannel) (j : JournalValue) (soon later : List Entry) → Starts apply r c channel j soon later t
    → HasEntries cover j.entries → HasEntries cover (soon ++ later)
sends_both cover apply r t c channel j soon later starts h = sends_known cover r starts.asking c channel j (soon ++ later) starts.asks h

pub sends_soon : (cover : Cover) (apply : Apply) (r t : Replica) (c : ℕ) (channel : BundleChannel) (j : JournalValue) (soon later : List Entry) → Starts apply r c channel j soon later t
    → HasEntries cover j.entries → HasEntries cover soon
sends_soon cover apply r t c channel j soon later starts h = all_left (λ (e : Entry). HasGtid cover e.gtid) soon later (sends_both cover apply r t c channel j soon later starts h)

pub sends_behind : (cover : Cover) (apply : Apply) (r t : Replica) (c : ℕ) (channel : BundleChannel) (j : JournalValue) (soon later : List Entry) → Starts apply r c channel j soon later t
    → HasEntries cover j.entries → HasEntries cover later
sends_behind cover apply r t c channel j soon later starts h = all_right (λ (e : Entry). HasGtid cover e.gtid) soon later (sends_both cover apply r t c channel j soon later starts h)

pub knows_started : (cover : Cover) (apply : Apply) (r t : Replica) (c : ℕ) (channel : BundleChannel) (j : JournalValue) (soon later : List Entry) → Starts apply r c channel j soon later t
    → HasEntries cover j.entries → Knows r.state cover → Knows t.state cover
knows_started cover apply r t c channel j soon later starts h within =
    knows_received cover apply starts.asking t c soon starts.received (sends_soon cover apply r t c channel j soon later starts h)
    (knows_asking cover r starts.asking c channel j (soon ++ later) starts.asks within)

knows_each : (cover : Cover) (apply : Apply) (r : Replica) (c : ℕ) (channels : List BundleChannel) (js : List JournalValue) (t : Replica) → ServesEach apply r c channels js t
    → AllByRecursion (HasJournal cover) js → Knows r.state cover → Knows t.state cover
knows_each cover apply r c channels [] t x h within = subst (λ (y : Replica). Knows y.state cover) (sym x) within
knows_each cover apply r c [] (j ∷ js) t x h within = absurd x
knows_each cover apply r c (channel ∷ channels) (j ∷ js) t x h within =
    knows_received cover apply x.3 t c x.1 x.6 (sends_behind cover apply r x.2 c channel j x.0 x.1 x.4 h.0.entries)
    (knows_each cover apply x.2 (c + 1) channels js x.3 x.5 h.1 (knows_started cover apply r x.2 c channel j x.0 x.1 x.4 h.0.entries within))

-- ---- from the opening

in_all : (opened : Gtids) (js : List JournalValue) (i : ℕ) (j : JournalValue) (g : Gtid) → slice_get js i ≡ Some j → set.contains (whole j) g ≡ true → set.contains (all_of opened js) g ≡ true
in_all opened [] i j g at h = none_some j at
in_all opened (k ∷ js) zero j g at h =
    set.contains-union gtid_total (whole k) (all_of opened js) g ∙ or_left (set.contains (whole k) g) (set.contains (all_of opened js) g) (ap (λ (x : JournalValue). set.contains (whole x) g) (same_Some k j at) ∙ h)
in_all opened (k ∷ js) (suc i) j g at h =
    set.contains-union gtid_total (whole k) (all_of opened js) g ∙ or_right (set.contains (whole k) g) (set.contains (all_of opened js) g) (in_all opened js i j g at h)

opened_in : (opened : Gtids) (js : List JournalValue) (g : Gtid) → set.contains opened g ≡ true → set.contains (all_of opened js) g ≡ true
opened_in opened [] g h = h
opened_in opened (k ∷ js) g h =
    set.contains-union gtid_total (whole k) (all_of opened js) g ∙ or_right (set.contains (whole k) g) (set.contains (all_of opened js) g) (opened_in opened js g h)

-- the ends of the GTIDs of entries
abbrev pub ends_of_entries : List Entry → List Gtid
ends_of_entries [] = []
ends_of_entries (e ∷ es) = e.gtid ∷ next_to e.gtid ∷ ends_of_entries es

-- the edges of the opening set and of the previous sets, and the ends of all entries
abbrev pub listed_places : Gtids → List JournalValue → List Gtid
listed_places opened [] = ends_of (runs opened)
listed_places opened (j ∷ js) = (ends_of (runs j.previous) ++ ends_of_entries j.entries) ++ listed_places opened js

abbrev pub places_of : Gtids → List JournalValue → Gtids
places_of opened js = set.from_list (listed_places opened js)

length-ends_of_entries : (es : List Entry) → length (ends_of_entries es) ≡ 2 * length es
length-ends_of_entries [] = refl
length-ends_of_entries (e ∷ es) = let rest = length-ends_of_entries es in omega (arith, rest)

length-listed_places : (opened : Gtids) (js : List JournalValue) → length (listed_places opened js) ≡ 2 * intervals_of opened js
length-listed_places opened [] = length-ends (runs opened)
length-listed_places opened (j ∷ js) =
    let both = length-append (ends_of (runs j.previous) ++ ends_of_entries j.entries) (listed_places opened js) in
    let own = length-append (ends_of (runs j.previous)) (ends_of_entries j.entries) in
    let previous = length-ends (runs j.previous) in
    let entries = length-ends_of_entries j.entries in
    let rest = length-listed_places opened js in
    omega (arith, both, own, previous, entries, rest)

-- so there are no more than twice the intervals and entries
few_places : (opened : Gtids) (js : List JournalValue) → AreManyEdges (places_of opened js) → most_intervals < intervals_of opened js
few_places opened js many =
    let le = len-listed (listed_places opened js) in
    let twice = length-listed_places opened js in
    omega (arith, many, le, twice)

in_front : (q : Gtid) (xs ys : List Gtid) → is_listed q xs ≡ true → is_listed q (xs ++ ys) ≡ true
in_front q xs ys h = list_any-append (same_gtid q) xs ys ∙ or_left (is_listed q xs) (is_listed q ys) h

in_back : (q : Gtid) (xs ys : List Gtid) → is_listed q ys ≡ true → is_listed q (xs ++ ys) ≡ true
in_back q xs ys h = list_any-append (same_gtid q) xs ys ∙ or_right (is_listed q xs) (is_listed q ys) h

-- the places of one journal are among those of all
in_places : (opened : Gtids) (js : List JournalValue) (i : ℕ) (j : JournalValue) (q : Gtid) → slice_get js i ≡ Some j → is_listed q (ends_of (runs j.previous) ++ ends_of_entries j.entries) ≡ true → is_listed q (listed_places opened js) ≡ true
in_places opened [] i j q at h = none_some j at
in_places opened (k ∷ js) zero j q at h =
    in_front q (ends_of (runs k.previous) ++ ends_of_entries k.entries) (listed_places opened js) (ap (λ (x : JournalValue). is_listed q (ends_of (runs x.previous) ++ ends_of_entries x.entries)) (same_Some k j at) ∙ h)
in_places opened (k ∷ js) (suc i) j q at h = in_back q (ends_of (runs k.previous) ++ ends_of_entries k.entries) (listed_places opened js) (in_places opened js i j q at h)

opened_places : (opened : Gtids) (js : List JournalValue) (q : Gtid) → is_listed q (ends_of (runs opened)) ≡ true → is_listed q (listed_places opened js) ≡ true
opened_places opened [] q h = h
opened_places opened (k ∷ js) q h = in_back q (ends_of (runs k.previous) ++ ends_of_entries k.entries) (listed_places opened js) (opened_places opened js q h)

-- the ends of one entry are among those of all
entry_ends : (es : List Entry) (p : ℕ) (e : Entry) (q : Gtid) → slice_get es p ≡ Some e → (same_gtid q e.gtid || (same_gtid q (next_to e.gtid) || false)) ≡ true → is_listed q (ends_of_entries es) ≡ true
entry_ends [] p e q at h = none_some e at
entry_ends (x ∷ es) zero e q at h = let same = ap (λ (y : Entry). y.gtid) (same_Some x e at) in first (same_gtid q x.gtid) (same_gtid q (next_to x.gtid)) (is_listed q (ends_of_entries es)) (ap (λ (g : Gtid). same_gtid q g || (same_gtid q (next_to g) || false)) same ∙ h)
  where
    first : (a b c : Bool) → (a || (b || false)) ≡ true → (a || (b || c)) ≡ true
    first true b c h = refl
    first false true c h = refl
    first false false c h = absurd cc
entry_ends (x ∷ es) (suc p) e q at h = or_right (same_gtid q x.gtid) (same_gtid q (next_to x.gtid) || is_listed q (ends_of_entries es)) (or_right (same_gtid q (next_to x.gtid)) (is_listed q (ends_of_entries es)) (entry_ends es p e q at h))

-- the GTIDs of the opening set and of all journals, and all these places
abbrev pub cover_of : Gtids → List JournalValue → Cover
cover_of opened js = record { all = all_of opened js; places = places_of opened js }

entry_covered : (opened : Gtids) (js : List JournalValue) (i : ℕ) (j : JournalValue) (p : ℕ) (e : Entry) → slice_get js i ≡ Some j → slice_get j.entries p ≡ Some e → HasGtid (cover_of opened js) e.gtid
entry_covered opened js i j p e at there = record {
  in_all = in_all opened js i j e.gtid at (in_whole j e.gtid ∙ or_right (set.contains j.previous e.gtid) (is_entry j.entries e.gtid) (entry_from j.entries p e there));
  ends = (
    place e.gtid (or_left (same_gtid e.gtid e.gtid) (same_gtid e.gtid (next_to e.gtid) || false) (same_itself e.gtid)),
    place (next_to e.gtid) (or_right (same_gtid (next_to e.gtid) e.gtid) (same_gtid (next_to e.gtid) (next_to e.gtid) || false) (or_left (same_gtid (next_to e.gtid) (next_to e.gtid)) false (same_itself (next_to e.gtid)))),
  );
}
  where
    place : (q : Gtid) → (same_gtid q e.gtid || (same_gtid q (next_to e.gtid) || false)) ≡ true → set.contains (places_of opened js) q ≡ true
    place q h = contains-listed (listed_places opened js) q ∙ in_places opened js i j q at (in_back q (ends_of (runs j.previous)) (ends_of_entries j.entries) (entry_ends j.entries p e q there h))

journals_in : (opened : Gtids) (js : List JournalValue) → AllByRecursion (HasJournal (cover_of opened js)) js
journals_in opened js = all_from (HasJournal (cover_of opened js)) js (λ i j at. record {
  previous = listed_edges (listed_places opened js) j.previous (λ q h. in_places opened js i j q at (in_front q (ends_of (runs j.previous)) (ends_of_entries j.entries) h));
  entries = all_from (λ (e : Entry). HasGtid (cover_of opened js) e.gtid) j.entries (λ p e there. entry_covered opened js i j p e at there);
})

-- the opening state of a bundle's replica and its journals are covered
pub knows_opening : (b : BundleValue) → KnowsToo (opening b).state b.journals (cover_of b.opened b.journals)
knows_opening b = (known, journals_in b.opened b.journals)
  where
    known : Knows (opening b).state (cover_of b.opened b.journals)
    known = record {
      executed = record {
        in_all = λ g h. opened_in b.opened b.journals g h;
        edges = listed_edges (listed_places b.opened b.journals) b.opened (λ q h. opened_places b.opened b.journals q h);
      };
      received = λ g h. none_some h.1 h.2;
    }

knows_served : (apply : Apply) (b : BundleValue) (served : Replica) → IsServed apply b served → Knows served.state (cover_of b.opened b.journals)
knows_served apply b served received =
    let start = knows_opening b in
    knows_each (cover_of b.opened b.journals) apply (opening b) 0 b.channels b.journals served received start.1 start.0

knows_all : (order : Order) (b : BundleValue) (core : Replica) → IsRun order b core → Knows core.state (cover_of b.opened b.journals)
knows_all order b core r = knows_applied (cover_of b.opened b.journals) AtOnce r.served core r.applies (knows_served r.apply b r.served r.received.1)

take_all_of : (P : Entry → Type 0) (n : ℕ) (es : List Entry) → AllByRecursion P es → AllByRecursion P (take n es)
take_all_of P zero es h = tt
take_all_of P (suc n) [] h = tt
take_all_of P (suc n) (e ∷ es) h = (h.0, take_all_of P n es h.1)

-- a replica that has received the first of some entries knows no more than these, and the next is one of them
pub knows_so_far : (cover : Cover) (apply : Apply) (r t : Replica) (c i : ℕ) (e : Entry) (es : List Entry) → i < length es → e ≡ get_or es i e → Receives apply r c (take i es) t
    → KnowsWith r.state es cover → KnowsWith t.state (e ∷ []) cover
knows_so_far cover apply r t c i e es few is v has =
    let P = λ (x : Entry). HasGtid cover x.gtid in (
      knows_received cover apply r t c (take i es) v (take_all_of P i es has.1) has.0,
      ((subst (AllByRecursion P) (drop-cons es i e few ∙ (λ k. sym is k ∷ drop (suc i) es)) (all_drop P i es has.1)).0, tt),
    )

-- ---- the set that an event makes

received_there : (s : State) (c : ℕ) (ch : ChannelValue) (g : Gtid) → slice_get s.channels c ≡ Some ch → set.contains (received_gtids ch.received) g ≡ true → IsReceived s g
received_there s c ch g at h = (c, ch, at, among_received ch.received g (sym (in_gtids (map (λ (e : Received). e.gtid) ch.received) g) ∙ h))

-- what a seat holds was received
held_there : (s : State) (seat : ℕ) (h : Held) → held s seat ≡ Some h → IsReceived s h.gtid
held_there s seat h e =
    let a = and_then_some (held_at s) (finmap.get s.seats seat) h e in
    let b = and_then_some (λ (ch : ChannelValue). option_and_then (held_of a.0 ch) (slice_get ch.received a.0.place)) (slice_get s.channels a.0.channel) h a.2 in
    let c = and_then_some (held_of a.0 b.0) (slice_get b.0.received a.0.place) h b.2 in
    let d = map_some (λ (t : Transaction). record { spot = a.0; channel = b.0; gtid = c.0.gtid; txn = t }) c.0.txn h c.2 in
    (a.0.channel, b.0, b.1, (a.0.place, c.0, c.1, ap (λ (x : Held). x.gtid) d.2))

-- the set of what a channel has received
has_received : (cover : Cover) (s : State) (c : ℕ) (ch : ChannelValue) → Knows s cover → slice_get s.channels c ≡ Some ch → HasSet cover (received_gtids ch.received)
has_received cover s c ch within at = record {
  in_all = λ g h. (within.received g (received_there s c ch g at h)).in_all;
  edges = members_edges cover.places (received_gtids ch.received) (λ g h. (within.received g (received_there s c ch g at h)).ends);
}

has_union : (cover : Cover) (s t : Gtids) → HasSet cover s → HasSet cover t → HasSet cover (set.union s t)
has_union cover s t x y = record {
  in_all = λ g h. elim (or_cases (set.contains s g) (set.contains t g) (sym (contains-union gtid_total s t g) ∙ h)) [ inl a ↦ x.in_all g a | inr b ↦ y.in_all g b ];
  edges = union_edges cover.places s t x.edges y.edges;
}

has_insert : (cover : Cover) (s : Gtids) (g : Gtid) → HasSet cover s → HasGtid cover g → HasSet cover (set.insert s g)
has_insert cover s g x y = record {
  in_all = λ h i. elim (or_cases (same_gtid h g) (set.contains s h) (sym (in_insert s g h) ∙ i)) [
    | inl is ↦ ap (set.contains cover.all) (same_is_equal h g is) ∙ y.in_all
    | inr was ↦ x.in_all h was
  ];
  edges = insert_edges cover.places s g x.edges y.ends;
}

-- the set with which a channel asks
pub has_ask : (cover : Cover) (s : State) (c : ℕ) (ch : ChannelValue) → Knows s cover → slice_get s.channels c ≡ Some ch → HasSet cover (ask s ch)
has_ask cover s c ch within at = has_union cover s.executed (received_gtids ch.received) within.executed (has_received cover s c ch within at)

-- ---- faults

-- a fault where less is asked of a cover
pub weaker : (f : SetFault) (Covers Covers' : Cover → Type 0) → ((cover : Cover) → Covers' cover → Covers cover) → IsFaultWhere Covers f → IsFaultWhere Covers' f
weaker f Covers Covers' has h = fault_map f (λ full cover a. full cover (has cover a)) (λ many cover a. many cover (has cover a)) h

-- a set that an event makes is too large: then what covers it is
set_fault : (f : SetFault) (Covers : Cover → Type 0) (made : Gtids) → ((cover : Cover) → Covers cover → HasSet cover made) → IsFaultOf f made → IsFaultWhere Covers f
set_fault f Covers made part h =
    fault_map f
    (λ high cover a. let low = fewer_sources made cover.all (part cover a).in_all in omega (arith, low, high))
    (λ many cover a. many_edges cover.places made (part cover a).edges many) h

option_fault : (f : SetFault) (Covers : Cover → Type 0) (o : Option Gtids) → ((cover : Cover) → Covers cover → (made : Gtids) → o ≡ Some made → HasSet cover made) → IsFaultIn f o → IsFaultWhere Covers f
option_fault f Covers None part h = memory_fault _ _ f h
option_fault f Covers (Some made) part h = set_fault f Covers made (λ cover a. part cover a made refl) h

pub position_fault : (f : SetFault) (s : State) (c : ℕ) → IsFaultIn f (ask_set c s) → IsFaultWhere (Knows s) f
position_fault f s c h = option_fault f (Knows s) (ask_set c s) (λ cover within made is.
    let r = map_some (ask s) (slice_get s.channels c) made is in
    subst (HasSet cover) r.2 (has_ask cover s c r.0 within r.1)) h

pub receive_fault : (f : SetFault) (s : State) (c : ℕ) (e : Entry) → IsFaultIn f (received_set c e s) → IsFaultWhere (KnowsWith s (e ∷ [])) f
receive_fault f s c e h = option_fault f (KnowsWith s (e ∷ [])) (received_set c e s) (λ cover has made is.
    let r = map_some (gtids_with e) (slice_get s.channels c) made is in
    subst (HasSet cover) r.2 (has_insert cover (received_gtids r.0.received) e.gtid (has_received cover s c r.0 has.0 r.1) has.1.0)) h

pub commit_fault : (f : SetFault) (s : State) (seat : ℕ) → IsFaultIn f (committed_set seat s) → IsFaultWhere (Knows s) f
commit_fault f s seat h = option_fault f (Knows s) (committed_set seat s) (λ cover within made is.
    let r = map_some (λ (x : Held). executed_with s x.gtid) (held s seat) made is in
    subst (HasSet cover) r.2 (has_insert cover s.executed r.0.gtid within.executed (within.received r.0.gtid (held_there s seat r.0 r.1)))) h

received_alone : (b : Bool) (c : ℕ) (e : Entry) (r : Reply) (g : Gtid) → is_entry (cond b (accepted_entries (Receive c e) r) [] ++ []) g ≡ true → g ≡ e.gtid
received_alone true c e (TheReceived p) g h = same_is_equal g e.gtid (from_or_false (same_gtid g e.gtid) h)
received_alone b c e r g h = nothing g h

-- an entry that is not received, or not committed at once
pub fault_at_once : (f : SetFault) (r : Replica) (c p : ℕ) (e : Entry) → IsFaultAtOnce f r.site 1 c p e r.state → IsFaultWhere (KnowsWith r.state (e ∷ [])) f
fault_at_once f r c p e (inl h) = receive_fault f r.state c e h.cause
fault_at_once f r c p e (inr h) =
    let taken = run r (Receive c e ∷ Take 1 c p ∷ []) in
    weaker f (Knows taken.state) (KnowsWith r.state (e ∷ []))
    (λ cover has. knows_run cover r (Receive c e ∷ Take 1 c p ∷ []) (tt, (tt, tt)) refl (λ d g k. subst (HasGtid cover) (sym (received_alone (eqb c d) c e (step r.site r.state (Receive c e)).0 g k)) has.1.0) has.0)
    (commit_fault f taken.state 1 h.cause)

-- the answer of a source to a replica that asks with what is executed is not made
ends_of_all : (cover : Cover) (es : List Entry) → HasEntries cover es → HasEndsOf cover.places es
ends_of_all cover [] h = tt
ends_of_all cover (e ∷ es) h = (h.0.ends, ends_of_all cover es h.1)

pub plan_fault : (f : SetFault) (s : State) (j : JournalValue) (asked : Gtids) → set.union s.executed (received_gtids []) ≡ asked → IsPlanFault j asked f → IsFaultWhere (KnowsToo s (j ∷ [])) f
plan_fault f s j asked is h = fault_map f (λ none. absurd none) (λ many cover has. many cover.places (record {
  asked = subst (HasEdges cover.places) is (union_edges cover.places s.executed (received_gtids []) has.0.executed.edges (empty_edges cover.places));
  journal_edges = record { previous = has.1.0.previous; entries = ends_of_all cover j.entries has.1.0.entries };
})) h

-- ---- the verdict of an audit

pub verdict_fault : (f : SetFault) (b : BundleValue) (opened : Gtids) (journals : List JournalValue) → opened ≡ b.opened → journals ≡ b.journals → IsAuditFault opened journals f → IsVerdictFault b f
verdict_fault f b opened journals o js h =
    fault_map f (λ none. none)
    (λ lacks. subst (λ (n : ℕ). most_intervals < n) (λ i. intervals_of (o i) (js i)) (lacks_few opened journals lacks))
    h

pub verdict_bundle : (f : SetFault) (b : BundleValue) → IsVerdictFault b f → IsBundleFault b f
verdict_bundle f b h = fault_map f (λ none. absurd none) (λ many. many) h

-- a fault of what the cover of a bundle has
pub bundle_fault : (f : SetFault) (b : BundleValue) (Covers : Cover → Type 0) → Covers (cover_of b.opened b.journals) → IsFaultWhere Covers f → IsBundleFault b f
bundle_fault f b Covers a h = fault_map f (λ full. full (cover_of b.opened b.journals) a) (λ many. few_places b.opened b.journals (many (cover_of b.opened b.journals) a)) h

-- a fault of work that is done after other work
pub later_fault : (f : SetFault) (apply : Apply) (r t : Replica) → Applies apply r t → IsFaultWhere (Knows t.state) f → IsFaultWhere (Knows r.state) f
later_fault f apply r t applies h = weaker f (Knows t.state) (Knows r.state) (λ cover within. knows_applied cover apply r t applies within) h

-- a fault of a replica that was served the journals of a bundle
pub served_fault : (f : SetFault) (apply : Apply) (b : BundleValue) (served : Replica) → IsServed apply b served → IsFaultWhere (Knows served.state) f → IsBundleFault b f
served_fault f apply b served received h = bundle_fault f b (Knows served.state) (knows_served apply b served received) h

-- ... and to which was applied since
run_fault : (f : SetFault) (order : Order) (b : BundleValue) (core : Replica) → IsRun order b core → IsFaultWhere (Knows core.state) f → IsBundleFault b f
run_fault f order b core r h = bundle_fault f b (Knows core.state) (knows_all order b core r) h

-- ... by which a commit of some seat is answered
pub seat_fault : (f : SetFault) (order : Order) (b : BundleValue) (core : Replica) (seat : ℕ) → IsRun order b core → IsFaultIn f (committed_set seat core.state) → IsBundleFault b f
seat_fault f order b core seat r h = run_fault f order b core r (commit_fault f core.state seat h)

-- a fault of the first journal
pub first_fault : (f : SetFault) (s : State) (j : JournalValue) (js journals : List JournalValue) → journals ≡ j ∷ js → IsFaultWhere (KnowsToo s (j ∷ [])) f → IsFaultWhere (KnowsToo s journals) f
first_fault f s j js journals is h =
    subst (λ (xs : List JournalValue). IsFaultWhere (KnowsToo s xs) f) (sym is) (weaker f (KnowsToo s (j ∷ [])) (KnowsToo s (j ∷ js)) (λ cover has. (has.0, (has.1.0, tt))) h)

-- a fault of the other journals, once a channel has begun with the first
pub rest_fault : (f : SetFault) (apply : Apply) (r a : Replica) (c : ℕ) (channel : BundleChannel) (j : JournalValue) (js journals : List JournalValue) (soon later : List Entry) → journals ≡ j ∷ js
    → Starts apply r c channel j soon later a → IsFaultWhere (KnowsToo a.state js) f → IsFaultWhere (KnowsToo r.state journals) f
rest_fault f apply r a c channel j js journals soon later is starts h =
    subst (λ (xs : List JournalValue). IsFaultWhere (KnowsToo r.state xs) f) (sym is)
    (weaker f (KnowsToo a.state js) (KnowsToo r.state (j ∷ js)) (λ cover has. (knows_started cover apply r a c channel j soon later starts has.1.0.entries has.0, has.1.1)) h)

-- a fault of what a channel receives as soon as it has asked
pub soon_fault : (f : SetFault) (r a : Replica) (c : ℕ) (channel : BundleChannel) (j : JournalValue) (js journals : List JournalValue) (all : List Entry)
    → journals ≡ j ∷ js → Asks r c channel j all a → IsFaultWhere (KnowsWith a.state all) f → IsFaultWhere (KnowsToo r.state journals) f
soon_fault f r a c channel j js journals all is asks h =
    subst (λ (xs : List JournalValue). IsFaultWhere (KnowsToo r.state xs) f) (sym is)
    (weaker f (KnowsWith a.state all) (KnowsToo r.state (j ∷ js))
    (λ cover has. (knows_asking cover r a c channel j all asks has.0, sends_known cover r a c channel j all asks has.1.0.entries)) h)

-- a fault of entries that a journal sends, once the others were served
pub sent_fault : (f : SetFault) (apply : Apply) (r a s : Replica) (c : ℕ) (channel : BundleChannel) (rest : List BundleChannel) (j : JournalValue) (js journals : List JournalValue) (all : List Entry)
    → journals ≡ j ∷ js → Asks r c channel j all a → ServesEach apply a (c + 1) rest js s → IsFaultWhere (KnowsWith s.state all) f → IsFaultWhere (KnowsToo r.state journals) f
sent_fault f apply r a s c channel rest j js journals all is asks more h =
    subst (λ (xs : List JournalValue). IsFaultWhere (KnowsToo r.state xs) f) (sym is)
    (weaker f (KnowsWith s.state all) (KnowsToo r.state (j ∷ js))
    (λ cover has. (
      knows_each cover apply a (c + 1) rest js s more has.1.1 (knows_asking cover r a c channel j all asks has.0),
      sends_known cover r a c channel j all asks has.1.0.entries,
    )) h)
