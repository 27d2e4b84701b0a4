-- Runs that serve journals, and what the laws give for them.
use Rattle.std.proofs.Common.{◌≡◌, ℕ, zero, suc, ◌+◌, ◌<◌, ◌&&◌, inr, Bool, true, false, cond, not, eqb, eq-eqb, List, [], ◌∷◌, ◌++◌, length, Option, Some, None, refl, sym, ap, ◌∙◌, subst, append_assoc, append-nil, arith}
use Rattle.std.specs.Prelude.{◌↔◌, slice_get}
use Rattle.std.specs.List.{list_all, AllByRecursion}
use Rattle.std.specs.Option.{unwrap_or}
use Rattle.std.specs.FinSet as set
use Rattle.std.proofs.lemmas.Bool.{and_from, ne_eqb}
use Rattle.std.proofs.lemmas.List.Folds.{list_all-append}
use Rattle.std.proofs.lemmas.Option.{same_Some, slice_get_past}
use Rattle.lemmas.proofs.Options.{none_some}
use Rattle.lemmas.proofs.Lists.{all_true, all_append}
use Rattle.gtid_text.specs.declared.Gtid.{Gtid}
use Rattle.journal.specs.declared.Entry.{Entry}
use Rattle.journal.specs.Journals.{JournalValue}
use Rattle.apply_channel.specs.Channels.{ChannelValue, Received}
use Rattle.replica_core.specs.declared.event.Event.{Event}
use Rattle.replica_core.specs.declared.event.Event.TheVariants.{OpenChannel, Position, Receive, Take, Commit, Rollback, Local}
use Rattle.replica_core.specs.declared.event.Reply.{Reply}
use Rattle.replica_core.specs.State.{State, Site, Replica}
use Rattle.replica_core.specs.Machine.{Step, step, after, drained}
use Rattle.replica_core.specs.Draining.{AreStoppedOrDone}
use Rattle.convergence.specs.Served.{IsDrained, IsNoLocalCommit, NoLocalCommits, received_on, accepted_entries, on_channel, committed_here, local_commits}
use Rattle.convergence.specs.Whole.{is_position, WasServedOnce}
use Rattle.convergence.proofs.Sharing.{after_append, received_append}
use Rattle.convergence.proofs.Serving.{run_grows}
use Rattle.world.specs.Search.{or_next}
use Rattle.world.specs.Audit.{found_in_keys, does_not_apply}
use Rattle.world.specs.Meaning.{AreJournals}
use Rattle.world.specs.declared.verdict.Verdict.{Verdict}
use Rattle.world.specs.declared.verdict.Verdict.TheVariants.{Sound}
use Rattle.convergence.specs.Deciding.{ServesAll}
use Rattle.convergence.proofs.Deciding.{serves_by_number}
use Rattle.convergence.specs.Auditing.{WorkersDecide, ServedHoldsAll}
use Rattle.txn_journal.specs.BundleStates.{BundleValue}
use Rattle.txn_journal.specs.declared.bundle.BundleChannel.{BundleChannel}
use Rattle.serving.specs.declared.receiving.Apply.{Apply}
use Rattle.serving.specs.declared.receiving.Apply.TheVariants.{Later, AtOnce}
use Rattle.serving.specs.Serving.{run, IsBetween, apply_events_at, IsFeed, Applies, Receives, with_opened, Asks, Starts, ServesEach, opening, IsServed, IsApplied, IsReady, IsRun}
use Rattle.world.specs.AuditInOrder as in_order
use Rattle.convergence.specs.AuditingInOrder.{WorkersDecideInOrder, ServedHoldsAllInOrder}
use Rattle.serving.specs.declared.order.Order.{Order}
use Rattle.serving.specs.declared.order.Order.TheVariants.{BySource, ByConflict}
use Rattle.serving.specs.Verdicts.{is_sound, world_over, keys_over, verdict_over, HoldsAllBy, IsFoundInKeys, IsConcluded}

-- ---- lists of events

pub all_by : {X : Type 0} (P Q : X → Type 0) → ((x : X) → P x → Q x) → (xs : List X) → AllByRecursion P xs → AllByRecursion Q xs
all_by P Q each [] h = tt
all_by P Q each (x ∷ xs) h = (each x h.0, all_by P Q each xs h.1)

pub passes : {X : Type 0} (P : X → Type 0) (q : X → Bool) → ((x : X) → P x → q x ≡ true) → (xs : List X) → AllByRecursion P xs → list_all q xs ≡ true
passes P q each [] h = refl
passes P q each (x ∷ xs) h = (λ i. each x h.0 i && list_all q xs) ∙ passes P q each xs h.1

-- ---- events that bring nothing to a channel

-- the event neither commits here nor positions or feeds this channel
abbrev pub IsApart : ℕ → Event → Type 0
IsApart d (Position c) = eqb c d ≡ false
IsApart d (Receive c entry) = eqb c d ≡ false
IsApart d (Local txn) = ⊥
IsApart d event = Unit {0}

nothing_at : (d : ℕ) (e : Event) (r : Reply) → IsApart d e → on_channel d e (accepted_entries e r) ≡ []
nothing_at d (Receive c entry) r h = ap (λ (b : Bool). cond b (accepted_entries (Receive c entry) r) []) h
nothing_at d e r h = refl

pub no_receipts : (d : ℕ) (site : Site) (s : State) (es : List Event) → AllByRecursion (IsApart d) es → received_on d site s es ≡ []
no_receipts d site s [] h = refl
no_receipts d site s (e ∷ es) h =
    (λ i. nothing_at d e (step site s e).0 h.0 i ++ received_on d site (step site s e).1 es) ∙ no_receipts d site (step site s e).1 es h.1

no_local : (d : ℕ) (e : Event) (r : Reply) → IsApart d e → IsNoLocalCommit e r
no_local d (Local txn) r h = absurd h
no_local d e r h = tt

pub no_locals : (d : ℕ) (site : Site) (s : State) (es : List Event) → AllByRecursion (IsApart d) es → NoLocalCommits site s es
no_locals d site s [] h = tt
no_locals d site s (e ∷ es) h = (no_local d e (step site s e).0 h.0, no_locals d site (step site s e).1 es h.1)

none_committed : (d : ℕ) (e : Event) (r : Reply) → IsApart d e → committed_here e r ≡ []
none_committed d (Local txn) r h = absurd h
none_committed d e r h = refl

pub no_commits : (d : ℕ) (site : Site) (s : State) (es : List Event) → AllByRecursion (IsApart d) es → local_commits site s es ≡ []
no_commits d site s [] h = refl
no_commits d site s (e ∷ es) h =
    (λ i. none_committed d e (step site s e).0 h.0 i ++ local_commits site (step site s e).1 es) ∙ no_commits d site (step site s e).1 es h.1

apart_once : (d : ℕ) (e : Event) → IsApart d e → not (is_position d e) ≡ true
apart_once d (Position c) h = ap not h
apart_once d e h = refl

-- what comes between entries is apart from each channel
pub between_apart : (apply : Apply) (d : ℕ) (e : Event) → IsBetween apply e → IsApart d e
between_apart AtOnce d (Take seat c p) h = tt
between_apart AtOnce d (Commit seat) h = tt
between_apart AtOnce d (Rollback seat) h = tt
between_apart apply d e h = absurd h

pub applied_between : (apply : Apply) (c p : ℕ) → AllByRecursion (IsBetween apply) (apply_events_at apply c p)
applied_between AtOnce c p = (tt, (tt, tt))
applied_between Later c p = tt

between_feeds : (apply : Apply) (c : ℕ) (e : Event) → IsBetween apply e → IsFeed apply c e
between_feeds AtOnce c (Receive d entry) h = absurd h
between_feeds Later c e h = absurd h
between_feeds AtOnce c e h = h

-- what feeds a channel is apart from each other, and positions none
pub feed_apart : (apply : Apply) (c d : ℕ) (e : Event) → eqb c d ≡ false → IsFeed apply c e → IsApart d e
feed_apart apply c d (Receive x entry) other h = ap (λ n. eqb n d) h ∙ other
feed_apart apply c d e other h = between_apart apply d e h

feed_once : (apply : Apply) (c d : ℕ) (e : Event) → IsFeed apply c e → not (is_position d e) ≡ true
feed_once apply c d (Receive x entry) h = refl
feed_once apply c d e h = apart_once d e (between_apart apply d e h)

both_once : (c : ℕ) (es fs : List Event) → list_all (λ e. not (is_position c e)) es ≡ true → list_all (λ e. not (is_position c e)) fs ≡ true → list_all (λ e. not (is_position c e)) (es ++ fs) ≡ true
both_once c es fs first next = list_all-append (λ e. not (is_position c e)) es fs ∙ and_from (list_all (λ e. not (is_position c e)) es) (list_all (λ e. not (is_position c e)) fs) first next

-- ---- events in turn

-- events, and then others
pub then_run : (r s t : Replica) (es fs : List Event) → s ≡ run r es → t ≡ run s fs → t ≡ run r (es ++ fs)
then_run r s t es fs first next =
    next ∙ ap (λ (x : Replica). run x fs) first ∙ (λ i. record { site = r.site; state = sym (after_append r.site r.state es fs) i })

-- one event
pub ran : (r t : Replica) (reply : Reply) (e : Event) → t.site ≡ r.site → ◌≡◌ {A = Step} (reply, t.state) (step r.site r.state e) → t ≡ run r (e ∷ [])
ran r t reply e site made = λ i. record { site = site i; state = ap (λ (x : Step). x.1) made i }

pub applies_none : (apply : Apply) (r : Replica) → Applies apply r r
applies_none apply r = record { events = []; between = tt; now = refl }

pub applies_more : (apply : Apply) (r s t : Replica) → Applies apply r s → Applies apply s t → Applies apply r t
applies_more apply r s t v w =
    record { events = v.events ++ w.events; between = all_append (IsBetween apply) v.events w.events v.between w.between; now = then_run r s t v.events w.events v.now w.now }

-- one event of them
pub applies_step : (apply : Apply) (r t : Replica) (reply : Reply) (e : Event) → IsBetween apply e → t.site ≡ r.site → ◌≡◌ {A = Step} (reply, t.state) (step r.site r.state e) → Applies apply r t
applies_step apply r t reply e between site made = record { events = e ∷ []; between = (between, tt); now = ran r t reply e site made }

pub receives_none : (apply : Apply) (r : Replica) (c : ℕ) → Receives apply r c [] r
receives_none apply r c = record { events = []; feeds = tt; now = refl; got = refl }

-- an entry is received, and then comes what may come
pub receives_one : (apply : Apply) (r t : Replica) (c : ℕ) (e : Entry) (more : List Event) → AllByRecursion (IsBetween apply) more
    → accepted_entries (Receive c e) (step r.site r.state (Receive c e)).0 ≡ e ∷ [] → t ≡ run r (Receive c e ∷ more) → Receives apply r c (e ∷ []) t
receives_one apply r t c e more between took now = record {
  events = Receive c e ∷ more;
  feeds = (refl, all_by (IsBetween apply) (IsFeed apply c) (between_feeds apply c) more between);
  now = now;
  got =
      (λ i. cond (eq-eqb c c refl i) (took i) [] ++ received_on c r.site (step r.site r.state (Receive c e)).1 more)
      ∙ ap (λ (es : List Entry). e ∷ es) (no_receipts c r.site (step r.site r.state (Receive c e)).1 more (all_by (IsBetween apply) (IsApart c) (between_apart apply c) more between));
}

-- entries are received, and then others
pub receives_more : (apply : Apply) (r s t : Replica) (c : ℕ) (xs ys : List Entry) → Receives apply r c xs s → Receives apply s c ys t → Receives apply r c (xs ++ ys) t
receives_more apply r s t c xs ys v w =
    let later : received_on c r.site (after r.site r.state v.events) w.events ≡ ys = subst (λ (x : Replica). received_on c x.site x.state w.events ≡ ys) v.now w.got in
    let got = received_append c r.site r.state v.events w.events ∙ (λ i. v.got i ++ later i) in
    record { events = v.events ++ w.events; feeds = all_append (IsFeed apply c) v.events w.events v.feeds w.feeds; now = then_run r s t v.events w.events v.now w.now; got = got }

-- ---- what leaves a channel as it is seen

-- it opens one, or positions or feeds another, or comes between entries
abbrev pub IsElsewhere : Apply → ℕ → Event → Type 0
IsElsewhere apply d (OpenChannel name preserve) = Unit {0}
IsElsewhere apply d (Position c) = eqb c d ≡ false
IsElsewhere apply d (Receive c entry) = eqb c d ≡ false
IsElsewhere apply d event = IsBetween apply event

pub between_elsewhere : (apply : Apply) (d : ℕ) (e : Event) → IsBetween apply e → IsElsewhere apply d e
between_elsewhere Later d e h = absurd h
between_elsewhere AtOnce d (OpenChannel name preserve) h = absurd h
between_elsewhere AtOnce d (Position c) h = absurd h
between_elsewhere AtOnce d (Receive c entry) h = absurd h
between_elsewhere AtOnce d e h = h

feed_elsewhere : (apply : Apply) (c d : ℕ) (e : Event) → eqb c d ≡ false → IsFeed apply c e → IsElsewhere apply d e
feed_elsewhere apply c d (Receive x entry) other h = ap (λ n. eqb n d) h ∙ other
feed_elsewhere apply c d e other h = between_elsewhere apply d e h

-- ---- one journal

module _ (apply : Apply) (r : Replica) (c : ℕ) (channel : BundleChannel) (j : JournalValue) (soon later : List Entry) (a : Replica) (starts : Starts apply r c channel j soon later a) where
  abbrev first_fed : List Event
  first_fed = starts.received.events

  abbrev pub begun : List Event
  begun = OpenChannel channel.name channel.preserve ∷ Position c ∷ first_fed

  begun_apart : (d : ℕ) → eqb c d ≡ false → AllByRecursion (IsApart d) begun
  begun_apart d other = (tt, (other, all_by (IsFeed apply c) (IsApart d) (λ e h. feed_apart apply c d e other h) first_fed starts.received.feeds))

  begun_elsewhere : (d : ℕ) → eqb c d ≡ false → AllByRecursion (IsElsewhere apply d) begun
  begun_elsewhere d other = (tt, (other, all_by (IsFeed apply c) (IsElsewhere apply d) (λ e h. feed_elsewhere apply c d e other h) first_fed starts.received.feeds))

  pub starts_run : a ≡ run r begun
  starts_run = then_run r starts.asking a (OpenChannel channel.name channel.preserve ∷ Position c ∷ []) first_fed starts.asks.now starts.received.now

  -- what was executed stays so
  pub starts_keeps : (g : Gtid) → set.contains r.state.executed g ≡ true → set.contains a.state.executed g ≡ true
  starts_keeps g h =
      let other : eqb c (suc c) ≡ false = ne_eqb c (suc c) (λ e. absurd (omega (arith, e))) in
      subst (λ (x : Replica). set.contains x.state.executed g ≡ true) (sym starts_run)
      ((run_grows r.site r.state begun (no_locals (suc c) r.site r.state begun (begun_apart (suc c) other))).kept g h)

  -- it is served by what it asked and what it receives, if nothing between and nothing later touches the channel
  served_first : (s t : Replica) (between : List Event) (receives : Receives apply s c later t) (rest : List Event) → s ≡ run a between → AllByRecursion (IsApart c) between
      → AllByRecursion (IsApart c) rest → WasServedOnce r.site r.state (begun ++ (between ++ (receives.events ++ rest))) c j
  served_first s t between receives rest reached quiet apart =
      let fed : List Event = receives.events in
      let asked : State = (run (with_opened r channel) (Position c ∷ [])).state in
      let started : State = after r.site asked first_fed in
      let ready : State = after r.site started between in
      let at : s ≡ run (run (run (with_opened r channel) (Position c ∷ [])) first_fed) between =
      reached ∙ ap (λ (x : Replica). run x between) (starts.received.now ∙ ap (λ (x : Replica). run x first_fed) starts.asks.now) in
      let first : received_on c r.site asked first_fed ≡ soon = subst (λ (x : Replica). received_on c x.site x.state first_fed ≡ soon) starts.asks.now starts.received.got in
      let got : received_on c r.site ready fed ≡ later = subst (λ (x : Replica). received_on c x.site x.state fed ≡ later) at receives.got in
      let last : received_on c r.site ready (fed ++ rest) ≡ later =
      received_append c r.site ready fed rest ∙ (λ i. got i ++ no_receipts c r.site (after r.site ready fed) rest apart i) ∙ append-nil later in
      let behind : received_on c r.site started (between ++ (fed ++ rest)) ≡ later =
      received_append c r.site started between (fed ++ rest) ∙ (λ i. no_receipts c r.site started between quiet i ++ last i) in
      record {
        served = record {
          own = None;
          before = OpenChannel channel.name channel.preserve ∷ [];
          later = first_fed ++ (between ++ (fed ++ rest));
          ask = starts.asks.ask;
          all = soon ++ later;
          parts = refl;
          nothing_before = refl;
          asked = starts.asks.asked;
          all_sent = starts.asks.all_sent;
          all_received = received_append c r.site asked first_fed (between ++ (fed ++ rest)) ∙ (λ i. first i ++ behind i);
        };
        once = both_once c first_fed (between ++ (fed ++ rest)) (passes (IsFeed apply c) (λ e. not (is_position c e)) (feed_once apply c c) first_fed starts.received.feeds)
            (both_once c between (fed ++ rest) (passes (IsApart c) (λ e. not (is_position c e)) (apart_once c) between quiet)
            (both_once c fed rest (passes (IsFeed apply c) (λ e. not (is_position c e)) (feed_once apply c c) fed receives.feeds)
            (passes (IsApart c) (λ e. not (is_position c e)) (apart_once c) rest apart)));
      }

-- what comes before may not touch the channel
served_later : (r t : Replica) (d : ℕ) (j : JournalValue) (es fs : List Event) → t ≡ run r es → AllByRecursion (IsApart d) es → WasServedOnce t.site t.state fs d j → WasServedOnce r.site r.state (es ++ fs) d j
served_later r t d j es fs reached apart w =
    let v = subst (λ (x : Replica). WasServedOnce x.site x.state fs d j) reached w in
    let joined = after_append r.site r.state es v.served.before in
    record {
      served = record {
        own = v.served.own;
        before = es ++ v.served.before;
        later = v.served.later;
        ask = v.served.ask;
        all = v.served.all;
        parts = ap (λ (x : List Event). es ++ x) v.served.parts ∙ sym (append_assoc es v.served.before (Position d ∷ v.served.later));
        nothing_before = received_append d r.site r.state es v.served.before ∙ (λ i. no_receipts d r.site r.state es apart i ++ v.served.nothing_before i);
        asked = ap (λ (x : State). (step r.site x (Position d)).0) joined ∙ v.served.asked;
        all_sent = v.served.all_sent;
        all_received = ap (λ (x : State). received_on d r.site (step r.site x (Position d)).1 v.served.later) joined ∙ v.served.all_received;
      };
      once = v.once;
    }

-- ---- each journal

-- the events that serve each journal on a channel of its own, the first on that of this number
record Serves (apply : Apply) (r : Replica) (c : ℕ) (js : List JournalValue) (t : Replica) : Type 0 where
  events : List Event
  now : t ≡ run r events
  elsewhere : (d : ℕ) → d < c → AllByRecursion (IsElsewhere apply d) events
  apart : (d : ℕ) → ((k : ℕ) → d ≡ c + k → slice_get js k ≡ None) → AllByRecursion (IsApart d) events
  served : (rest : List Event) (k d : ℕ) (j : JournalValue) → d ≡ c + k → slice_get js k ≡ Some j → AllByRecursion (IsApart d) rest
      → WasServedOnce r.site r.state (events ++ rest) d j

some_not_none : {A P : Type 0} (x : A) → Some x ≡ None → P
some_not_none x e = cc

module _ (apply : Apply) (r : Replica) (c : ℕ) (channel : BundleChannel) (first : JournalValue) (js : List JournalValue) (soon later : List Entry) (a s t : Replica)
    (starts : Starts apply r c channel first soon later a) (more : Serves apply a (c + 1) js s) (receives : Receives apply s c later t) where
  abbrev front : List Event
  front = begun apply r c channel first soon later a starts

  abbrev fed : List Event
  fed = receives.events

  abbrev each : List Event
  each = front ++ (more.events ++ fed)

  each_run : t ≡ run r each
  each_run = then_run r a t front (more.events ++ fed) (starts_run apply r c channel first soon later a starts) (then_run a s t more.events fed more.now receives.now)

  fed_apart : (d : ℕ) → eqb c d ≡ false → AllByRecursion (IsApart d) fed
  fed_apart d other = all_by (IsFeed apply c) (IsApart d) (λ e h. feed_apart apply c d e other h) fed receives.feeds

  each_elsewhere : (d : ℕ) → d < c → AllByRecursion (IsElsewhere apply d) each
  each_elsewhere d low =
      let other : eqb c d ≡ false = ne_eqb c d (λ e. absurd (omega (arith, e, low))) in
      all_append (IsElsewhere apply d) front (more.events ++ fed) (begun_elsewhere apply r c channel first soon later a starts d other)
      (all_append (IsElsewhere apply d) more.events fed (more.elsewhere d (omega (arith, low)))
      (all_by (IsFeed apply c) (IsElsewhere apply d) (λ e h. feed_elsewhere apply c d e other h) fed receives.feeds))

  each_apart : (d : ℕ) → ((k : ℕ) → d ≡ c + k → slice_get (first ∷ js) k ≡ None) → AllByRecursion (IsApart d) each
  each_apart d h =
      let other : eqb c d ≡ false = ne_eqb c d (λ e. let z : d ≡ c + zero = omega (arith, e) in some_not_none first (h zero z)) in
      all_append (IsApart d) front (more.events ++ fed) (begun_apart apply r c channel first soon later a starts d other)
      (all_append (IsApart d) more.events fed (more.apart d (λ k e. let z : d ≡ c + suc k = omega (arith, e) in h (suc k) z)) (fed_apart d other))

  whole : (rest : List Event) → each ++ rest ≡ front ++ (more.events ++ (fed ++ rest))
  whole rest = append_assoc front (more.events ++ fed) rest ∙ ap (λ (es : List Event). front ++ es) (append_assoc more.events fed rest)

  each_served : (rest : List Event) (k d : ℕ) (j : JournalValue) → d ≡ c + k → slice_get (first ∷ js) k ≡ Some j → AllByRecursion (IsApart d) rest → WasServedOnce r.site r.state (each ++ rest) d j
  each_served rest zero d j e at apart =
      let same : d ≡ c = omega (arith, e) in
      let quiet : AllByRecursion (IsApart c) more.events = more.apart c (λ k z. absurd (omega (arith, z))) in
      let here = served_first apply r c channel first soon later a starts s t more.events receives rest more.now quiet (subst (λ (n : ℕ). AllByRecursion (IsApart n) rest) same apart) in
      subst (λ (n : ℕ). WasServedOnce r.site r.state (each ++ rest) n j) (sym same)
      (subst (λ (es : List Event). WasServedOnce r.site r.state es c j) (sym (whole rest))
      (subst (λ (x : JournalValue). WasServedOnce r.site r.state (front ++ (more.events ++ (fed ++ rest))) c x) (same_Some first j at) here))
  each_served rest (suc k) d j e at apart =
      let behind : d ≡ (c + 1) + k = omega (arith, e) in
      let other : eqb c d ≡ false = ne_eqb c d (λ z. absurd (omega (arith, z, behind))) in
      let quiet : AllByRecursion (IsApart d) (fed ++ rest) = all_append (IsApart d) fed rest (fed_apart d other) apart in
      subst (λ (es : List Event). WasServedOnce r.site r.state es d j) (sym (whole rest))
      (served_later r a d j front (more.events ++ (fed ++ rest)) (starts_run apply r c channel first soon later a starts) (begun_apart apply r c channel first soon later a starts d other)
      (more.served (fed ++ rest) k d j behind at quiet))

serves_each : (apply : Apply) (r : Replica) (c : ℕ) (channels : List BundleChannel) (js : List JournalValue) (t : Replica) → ServesEach apply r c channels js t → Serves apply r c js t
serves_each apply r c channels [] t x = record { events = []; now = x; elsewhere = λ d low. tt; apart = λ d h. tt; served = λ rest k d j e at apart. none_some j at }
serves_each apply r c [] (j ∷ js) t x = absurd x
serves_each apply r c (channel ∷ channels) (j ∷ js) t x =
    let more = serves_each apply x.2 (c + 1) channels js x.3 x.5 in
    record {
      events = each apply r c channel j js x.0 x.1 x.2 x.3 t x.4 more x.6;
      now = each_run apply r c channel j js x.0 x.1 x.2 x.3 t x.4 more x.6;
      elsewhere = each_elsewhere apply r c channel j js x.0 x.1 x.2 x.3 t x.4 more x.6;
      apart = each_apart apply r c channel j js x.0 x.1 x.2 x.3 t x.4 more x.6;
      served = each_served apply r c channel j js x.0 x.1 x.2 x.3 t x.4 more x.6;
    }

-- the channels before those that are served stay as they are seen
pub record IsServedBehind (apply : Apply) (d : ℕ) (r t : Replica) : Type 0 where
  pub events : List Event
  pub now : t ≡ run r events
  pub elsewhere : AllByRecursion (IsElsewhere apply d) events

pub served_behind : (apply : Apply) (r : Replica) (c d : ℕ) (channels : List BundleChannel) (js : List JournalValue) (t : Replica) → d < c → ServesEach apply r c channels js t → IsServedBehind apply d r t
served_behind apply r c d channels js t low x =
    let each = serves_each apply r c channels js t x in
    record { events = each.events; now = each.now; elsewhere = each.elsewhere d low }

-- one journal, and the others
pub serves_more : (apply : Apply) (r a s t : Replica) (c : ℕ) (channel : BundleChannel) (channels rest : List BundleChannel) (j : JournalValue) (js journals : List JournalValue) (soon later : List Entry)
    → channels ≡ channel ∷ rest → journals ≡ j ∷ js → Starts apply r c channel j soon later a → ServesEach apply a (c + 1) rest js s → Receives apply s c later t → ServesEach apply r c channels journals t
serves_more apply r a s t c channel channels rest j js journals soon later of is starts more receives =
    subst (λ (xs : List JournalValue). ServesEach apply r c channels xs t) (sym is)
    (subst (λ (cs : List BundleChannel). ServesEach apply r c cs (j ∷ js) t) (sym of) (soon, later, a, s, starts, more, receives))

-- a channel has received nothing yet, or all
pub starts_none : (apply : Apply) (r a : Replica) (c : ℕ) (channel : BundleChannel) (j : JournalValue) (all : List Entry) → Asks r c channel j all a → Starts apply r c channel j [] all a
starts_none apply r a c channel j all asks = record { asking = a; asks = asks; received = receives_none apply a c }

pub starts_all : (apply : Apply) (r a t : Replica) (c : ℕ) (channel : BundleChannel) (j : JournalValue) (all : List Entry) → Asks r c channel j all a → Receives apply a c all t
    → Starts apply r c channel j all [] t
starts_all apply r a t c channel j all asks received =
    record { asking = a; asks = subst (λ (es : List Entry). Asks r c channel j es a) (sym (append-nil all)) asks; received = received }

-- ---- the run

-- the events of a run that serves all journals of a bundle
pub record IsRunOf (b : BundleValue) (core : Replica) : Type 0 where
  pub events : List Event
  pub reached : core ≡ run (opening b) events
  pub serves : ServesAll (opening b).site (opening b).state b.journals events

pub run_of : (order : Order) (b : BundleValue) (core : Replica) → IsRun order b core → IsRunOf b core
run_of order b core r =
    let from : Replica = opening b in
    let each = serves_each r.apply from 0 b.channels b.journals r.served r.received.1 in
    let later = r.applies.events in
    let off : (d : ℕ) → AllByRecursion (IsApart d) later = λ d. all_by (IsBetween AtOnce) (IsApart d) (between_apart AtOnce d) later r.applies.between in
    let apart : (d : ℕ) → slice_get b.journals d ≡ None → AllByRecursion (IsApart d) (each.events ++ later) = λ d none.
    all_append (IsApart d) each.events later (each.apart d (λ k e. let z : d ≡ k = omega (arith, e) in subst (λ (n : ℕ). slice_get b.journals n ≡ None) z none)) (off d)
    in
    record {
      events = each.events ++ later;
      reached = then_run from r.served core each.events later each.now r.applies.now;
      serves = serves_by_number from.site from.state b.journals (each.events ++ later)
          (no_locals (length b.journals) from.site from.state (each.events ++ later) (apart (length b.journals) (slice_get_past b.journals (length b.journals) (omega arith))))
          (λ c j at. let z : c ≡ 0 + c = omega arith in each.served later c c j z at (off c))
          (λ c none. no_receipts c from.site from.state (each.events ++ later) (apart c none));
    }

pub true_from : {A : Type 0} (p : A → Bool) (xs : List A) → ((i : ℕ) (x : A) → slice_get xs i ≡ Some x → p x ≡ true) → list_all p xs ≡ true
true_from p [] h = refl
true_from p (x ∷ xs) h = and_from (p x) (list_all p xs) (h 0 x refl) (true_from p xs (λ i y at. h (suc i) y at))

abbrev is_settled : State → ChannelValue → Bool
is_settled s k = list_all (λ (x : Received). set.contains s.executed x.gtid) k.received

is_drained : (s : State) → drained s ≡ true → IsDrained s
is_drained s h c p channel e at there =
    all_true (λ (x : Received). set.contains s.executed x.gtid) channel.received p e (all_true (is_settled s) s.channels c channel h at) there

all_drained : (s : State) → IsDrained s → drained s ≡ true
all_drained s h =
    true_from (is_settled s) s.channels (λ c channel at. true_from (λ (x : Received). set.contains s.executed x.gtid) channel.received (λ p e there. h c p channel e at there))

stopped_or_done : (s : State) → IsDrained s → AreStoppedOrDone s
stopped_or_done s h c channel at = inr (λ p e there. h c p channel e at there)

-- nothing is left to do where all is executed
pub drained_done : (s : State) → drained s ≡ true → AreStoppedOrDone s
drained_done s h = stopped_or_done s (is_drained s h)

-- ---- verdicts

sound_is : (v : Verdict) → is_sound v ≡ true → v ≡ Sound
sound_is Sound h = refl
sound_is v h = absurd (cc h)

sound_not : (v : Verdict) → is_sound v ≡ false → v ≡ Sound → ⊥
sound_not v h e = let b : is_sound v ≡ true = ap is_sound e in cc

stays : (o p : Option Verdict) → (unwrap_or o Sound ≡ Sound → ⊥) → unwrap_or o Sound ≡ unwrap_or (or_next o p) Sound
stays (Some v) p h = refl
stays None p h = absurd (h refl)

-- what the audit of keys finds is what the audit finds
keys_stay : (order : Order) (b : BundleValue) → (keys_over order b ≡ Sound → ⊥) → keys_over order b ≡ verdict_over order b
keys_stay BySource b h = stays (found_in_keys (world_over b) b.journals) (does_not_apply (world_over b)) h
keys_stay ByConflict b h = stays (in_order.found_in_keys_in_order (world_over b) b.journals) (in_order.fails_in_order (world_over b) b.journals) h

pub keys_found : (order : Order) (b : BundleValue) (keys : Verdict) → keys ≡ keys_over order b → is_sound keys ≡ false → IsFoundInKeys order b (Some keys)
keys_found order b keys is h =
    let not_sound = sound_not keys h in
    (is ∙ keys_stay order b (λ e. not_sound (is ∙ e)), not_sound)

pub keys_sound : (order : Order) (b : BundleValue) (keys : Verdict) → keys ≡ keys_over order b → is_sound keys ≡ true → IsFoundInKeys order b None
keys_sound order b keys is h = sym is ∙ sound_is keys h

-- the laws of runs, of both audits
pub record Laws : Type 0 where
  pub decide : WorkersDecide
  pub holds : ServedHoldsAll
  pub decide_in_order : WorkersDecideInOrder
  pub holds_in_order : ServedHoldsAllInOrder

-- a run that serves all journals has executed all of them exactly where the audit reports Sound
decides : (order : Order) (b : BundleValue) → Laws → AreJournals b.journals → keys_over order b ≡ Sound → (events : List Event) → ServesAll (opening b).site (opening b).state b.journals events
    → AreStoppedOrDone (after (opening b).site (opening b).state events) → IsDrained (after (opening b).site (opening b).state events) ↔ (verdict_over order b ≡ Sound)
decides BySource b laws rules sound events serves ends = laws.decide (opening b).site b.opened b.start.rows b.journals events rules sound serves ends
decides ByConflict b laws rules sound events serves ends = laws.decide_in_order (opening b).site b.opened b.start.rows b.journals events rules sound serves ends

-- ... and then holds them
holds_them : (order : Order) (b : BundleValue) → Laws → AreJournals b.journals → keys_over order b ≡ Sound → (events : List Event) → ServesAll (opening b).site (opening b).state b.journals events
    → IsDrained (after (opening b).site (opening b).state events) → HoldsAllBy order b (after (opening b).site (opening b).state events)
holds_them BySource b laws rules sound events serves dry = laws.holds (opening b).site b.opened b.start.rows b.journals events rules sound serves dry
holds_them ByConflict b laws rules sound events serves dry = laws.holds_in_order (opening b).site b.opened b.start.rows b.journals events rules sound serves dry

-- what is drained is what an audit calls sound, and holds all journals
pub holds_all : (order : Order) (b : BundleValue) (core : Replica) → IsRun order b core → AreJournals b.journals → drained core.state ≡ true → Laws
    → (verdict_over order b ≡ Sound) × HoldsAllBy order b core.state
holds_all order b core r rules done laws =
    let w = run_of order b core r in
    let at : core.state ≡ after (opening b).site (opening b).state w.events = ap (λ (x : Replica). x.state) w.reached in
    let dry = subst IsDrained at (is_drained core.state done) in (
      (decides order b laws rules r.received.0 w.events w.serves (stopped_or_done (after (opening b).site (opening b).state w.events) dry)).0 dry,
      subst (HoldsAllBy order b) (sym at) (holds_them order b laws rules r.received.0 w.events w.serves dry),
    )

-- where not all is executed, and each channel is stopped or done, the audit's verdict is another
pub audit_concluded : (order : Order) (b : BundleValue) (core : Replica) (v : Verdict) → IsRun order b core → AreJournals b.journals → drained core.state ≡ false → AreStoppedOrDone core.state
    → v ≡ verdict_over order b → Laws → IsConcluded order b core (Some v)
audit_concluded order b core v r rules undone ends is laws = (
  is,
  λ sound.
      let w = run_of order b core r in
      let at : core.state ≡ after (opening b).site (opening b).state w.events = ap (λ (x : Replica). x.state) w.reached in
      let dry = (decides order b laws rules r.received.0 w.events w.serves (subst AreStoppedOrDone at ends)).1 (sym is ∙ sound) in
      let done : drained core.state ≡ true = all_drained core.state (subst IsDrained (sym at) dry) in
      cc,
)

-- ---- what the code served

-- a replica that was ready, and to which was applied since
pub ready_applied : (order : Order) (b : BundleValue) (ready core : Replica) → IsReady order b ready → Applies AtOnce ready core → IsRun order b core
ready_applied order b ready core received applies = record { apply = Later; served = ready; received = received; applies = applies }

-- a replica that was served so, and to which what was left was applied
pub is_applied : (b : BundleValue) (served core : Replica) → IsServed AtOnce b served → Applies AtOnce served core → AreStoppedOrDone core.state → IsApplied b core
is_applied b served core received applies ends = record { served = served; received = received; applies = applies; ends = ends }

-- ... is a run, where the keys are sound
pub applied_is_run : (order : Order) (b : BundleValue) (core : Replica) → keys_over order b ≡ Sound → IsApplied b core → IsRun order b core
applied_is_run order b core sound a = record { apply = AtOnce; served = a.served; received = (sound, a.received); applies = a.applies }
