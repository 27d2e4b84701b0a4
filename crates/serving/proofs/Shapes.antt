-- What events leave of the names of channels, and of what these can receive.
use Rattle.std.proofs.Common.{◌≡◌, ℕ, ◌+◌, zero, suc, Bool, true, false, cond, not, eqb, eq-eqb, true≢false, List, [], ◌∷◌, ◌++◌, map, take, length, Option, Some, None, Result, Ok, Err, refl, sym, ap, ◌∙◌, subst, append_assoc, append-nil, arith}
use Rattle.std.specs.Prelude.{slice_get, slice_set, nat_le, is_some}
use Rattle.std.specs.List.{list_any, AllByRecursion}
use Rattle.std.specs.Option.{option_map_or}
use Rattle.std.specs.FinSet as set
use Rattle.std.proofs.lemmas.List.{map-append}
use Rattle.std.proofs.lemmas.Option.{same_Some}
use Rattle.lemmas.proofs.Lists.{get_append_left, get_map_cases, get_map}
use Rattle.lemmas.proofs.Options.{on_option}
use Rattle.gtid_text.specs.declared.Gtid.{Gtid}
use Rattle.gtid_set.specs.Sets.{Gtids}
use Rattle.rows.specs.declared.change.Transaction.{Transaction}
use Rattle.rows.specs.declared.change.RowFault.{RowFault}
use Rattle.rows.specs.Apply.{Rows, apply}
use Rattle.rows.specs.Fits.{misfit}
use Rattle.journal.specs.declared.Entry.{Entry}
use Rattle.journal.specs.Journals.{JournalValue}
use Rattle.apply_channel.specs.Channels.{ChannelValue, Received, new_channel, same_name, is_full, settle, settle_channel, with_asked, with_stopped}
use Rattle.replica_core.specs.declared.event.Event.{Event}
use Rattle.replica_core.specs.declared.event.Event.TheVariants.{OpenChannel, Position, Receive, Take, Commit, Rollback}
use Rattle.replica_core.specs.declared.event.Reply.TheVariants.{NameTaken, ChannelsFull, Opened, Ask, NotInSchema, SeatBusy, OwnedBy, Blocked, Early, RolledBack}
use Rattle.replica_core.specs.State.{State, Site, Replica, owned_by, owner}
use Rattle.replica_core.specs.Machine.{Step, is_seat, blocking, open_before, without_seat, take_entry, take_place, held, commit_answer, commit_held, commit, position_on, ask, with_channel, step, after}
use Rattle.txn_journal.specs.BundleStates.{BundleValue}
use Rattle.txn_journal.specs.declared.bundle.BundleChannel.{BundleChannel}
use Rattle.serving.specs.declared.receiving.Apply.{Apply}
use Rattle.serving.specs.declared.receiving.Apply.TheVariants.{AtOnce}
use Rattle.serving.specs.Servable.{IsTaken, CanReceive}
use Rattle.serving.specs.declared.order.Order.{Order}
use Rattle.serving.specs.Serving.{IsBetween, IsFeed, Applies, Receives, with_opened, Asks, Starts, ServesEach, opening, IsRun}
use Rattle.serving.specs.Verdicts.{Naming, names_of, names_asked, IsNamed}
use Rattle.serving.proofs.Runs.{all_by, IsElsewhere, between_elsewhere, IsServedBehind, run_of}

-- ---- steps

either_way : (P : Step → Type 0) (b : Bool) (x y : Step) → P x → P y → P (cond b x y)
either_way P true x y p q = p
either_way P false x y p q = q

any_option : {T : Type 0} (P : Step → Type 0) (f : T → Step) (o : Option T) (d : Step) → ((x : T) → P (f x)) → P d → P (option_map_or f o d)
any_option P f (Some x) d p q = p x
any_option P f None d p q = q

-- an element gives way to one of which the same is seen
map_same : {X Y : Type 0} (f : X → Y) (xs : List X) (i : ℕ) (old new : X) → slice_get xs i ≡ Some old → f new ≡ f old → map f (slice_set xs i new) ≡ map f xs
map_same f [] i old new at same = refl
map_same f (x ∷ xs) zero old new at same = λ k. (same ∙ ap f (same_Some old x (sym at))) k ∷ map f xs
map_same f (x ∷ xs) (suc i) old new at same = ap (λ ys. f x ∷ ys) (map_same f xs i old new at same)

-- ---- what appliers leave of channels

pub record Shape : Type 0 where
  pub naming : Naming
  pub asked : Option Gtids
  pub many : ℕ

abbrev shape : ChannelValue → Shape
shape c = record { naming = (c.name, c.preserve); asked = c.asked; many = length c.received }

settled_many : (g : Gtid) (es : List Received) → length (map (settle g) es) ≡ length es
settled_many g [] = refl
settled_many g (e ∷ es) = ap suc (settled_many g es)

settled_shapes : (g : Gtid) (cs : List ChannelValue) → map shape (map (settle_channel g) cs) ≡ map shape cs
settled_shapes g [] = refl
settled_shapes g (c ∷ cs) = λ i. (record { naming = (c.name, c.preserve); asked = c.asked; many = settled_many g c.received i }) ∷ settled_shapes g cs i

module _ (site : Site) (s : State) where
  abbrev Keeps : Step → Type 0
  Keeps answer = map shape answer.1.channels ≡ map shape s.channels

  keeps_entry : (seat c p : ℕ) (ch : ChannelValue) (e : Received) → Keeps (take_entry site seat c p ch e s)
  keeps_entry seat c p ch e =
      either_way Keeps ch.stopped _ _ refl
      (either_way Keeps (set.contains s.executed e.gtid) _ _ refl
      (any_option Keeps (λ other. (OwnedBy other, s)) (owner s e.gtid) _ (λ other. refl)
      (any_option Keeps (λ q. (Blocked q, s)) (option_map_or (blocking site.schema s ch p) e.txn None) _ (λ q. refl) refl)))

  keeps_take : (seat c p : ℕ) → Keeps (take_place site seat c p s)
  keeps_take seat c p =
      either_way Keeps (not (is_seat seat)) _ _ refl
      (any_option Keeps (λ g. (SeatBusy g, s)) (owned_by s seat) _ (λ g. refl)
      (any_option Keeps _ (slice_get s.channels c) _ (λ ch. any_option Keeps (λ e. take_entry site seat c p ch e s) (slice_get ch.received p) _ (λ e. keeps_entry seat c p ch e) refl) refl))

  keeps_answer : (seat c : ℕ) (g : Gtid) (t : Transaction) (r : Result Rows RowFault) → Keeps (commit_answer g t seat c s r)
  keeps_answer seat c g t (Ok rows) = settled_shapes g s.channels
  keeps_answer seat c g t (Err fault) =
      on_option (λ (xs : List ChannelValue). map shape xs ≡ map shape s.channels) (λ ch. slice_set s.channels c (with_stopped true ch)) (slice_get s.channels c) s.channels
      (λ none. refl) (λ ch at. map_same shape s.channels c ch (with_stopped true ch) at refl)

  keeps_commit : (seat : ℕ) → Keeps (commit site seat s)
  keeps_commit seat =
      either_way Keeps (not (is_seat seat)) _ _ refl
      (any_option Keeps (commit_held site seat s) (held s seat) _
      (λ h. any_option Keeps (λ q. (Early q, s)) (cond h.channel.preserve (open_before s h.channel h.spot.place) None) _ (λ q. refl) (keeps_answer seat h.spot.channel h.gtid h.txn (apply site.schema h.txn s.rows))) refl)

  keeps_shapes : (apply : Apply) (e : Event) → IsBetween apply e → Keeps (step site s e)
  keeps_shapes AtOnce (Take seat c p) h = keeps_take seat c p
  keeps_shapes AtOnce (Commit seat) h = keeps_commit seat
  keeps_shapes AtOnce (Rollback seat) h = either_way Keeps (not (is_seat seat)) _ _ refl (any_option Keeps (λ h. (RolledBack h.gtid, without_seat s seat)) (held s seat) _ (λ h. refl) refl)
  keeps_shapes apply e h = absurd h

after_shapes : (apply : Apply) (site : Site) (s : State) (es : List Event) → AllByRecursion (IsBetween apply) es → map shape (after site s es).channels ≡ map shape s.channels
after_shapes apply site s [] h = refl
after_shapes apply site s (e ∷ es) h = after_shapes apply site (step site s e).1 es h.1 ∙ keeps_shapes site s apply e h.0

applies_shapes : (apply : Apply) (r t : Replica) → Applies apply r t → map shape t.state.channels ≡ map shape r.state.channels
applies_shapes apply r t w = ap (λ (x : Replica). map shape x.state.channels) w.now ∙ after_shapes apply r.site r.state w.events w.between

-- another element may change
get_other : {X : Type 0} (xs : List X) (i j : ℕ) (y : X) → (i ≡ j → ⊥) → slice_get (slice_set xs i y) j ≡ slice_get xs j
get_other [] i j y other = refl
get_other (x ∷ xs) zero zero y other = absurd (other refl)
get_other (x ∷ xs) zero (suc j) y other = refl
get_other (x ∷ xs) (suc i) zero y other = refl
get_other (x ∷ xs) (suc i) (suc j) y other = get_other xs i j y (λ e. other (ap suc e))

map_set : {X Y : Type 0} (f : X → Y) (xs : List X) (i : ℕ) (y : X) → map f (slice_set xs i y) ≡ slice_set (map f xs) i (f y)
map_set f [] i y = refl
map_set f (x ∷ xs) zero y = refl
map_set f (x ∷ xs) (suc i) y = ap (λ ys. f x ∷ ys) (map_set f xs i y)

-- what is seen of a channel stays, whatever is done with others
module _ (site : Site) (s : State) (c : ℕ) (x : Shape) (at : slice_get (map shape s.channels) c ≡ Some x) where
  abbrev Has : Step → Type 0
  Has answer = slice_get (map shape answer.1.channels) c ≡ Some x

  has_changed : (d : ℕ) (ch : ChannelValue) → eqb d c ≡ false → slice_get (map shape (slice_set s.channels d ch)) c ≡ Some x
  has_changed d ch other = ap (λ (xs : List Shape). slice_get xs c) (map_set shape s.channels d ch) ∙ get_other (map shape s.channels) d c (shape ch) (λ e. true≢false (sym (eq-eqb d c e) ∙ other)) ∙ at

  has_opened : (ch : ChannelValue) → slice_get (map shape (s.channels ++ ch ∷ [])) c ≡ Some x
  has_opened ch = ap (λ (xs : List Shape). slice_get xs c) (map-append shape s.channels (ch ∷ [])) ∙ get_append_left (map shape s.channels) (shape ch ∷ []) c x at

  stays_seen : (apply : Apply) (e : Event) → IsElsewhere apply c e → Has (step site s e)
  stays_seen apply (OpenChannel name preserve) h =
      either_way Has (list_any (λ (d : ChannelValue). same_name d.name name) s.channels) _ _ at
      (either_way Has (nat_le 256 (length s.channels)) _ _ at (has_opened (new_channel name preserve)))
  stays_seen apply (Position d) h = any_option Has (λ ch. (Ask (ask s ch), with_channel s d (with_asked (ask s ch) ch))) (slice_get s.channels d) _ (λ ch. has_changed d (with_asked (ask s ch) ch) h) at
  stays_seen apply (Receive d entry) h =
      any_option Has _ (slice_get s.channels d) _
      (λ ch. any_option Has _ ch.asked _
      (λ A. any_option Has (λ fault. (NotInSchema fault, s)) (misfit site.schema entry.txn) _ (λ fault. at) (either_way Has (is_full ch) _ _ at (has_changed d _ h))) at) at
  stays_seen apply e h = ap (λ (xs : List Shape). slice_get xs c) (keeps_shapes site s apply e h) ∙ at

stay_seen : (apply : Apply) (site : Site) (s : State) (c : ℕ) (x : Shape) (es : List Event) → AllByRecursion (IsElsewhere apply c) es → slice_get (map shape s.channels) c ≡ Some x
    → slice_get (map shape (after site s es).channels) c ≡ Some x
stay_seen apply site s c x [] h at = at
stay_seen apply site s c x (e ∷ es) h at = stay_seen apply site (step site s e).1 c x es h.1 (stays_seen site s c x at apply e h.0)

-- a channel that can receive entries can still receive them
pub others_can : (apply : Apply) (r t : Replica) (c : ℕ) (es : List Entry) → IsServedBehind apply c r t → CanReceive c es r → CanReceive c es t
others_can apply r t c es w can =
    let there : slice_get (map shape t.state.channels) c ≡ Some (shape can.channel) =
    ap (λ (x : Replica). slice_get (map shape x.state.channels) c) w.now ∙ stay_seen apply r.site r.state c (shape can.channel) w.events w.elsewhere (get_map shape r.state.channels c can.channel can.at) in
    let found = get_map_cases shape t.state.channels c (shape can.channel) there in
    let many : length found.0.received ≡ length can.channel.received = ap (λ (x : Shape). x.many) found.2 in
    let room = can.room in
    record {
      channel = found.0;
      at = found.1;
      asked = ap (λ (x : Shape). is_some x.asked) found.2 ∙ can.asked;
      room = omega (arith, room, many);
      taken = subst (λ (x : Replica). AllByRecursion (IsTaken x.site.schema) es) (sym w.now) can.taken;
    }

pub applies_can : (apply : Apply) (r t : Replica) (c : ℕ) (es : List Entry) → Applies apply r t → CanReceive c es r → CanReceive c es t
applies_can apply r t c es w can =
    others_can apply r t c es (record { events = w.events; now = w.now; elsewhere = all_by (IsBetween apply) (IsElsewhere apply c) (between_elsewhere apply c) w.events w.between }) can

-- ---- names

abbrev naming_of : Shape → Naming
naming_of x = x.naming

names_shaped : (cs : List ChannelValue) → map naming_of (map shape cs) ≡ names_of cs
names_shaped [] = refl
names_shaped (c ∷ cs) = ap (λ (xs : List Naming). (c.name, c.preserve) ∷ xs) (names_shaped cs)

same_names : (cs ds : List ChannelValue) → map shape ds ≡ map shape cs → names_of ds ≡ names_of cs
same_names cs ds same = sym (names_shaped ds) ∙ ap (map naming_of) same ∙ names_shaped cs

taken_is_not_opened : (c : ℕ) → NameTaken ≡ Opened c → ⊥
taken_is_not_opened c e = cc

full_is_not_opened : (c : ℕ) → ChannelsFull ≡ Opened c → ⊥
full_is_not_opened c e = cc

names_opened : (site : Site) (s : State) (name : List ℕ) (preserve : Bool) (c : ℕ) → (step site s (OpenChannel name preserve)).0 ≡ Opened c
    → names_of (step site s (OpenChannel name preserve)).1.channels ≡ names_of s.channels ++ (name, preserve) ∷ []
names_opened site s name preserve c =
    either_way Adds (list_any (λ (d : ChannelValue). same_name d.name name) s.channels) _ _ (λ h. absurd (taken_is_not_opened c h))
    (either_way Adds (nat_le 256 (length s.channels)) _ _ (λ h. absurd (full_is_not_opened c h)) (λ h. map-append (λ (d : ChannelValue). (d.name, d.preserve)) s.channels (new_channel name preserve ∷ [])))
  where
    Adds : Step → Type 0
    Adds r = r.0 ≡ Opened c → names_of r.1.channels ≡ names_of s.channels ++ (name, preserve) ∷ []

names_positioned : (s : State) (c : ℕ) → names_of (position_on c s).1.channels ≡ names_of s.channels
names_positioned s c =
    on_option (λ (r : Step). names_of r.1.channels ≡ names_of s.channels) (λ ch. (Ask (ask s ch), with_channel s c (with_asked (ask s ch) ch))) (slice_get s.channels c) _
    (λ none. refl) (λ ch at. map_same (λ (d : ChannelValue). (d.name, d.preserve)) s.channels c ch (with_asked (ask s ch) ch) at refl)

names_received : (site : Site) (s : State) (c : ℕ) (entry : Entry) → names_of (step site s (Receive c entry)).1.channels ≡ names_of s.channels
names_received site s c entry =
    on_option Same _ (slice_get s.channels c) _ (λ none. refl)
    (λ ch at. any_option Same _ ch.asked _
    (λ A. any_option Same (λ fault. (NotInSchema fault, s)) (misfit site.schema entry.txn) _ (λ fault. refl)
    (either_way Same (is_full ch) _ _ refl (map_same (λ (d : ChannelValue). (d.name, d.preserve)) s.channels c ch _ at refl))) refl)
  where
    Same : Step → Type 0
    Same r = names_of r.1.channels ≡ names_of s.channels

feed_names : (apply : Apply) (c : ℕ) (site : Site) (s : State) (e : Event) → IsFeed apply c e → names_of (step site s e).1.channels ≡ names_of s.channels
feed_names apply c site s (Receive d entry) h = names_received site s d entry
feed_names apply c site s e h = same_names s.channels (step site s e).1.channels (keeps_shapes site s apply e h)

fed_names : (apply : Apply) (c : ℕ) (site : Site) (s : State) (es : List Event) → AllByRecursion (IsFeed apply c) es → names_of (after site s es).channels ≡ names_of s.channels
fed_names apply c site s [] h = refl
fed_names apply c site s (e ∷ es) h = fed_names apply c site (step site s e).1 es h.1 ∙ feed_names apply c site s e h.0

pub asks_named : (r : Replica) (c : ℕ) (channel : BundleChannel) (j : JournalValue) (all : List Entry) (a : Replica) → Asks r c channel j all a
    → names_of a.state.channels ≡ names_of r.state.channels ++ (channel.name, channel.preserve) ∷ []
asks_named r c channel j all a asks =
    ap (λ (x : Replica). names_of x.state.channels) asks.now
    ∙ names_positioned (with_opened r channel).state c
    ∙ names_opened r.site r.state channel.name channel.preserve c asks.number

received_named : (apply : Apply) (s : Replica) (c : ℕ) (entries : List Entry) (t : Replica) → Receives apply s c entries t → names_of t.state.channels ≡ names_of s.state.channels
received_named apply s c entries t received =
    ap (λ (y : Replica). names_of y.state.channels) received.now ∙ fed_names apply c s.site s.state received.events received.feeds

pub starts_named : (apply : Apply) (r : Replica) (c : ℕ) (channel : BundleChannel) (j : JournalValue) (soon later : List Entry) (a : Replica) → Starts apply r c channel j soon later a
    → names_of a.state.channels ≡ names_of r.state.channels ++ (channel.name, channel.preserve) ∷ []
starts_named apply r c channel j soon later a starts =
    received_named apply starts.asking c soon a starts.received ∙ asks_named r c channel j (soon ++ later) starts.asking starts.asks

each_named : (apply : Apply) (r : Replica) (c : ℕ) (channels : List BundleChannel) (js : List JournalValue) (t : Replica) → ServesEach apply r c channels js t
    → names_of t.state.channels ≡ names_of r.state.channels ++ names_asked (take (length js) channels)
each_named apply r c channels [] t x = ap (λ (y : Replica). names_of y.state.channels) x ∙ sym (append-nil (names_of r.state.channels))
each_named apply r c [] (j ∷ js) t x = absurd x
each_named apply r c (channel ∷ channels) (j ∷ js) t x =
    received_named apply x.3 c x.1 t x.6
    ∙ each_named apply x.2 (c + 1) channels js x.3 x.5
    ∙ ap (λ (ns : List Naming). ns ++ names_asked (take (length js) channels)) (starts_named apply r c channel j x.0 x.1 x.2 x.4)
    ∙ append_assoc (names_of r.state.channels) ((channel.name, channel.preserve) ∷ []) (names_asked (take (length js) channels))

pub run_named : (order : Order) (b : BundleValue) (core : Replica) → IsRun order b core → IsNamed b core
run_named order b core r = record {
  uuid = ap (λ (x : Replica). x.site.own) (run_of order b core r).reached;
  names = same_names r.served.state.channels core.state.channels (applies_shapes AtOnce r.served core r.applies) ∙ each_named r.apply (opening b) 0 b.channels b.journals r.served r.received.1;
}
