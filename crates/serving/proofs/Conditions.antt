-- A replica that can be served answers so, and can be served what is left.
use Rattle.std.proofs.Common.{◌≡◌, ℕ, ◌+◌, ◌≤◌, ◌<◌, ◌||◌, suc, Bool, true, false, cond, not, List, [], ◌∷◌, ◌++◌, map, length, Option, Some, None, Ok, refl, sym, ap, ◌∙◌, subst, arith, length-append, drop, get_or, drop-cons}
use Rattle.std.proofs.lemmas.Bool.{and_parts, not-false, or_left}
use Rattle.std.proofs.lemmas.List.{map-append, length-map}
use Rattle.std.proofs.lemmas.List.Elements.{All-from_recursion}
use Rattle.std.proofs.lemmas.List.Filters.{length-filter_both}
use Rattle.std.specs.Prelude.{slice_get}
use Rattle.std.specs.List.{filter, list_any, AllByRecursion}
use Rattle.std.specs.FinSet as set
use Rattle.std.specs.FinMap as finmap
use Rattle.std.specs.FinMap.{get-empty, get-insert}
use Rattle.std.specs.Ordering.{eq_by_cmp}
use Rattle.std.proofs.lemmas.Option.{same_Some}
use Rattle.lemmas.proofs.Options.{none_some}
use Rattle.lemmas.proofs.Lists.{get_push, get_map_cases, all_append, all_at, all_from, all_true}
use Rattle.lemmas.proofs.SameGtid.{gtid_total}
use Rattle.lemmas.proofs.Numbers.{le_false}
use Rattle.gtid_text.specs.declared.Gtid.{Gtid}
use Rattle.gtid_text.specs.Gtids.{gtid_cmp}
use Rattle.gtid_set.specs.Sets.{Gtids}
use Rattle.rows.specs.declared.schema.Table.{Table}
use Rattle.rows.specs.declared.change.Transaction.{Transaction}
use Rattle.rows.specs.Database.{Database}
use Rattle.rows.specs.Fits.{misfit, Fits}
use Rattle.journal.specs.declared.Entry.{Entry}
use Rattle.journal.specs.Journals.{JournalValue, whole, IsJournal}
use Rattle.rows.specs.declared.limits.Limits.TheVariants.{Wide}
use Rattle.journal.specs.Writing.{is_number, is_txn_writable, is_writable}
use Rattle.apply_channel.specs.Channels.{ChannelValue, Received, received_gtids, is_full, most_received, same_name, with_asked, with_received, received_as}
use Rattle.apply_channel.specs.Channels as channels
use Rattle.replica_core.specs.declared.event.Event.{Event}
use Rattle.replica_core.specs.declared.event.Event.TheVariants.{OpenChannel, Position, Receive}
use Rattle.replica_core.specs.declared.event.Reply.{Reply}
use Rattle.replica_core.specs.declared.event.Reply.TheVariants.{Opened, Ask}
use Rattle.replica_core.specs.declared.event.Reply.TheVariants as reply
use Rattle.replica_core.specs.State.{State, Site, Replica}
use Rattle.replica_core.specs.Machine.{Step, step, ask, with_channel}
use Rattle.auto_position.specs.Sending.{sent, own_of}
use Rattle.convergence.specs.Served.{accepted_entries}
use Rattle.convergence.proofs.Sending.{sent_cases}
use Rattle.convergence.proofs.Wholes.{set_there}
use Rattle.audit.specs.Contents.{in_order, as_entry}
use Rattle.audit.specs.Worlds.{AllFit as AllWorldFits}
use Rattle.world.specs.Audit.{all_entries, first_contents, found_in_keys, purged, unequal}
use Rattle.world.specs.Meaning.{AreJournals}
use Rattle.world.specs.declared.verdict.Verdict.TheVariants.{Sound, Purged}
use Rattle.world.proofs.Contents.{at_content, some_of}
use Rattle.world.proofs.Finding.{next_none, when_none, first_none}
use Rattle.world.proofs.Meanings.{keys_not, none_of_sound}
use Rattle.txn_journal.specs.BundleStates.{BundleValue}
use Rattle.txn_journal.specs.declared.bundle.BundleChannel.{BundleChannel}
use Rattle.world.specs.AuditInOrder as in_order
use Rattle.world.proofs.Sounding as sounding
use Rattle.serving.specs.declared.order.Order.{Order}
use Rattle.serving.specs.declared.order.Order.TheVariants.{BySource, ByConflict}
use Rattle.serving.specs.declared.receiving.Apply.{Apply}
use Rattle.serving.specs.Servable.{FitsJournal, IsFitting, HasRoom, IsServable, can_be_sent, CanOpen, IsTaken, CanReceive, CanSend, CanServe, CanServeEach}
use Rattle.serving.specs.Serving.{run, IsBetween, with_opened, Asks, Starts, ServesEach, opening}
use Rattle.serving.specs.Verdicts.{Naming, names_of, world_over, keys_over}
use Rattle.serving.proofs.Runs.{all_by, true_from, starts_run, starts_keeps, served_behind}
use Rattle.serving.proofs.Shapes.{applies_can, others_can, starts_named}

-- ---- one event

opens : (site : Site) (s : State) (name : List ℕ) (preserve : Bool) → CanOpen name s
    → step site s (OpenChannel name preserve) ≡ (Opened (length s.channels), record s { channels = s.channels ++ channels.new_channel name preserve ∷ [] })
opens site s name preserve can =
    let new = can.new in
    let few = le_false 256 (length s.channels) can.few in
    simp (new, few) refl

positions : (site : Site) (s : State) (c : ℕ) (ch : ChannelValue) → slice_get s.channels c ≡ Some ch → step site s (Position c) ≡ (Ask (ask s ch), with_channel s c (with_asked (ask s ch) ch))
positions site s c ch at = simp (at) refl

receives : (site : Site) (s : State) (c : ℕ) (e : Entry) (ch : ChannelValue) (A : Gtids) → slice_get s.channels c ≡ Some ch → ch.asked ≡ Some A → misfit site.schema e.txn ≡ None → is_full ch ≡ false
    → step site s (Receive c e) ≡ (reply.Received (length ch.received), with_channel s c (with_received (received_as (set.contains s.executed e.gtid) e) ch))
receives site s c e ch A at asked fits room = simp (at, asked, fits, room) refl

module _ (r : Replica) (c : ℕ) (e : Entry) (es : List Entry) (can : CanReceive c (e ∷ es) r) where
  receives_as : step r.site r.state (Receive c e) ≡ (reply.Received (length can.channel.received), with_channel r.state c (with_received (received_as (set.contains r.state.executed e.gtid) e) can.channel))
  receives_as =
      let A = some_of can.channel.asked can.asked in
      let room = can.room in
      receives r.site r.state c e can.channel A.0 can.at A.1 can.taken.0.fits (le_false most_received (length can.channel.received) (omega (arith, room)))

  pub is_accepted : accepted_entries (Receive c e) (step r.site r.state (Receive c e)).0 ≡ e ∷ []
  is_accepted = ap (λ (x : Step). accepted_entries (Receive c e) x.0) receives_as

  room_left : CanReceive c es (run r (Receive c e ∷ []))
  room_left =
      let more : Received = received_as (set.contains r.state.executed e.gtid) e in
      let new : ChannelValue = with_received more can.channel in
      let room = can.room in
      let longer = length-append can.channel.received (more ∷ []) in
      let now : CanReceive c es (record { site = r.site; state = with_channel r.state c new }) = record {
        channel = new;
        at = set_there r.state.channels c can.channel new can.at;
        asked = can.asked;
        room = omega (arith, room, longer);
        taken = can.taken.1;
      } in
      subst (λ (x : State). CanReceive c es (record { site = r.site; state = x })) (sym (ap (λ (x : Step). x.1) receives_as)) now

-- an entry is received, and what may come has come: there is room for the others
pub goes_on : (apply : Apply) (r t : Replica) (c : ℕ) (e : Entry) (more : List Event) → AllByRecursion (IsBetween apply) more → t ≡ run r (Receive c e ∷ more)
    → (es : List Entry) → CanReceive c (e ∷ es) r → CanReceive c es t
goes_on apply r t c e more between now es can = applies_can apply (run r (Receive c e ∷ [])) t c es (record { events = more; between = between; now = now }) (room_left r c e es can)

-- what can be received of a list can be received of its first
pub can_next : (r : Replica) (c i : ℕ) (e : Entry) (es : List Entry) → i < length es → e ≡ get_or es i e → CanReceive c (drop i es) r → CanReceive c (e ∷ drop (i + 1) es) r
can_next r c i e es few is can =
    let next : suc i ≡ i + 1 = omega arith in
    subst (λ (xs : List Entry). CanReceive c xs r) (drop-cons es i e few ∙ (λ k. sym is k ∷ drop (next k) es)) can

-- ---- what a journal sends

kept_all : (P : Entry → Type 0) (e : Entry) (es : List Entry) (b : Bool) → P e → AllByRecursion P es → AllByRecursion P (cond b (e ∷ es) es)
kept_all P e es true one all = (one, all)
kept_all P e es false one all = all

all_filtered : (P : Entry → Type 0) (p : Entry → Bool) (es : List Entry) → AllByRecursion P es → AllByRecursion P (filter p es)
all_filtered P p [] all = tt
all_filtered P p (e ∷ es) all = kept_all P e (filter p es) (p e) all.0 (all_filtered P p es all.1)

-- what is sent is of the journal
sent_is : (j : JournalValue) (asked : Gtids) (es : List Entry) → sent j asked None ≡ Ok es → filter (λ (e : Entry). not (set.contains asked e.gtid)) j.entries ≡ es
sent_is j asked es h = (sent_cases (set.is_subset j.previous asked) (set.is_subset (own_of asked None) (whole j)) _ _ (filter (λ (e : Entry). not (set.contains asked e.gtid)) j.entries) es h).1

pub sent_all : (P : Entry → Type 0) (j : JournalValue) (asked : Gtids) (es : List Entry) → sent j asked None ≡ Ok es → AllByRecursion P j.entries → AllByRecursion P es
sent_all P j asked es h all = subst (AllByRecursion P) (sent_is j asked es h) (all_filtered P (λ (e : Entry). not (set.contains asked e.gtid)) j.entries all)

sent_few : (j : JournalValue) (asked : Gtids) (es : List Entry) → sent j asked None ≡ Ok es → length es ≤ length j.entries
sent_few j asked es h =
    let both = length-filter_both (λ (e : Entry). not (set.contains asked e.gtid)) (λ e. not (not (set.contains asked e.gtid))) (λ e. refl) j.entries in
    subst (λ (xs : List Entry). length xs ≤ length j.entries) (sent_is j asked es h) (omega (arith, both))

-- ---- a channel is opened and positioned

abbrev asked_in : Reply → Gtids
asked_in (Ask s) = s
asked_in reply = set.empty

subset_more : (s a b : Gtids) → ((q : Gtid) → set.contains a q ≡ true → set.contains b q ≡ true) → set.is_subset s a ≡ true → set.is_subset s b ≡ true
subset_more s a b more within = set.contains-is_subset gtid_total s b (λ q h. more q (set.is_subset-contains gtid_total s a within q h))

module _ (r : Replica) (c : ℕ) (channel : BundleChannel) (j : JournalValue) (can : CanServe c channel.name j r) where
  abbrev fresh : ChannelValue
  fresh = channels.new_channel channel.name channel.preserve

  opened_is : step r.site r.state (OpenChannel channel.name channel.preserve) ≡ (Opened (length r.state.channels), record r.state { channels = r.state.channels ++ fresh ∷ [] })
  opened_is = opens r.site r.state channel.name channel.preserve can.opens

  fresh_at : slice_get (with_opened r channel).state.channels c ≡ Some fresh
  fresh_at =
      ap (λ (x : Step). slice_get x.1.channels c) opened_is
      ∙ ap (slice_get (r.state.channels ++ fresh ∷ [])) (sym can.next)
      ∙ get_push r.state.channels fresh

  -- what is asked with has all that is executed
  -- it asks with what is executed
  pub asked_is : (s : Replica) (asked : Gtids) → s ≡ with_opened r channel → (step s.site s.state (Position c)).0 ≡ Ask asked → set.union r.state.executed (received_gtids []) ≡ asked
  asked_is s asked is asks_so =
      let opened : State = record r.state { channels = r.state.channels ++ fresh ∷ [] } in
      let says : (step r.site opened (Position c)).0 ≡ Ask asked =
      ap (λ (x : Step). (step r.site x.1 (Position c)).0) (sym opened_is) ∙ subst (λ (x : Replica). (step x.site x.state (Position c)).0 ≡ Ask asked) is asks_so in
      let at : slice_get opened.channels c ≡ Some fresh = ap (slice_get opened.channels) (sym can.next) ∙ get_push r.state.channels fresh in
      ap asked_in (sym (ap (λ (x : Step). x.0) (positions r.site opened c fresh at)) ∙ says)

  pub asked_has : (s : Replica) (asked : Gtids) → s ≡ with_opened r channel → (step s.site s.state (Position c)).0 ≡ Ask asked → set.is_subset j.previous asked ≡ true
  asked_has s asked is asks_so =
      subst (λ (x : Gtids). set.is_subset j.previous x ≡ true) (asked_is s asked is asks_so)
      (subset_more j.previous r.state.executed (set.union r.state.executed (received_gtids [])) (λ q h.
      set.contains-union gtid_total r.state.executed (received_gtids []) q ∙ or_left (set.contains r.state.executed q) (set.contains (received_gtids []) q) h) can.sends.unpurged)

  pub asks : (s t : Replica) (asked : Gtids) (es : List Entry) → s ≡ with_opened r channel → (step s.site s.state (Position c)).0 ≡ Ask asked → sent j asked None ≡ Ok es → t ≡ run s (Position c ∷ []) → Asks r c channel j es t
  asks s t asked es is asks_so sends now = record {
    ask = asked;
    number = ap (λ (x : Step). x.0) opened_is ∙ ap Opened can.next;
    asked = subst (λ (x : Replica). (step x.site x.state (Position c)).0 ≡ Ask asked) is asks_so;
    all_sent = sends;
    now = now ∙ ap (λ (x : Replica). run x (Position c ∷ [])) is;
  }

  pub can_receive : (t : Replica) (es : List Entry) → Asks r c channel j es t → CanReceive c es t
  can_receive t es asked =
      let s : State = (with_opened r channel).state in
      let ch : ChannelValue = with_asked (ask s fresh) fresh in
      let room = can.sends.room in
      let few = sent_few j asked.ask es asked.all_sent in
      let now : CanReceive c es (record { site = r.site; state = with_channel s c ch }) = record {
        channel = ch;
        at = set_there s.channels c fresh ch fresh_at;
        asked = refl;
        room = omega (arith, room, few);
        taken = sent_all (IsTaken r.site.schema) j asked.ask es asked.all_sent can.sends.taken;
      } in
      subst (CanReceive c es) (sym asked.now) (subst (λ (x : State). CanReceive c es (record { site = r.site; state = x })) (sym (ap (λ (x : Step). x.1) (positions r.site s c fresh fresh_at))) now)

-- ---- one journal, and then the others

any_map : {X Y : Type 0} (p : Y → Bool) (f : X → Y) (xs : List X) → list_any p (map f xs) ≡ list_any (λ x. p (f x)) xs
any_map p f [] = refl
any_map p f (x ∷ xs) = ap (λ b. p (f x) || b) (any_map p f xs)

module _ (r : Replica) (c : ℕ) (channel : BundleChannel) (chs rest : List BundleChannel) (j : JournalValue) (js journals : List JournalValue) (of : chs ≡ channel ∷ rest) (is : journals ≡ j ∷ js) (all : CanServeEach c chs journals r) where
  split : CanServeEach c (channel ∷ rest) (j ∷ js) r
  split = subst (λ (xs : List JournalValue). CanServeEach c (channel ∷ rest) xs r) is (subst (λ (cs : List BundleChannel). CanServeEach c cs journals r) of all)

  pub serve_first : CanServe c channel.name j r
  serve_first =
      let can = split in
      let few = can.few in
      let next = can.next in
      let test : Naming → Bool = λ x. same_name x.0 channel.name in
      record {
        next = can.next;
        opens = record {
          new = sym (any_map test (λ (x : ChannelValue). (x.name, x.preserve)) r.state.channels) ∙ ap (list_any test) can.named
              ∙ any_map test (λ (x : BundleChannel). (x.name, x.preserve)) can.before ∙ can.have.0;
          few = omega (arith, few, next);
        };
        sends = can.send.0;
      }

  pub serve_rest : (apply : Apply) (soon later : List Entry) (a : Replica) → Starts apply r c channel j soon later a → CanServeEach (c + 1) rest js a
  serve_rest apply soon later a starts =
      let can = split in
      let few = can.few in
      let named = starts_named apply r c channel j soon later a starts in
      let longer : length a.state.channels ≡ length r.state.channels + 1 =
      sym (length-map a.state.channels (λ (x : ChannelValue). (x.name, x.preserve))) ∙ ap length named
      ∙ length-append (names_of r.state.channels) ((channel.name, channel.preserve) ∷ [])
      ∙ ap (λ (n : ℕ). n + 1) (length-map r.state.channels (λ (x : ChannelValue). (x.name, x.preserve)))
      in
      record {
        before = can.before ++ channel ∷ [];
        named = named ∙ ap (λ (ns : List Naming). ns ++ (channel.name, channel.preserve) ∷ []) can.named ∙ sym (map-append (λ (x : BundleChannel). (x.name, x.preserve)) can.before (channel ∷ []));
        next = longer ∙ ap (λ (n : ℕ). n + 1) can.next;
        few = omega (arith, few);
        have = can.have.1;
        send = subst (λ (x : Replica). AllByRecursion (CanSend x.site.schema a.state.executed) js) (sym (starts_run apply r c channel j soon later a starts))
            (all_by (CanSend r.site.schema r.state.executed) (CanSend r.site.schema a.state.executed) (λ x h. record {
              unpurged = subset_more x.previous r.state.executed a.state.executed (starts_keeps apply r c channel j soon later a starts) h.unpurged;
              taken = h.taken;
              room = h.room;
            }) js can.send.1);
      }

  -- what was asked for can be received at once
  pub can_receive_soon : (all : List Entry) (a : Replica) → Asks r c channel j all a → CanReceive c all a
  can_receive_soon all a asks = can_receive r c channel j serve_first a all asks

  -- ... or once the others were served
  pub can_receive_behind : (apply : Apply) (all : List Entry) (a s : Replica) → Asks r c channel j all a → ServesEach apply a (c + 1) rest js s → CanReceive c all s
  can_receive_behind apply all a s asks more =
      let low : c < c + 1 = omega arith in
      others_can apply a s c all (served_behind apply a (c + 1) c rest js s low more) (can_receive r c channel j serve_first a all asks)

-- ---- from the opening

-- where the audit of keys is sound, what was purged is executed from the start
nothing_purged : (order : Order) (b : BundleValue) → keys_over order b ≡ Sound → (unequal (world_over b) b.journals ≡ None) × (purged (world_over b) b.journals ≡ None)
nothing_purged BySource b sound =
    let w = world_over b in
    let all = next_none (unequal w b.journals) _ (none_of_sound (found_in_keys w b.journals) (keys_not w b.journals) sound) in
    (all.0, (next_none (purged w b.journals) _ all.1).0)
nothing_purged ByConflict b sound =
    let w = world_over b in
    let all = next_none (unequal w b.journals) _ (none_of_sound (in_order.found_in_keys_in_order w b.journals) (sounding.keys_not w b.journals) sound) in
    (all.0, (next_none (purged w b.journals) _ all.1).0)

unpurged : (order : Order) (b : BundleValue) → keys_over order b ≡ Sound → (i : ℕ) (j : JournalValue) → slice_get b.journals i ≡ Some j → set.is_subset j.previous b.opened ≡ true
unpurged order b sound i j at =
    let none = nothing_purged order b sound in
    not-false (set.is_subset j.previous b.opened) (when_none (not (set.is_subset j.previous b.opened)) (Purged i (set.difference j.previous b.opened)) (first_none _ b.journals none.1 i j at))

can_send : (schema : List Table) (executed : Gtids) (j : JournalValue) → set.is_subset j.previous executed ≡ true → IsJournal j.previous j.entries → FitsJournal schema j → HasRoom j → CanSend schema executed j
can_send schema executed j unpurged rules fits room = record {
  unpurged = unpurged;
  taken = all_from (IsTaken schema) j.entries (λ i e at. record {
    fits = all_at (λ (x : Entry). Fits schema x.txn) j.entries i e fits at;
    number = (and_parts (is_number e.gtid.number) (is_txn_writable Wide e.txn) (all_true (is_writable Wide) j.entries i e rules.writable at)).0;
  });
  room = room;
}

-- the sources of a bundle whose keys are sound send their journals
pub sound_is_sent : (order : Order) (b : BundleValue) → keys_over order b ≡ Sound → can_be_sent b ≡ true
sound_is_sent order b sound = true_from (λ (j : JournalValue). set.is_subset j.previous b.opened) b.journals (λ i j at. unpurged order b sound i j at)

-- a bundle that can be served, and whose sources send their journals, can be served to its replica
pub can_serve_all : (b : BundleValue) → IsServable b → can_be_sent b ≡ true → AreJournals b.journals → CanServeEach 0 b.channels b.journals (opening b)
can_serve_all b can sent rules = record {
  before = [];
  named = refl;
  next = refl;
  few = let few = can.few in omega (arith, few);
  have = can.have;
  send = all_from (CanSend b.start.schema b.opened) b.journals (λ i j at.
      can_send b.start.schema b.opened j (all_true (λ (x : JournalValue). set.is_subset x.previous b.opened) b.journals i j sent at) (all_at (λ (x : JournalValue). IsJournal x.previous x.entries) b.journals i j rules at)
      (all_at (FitsJournal b.start.schema) b.journals i j can.fits at) (all_at HasRoom b.journals i j can.room at));
}

-- ---- the world of a bundle

abbrev AllFit : List Table → List Entry → Type 0
AllFit schema es = AllByRecursion (λ (e : Entry). Fits schema e.txn) es

fits_by : (schema : List Table) (b : Bool) (u t : Transaction) (o : Option Transaction) → Fits schema u → (o ≡ Some t → Fits schema t) → cond b (Some u) o ≡ Some t → Fits schema t
fits_by schema true u t o here more h = subst (Fits schema) (same_Some u t h) here
fits_by schema false u t o here more h = more h

fits_in : (schema : List Table) (b : Bool) (rest : finmap.FinMap gtid_cmp Transaction) (e : Entry) (g : Gtid) (t : Transaction) → Fits schema e.txn → (finmap.get rest g ≡ Some t → Fits schema t)
    → finmap.get (cond b rest (finmap.insert rest e.gtid e.txn)) g ≡ Some t → Fits schema t
fits_in schema true rest e g t here more h = more h
fits_in schema false rest e g t here more h =
    fits_by schema (eq_by_cmp gtid_cmp g e.gtid) e.txn t (finmap.get rest g) here more (sym (get-insert gtid_total rest e.gtid e.txn g) ∙ h)

-- what a world has under a GTID is taken, where all entries are
contents_fit : (schema : List Table) (opened : Gtids) (es : List Entry) (g : Gtid) (t : Transaction) → AllFit schema es → finmap.get (first_contents opened es) g ≡ Some t → Fits schema t
contents_fit schema opened [] g t fit h = none_some t (sym (get-empty gtid_cmp g) ∙ h)
contents_fit schema opened (e ∷ es) g t fit h =
    fits_in schema (set.contains opened e.gtid) (first_contents opened es) e g t fit.0 (contents_fit schema opened es g t fit.1) h

all_fit : (schema : List Table) (js : List JournalValue) → AllByRecursion (FitsJournal schema) js → AllFit schema (all_entries js)
all_fit schema [] fits = tt
all_fit schema (j ∷ js) fits = all_append (λ (e : Entry). Fits schema e.txn) j.entries (all_entries js) fits.0 (all_fit schema js fits.1)

-- the tables take each transaction of the world
world_fits : (b : BundleValue) → IsFitting b → AllWorldFits b.start.schema (in_order (first_contents b.opened (all_entries b.journals)))
world_fits b fits =
    let schema : List Table = b.start.schema in
    let es : List Entry = in_order (first_contents b.opened (all_entries b.journals)) in
    let one : (i : ℕ) (e : Entry) → slice_get es i ≡ Some e → Fits schema e.txn =
    λ i e there.
    let at = get_map_cases as_entry (finmap.entries (first_contents b.opened (all_entries b.journals))) i e there in
    subst (λ (x : Entry). Fits schema x.txn) at.2 (contents_fit schema b.opened (all_entries b.journals) at.0.0 at.0.1 (all_fit schema b.journals fits) (at_content (world_over b) i at.0 at.1)) in
    All-from_recursion (λ (e : Entry). Fits schema e.txn) es (all_from (λ (e : Entry). Fits schema e.txn) es one)

pub all_taken : (b : BundleValue) (d : Database) (opened : Gtids) (js : List JournalValue) → d ≡ b.start → opened ≡ b.opened → js ≡ b.journals → IsFitting b
    → AllWorldFits d.schema (in_order (first_contents opened (all_entries js)))
all_taken b d opened js same none all fits =
    subst (λ (x : Database). AllWorldFits x.schema (in_order (first_contents opened (all_entries js)))) (sym same)
    (subst (λ (x : Gtids). AllWorldFits b.start.schema (in_order (first_contents x (all_entries js)))) (sym none)
    (subst (λ (x : List JournalValue). AllWorldFits b.start.schema (in_order (first_contents b.opened (all_entries x)))) (sym all) (world_fits b fits)))
