-- What is left of an entry that is received, taken and committed at once.
use Rattle.std.proofs.Common.{◌≡◌, ℕ, zero, suc, ◌+◌, ◌<◌, Bool, true, false, cond, List, [], ◌∷◌, ◌++◌, length, map, refl, sym, ap, ◌∙◌, subst, arith, get_or-set_same}
use Rattle.std.specs.Prelude.{Option, Some, None, All, Result, Ok, Err, slice_get, slice_set, option_map, is_none, is_some, nat_le}
use Rattle.std.specs.List.{list_all}
use Rattle.std.specs.Option.{option_map_or, option_and_then}
use Rattle.std.specs.FinSet as set
use Rattle.std.specs.FinMap as finmap
use Rattle.std.specs.FinMap.{nat_cmp-IsAntisymmetric}
use Rattle.std.specs.Cmp.{nat_cmp_total}
use Rattle.std.specs.Ordering.{nat_cmp}
use Rattle.std.proofs.lemmas.List.{length-set, map-append, map-set, length-map}
use Rattle.std.proofs.lemmas.List.Elements.{All-cons, All-nil}
use Rattle.std.proofs.lemmas.Option.{slice_get_within, slice_get-get_or, slice_get-map}
use Rattle.lemmas.proofs.Tests.{and_second}
use Rattle.lemmas.proofs.SameGtid.{same_itself}
use Rattle.lemmas.proofs.Lists.{get_append_within, get_push}
use Rattle.gtid_text.specs.declared.Gtid.{Gtid}
use Rattle.gtid_text.specs.Gtids.{same_gtid}
use Rattle.gtid_set.specs.declared.fault.SetFault.{SetFault}
use Rattle.ownership.specs.Slots.{taken_from}
use Rattle.rows.specs.declared.change.RowFault.{RowFault}
use Rattle.rows.specs.declared.change.Transaction.{Transaction}
use Rattle.rows.specs.Apply.{Rows, apply}
use Rattle.journal.specs.declared.Entry.{Entry}
use Rattle.journal.specs.Writing.{is_number}
use Rattle.apply_channel.specs.Channels.{ChannelValue, Received, are_settled, settle, settle_channel, with_received, received_as, most_received}
use Rattle.apply_channel.specs.Full.{gtids_with}
use Rattle.replica_core.specs.declared.event.Spot.{Spot}
use Rattle.replica_core.specs.declared.event.Reply.{Reply}
use Rattle.replica_core.specs.declared.event.Reply.TheVariants as reply
use Rattle.replica_core.specs.State.{Site, State, Seats, Replica}
use Rattle.replica_core.specs.Slots.{seats_of}
use Rattle.replica_core.specs.Kept.{IsKept, AreKept}
use Rattle.replica_core.specs.Seated.{AreSeated, IsUnowned, txn_of}
use Rattle.replica_core.specs.Committing.{IsCommittable, Executes}
use Rattle.replica_core.specs.Draining.{NothingIsOwned, IsWaiting}
use Rattle.replica_core.specs.Faults.{IsFaultIn, IsFault, HasRoomFor, allocates, received_set, committed_set, executed_with}
use Rattle.replica_core.specs.Machine.{Step, Held, held, change_at, receive, take_place, take_seat, commit, commit_answer, execute, without_seat, open_before}
use Rattle.replica_core.specs.AtOnce.{received_and_taken, received_and_committed, IsAtOnce, IsReadyAtOnce, IsReceiving}
use Rattle.replica_core.proofs.KeptLemmas.{found, gone_by}
use Rattle.replica_core.proofs.ReceiveLemmas.{received_is, was_asked}
use Rattle.replica_core.proofs.TakeLemmas.{commit_is}
use Rattle.replica_core.proofs.MoveLemmas.{IsFront, took, none_before, any_way, put_there, at_rest, settle_gtid}
use Rattle.gtid_set.proofs.SetLemmas.{has_itself}
use Rattle.gtid_set.proofs.SetSources.{first_of_and}

-- ---- lists

set_at : {X : Type 0} (xs : List X) (i : ℕ) (y x : X) → slice_get xs i ≡ Some x → slice_get (slice_set xs i y) i ≡ Some y
set_at xs i y x at =
    let within = slice_get_within xs i x at in
    let longer : i < length (slice_set xs i y) = omega (arith, length-set xs i y, within) in
    slice_get-get_or (slice_set xs i y) i y longer ∙ ap (λ z. Some z) (get_or-set_same xs i y y within)

all_pass : {X : Type 0} (p : X → Bool) (xs : List X) → list_all p xs ≡ true → All (λ x. p x ≡ true) xs
all_pass p [] h = All-nil (λ x. p x ≡ true)
all_pass p (x ∷ xs) h = All-cons (λ y. p y ≡ true) x xs (first_of_and (p x) (list_all p xs) h) (all_pass p xs (and_second (p x) (list_all p xs) h))

-- ---- no seat has a place

vacant : (n : ℕ) (slots : List (Option Spot)) → list_all (λ s. is_none s) slots ≡ true → taken_from n slots ≡ []
vacant n [] h = refl
vacant n (None ∷ slots) h = vacant (n + 1) slots h
vacant n (Some spot ∷ slots) h = absurd (cc h)

pub idle_slots : (slots : List (Option Spot)) (seats : Seats) → seats_of slots ≡ seats → list_all (λ s. is_none s) slots ≡ true → (seat : ℕ) → finmap.get seats seat ≡ None
idle_slots slots seats same h seat =
    ap (λ (m : Seats). finmap.get m seat) (sym same ∙ ap (λ es. let m : Seats = finmap.from_entries es in m) (vacant 1 slots h)) ∙ finmap.get-empty nat_cmp seat

pub unowned_at_rest : (s : State) (g : Gtid) → NothingIsOwned s → IsUnowned s.channels s.seats g
unowned_at_rest s g none seat e has same = let no : ◌≡◌ {A = Option Spot} None (Some has.0) = sym (none seat) ∙ has.1 in cc no

-- ---- what is settled keeps its GTIDs

gtids_kept : (g : Gtid) (rs : List Received) → map (λ (e : Received). e.gtid) (map (settle g) rs) ≡ map (λ (e : Received). e.gtid) rs
gtids_kept g [] = refl
gtids_kept g (e ∷ rs) = λ i. settle_gtid g e (same_gtid e.gtid g) refl i ∷ gtids_kept g rs i

abbrev entry_of : Entry → Received
entry_of e = record { gtid = e.gtid; txn = Some e.txn }

abbrev done_of : Entry → Received
done_of e = record { gtid = e.gtid; txn = None }

settled_entry : (e : Entry) → settle e.gtid (entry_of e) ≡ done_of e
settled_entry e = ap (λ b. cond b (done_of e) (entry_of e)) (same_itself e.gtid)

settled_channel : (e : Entry) (channel : ChannelValue) → settle_channel e.gtid (with_received (entry_of e) channel) ≡ with_received (done_of e) (settle_channel e.gtid channel)
settled_channel e channel = λ i. record channel { received = same i }
  where
    same : map (settle e.gtid) (channel.received ++ entry_of e ∷ []) ≡ map (settle e.gtid) channel.received ++ done_of e ∷ []
    same = map-append (settle e.gtid) channel.received (entry_of e ∷ []) ∙ ap (λ (x : Received). map (settle e.gtid) channel.received ++ x ∷ []) (settled_entry e)

-- ---- an entry for which nothing has to be waited

module _ (r : Replica) (seat c p : ℕ) (e : Entry) (may : IsReadyAtOnce r seat c p e) (kept : AreKept r.site.schema r.state.executed r.state.channels) where
  abbrev grown : ChannelValue
  grown = with_received (entry_of e) may.channel

  -- the state in which it is received
  abbrev got : State
  got = record r.state { channels = change_at c (with_received (entry_of e)) r.state.channels }

  abbrev spot : Spot
  spot = record { channel = c; place = p }

  is_received : ◌≡◌ {A = Step} (reply.Received (length may.channel.received), got) (receive r.site c e r.state)
  is_received =
      let asked = was_asked may.channel may.next.asked in
      received_is r.site r.state c e may.channel asked.0 (length may.channel.received) (change_at c (with_received (entry_of e)) r.state.channels)
      may.at asked.1 may.fits may.next.room refl (ap (λ b. change_at c (with_received (received_as b e)) r.state.channels) (sym may.new))

  at_channel : slice_get got.channels c ≡ Some grown
  at_channel =
      ap (λ o. slice_get (option_map_or (λ (x : ChannelValue). slice_set r.state.channels c (with_received (entry_of e) x)) o r.state.channels) c) may.at
      ∙ set_at r.state.channels c grown may.channel may.at

  at_place : slice_get grown.received p ≡ Some (entry_of e)
  at_place = ap (slice_get (may.channel.received ++ entry_of e ∷ [])) may.next.last ∙ get_push may.channel.received (entry_of e)

  is_front : IsFront got grown p
  is_front q x less at =
      let last = may.next.last in
      let within : q < length may.channel.received = omega (arith, less, last) in
      let was = get_append_within may.channel.received (entry_of e ∷ []) q x within at in
      let entries = found (λ (x : ChannelValue). All (IsKept r.site.schema r.state.executed) x.received) r.state.channels c may.channel kept may.at in
      let keeps = found (IsKept r.site.schema r.state.executed) may.channel.received q x entries was in
      let gone = found (λ (y : Received). is_none y.txn ≡ true) may.channel.received q x (all_pass (λ (y : Received). is_none y.txn) may.channel.received may.next.settled) was in
      sym (gone_by x.txn (set.contains r.state.executed x.gtid) keeps.waits) ∙ gone

  abbrev is_waiting : IsWaiting p c got
  is_waiting = record { channel = grown; entry = entry_of e; at = at_channel; runs = may.next.runs; there = at_place; waits = may.new }

  is_taken : take_place r.site seat c p got ≡ (reply.Taken e.gtid, take_seat seat c p got)
  is_taken = took r.site got seat c p is_waiting may.one may.idle is_front

  both_taken : received_and_taken r.site seat c p e r.state ≡ take_seat seat c p got
  both_taken = ap (λ (x : Step). (take_place r.site seat c p x.1).1) (sym is_received) ∙ ap (λ (x : Step). x.1) is_taken

  is_answered : commit r.site seat (take_seat seat c p got) ≡ commit_answer e.gtid e.txn seat c (take_seat seat c p got) (apply r.site.schema e.txn r.state.rows)
  is_answered =
      commit_is r.site (take_seat seat c p got) seat spot grown e.gtid e.txn e.txn refl may.one (put_there r.state.seats seat spot) at_channel at_place
      (any_way grown.preserve (open_before got grown p) (none_before got grown p is_front))

  is_held : held (take_seat seat c p got) seat ≡ Some (record { spot = spot; channel = grown; gtid = e.gtid; txn = e.txn })
  is_held = let put = put_there r.state.seats seat spot in simp (put, at_channel, at_place) refl

  -- what the commit takes
  pub makes_executed : committed_set seat (received_and_taken r.site seat c p e r.state) ≡ Some (executed_with r.state e.gtid)
  makes_executed = ap (committed_set seat) both_taken ∙ ap (option_map (λ (h : Held). executed_with r.state h.gtid)) is_held

  answer_takes : (s : State) (o : Result Rows RowFault) → allocates (commit_answer e.gtid e.txn seat c s o).0 ≡ true
  answer_takes s (Ok rows) = refl
  answer_takes s (Err fault) = refl

  pub commit_takes : allocates (commit r.site seat (received_and_taken r.site seat c p e r.state)).0 ≡ true
  commit_takes =
      ap (λ (s : State). allocates (commit r.site seat s).0) both_taken ∙ ap (λ (x : Step). allocates x.0) is_answered
      ∙ answer_takes (take_seat seat c p got) (apply r.site.schema e.txn r.state.rows)

  -- ---- it is executed first

  module _ (rows : Rows) where
    -- the state in which it is executed
    abbrev pub ahead : State
    ahead = execute r.state e.gtid e.txn rows

    at_settled : slice_get ahead.channels c ≡ Some (settle_channel e.gtid may.channel)
    at_settled = slice_get-map (settle_channel e.gtid) r.state.channels c ∙ ap (option_map (settle_channel e.gtid)) may.at

    same_len : length (map (settle e.gtid) may.channel.received) ≡ length may.channel.received
    same_len = length-map may.channel.received (settle e.gtid)

    is_received_done : ◌≡◌ {A = Step} (reply.Received (length (map (settle e.gtid) may.channel.received)), record ahead { channels = change_at c (with_received (done_of e)) ahead.channels }) (receive r.site c e ahead)
    is_received_done =
        let asked = was_asked may.channel may.next.asked in
        received_is r.site ahead c e (settle_channel e.gtid may.channel) asked.0 (length (map (settle e.gtid) may.channel.received)) (change_at c (with_received (done_of e)) ahead.channels)
        at_settled asked.1 may.fits (ap (nat_le most_received) same_len ∙ may.next.room) refl (ap (λ b. change_at c (with_received (received_as b e)) ahead.channels) (sym (has_itself r.state.executed e.gtid)))

    same_channels : map (settle_channel e.gtid) got.channels ≡ change_at c (with_received (done_of e)) ahead.channels
    same_channels =
        ap (λ o. map (settle_channel e.gtid) (option_map_or (λ (x : ChannelValue). slice_set r.state.channels c (with_received (entry_of e) x)) o r.state.channels)) may.at
        ∙ map-set (settle_channel e.gtid) r.state.channels c grown
        ∙ ap (slice_set ahead.channels c) (settled_channel e may.channel)
        ∙ sym (ap (λ o. option_map_or (λ (x : ChannelValue). slice_set ahead.channels c (with_received (done_of e) x)) o ahead.channels) at_settled)

    same_seats : finmap.remove (finmap.insert r.state.seats seat spot) seat ≡ r.state.seats
    same_seats = finmap.same_map nat_cmp_total nat_cmp-IsAntisymmetric _ _ (λ q. at_rest r.state seat spot may.idle q ∙ sym (may.idle q))

    same_state : execute (without_seat (take_seat seat c p got) seat) e.gtid e.txn rows ≡ record ahead { channels = change_at c (with_received (done_of e)) ahead.channels }
    same_state = λ i. record ahead { seats = same_seats i; channels = same_channels i }

    -- its channel answers the same
    pub told_same : (receive r.site c e r.state).0 ≡ (receive r.site c e ahead).0
    told_same = ap (λ (x : Step). x.0) (sym is_received) ∙ ap (λ n. reply.Received n) (sym same_len) ∙ ap (λ (x : Step). x.0) is_received_done

    -- and the same set is made
    pub makes_received : received_set c e ahead ≡ received_set c e r.state
    makes_received =
        ap (option_map (gtids_with e)) at_settled
        ∙ ap (λ (gs : List Gtid). Some (set.insert (set.from_list gs) e.gtid)) (gtids_kept e.gtid may.channel.received)
        ∙ ap (option_map (gtids_with e)) (sym may.at)

    -- where it applies, the three events leave what is left when it is executed before it is received
    pub left_same : apply r.site.schema e.txn r.state.rows ≡ Ok rows → received_and_committed r.site seat c p e r.state ≡ (receive r.site c e ahead).1
    left_same applies =
        ap (λ (s : State). (commit r.site seat s).1) both_taken
        ∙ ap (λ (x : Step). x.1) (is_answered ∙ ap (commit_answer e.gtid e.txn seat c (take_seat seat c p got)) applies)
        ∙ same_state
        ∙ ap (λ (x : Step). x.1) is_received_done

    same_received : (site : Site) (s : State) → site ≡ r.site → s ≡ ahead → receive site c e s ≡ receive r.site c e ahead
    same_received site s one now = λ i. receive (one i) c e (now i)

    -- where it is executed, its channel has room for it
    pub receiving_ahead : (t : Replica) → t.state ≡ ahead → IsReceiving t c
    receiving_ahead t now = record {
      channel = settle_channel e.gtid may.channel;
      at = ap (λ (s : State). slice_get s.channels c) now ∙ at_settled;
      asked = may.next.asked;
      room = ap (nat_le most_received) same_len ∙ may.next.room;
    }

    pub executed_ahead : (s : State) → s ≡ ahead → set.contains s.executed e.gtid ≡ true
    executed_ahead s now = ap (λ (x : State). set.contains x.executed e.gtid) now ∙ has_itself r.state.executed e.gtid

    -- what its channel answers afterwards, and what is left then
    pub done_ahead : (site : Site) (s t : State) (place : ℕ) → apply r.site.schema e.txn r.state.rows ≡ Ok rows → site ≡ r.site → s ≡ ahead → ◌≡◌ {A = Step} (reply.Received place, t) (receive site c e s)
        → IsAtOnce r seat c p e (reply.Received p) t
    done_ahead site s t place applies one now is = record {
      replied = ap (λ n. reply.Received n) may.next.last ∙ ap (λ (x : Step). x.0) is_received;
      state = ap (λ (x : Step). x.1) (is ∙ same_received site s one now) ∙ sym (left_same applies);
    }

    -- a fault of its channel
    pub fault_ahead : (f : SetFault) (site : Site) (s : State) → site ≡ r.site → s ≡ ahead → IsFault (IsFaultIn f (received_set c e s)) (receive site c e s) → IsFault (IsFaultIn f (received_set c e r.state)) (receive r.site c e r.state)
    fault_ahead f site s one now h = record {
      cause = subst (IsFaultIn f) (ap (received_set c e) now ∙ makes_received) h.cause;
      instead = ap (λ (answer : Reply). allocates answer) (told_same ∙ sym (ap (λ (x : Step). x.0) (same_received site s one now))) ∙ h.instead;
    }

    -- ... has room for the same set
    pub room_ahead : (f : SetFault) (s : State) → s ≡ ahead → HasRoomFor f (received_set c e s) → HasRoomFor f (received_set c e r.state)
    room_ahead f s now h = subst (HasRoomFor f) (ap (received_set c e) now ∙ makes_received) h

-- ---- what may be executed at once

pub committable_at_once : (r : Replica) (seat c p : ℕ) (e copy : Entry) → copy ≡ e → IsReadyAtOnce r seat c p e → is_number e.gtid.number ≡ true → IsCommittable r None copy
committable_at_once r seat c p e copy same may number = subst (IsCommittable r None) (sym same) (record {
  new = may.new;
  fits = may.fits;
  number = number;
  seat = tt;
  alone = unowned_at_rest r.state e.gtid may.idle;
})

-- the state in which it is executed
pub executed_as : (old new : Replica) (e copy : Entry) → copy ≡ e → Executes old None copy new → Executes old None e new
executed_as old new e copy same done = subst (λ (x : Entry). Executes old None x new) same done

-- ---- where all is executed, no seat has a place

executed_at : (es : List Received) (i : ℕ) → are_settled es ≡ true → is_some (option_and_then (λ (e : Received). e.txn) (slice_get es i)) ≡ false
executed_at [] zero done = refl
executed_at [] (suc i) done = refl
executed_at (e ∷ es) zero done = executed e.txn (first_of_and (is_none e.txn) (are_settled es) done)
  where
    executed : (o : Option Transaction) → is_none o ≡ true → is_some o ≡ false
    executed None is = refl
    executed (Some t) is = absurd cc
executed_at (e ∷ es) (suc i) done = executed_at es i (and_second (is_none e.txn) (are_settled es) done)

executed_in : (cs : List ChannelValue) (i p : ℕ) → list_all (λ c. are_settled c.received) cs ≡ true
    → is_some (option_and_then (λ (e : Received). e.txn) (option_and_then (λ (c : ChannelValue). slice_get c.received p) (slice_get cs i))) ≡ false
executed_in [] zero p done = refl
executed_in [] (suc i) p done = refl
executed_in (c ∷ cs) zero p done = executed_at c.received p (first_of_and (are_settled c.received) (list_all (λ d. are_settled d.received) cs) done)
executed_in (c ∷ cs) (suc i) p done = executed_in cs i p (and_second (are_settled c.received) (list_all (λ d. are_settled d.received) cs) done)

pub nothing_taken : (cs : List ChannelValue) (seats : Seats) → AreSeated cs seats → list_all (λ c. are_settled c.received) cs ≡ true → (seat : ℕ) → finmap.get seats seat ≡ None
nothing_taken cs seats seated done seat = by_case (finmap.get seats seat) refl
  where
    never : (b : Bool) → b ≡ true → b ≡ false → ⊥
    never b is isnt = cc

    by_case : (o : Option Spot) → finmap.get seats seat ≡ o → o ≡ None
    by_case None is = refl
    by_case (Some x) is = absurd (never (is_some (txn_of cs x)) (seated.busy seat x is) (executed_in cs x.channel x.place done))
