-- A Committed on a channel that preserves order.
use Rattle.std.proofs.Common.{◌≡◌, ℕ, ◌+◌, ◌≤◌, zero, suc, Bool, true, false, not, cond, List, [], ◌∷◌, length, take, refl, sym, ap, ◌∙◌, arith}
use Rattle.std.specs.Prelude.{Option, Some, None, All, position, slice_get, nat_lt, option_and_then, option_map}
use Rattle.std.specs.List.{prefix_len}
use Rattle.std.specs.Option.{option_map_or}
use Rattle.std.proofs.lemmas.Bool.Decides.{nat_tests}
use Rattle.std.proofs.lemmas.List.Elements.{All-cons, All-nil}
use Rattle.rows.specs.declared.change.Transaction.{Transaction}
use Rattle.gtid_text.specs.declared.Gtid.{Gtid}
use Rattle.apply_channel.specs.Channels.{ChannelValue, Received}
use Rattle.replica_core.specs.declared.event.Spot.{Spot}
use Rattle.replica_core.specs.declared.event.Event.{Event}
use Rattle.replica_core.specs.declared.event.Event.TheVariants as event
use Rattle.replica_core.specs.declared.event.Reply.{Reply}
use Rattle.replica_core.specs.declared.event.Reply.TheVariants.{Committed, Early, SeatIdle, NoSeat}
use Rattle.replica_core.specs.State.{Site, State}
use Rattle.replica_core.specs.Machine.{Step, Held, is_open, is_seat, open_before, held_of, held_at, held, commit_held, commit, step, replies, after}
use Rattle.replica_core.specs.Laws.{AreExecutedBefore, HasInOrder, OrderIsPreserved}

-- ---- where no earlier place is open, each is executed

all_by : {X : Type 0} (q : X → Bool) (x : X) (xs : List X) (b : Bool) → q x ≡ b → (length xs ≤ prefix_len q xs → All (λ x. q x ≡ true) xs) → suc (length xs) ≤ cond b (1 + prefix_len q xs) 0 → All (λ x. q x ≡ true) (x ∷ xs)
all_by q x xs true is rest h = All-cons (λ x. q x ≡ true) x xs is (rest (omega arith))
all_by q x xs false is rest h = absurd (omega arith)

all_pass : {X : Type 0} (q : X → Bool) (xs : List X) → length xs ≤ prefix_len q xs → All (λ x. q x ≡ true) xs
all_pass q [] h = All-nil (λ x. q x ≡ true)
all_pass q (x ∷ xs) h = all_by q x xs (q x) refl (all_pass q xs) h

not_within : (n m : ℕ) (b : Bool) → nat_lt n m ≡ b → ◌≡◌ {A = Option ℕ} (cond b (Some n) None) None → m ≤ n
not_within n m true is h = absurd (cc h)
not_within n m false is h = grind (arith, nat_tests, is)

none_pass : {X : Type 0} (p : X → Bool) (xs : List X) → position p xs ≡ None → All (λ x. not (p x) ≡ true) xs
none_pass p xs h = all_pass (λ x. not (p x)) xs (not_within (prefix_len (λ x. not (p x)) xs) (length xs) (nat_lt (prefix_len (λ x. not (p x)) xs) (length xs)) refl h)

twice : (b : Bool) → not (not b) ≡ true → b ≡ true
twice true h = refl
twice false h = absurd (cc h)

closed_before : (s : State) (channel : ChannelValue) (place : ℕ) → open_before s channel place ≡ None → AreExecutedBefore s channel place
closed_before s channel place h = λ k d l. twice _ (none_pass (is_open s) (take place channel.received) h k d l)

-- ---- what the reply Committed shows

early_by : (s : State) (g : Gtid) (o : Option ℕ) (next : Step) → (option_map_or (λ q. (Early q, s)) o next).0 ≡ Committed g → o ≡ None
early_by s g None next h = refl
early_by s g (Some q) next h = absurd (cc h)

txn_by : (s : State) (g : Gtid) (f : Held → Step) (spot : Spot) (channel : ChannelValue) (e : Received) (o : Option Transaction) → (option_map_or f (option_map (λ t. let h : Held = record { spot = spot; channel = channel; gtid = e.gtid; txn = t } in h) o) (SeatIdle, s)).0 ≡ Committed g → (t : Transaction) × ((f (record { spot = spot; channel = channel; gtid = e.gtid; txn = t })).0 ≡ Committed g)
txn_by s g f spot channel e None h = absurd (cc h)
txn_by s g f spot channel e (Some t) h = (t, h)

entry_by : (s : State) (g : Gtid) (f : Held → Step) (spot : Spot) (channel : ChannelValue) (o : Option Received) → (option_map_or f (option_and_then (held_of spot channel) o) (SeatIdle, s)).0 ≡ Committed g → (e : Gtid) × (t : Transaction) × ((f (record { spot = spot; channel = channel; gtid = e; txn = t })).0 ≡ Committed g)
entry_by s g f spot channel None h = absurd (cc h)
entry_by s g f spot channel (Some e) h = let w = txn_by s g f spot channel e e.txn h in (e.gtid, w.0, w.1)

seat_by : (s : State) (g : Gtid) (b : Bool) (next : Step) → (cond (not b) (NoSeat, s) next).0 ≡ Committed g → next.0 ≡ Committed g
seat_by s g true next h = h
seat_by s g false next h = absurd (cc h)

held_is : (s : State) (seat : ℕ) (spot : Spot) (channel : ChannelValue) → HasInOrder s seat spot channel → held s seat ≡ option_and_then (held_of spot channel) (slice_get channel.received spot.place)
held_is s seat spot channel has =
    ap (option_and_then (held_at s)) has.has
    ∙ ap (option_and_then (λ (c : ChannelValue). option_and_then (held_of spot c) (slice_get c.received spot.place))) has.at

in_order : (site : Site) (s : State) (seat : ℕ) (g : Gtid) (spot : Spot) (channel : ChannelValue) → HasInOrder s seat spot channel → (commit site seat s).0 ≡ Committed g → AreExecutedBefore s channel spot.place
in_order site s seat g spot channel has told =
    let next = option_map_or (commit_held site seat s) (held s seat) (SeatIdle, s) in
    let one = seat_by s g (is_seat seat) next told in
    let known = ap (λ (o : Option Held). (option_map_or (commit_held site seat s) o (SeatIdle, s)).0) (sym (held_is s seat spot channel has)) ∙ one in
    let w = entry_by s g (commit_held site seat s) spot channel (slice_get channel.received spot.place) known in
    let none = early_by s g _ _ w.2 in
    closed_before s channel spot.place (ap (λ b. cond b (open_before s channel spot.place) None) (sym has.preserves) ∙ none)

-- ---- in a run

some_reply : (a b : Reply) → ◌≡◌ {A = Option Reply} (Some a) (Some b) → a ≡ b
some_reply a b e = cc

some_event : (a b : Event) → ◌≡◌ {A = Option Event} (Some a) (Some b) → a ≡ b
some_event a b e = cc

told_at : (site : Site) (start : State) (events : List Event) (i : ℕ) (e : Event) (r : Reply) → slice_get events i ≡ Some e → slice_get (replies site start events) i ≡ Some r → (step site (after site start (take i events)) e).0 ≡ r
told_at site start [] i e r asked told = absurd (cc asked)
told_at site start (x ∷ xs) zero e r asked told = ap (λ (y : Event). (step site start y).0) (sym (some_event x e asked)) ∙ some_reply _ r told
told_at site start (x ∷ xs) (suc i) e r asked told = told_at site (step site start x).1 xs i e r asked told

pub order_preserved : OrderIsPreserved
order_preserved site start events i seat g spot channel commits has =
    in_order site (after site start (take i events)) seat g spot channel has (told_at site start events i (event.Commit seat) (Committed g) commits.asked commits.replied)
