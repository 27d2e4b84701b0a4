-- The next place that a seat may take is among those that its channel has ready.
use Rattle.std.proofs.lemmas.Option.{slice_get_cases}
use Rattle.std.proofs.Common.{inl, inr, ◌≡◌, ℕ, ◌+◌, ◌-◌, ◌≤◌, ◌<◌, zero, suc, Bool, true, false, ◌&&◌, cond, List, length, refl, sym, ap, ◌∙◌, arith}
use Rattle.std.specs.Prelude.{Option, Some, None, All, find, nat_le, slice_get, is_some, is_none, option_and_then}
use Rattle.std.specs.Option.{option_map_or}
use Rattle.std.specs.List.{range_with_len}
use Rattle.std.proofs.lemmas.Bool.Decides.{nat_tests}
use Rattle.rows.specs.declared.schema.Table.{Table}
use Rattle.apply_channel.specs.Channels.{ChannelValue, Received, blocker, txn_at}
use Rattle.apply_channel.specs.Channels as channels
use Rattle.replica_core.specs.State.{State, owner}
use Rattle.replica_core.specs.Machine.{blocking, is_open, is_free_at, is_ready, ready_from}
use Rattle.replica_core.specs.Kept.{IsKept}
use Rattle.replica_core.proofs.KeptLemmas.{found, blocker_is}
use Rattle.replica_core.proofs.LeastLemmas.{skipped, none_left}
use Rattle.replica_core.proofs.ReceiveLemmas.{found_test, found_within}

-- ---- a test from a number on

from_true : (f : ℕ → Bool) (from a m : ℕ) → from ≤ a → find (λ p. nat_le from p && f p) (range_with_len (a + 1) m) ≡ find f (range_with_len (a + 1 + (from - (a + 1))) (m - (from - (a + 1)))) → cond (f a) (Some a) (find (λ p. nat_le from p && f p) (range_with_len (a + 1) m)) ≡ find f (range_with_len (a + (from - a)) (suc m - (from - a)))
from_true f from a m low rest =
    let tail_start : a + 1 + (from - (a + 1)) ≡ a + 1 = omega (arith, low) in
    let tail_count : m - (from - (a + 1)) ≡ m = omega (arith, low) in
    let start : a + (from - a) ≡ a = omega (arith, low) in
    let count : suc m - (from - a) ≡ suc m = omega (arith, low) in
    ap (λ x. cond (f a) (Some a) x) (rest ∙ (λ i. find f (range_with_len (tail_start i) (tail_count i))))
    ∙ sym (λ i. find f (range_with_len (start i) (count i)))

from_by : (f : ℕ → Bool) (from a m : ℕ) (b : Bool) → nat_le from a ≡ b → find (λ p. nat_le from p && f p) (range_with_len (a + 1) m) ≡ find f (range_with_len (a + 1 + (from - (a + 1))) (m - (from - (a + 1)))) → cond (b && f a) (Some a) (find (λ p. nat_le from p && f p) (range_with_len (a + 1) m)) ≡ find f (range_with_len (a + (from - a)) (suc m - (from - a)))
from_by f from a m true is rest = let low : from ≤ a = grind (arith, nat_tests, is) in from_true f from a m low rest
from_by f from a m false is rest =
    let above : a < from = grind (arith, nat_tests, is) in
    let start : a + 1 + (from - (a + 1)) ≡ a + (from - a) = omega arith in
    let count : m - (from - (a + 1)) ≡ suc m - (from - a) = omega arith in
    rest ∙ (λ i. find f (range_with_len (start i) (count i)))

from_in : (f : ℕ → Bool) (from m a : ℕ) → find (λ p. nat_le from p && f p) (range_with_len a m) ≡ find f (range_with_len (a + (from - a)) (m - (from - a)))
from_in f from zero a =
    let none : 0 - (from - a) ≡ 0 = omega arith in
    sym (ap (λ k. find f (range_with_len (a + (from - a)) k)) none)
from_in f from (suc m) a = from_by f from a m (nat_le from a) refl (from_in f from m (a + 1))

-- the first that passes a test from a number on
pub from_on : (f : ℕ → Bool) (from m : ℕ) → find (λ p. nat_le from p && f p) (range_with_len 0 m) ≡ find f (range_with_len from (m - from))
from_on f from m =
    let start : 0 + (from - 0) ≡ from = omega arith in
    let count : m - (from - 0) ≡ m - from = omega arith in
    from_in f from m 0 ∙ (λ i. find f (range_with_len (start i) (count i)))

-- ---- a place that is ready in its channel

three : (a b c : Bool) → (a && b) ≡ false → (a && (b && c)) ≡ false
three true true c e = absurd (cc e)
three true false c e = refl
three false b c e = refl

all_three : (a b c : Bool) → (a && b) ≡ true → (a && (b && c)) ≡ c
all_three true true c e = refl
all_three true false c e = absurd (cc e)
all_three false b c e = absurd (cc e)

-- the test of a channel, where there is an entry
at_entry : (schema : List Table) (s : State) (channel : ChannelValue) (place : ℕ) (e : Received) → All (IsKept schema s.executed) channel.received → slice_get channel.received place ≡ Some e → channels.is_ready schema channel.received place ≡ (is_open s e && is_none (option_map_or (blocking schema s channel place) e.txn None))
at_entry schema s channel place e kept at =
    let waits = (found (IsKept schema s.executed) channel.received place e kept at).waits in
    let txn : is_some (txn_at channel.received place) ≡ is_open s e = ap (λ o. is_some (option_and_then (λ (r : Received). r.txn) o)) at ∙ waits in
    λ i. txn i && is_none (blocker_is schema s channel place e kept at i)

ready_is : (schema : List Table) (s : State) (channel : ChannelValue) (place : ℕ) (e : Received) → slice_get channel.received place ≡ Some e → is_ready schema s channel place ≡ is_free_at schema s channel place e
ready_is schema s channel place e at = ap (λ o. option_map_or (is_free_at schema s channel place) o false) at

less_by : (schema : List Table) (s : State) (channel : ChannelValue) (place : ℕ) (o : Option Received) → slice_get channel.received place ≡ o → All (IsKept schema s.executed) channel.received → channels.is_ready schema channel.received place ≡ false → is_ready schema s channel place ≡ false
less_by schema s channel place None at kept idle = ap (λ o. option_map_or (is_free_at schema s channel place) o false) at
less_by schema s channel place (Some e) at kept idle =
    ready_is schema s channel place e at
    ∙ three (is_open s e) (is_none (option_map_or (blocking schema s channel place) e.txn None)) (is_none (owner s e.gtid)) (sym (at_entry schema s channel place e kept at) ∙ idle)

-- what its channel does not have ready may not be taken
pub not_ready : (schema : List Table) (s : State) (channel : ChannelValue) → All (IsKept schema s.executed) channel.received → (place : ℕ) → channels.is_ready schema channel.received place ≡ false → is_ready schema s channel place ≡ false
not_ready schema s channel kept place idle = less_by schema s channel place (slice_get channel.received place) refl kept idle

-- what it has ready may be taken where nobody owns it
pub ready_where : (schema : List Table) (s : State) (channel : ChannelValue) (place : ℕ) (e : Received) → All (IsKept schema s.executed) channel.received → slice_get channel.received place ≡ Some e → channels.is_ready schema channel.received place ≡ true → is_ready schema s channel place ≡ is_none (owner s e.gtid)
ready_where schema s channel place e kept at ready =
    ready_is schema s channel place e at
    ∙ all_three (is_open s e) (is_none (option_map_or (blocking schema s channel place) e.txn None)) (is_none (owner s e.gtid)) (sym (at_entry schema s channel place e kept at) ∙ ready)

-- ---- the next one

-- the channel has none ready: none may be taken
pub none_ready : (schema : List Table) (s : State) (channel : ChannelValue) (from : ℕ) → All (IsKept schema s.executed) channel.received → channels.next_ready schema channel.received from ≡ None → ready_from schema s channel from ≡ None
none_ready schema s channel from kept none =
    none_left (channels.is_ready schema channel.received) (is_ready schema s channel) (not_ready schema s channel kept) (length channel.received - from) from
    (sym (from_on (channels.is_ready schema channel.received) from (length channel.received)) ∙ none)

-- a place that the channel has ready, in its range and ready
pub record IsNext (schema : List Table) (channel : ChannelValue) (from place : ℕ) : Type 0 where
  pub low : from ≤ place
  pub high : place < length channel.received
  pub ready : channels.is_ready schema channel.received place ≡ true

pub next_is_ready : (schema : List Table) (channel : ChannelValue) (from place : ℕ) → channels.next_ready schema channel.received from ≡ Some place → IsNext schema channel from place
next_is_ready schema channel from place is =
    let n = length channel.received in
    let at = sym (from_on (channels.is_ready schema channel.received) from n) ∙ is in
    let w = found_within (channels.is_ready schema channel.received) (n - from) from place at in
    record {
      low = w.0;
      high = let low = w.0 in let high = w.1 in omega (arith, low, high);
      ready = found_test (channels.is_ready schema channel.received) (n - from) from place at;
    }

one_step : (g : ℕ → Bool) (n place : ℕ) → place < n → find g (range_with_len place (n - place)) ≡ cond (g place) (Some place) (find g (range_with_len (place + 1) (n - (place + 1))))
one_step g n place high =
    let count : n - place ≡ suc (n - (place + 1)) = omega arith in
    ap (λ k. find g (range_with_len place k)) count

-- the channel's next one decides
pub next_decides : (schema : List Table) (s : State) (channel : ChannelValue) (from place : ℕ) → All (IsKept schema s.executed) channel.received → channels.next_ready schema channel.received from ≡ Some place → ready_from schema s channel from ≡ cond (is_ready schema s channel place) (Some place) (ready_from schema s channel (place + 1))
next_decides schema s channel from place kept is =
    let n = length channel.received in
    let f = channels.is_ready schema channel.received in
    let g = is_ready schema s channel in
    let next = next_is_ready schema channel from place is in
    let low = next.low in
    let high = next.high in
    let count : from + (n - from) - place ≡ n - place = omega (arith, low, high) in
    skipped f g (not_ready schema s channel kept) (n - from) from place (sym (from_on f from n) ∙ is)
    ∙ ap (λ k. find g (range_with_len place k)) count
    ∙ one_step g n place high

-- past the end there is none
pub nothing_after : (schema : List Table) (s : State) (channel : ChannelValue) (from : ℕ) → length channel.received ≤ from → ready_from schema s channel from ≡ None
nothing_after schema s channel from past =
    let none : length channel.received - from ≡ 0 = omega (arith, past) in
    ap (λ k. find (is_ready schema s channel) (range_with_len from k)) none

-- a place below the end is somewhere
pub not_nowhere : {X : Type 0} (xs : List X) (i : ℕ) → i < length xs → slice_get xs i ≡ None → ⊥
not_nowhere xs i low none =
    elim ((slice_get_cases xs i).1) [
      | inl h ↦ absurd (cc (sym none ∙ h.2))
      | inr h ↦ let high = h.0 in let under = low in omega (arith, under, high)
    ]
