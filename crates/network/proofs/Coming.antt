-- What a channel has, and that it keeps it.
use Rattle.std.proofs.Common.{◌≡◌, ◌≢◌, ℕ, zero, suc, true, inl, inr, List, [], ◌∷◌, ◌++◌, map, Some, sym, ap, ◌∙◌, subst}
use Rattle.std.specs.Prelude.{slice_get}
use Rattle.std.specs.List.{list_any}
use Rattle.std.specs.FinSet as set
use Rattle.std.specs.FinSet.{contains-union}
use Rattle.std.proofs.lemmas.Bool.{or_cases, or_left, or_right}
use Rattle.std.proofs.lemmas.Option.{same_Some}
use Rattle.lemmas.proofs.Tests.{on_test}
use Rattle.lemmas.proofs.Lists.{get_append_left, get_set_cases}
use Rattle.lemmas.proofs.Options.{none_some, on_option}
use Rattle.lemmas.proofs.SameGtid.{gtid_total, same_itself}
use Rattle.gtid_text.specs.declared.Gtid.{Gtid}
use Rattle.gtid_text.specs.Gtids.{same_gtid}
use Rattle.gtid_set.specs.Sets.{Gtids}
use Rattle.rows.specs.Fits.{misfit}
use Rattle.journal.specs.declared.Entry.{Entry}
use Rattle.apply_channel.specs.Channels.{ChannelValue, Received, received_gtids, is_full}
use Rattle.replica_core.specs.declared.event.Reply.TheVariants.{NotInSchema, Ask}
use Rattle.replica_core.specs.State.{State, Site}
use Rattle.replica_core.specs.Machine.{Step, ask, with_channel, position_on, receive}
use Rattle.history.proofs.Covering.{in_gtids}
use Rattle.convergence.proofs.Invariant.{Stands}
use Rattle.convergence.proofs.Receiving.{received_entry, among_received}
use Rattle.network.specs.Machine.{come}
use Rattle.network.proofs.Moving.{Was}

stands_among : (rs : List Received) (q : ℕ) (f : Received) (g : Gtid) → slice_get rs q ≡ Some f → f.gtid ≡ g → list_any (λ x. same_gtid g x) (map (λ (e : Received). e.gtid) rs) ≡ true
stands_among [] q f g e same = none_some f e
stands_among (r ∷ rs) zero f g e same = or_left (same_gtid g r.gtid) (list_any (λ x. same_gtid g x) (map (λ (e : Received). e.gtid) rs)) (ap (same_gtid g) (ap (λ (x : Received). x.gtid) (same_Some r f e) ∙ same) ∙ same_itself g)
stands_among (r ∷ rs) (suc q) f g e same = or_right (same_gtid g r.gtid) (list_any (λ x. same_gtid g x) (map (λ (e : Received). e.gtid) rs)) (stands_among rs q f g e same)

pub stands_received : (rs : List Received) (g : Gtid) → Stands g rs → set.contains (received_gtids rs) g ≡ true
stands_received rs g w = in_gtids (map (λ (e : Received). e.gtid) rs) g ∙ stands_among rs w.0 w.1 g w.2 w.3

pub received_stands : (rs : List Received) (g : Gtid) → set.contains (received_gtids rs) g ≡ true → Stands g rs
received_stands rs g h = among_received rs g (sym (in_gtids (map (λ (e : Received). e.gtid) rs) g) ∙ h)

-- ---- one event

-- a channel that has asked was there, had asked so, and what it had received it has
pub record Grew (old : List ChannelValue) (c : ℕ) (ch : ChannelValue) (A : Gtids) : Type 0 where
  pub channel : ChannelValue
  pub there : slice_get old c ≡ Some channel
  pub asked : channel.asked ≡ Some A
  pub kept : (g : Gtid) → Stands g channel.received → Stands g ch.received

pub grew_as_before : (old : List ChannelValue) (c : ℕ) (ch : ChannelValue) (A : Gtids) → Was old c ch A → Grew old c ch A
grew_as_before old c ch A w = record { channel = w.channel; there = w.there; asked = w.asked; kept = w.kept }

pub grew_same : (old : List ChannelValue) (c : ℕ) (ch : ChannelValue) (A : Gtids) → slice_get old c ≡ Some ch → ch.asked ≡ Some A → Grew old c ch A
grew_same old c ch A e a = record { channel = ch; there = e; asked = a; kept = λ g w. w }

-- what has come has still come
pub still_come : (old : List ChannelValue) (c : ℕ) (ch : ChannelValue) (A : Gtids) (w : Grew old c ch A) (g : Gtid) → set.contains (come A w.channel) g ≡ true → set.contains (come A ch) g ≡ true
still_come old c ch A w g h =
    contains-union gtid_total A (received_gtids ch.received) g
    ∙ elim (or_cases (set.contains A g) (set.contains (received_gtids w.channel.received) g) (sym (contains-union gtid_total A (received_gtids w.channel.received) g) ∙ h)) [
      | inl asked ↦ or_left (set.contains A g) (set.contains (received_gtids ch.received) g) asked
      | inr received ↦ or_right (set.contains A g) (set.contains (received_gtids ch.received) g) (stands_received ch.received g (w.kept g (received_stands w.channel.received g received)))
    ]

-- a channel other than this one
pub record OtherGrew (s : State) (c : ℕ) (after : Step) : Type 0 where
  pub grew : (d : ℕ) (ch : ChannelValue) (A : Gtids) → d ≢ c → slice_get after.1.channels d ≡ Some ch → ch.asked ≡ Some A → Grew s.channels d ch A

-- any channel
pub record AllGrew (s : State) (after : Step) : Type 0 where
  pub grew : (d : ℕ) (ch : ChannelValue) (A : Gtids) → slice_get after.1.channels d ≡ Some ch → ch.asked ≡ Some A → Grew s.channels d ch A

-- a Position changes its own channel alone
pub position_grew : (s : State) (c : ℕ) → OtherGrew s c (position_on c s)
position_grew s c =
    on_option (OtherGrew s c) (λ channel. (Ask (ask s channel), with_channel s c (record channel { asked = Some (ask s channel) }))) (slice_get s.channels c) _
    (λ none. record { grew = λ d ch A n e a. grew_same s.channels d ch A e a })
    (λ x there. record {
      grew = λ d ch A n e a. elim (get_set_cases s.channels c (record x { asked = Some (ask s x) }) d ch e) [
        | inl at ↦ absurd (n at.0)
        | inr other ↦ grew_same s.channels d ch A other.1 a
      ];
    })

-- a Receive gives its channel one entry more, or nothing
pub receive_grew : (site : Site) (s : State) (c : ℕ) (entry : Entry) → AllGrew s (receive site c entry s)
receive_grew site s c entry =
    on_option (AllGrew s) _ (slice_get s.channels c) _
    (λ none. record { grew = grew_same s.channels })
    (λ x there. on_option (AllGrew s) _ x.asked _
    (λ none. record { grew = grew_same s.channels })
    (λ B b. on_option (AllGrew s) (λ fault. (NotInSchema fault, s)) (misfit site.schema entry.txn) _
    (λ n. on_test (AllGrew s) (is_full x) _ _
    (λ m. record { grew = grew_same s.channels })
    (λ m. record {
      grew = λ d ch A e a. elim (get_set_cases s.channels c (record x { received = x.received ++ received_entry s entry ∷ [] }) d ch e) [
        | inl at ↦ record {
          channel = x;
          there = ap (slice_get s.channels) at.0 ∙ there;
          asked = ap (λ (z : ChannelValue). z.asked) at.1 ∙ a;
          kept = λ g w. subst (λ (z : ChannelValue). Stands g z.received) at.1 (w.0, w.1, get_append_left x.received (received_entry s entry ∷ []) w.0 w.1 w.2, w.3);
        }
        | inr other ↦ grew_same s.channels d ch A other.1 a
      ];
    }))
    (λ fault n. record { grew = grew_same s.channels })))
