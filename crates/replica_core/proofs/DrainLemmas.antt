-- What is done stays done.
use Rattle.std.proofs.Common.{◌≡◌, inl, inr, ⊎_elim, ℕ, ◌+◌, ◌<◌, true, List, length, sym, ap, ◌∙◌, subst, arith}
use Rattle.std.specs.Prelude.{Option, Some, None, option_map, slice_get}
use Rattle.std.specs.FinSet as set
use Rattle.std.proofs.lemmas.Bool.{cases_eq}
use Rattle.std.proofs.lemmas.Option.{slice_get_within}
use Rattle.lemmas.proofs.Options.{none_where}
use Rattle.apply_channel.specs.Channels.{ChannelValue, Received}
use Rattle.replica_core.specs.State.{State}
use Rattle.replica_core.specs.Draining.{places, IsDoneBelow, IsDone, IsSettledAt, AreStoppedOrDone, Follows, SameGtids}
use Rattle.replica_core.proofs.LookLemmas.{ends_by, one_value}
use Rattle.replica_core.proofs.MoveLemmas.{same_channels}

pub follows_self : (s : State) → Follows s s
follows_self s = record { executed = λ g h. h; channels = same_channels s.channels }

same_further : (a b c : List Received) → SameGtids a b → SameGtids b c → SameGtids a c
same_further a b c f g p e at =
    let x = g p e at in
    let y = f p x.0 x.1 in
    (y.0, y.1, x.2 ∙ y.2)

pub follows_further : (a b c : State) → Follows a b → Follows b c → Follows a c
follows_further a b c f g = record {
  executed = λ h at. g.executed h (f.executed h at);
  channels = λ k after at.
      let x = g.channels k after at in
      let y = f.channels k x.0 x.1 in
      (y.0, y.1, (λ h. x.2 (y.2 h)), same_further y.0.received x.0.received after.received y.3 x.3);
}

pub nothing_below : (c : ℕ) (s : State) → IsDoneBelow 0 c s
nothing_below c s channel at = inr (λ p e less there. absurd (omega (arith, less)))

-- where the channel was done below n, it is so after
pub below_follows : (s u : State) (n c : ℕ) → Follows s u → IsDoneBelow n c s → IsDoneBelow n c u
below_follows s u n c f done after at =
    let b = f.channels c after at in
    ⊎_elim
    (λ (stops : b.0.stopped ≡ true). inl (b.2 stops))
    (λ (all : (p : ℕ) (e : Received) → p < n → slice_get b.0.received p ≡ Some e → set.contains s.executed e.gtid ≡ true).
    inr (λ p e less there. let x = b.3 p e there in ap (set.contains u.executed) x.2 ∙ f.executed x.0.gtid (all p x.0 less x.1)))
    (done b.0 b.1)

pub done_follows : (s u : State) (c : ℕ) → Follows s u → IsDone c s → IsDone c u
done_follows s u c f done after at =
    let b = f.channels c after at in
    ⊎_elim
    (λ (stops : b.0.stopped ≡ true). inl (b.2 stops))
    (λ (all : (p : ℕ) (e : Received) → slice_get b.0.received p ≡ Some e → set.contains s.executed e.gtid ≡ true).
    inr (λ p e there. let x = b.3 p e there in ap (set.contains u.executed) x.2 ∙ f.executed x.0.gtid (all p x.0 x.1)))
    (done b.0 b.1)

-- one place more
pub one_more_place : (s : State) (n c : ℕ) → IsDoneBelow n c s → IsSettledAt n c s → IsDoneBelow (n + 1) c s
one_more_place s n c done here channel at =
    ⊎_elim
    (λ (stops : channel.stopped ≡ true). inl stops)
    (λ (all : (p : ℕ) (e : Received) → p < n → slice_get channel.received p ≡ Some e → set.contains s.executed e.gtid ≡ true).
    ⊎_elim
    (λ (stops : channel.stopped ≡ true). inl stops)
    (λ (now : (e : Received) → slice_get channel.received n ≡ Some e → set.contains s.executed e.gtid ≡ true).
    inr (λ p e less there.
    ⊎_elim
    (λ (same : p ≡ n). now e (ap (slice_get channel.received) (sym same) ∙ there))
    (λ other. all p e (omega (arith, less, other)) there)
    (cases_eq p n)))
    (here channel at))
    (done channel at)

-- all places of a channel that had so many, and whose GTIDs stayed
pub whole_channel : (s u : State) (n c : ℕ) → ((one : ChannelValue) → slice_get s.channels c ≡ Some one → length one.received ≡ n) → Follows s u → IsDoneBelow n c u → IsDone c u
whole_channel s u n c count f done after at =
    let b = f.channels c after at in
    ⊎_elim
    (λ (stops : after.stopped ≡ true). inl stops)
    (λ (all : (p : ℕ) (e : Received) → p < n → slice_get after.received p ≡ Some e → set.contains u.executed e.gtid ≡ true).
    inr (λ p e there.
    let x = b.3 p e there in
    let within = slice_get_within b.0.received p x.0 x.1 in
    let long = count b.0 b.1 in
    all p e (omega (arith, within, long)) there))
    (done after at)

-- the channels below n are all
pub all_channels : (s : State) (n : ℕ) → ((c : ℕ) → c < n → IsDone c s) → slice_get s.channels n ≡ None → AreStoppedOrDone s
all_channels s n done none c channel at =
    let within = slice_get_within s.channels c channel at in
    let short = ends_by s.channels n none in
    done c (omega (arith, within, short)) channel at

pub one_more_channel : (s u : State) (n c : ℕ) → ((k : ℕ) → k < n → IsDone k s) → Follows s u → IsDone n u → c < n + 1 → IsDone c u
one_more_channel s u n c before f here less =
    ⊎_elim
    (λ (same : c ≡ n). subst (λ k. IsDone k u) (sym same) here)
    (λ other. done_follows s u c f (before c (omega (arith, less, other))))
    (cases_eq c n)

-- ---- how many places a channel has

pub counted : (s : State) (c n : ℕ) → Some n ≡ places s c → (one : ChannelValue) → slice_get s.channels c ≡ Some one → length one.received ≡ n
counted s c n is one at = sym (one_value n (length one.received) (is ∙ ap (option_map (λ (channel : ChannelValue). length channel.received)) at))

pub uncounted : (s : State) (c : ℕ) → None ≡ places s c → slice_get s.channels c ≡ None
uncounted s c is = none_where (slice_get s.channels c) (λ one at.
    let no : ◌≡◌ {A = Option ℕ} None (Some (length one.received)) = is ∙ ap (option_map (λ (channel : ChannelValue). length channel.received)) at in
    cc no)
