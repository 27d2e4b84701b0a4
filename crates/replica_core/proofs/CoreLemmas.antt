-- States, field by field.
use Rattle.std.proofs.Common.{◌≡◌, ℕ, ◌<◌, ◌≤◌, inl, inr, arith, refl, length, Bool, false, List, [], ◌∷◌, ◌++◌, sym, ap, subst, ◌∙◌, Bor}
use Rattle.std.specs.Prelude.{Option, Some, None, All, slice_get}
use Rattle.std.specs.Option.{MatchOption}
use Rattle.std.specs.FinMap as finmap
use Rattle.rows.specs.Database.{Database}
use Rattle.gtid_set.proofs.SetLemmas.{union_empty}
use Rattle.journal.specs.Journals.{JournalValue, whole}
use Rattle.std.proofs.lemmas.List.Elements.{All-append, All-cons, All-nil}
use Rattle.rows.specs.declared.schema.Table.{Table}
use Rattle.gtid_set.specs.Sets.{Gtids}
use Rattle.apply_channel.specs.Channels.{ChannelValue, with_stopped, new_channel as open_one, Keyed}
use Rattle.replica_core.specs.declared.event.Spot.{Spot}
use Rattle.std.proofs.lemmas.Option.{slice_get_cases, slice_get_past}
use Rattle.replica_core.specs.declared.event.Reply.TheVariants.{Restarted, NoChannel}
use Rattle.replica_core.specs.State.{Seats, State, Replica}
use Rattle.replica_core.specs.Slots.{seats_of}
use Rattle.replica_core.specs.Kept.{ChannelsValue, IsKept, AreKept}
use Rattle.replica_core.specs.Keyed.{IsAt, IsNotAt, with_channels}
use Rattle.replica_core.specs.Machine.{Step, change_at, restart}
use Rattle.replica_core.specs.Core.{new_replica_with, IsCore, IsAtCore, IsNotAtCore}
use Rattle.replica_core.proofs.KeptLemmas.{found, kept_stopped}
use Rattle.replica_core.proofs.SeatLemmas.{seated_changed, seated_pushed, seated_empty}

-- the value of a replica's fields
abbrev pub replica_of : ℕ → Database → Seats → List ChannelValue → JournalValue → Replica
replica_of own rows seats channels journal = record {
  site = record { own = own; schema = rows.schema };
  state = record { executed = whole journal; rows = rows.rows; seats = seats; channels = channels; journal = journal };
}

pub opened_is : (own : ℕ) (rows : Database) (executed : Gtids) (slots : List (Option Spot)) (channels : ChannelsValue) (journal : JournalValue) → seats_of slots ≡ finmap.empty → channels.list ≡ [] → journal ≡ record { previous = executed; entries = [] } → replica_of own rows (seats_of slots) channels.list journal ≡ new_replica_with own rows executed
opened_is own rows executed slots channels journal seats none start =
    λ i. let r : Replica = record {
      site = record { own = own; schema = rows.schema };
      state = record { executed = is_executed i; rows = rows.rows; seats = seats i; channels = none i; journal = start i };
    } in r
  where
    is_executed : whole journal ≡ executed
    is_executed = ap whole start ∙ sym (union_empty executed)

-- what a replica keeps that was just opened
pub core_opened : (schema : List Table) (channels : ChannelsValue) (executed : Gtids) (seats : Seats) → channels.schema ≡ schema → channels.list ≡ [] → seats ≡ finmap.empty → IsCore schema channels executed seats
core_opened schema channels executed seats same none idle = record {
  same = same;
  kept = subst (λ (cs : List ChannelValue). AreKept schema executed cs) (sym none) (All-nil (λ (x : ChannelValue). All (IsKept schema executed) x.received));
  seated = seated_empty channels.list seats idle;
}

-- a channel of the list is one of the replica
pub at_core : (r : Replica) (channels : ChannelsValue) (n : ℕ) (o : Option (Bor Keyed)) → channels.list ≡ r.state.channels → channels.schema ≡ r.site.schema → AreKept r.site.schema r.state.executed r.state.channels → MatchOption o (IsNotAt channels n) (λ k. IsAt channels n k.now) → MatchOption o (IsNotAtCore r n) (λ k. IsAtCore r n k.now)
at_core r channels n None list schema kept at = subst (λ (cs : List ChannelValue). slice_get cs n ≡ None) list at
at_core r channels n (Some k) list schema kept at =
    let value = subst (λ (cs : List ChannelValue). slice_get cs n ≡ Some k.now.channel) list at.value in
    record {
      value = value;
      schema = at.schema ∙ schema;
      kept = found (λ (c : ChannelValue). All (IsKept r.site.schema r.state.executed) c.received) r.state.channels n k.now.channel kept value;
    }

-- a channel is stopped, or runs again
pub core_stopped : (schema : List Table) (channels new_channels : ChannelsValue) (executed : Gtids) (seats : Seats) (c : ℕ) (flag : Bool) → IsCore schema channels executed seats → new_channels ≡ with_channels (change_at c (with_stopped flag) channels.list) channels → IsCore schema new_channels executed seats
core_stopped schema channels new_channels executed seats c flag core is =
    subst (λ (v : ChannelsValue). IsCore schema v executed seats) (sym is) (record {
      same = core.same;
      kept = kept_stopped schema executed c flag channels.list core.kept;
      seated = seated_changed (with_stopped flag) c channels.list seats (λ x i e at. at) core.seated;
    })

-- one channel more
pub core_pushed : (schema : List Table) (channels new_channels : ChannelsValue) (executed : Gtids) (seats : Seats) (name : List ℕ) (preserve : Bool) → IsCore schema channels executed seats → new_channels ≡ with_channels (channels.list ++ open_one name preserve ∷ []) channels → IsCore schema new_channels executed seats
core_pushed schema channels new_channels executed seats name preserve core is =
    let none : All (IsKept schema executed) (open_one name preserve).received = All-nil (IsKept schema executed) in
    subst (λ (v : ChannelsValue). IsCore schema v executed seats) (sym is) (record {
      same = core.same;
      kept = All-append (λ (x : ChannelValue). All (IsKept schema executed) x.received) channels.list (open_one name preserve ∷ []) core.kept (All-cons (λ (x : ChannelValue). All (IsKept schema executed) x.received) (open_one name preserve) [] none (All-nil (λ (x : ChannelValue). All (IsKept schema executed) x.received)));
      seated = seated_pushed channels.list (open_one name preserve) seats core.seated;
    })

-- ---- Restart

running : (s : State) (c : ℕ) (list : List ChannelValue) (x : ChannelValue) → list ≡ change_at c (with_stopped false) s.channels → slice_get s.channels c ≡ Some x → ◌≡◌ {A = Step} (Restarted, record s { channels = list }) (restart c s)
running s c list x is at = simp (at, is) refl

pub restarted : (s : State) (c : ℕ) (list : List ChannelValue) → list ≡ change_at c (with_stopped false) s.channels → c < length s.channels → ◌≡◌ {A = Step} (Restarted, record s { channels = list }) (restart c s)
restarted s c list is h =
    elim ((slice_get_cases s.channels c).1) [
      | inl w ↦ running s c list w.0 is w.2
      | inr w ↦ absurd (omega (arith, h, w.0))
    ]

pub not_restarted : (s : State) (c : ℕ) → length s.channels ≤ c → ◌≡◌ {A = Step} (NoChannel, s) (restart c s)
not_restarted s c h = let none = slice_get_past s.channels c h in simp none refl
