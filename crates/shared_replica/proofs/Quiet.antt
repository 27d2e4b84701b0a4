-- What an event that neither commits nor shows a set leaves as it was.
use Rattle.std.proofs.Common.{◌≡◌, ℕ, Bool, true, false, not, cond, List, refl, nat_le, length}
use Rattle.std.specs.Prelude.{Option, Some, None, slice_get}
use Rattle.std.specs.Option.{option_map_or}
use Rattle.std.specs.List.{list_any}
use Rattle.std.specs.FinSet as set
use Rattle.gtid_set.specs.Sets.{Gtids}
use Rattle.rows.specs.Fits.{misfit}
use Rattle.journal.specs.declared.Entry.{Entry}
use Rattle.apply_channel.specs.Channels.{ChannelValue, Received, is_full, same_name}
use Rattle.replica_core.specs.State.{Site, State, owner, owned_by}
use Rattle.replica_core.specs.Machine.{Step, is_seat, blocking, at_channel, open_channel, receive, take_entry, take_place, held, rollback, restart}
use Rattle.shared_replica.specs.History.{is_commit}
use Rattle.shared_replica.specs.Spare.{IsSpare}

-- the reply is not Committed and has no set, and the executed set is the old one
pub record Quiet (old : State) (x : Step) : Type 0 where
  pub executed : x.1.executed ≡ old.executed
  pub commit : is_commit x.0 ≡ false
  pub plain : (spare : Option Gtids) → IsSpare x.0 spare

pub either_way : (P : Step → Type 0) (b : Bool) (x y : Step) → P x → P y → P (cond b x y)
either_way P true x y p q = p
either_way P false x y p q = q

pub any_option : {T : Type 0} (P : Step → Type 0) (f : T → Step) (o : Option T) (d : Step) → ((x : T) → P (f x)) → P d → P (option_map_or f o d)
any_option P f None d p q = q
any_option P f (Some x) d p q = p x

hush : {old : State} {x : Step} → x.1.executed ≡ old.executed → is_commit x.0 ≡ false → ((spare : Option Gtids) → IsSpare x.0 spare) → Quiet old x
hush e c p = record { executed = e; commit = c; plain = p }

pub quiet_open : (name : List ℕ) (preserve : Bool) (s : State) → Quiet s (open_channel name preserve s)
quiet_open name preserve s =
    either_way (Quiet s) (list_any (λ c. same_name c.name name) s.channels) _ _ (hush refl refl (λ _. tt))
    (either_way (Quiet s) (nat_le 256 (length s.channels)) _ _ (hush refl refl (λ _. tt)) (hush refl refl (λ _. tt)))

pub quiet_channel : (s : State) (c : ℕ) (f : ChannelValue → Step) → ((channel : ChannelValue) → Quiet s (f channel)) → Quiet s (at_channel s c f)
quiet_channel s c f q = any_option (Quiet s) f (slice_get s.channels c) _ q (hush refl refl (λ _. tt))

pub quiet_receive : (site : Site) (c : ℕ) (entry : Entry) (s : State) → Quiet s (receive site c entry s)
quiet_receive site c entry s = quiet_channel s c _ (λ channel.
    any_option (Quiet s) _ channel.asked _
    (λ asked. any_option (Quiet s) _ (misfit site.schema entry.txn) _ (λ fault. hush refl refl (λ _. tt))
    (either_way (Quiet s) (is_full channel) _ _ (hush refl refl (λ _. tt)) (hush refl refl (λ _. tt))))
    (hush refl refl (λ _. tt)))

quiet_entry : (site : Site) (seat c p : ℕ) (channel : ChannelValue) (e : Received) (s : State) → Quiet s (take_entry site seat c p channel e s)
quiet_entry site seat c p channel e s =
    either_way (Quiet s) channel.stopped _ _ (hush refl refl (λ _. tt))
    (either_way (Quiet s) (set.contains s.executed e.gtid) _ _ (hush refl refl (λ _. tt))
    (any_option (Quiet s) _ (owner s e.gtid) _ (λ other. hush refl refl (λ _. tt))
    (any_option (Quiet s) _ (option_map_or (blocking site.schema s channel p) e.txn None) _ (λ q. hush refl refl (λ _. tt)) (hush refl refl (λ _. tt)))))

pub quiet_take : (site : Site) (seat c p : ℕ) (s : State) → Quiet s (take_place site seat c p s)
quiet_take site seat c p s =
    either_way (Quiet s) (not (is_seat seat)) _ _ (hush refl refl (λ _. tt))
    (any_option (Quiet s) _ (owned_by s seat) _ (λ g. hush refl refl (λ _. tt))
    (quiet_channel s c _ (λ channel. any_option (Quiet s) _ (slice_get channel.received p) _ (λ e. quiet_entry site seat c p channel e s) (hush refl refl (λ _. tt)))))

pub quiet_rollback : (seat : ℕ) (s : State) → Quiet s (rollback seat s)
quiet_rollback seat s =
    either_way (Quiet s) (not (is_seat seat)) _ _ (hush refl refl (λ _. tt))
    (any_option (Quiet s) _ (held s seat) _ (λ h. hush refl refl (λ _. tt)) (hush refl refl (λ _. tt)))

pub quiet_restart : (c : ℕ) (s : State) → Quiet s (restart c s)
quiet_restart c s = quiet_channel s c _ (λ channel. hush refl refl (λ _. tt))
