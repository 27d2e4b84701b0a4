-- The set that a reply shows, before its step.
use Rattle.std.proofs.Common.{◌≡◌, ℕ, false, not, refl}
use Rattle.std.specs.Prelude.{Option, Some, None, Result, Ok, Err, option_map, slice_get, if◌then◌else◌}
use Rattle.std.specs.Option.{option_map_or}
use Rattle.gtid_set.specs.Sets.{Gtids, gtid}
use Rattle.gtid_text.specs.declared.Gtid.{Gtid}
use Rattle.rows.specs.declared.change.RowFault.{RowFault}
use Rattle.rows.specs.declared.change.Transaction.{Transaction}
use Rattle.rows.specs.Apply.{Rows, apply}
use Rattle.rows.specs.Fits.{misfit}
use Rattle.apply_channel.specs.Channels.{ChannelValue, with_asked}
use Rattle.replica_core.specs.declared.event.Event.{Event}
use Rattle.replica_core.specs.declared.event.Event.TheVariants as event
use Rattle.replica_core.specs.declared.event.Reply.TheVariants.{Ask, NoChannel}
use Rattle.replica_core.specs.State.{Site, State}
use Rattle.replica_core.specs.Machine.{Step, is_seat, ask, with_channel, position_on, held, open_before, commit, commit_answer, local, local_answer, next_number, step}
use Rattle.shared_replica.specs.Spare.{IsSpare, shows}
use Rattle.shared_replica.proofs.Quiet.{either_way, any_option, quiet_open, quiet_receive, quiet_take, quiet_rollback, quiet_restart}

-- a reply without a set
abbrev pub IsPlain : Step → Type 0
IsPlain x = (spare : Option Gtids) → IsSpare x.0 spare

plain_answer : (g : Gtid) (t : Transaction) (seat c : ℕ) (s : State) (r : Result Rows RowFault) → IsPlain (commit_answer g t seat c s r)
plain_answer g t seat c s (Ok rows) spare = tt
plain_answer g t seat c s (Err fault) spare = tt

plain_commit : (site : Site) (seat : ℕ) (s : State) → IsPlain (commit site seat s)
plain_commit site seat s =
    either_way IsPlain (not (is_seat seat)) _ _ (λ _. tt)
    (any_option IsPlain _ (held s seat) _ (λ h. any_option IsPlain _ (if h.channel.preserve then open_before s h.channel h.spot.place else None) _ (λ q _. tt) (plain_answer h.gtid h.txn seat h.spot.channel s (apply site.schema h.txn s.rows))) (λ _. tt))

plain_local_answer : (g : Gtid) (t : Transaction) (s : State) (r : Result Rows RowFault) → IsPlain (local_answer g t s r)
plain_local_answer g t s (Ok rows) spare = tt
plain_local_answer g t s (Err fault) spare = tt

plain_local : (site : Site) (t : Transaction) (s : State) → IsPlain (local site t s)
plain_local site t s =
    any_option IsPlain _ (misfit site.schema t) _ (λ fault _. tt)
    (any_option IsPlain _ (next_number site s) _ (λ n. plain_local_answer (gtid site.own n) t s (apply site.schema t s.rows)) (λ _. tt))

-- only Position, Purge and Look are answered with a set
pub plain_step : (site : Site) (s : State) (e : Event) → shows e ≡ false → IsPlain (step site s e)
plain_step site s (event.OpenChannel name preserve) h = (quiet_open name preserve s).plain
plain_step site s (event.Position c) h = absurd (cc h)
plain_step site s (event.Receive c entry) h = (quiet_receive site c entry s).plain
plain_step site s (event.Take seat c p) h = (quiet_take site seat c p s).plain
plain_step site s (event.Commit seat) h = plain_commit site seat s
plain_step site s (event.Rollback seat) h = (quiet_rollback seat s).plain
plain_step site s (event.Restart c) h = (quiet_restart c s).plain
plain_step site s (event.Local changes) h = plain_local site changes s
plain_step site s (event.Purge k) h = absurd (cc h)
plain_step site s event.Look h = absurd (cc h)

abbrev asks : State → ℕ → ChannelValue → Step
asks s c channel = (Ask (ask s channel), with_channel s c (with_asked (ask s channel) channel))

asked_by : (s : State) (c : ℕ) (o : Option ChannelValue) → IsSpare (option_map_or (asks s c) o (NoChannel, s)).0 (option_map (ask s) o)
asked_by s c None = tt
asked_by s c (Some channel) = refl

-- what a Position will ask with
pub position_asks : (s : State) (c : ℕ) → IsSpare (position_on c s).0 (option_map (ask s) (slice_get s.channels c))
position_asks s c = asked_by s c (slice_get s.channels c)
