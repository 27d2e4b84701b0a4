-- With each Committed the executed set grows by one.
use Rattle.std.proofs.Common.{◌≡◌, ℕ, ◌+◌, Bool, true, false, not, cond, refl, sym, ap, subst, ◌∙◌, arith, length, nat_lt}
use Rattle.std.specs.Prelude.{Option, Some, None, All, List, [], ◌∷◌, Result, Ok, Err, find, is_some, ◌&&◌, slice_get, option_and_then, if◌then◌else◌}
use Rattle.std.specs.Option.{option_map_or}
use Rattle.std.specs.List.{range_with_len}
use Rattle.std.specs.FinSet as set
use Rattle.std.specs.FinSet.{len-insert}
use Rattle.std.specs.FinMap as finmap
use Rattle.std.proofs.lemmas.List.Elements.{All-get_or}
use Rattle.std.proofs.lemmas.Option.{slice_get_within, get_or_from_slice_get}
use Rattle.lemmas.proofs.Options.{map_some, and_then_some}
use Rattle.lemmas.proofs.SameGtid.{gtid_total}
use Rattle.gtid_text.specs.declared.Gtid.{Gtid}
use Rattle.gtid_set.specs.Sets.{Gtids, gtid, least_number, greatest}
use Rattle.rows.specs.declared.schema.Table.{Table}
use Rattle.rows.specs.declared.change.RowFault.{RowFault}
use Rattle.rows.specs.declared.change.Transaction.{Transaction}
use Rattle.rows.specs.Apply.{Rows, apply}
use Rattle.rows.specs.Fits.{misfit}
use Rattle.journal.specs.Journals.{previous_after_purge}
use Rattle.relay.specs.Own.{purge_to}
use Rattle.apply_channel.specs.Channels.{ChannelValue}
use Rattle.replica_core.specs.declared.event.Event.{Event}
use Rattle.replica_core.specs.declared.event.Event.TheVariants as event
use Rattle.replica_core.specs.declared.event.Reply.{Reply}
use Rattle.replica_core.specs.declared.event.Reply.TheVariants.{TooMany, Purged}
use Rattle.replica_core.specs.State.{Site, State, Replica}
use Rattle.replica_core.specs.Kept.{IsKept, AreKept}
use Rattle.replica_core.specs.Machine.{Step, is_seat, Held, held, held_at, held_of, open_before, commit, commit_answer, is_free, local, local_answer, next_number, purge, step}
use Rattle.shared_replica.specs.History.{is_commit, IsStep}
use Rattle.commit_ledger.specs.Tallies.{one_if}
use Rattle.shared_replica.proofs.Quiet.{Quiet, either_way, any_option, quiet_open, quiet_receive, quiet_take, quiet_rollback, quiet_restart}
use Rattle.replica_core.proofs.ReceiveLemmas.{found_by}

-- the executed set has grown by one where the reply is Committed, and not else
abbrev pub Grows : State → Step → Type 0
Grows old x = set.len x.1.executed ≡ set.len old.executed + one_if (is_commit x.0)

of_quiet : (s : State) (x : Step) → Quiet s x → Grows s x
of_quiet s x q =
    let same : set.len x.1.executed ≡ set.len s.executed = ap (λ (e : Gtids). set.len e) q.executed in
    let none : one_if (is_commit x.0) ≡ 0 = ap one_if q.commit in
    omega (arith, same, none)

-- a set with one more GTID
one_more_gtid : (s : Gtids) (g : Gtid) → set.contains s g ≡ false → set.len (set.insert s g) ≡ set.len s + 1
one_more_gtid s g new = len-insert gtid_total s g ∙ ap (λ b. cond b (set.len s) (set.len s + 1)) new

-- an option whose value is known to be its value
known_option : {T : Type 0} (P : Step → Type 0) (f : T → Step) (o : Option T) (d : Step) → ((x : T) → o ≡ Some x → P (f x)) → P d → P (option_map_or f o d)
known_option P f None d p q = q
known_option P f (Some x) d p q = p x refl

-- ---- Commit

get_of : {X : Type 0} (P : X → Type 0) (xs : List X) (i : ℕ) (x : X) → slice_get xs i ≡ Some x → All P xs → P x
get_of P xs i x at all = subst P (get_or_from_slice_get xs i x x at) (All-get_or P xs i x (slice_get_within xs i x at) all)

not_there : (b : Bool) → true ≡ not b → b ≡ false
not_there true h = absurd (cc h)
not_there false h = refl

-- the GTID that a seat holds is not executed
held_is_new : (schema : List Table) (s : State) (seat : ℕ) (h : Held) → AreKept schema s.executed s.channels → held s seat ≡ Some h → set.contains s.executed h.gtid ≡ false
held_is_new schema s seat h kept at =
    let a = and_then_some (held_at s) (finmap.get s.seats seat) h at in
    let spot = a.0 in
    let b = and_then_some (λ (channel : ChannelValue). option_and_then (held_of spot channel) (slice_get channel.received spot.place)) (slice_get s.channels spot.channel) h a.2 in
    let channel = b.0 in
    let c = and_then_some (held_of spot channel) (slice_get channel.received spot.place) h b.2 in
    let e = c.0 in
    let d = map_some (λ (t : Transaction). let x : Held = record { spot = spot; channel = channel; gtid = e.gtid; txn = t } in x) e.txn h c.2 in
    let keeps : IsKept schema s.executed e = get_of (IsKept schema s.executed) channel.received spot.place e c.1
    (get_of (λ (x : ChannelValue). All (IsKept schema s.executed) x.received) s.channels spot.channel channel b.1 kept) in
    let there : is_some e.txn ≡ true = ap (λ (o : Option Transaction). is_some o) d.1 in
    let same : e.gtid ≡ h.gtid = ap (λ (x : Held). x.gtid) d.2 in
    ap (set.contains s.executed) (sym same) ∙ not_there (set.contains s.executed e.gtid) (sym there ∙ keeps.waits)

answer_grows : (g : Gtid) (t : Transaction) (seat c : ℕ) (s : State) → set.contains s.executed g ≡ false → (r : Result Rows RowFault) → Grows s (commit_answer g t seat c s r)
answer_grows g t seat c s new (Ok rows) = one_more_gtid s.executed g new
answer_grows g t seat c s new (Err fault) = omega arith

commit_grows : (site : Site) (seat : ℕ) (s : State) → AreKept site.schema s.executed s.channels → Grows s (commit site seat s)
commit_grows site seat s kept =
    either_way (Grows s) (not (is_seat seat)) _ _ (omega arith)
    (known_option (Grows s) _ (held s seat) _ (λ h at.
    any_option (Grows s) _ (if h.channel.preserve then open_before s h.channel h.spot.place else None) _ (λ q. omega arith)
    (answer_grows h.gtid h.txn seat h.spot.channel s (held_is_new site.schema s seat h kept at) (apply site.schema h.txn s.rows))) (omega arith))

-- ---- Local

found_test : (test : ℕ → Bool) (xs : List ℕ) (n : ℕ) → find test xs ≡ Some n → test n ≡ true
found_test test [] n at = absurd (cc at)
found_test test (x ∷ xs) n at = found_by test x n (test x) (find test xs) refl (found_test test xs n) at

least_test : (test : ℕ → Bool) (n : ℕ) → least_number test ≡ Some n → test n ≡ true
unfolding least_number
least_test test n at = found_test test (range_with_len 1 greatest) n at

first_of : (a b : Bool) → not a && b ≡ true → a ≡ false
first_of true b h = absurd (cc h)
first_of false b h = refl

local_answer_grows : (g : Gtid) (t : Transaction) (s : State) → set.contains s.executed g ≡ false → (r : Result Rows RowFault) → Grows s (local_answer g t s r)
local_answer_grows g t s new (Ok rows) = one_more_gtid s.executed g new
local_answer_grows g t s new (Err fault) = omega arith

local_grows : (site : Site) (t : Transaction) (s : State) → Grows s (local site t s)
local_grows site t s =
    any_option (Grows s) _ (misfit site.schema t) _ (λ fault. omega arith)
    (known_option (Grows s) _ (next_number site s) _ (λ n at.
    local_answer_grows (gtid site.own n) t s (first_of (set.contains s.executed (gtid site.own n)) _ (least_test (is_free site s) n at)) (apply site.schema t s.rows)) (omega arith))

-- ---- each event

purge_by : (k : ℕ) (s : State) (b : Bool) → Grows s (cond b (TooMany (length s.journal.entries), s) (Purged (previous_after_purge k s.journal), record s { journal = purge_to k s.journal }))
purge_by k s true = omega arith
purge_by k s false = omega arith

purge_grows : (k : ℕ) (s : State) → Grows s (purge k s)
purge_grows k s = purge_by k s (nat_lt (length s.journal.entries) k)

step_to : (site : Site) (s : State) (e : Event) → AreKept site.schema s.executed s.channels → Grows s (step site s e)
step_to site s (event.OpenChannel name preserve) kept = of_quiet s _ (quiet_open name preserve s)
step_to site s (event.Position c) kept = any_option (Grows s) _ (slice_get s.channels c) _ (λ channel. omega arith) (omega arith)
step_to site s (event.Receive c entry) kept = of_quiet s _ (quiet_receive site c entry s)
step_to site s (event.Take seat c p) kept = of_quiet s _ (quiet_take site seat c p s)
step_to site s (event.Commit seat) kept = commit_grows site seat s kept
step_to site s (event.Rollback seat) kept = of_quiet s _ (quiet_rollback seat s)
step_to site s (event.Restart c) kept = of_quiet s _ (quiet_restart c s)
step_to site s (event.Local changes) kept = local_grows site changes s
step_to site s (event.Purge k) kept = purge_grows k s
step_to site s event.Look kept = omega arith

pub step_grows : (old : Replica) (e : Event) (r : Reply) (new : Replica) → AreKept old.site.schema old.state.executed old.state.channels → IsStep old e r new
    → set.len new.state.executed ≡ set.len old.state.executed + one_if (is_commit r)
step_grows old e r new kept s = subst (Grows old.state) (sym s.makes) (step_to old.site old.state e kept)
