-- What one seat does with one place.
use Rattle.std.proofs.Common.{◌≡◌, ℕ, ◌+◌, ◌<◌, ◌≤◌, Some, None, arith, length}
use Rattle.std.specs.Prelude.{slice_get}
use Rattle.std.specs.FinMap as finmap
use Rattle.apply_channel.specs.Channels.{ChannelValue}
use Rattle.replica_core.specs.declared.event.Event.TheVariants.{Take, Commit}
use Rattle.replica_core.specs.declared.event.Reply.{Reply}
use Rattle.replica_core.specs.State.{State, Site}
use Rattle.replica_core.specs.Kept.{AreKept}
use Rattle.replica_core.specs.Machine.{Step, step, rollback}
use Rattle.replica_core.specs.Draining.{NothingIsOwned, IsDone, IsWaiting, IsSettledAt, AreStoppedOrDone}
use Rattle.replica_core.proofs.MoveLemmas.{settled_by}
use Rattle.replica_core.proofs.FreeLemmas.{freed, more_seats}
use Rattle.replica_core.specs.Seated.{AreSeated}
use Rattle.replica_core.proofs.DrainLemmas.{follows_self, follows_further, nothing_below, below_follows, one_more_place, one_more_channel, whole_channel, all_channels}
use Rattle.serving.specs.Working.{Settles, Finishes}

-- nothing is left to do at a place
pub settles_none : (c p : ℕ) (s : State) → IsSettledAt p c s → Settles c p s s
settles_none c p s settled none done = record { rests = none; follows = follows_self s; done = one_more_place s p c done settled }

-- a take and a commit of a place that waits
pub settles : (site site1 : Site) (s t u : State) (r q : Reply) (c p : ℕ) → IsWaiting p c s → AreKept site.schema s.executed s.channels → site1 ≡ site → ◌≡◌ {A = Step} (r, t) (step site s (Take 1 c p))
    → ◌≡◌ {A = Step} (q, u) (step site1 t (Commit 1)) → Settles c p s u
settles site site1 s t u r q c p waits kept same takes commits none done =
    let all = settled_by site site1 s t u r q c p none done waits kept same takes commits in
    record { rests = all.rests; follows = all.follows; done = one_more_place u p c (below_follows s u p c all.follows done) all.done }

pub finishes_none : (c : ℕ) (s : State) → Finishes c 0 s s
finishes_none c s none = record { rests = none; follows = follows_self s; done = nothing_below c s }

pub finishes_more : (c p : ℕ) (s t u : State) → Finishes c p s t → Settles c p t u → Finishes c (p + 1) s u
finishes_more c p s t u before next none =
    let b = before none in
    let n = next b.rests b.done in
    record { rests = n.rests; follows = follows_further s t u b.follows n.follows; done = n.done }

-- the channels below a number are stopped or done, where nothing is owned
abbrev pub Ends : ℕ → State → State → Type 0
Ends n s t = NothingIsOwned s → NothingIsOwned t × ((c : ℕ) → c < n → IsDone c t)

pub ends_none : (s : State) → Ends 0 s s
ends_none s none = (none, λ c less. absurd (omega (arith, less)))

pub ends_more : (n count : ℕ) (s t u : State) → ((one : ChannelValue) → slice_get t.channels n ≡ Some one → length one.received ≡ count) → Ends n s t → Finishes n count t u → Ends (n + 1) s u
ends_more n count s t u long before next none =
    let b = before none in
    let l = next b.0 in
    (l.rests, λ c less. one_more_channel t u n c b.1 l.follows (whole_channel t u count n long l.follows l.done) less)

pub ends_all : (n : ℕ) (s t : State) → Ends n s t → slice_get t.channels n ≡ None → NothingIsOwned s → AreStoppedOrDone t
ends_all n s t before gone none = all_channels t n (before none).1 gone

-- ---- seats are freed

-- so many seats have no place
abbrev pub AreFree : ℕ → State → Type 0
AreFree n s = (seat : ℕ) → 1 ≤ seat → seat < n → finmap.get s.seats seat ≡ None

pub none_free : (s : State) → AreFree 1 s
none_free s seat low less = absurd (omega (arith, low, less))

pub one_more_free : (s t : State) (r : Reply) (seat : ℕ) → 1 ≤ seat → seat ≤ 64 → AreSeated s.channels s.seats → ◌≡◌ {A = Step} (r, t) (rollback seat s) → AreFree seat s → AreFree (seat + 1) t
one_more_free s t r n low high seated made free seat l less =
    let f = freed s t r n low high seated made in
    more_seats s t n seat free f.0 f.1 l less
