-- The shared run: what its two nodes commit, event by event.
use Rattle.std.proofs.Common.{◌≡◌, ◌≢◌, ℕ, true, false, cond, ◌||◌, List, [], ◌∷◌, ◌++◌, Option, Some, None, Ok, Err, refl, sym, ap, ◌∙◌, subst, map, arith}
use Rattle.std.specs.Prelude.{slice_get, nat_le, ◌==◌}
use Rattle.std.specs.Ordering.{nat_cmp, eq_by_cmp}
use Rattle.std.specs.Cmp.{nat_cmp_total}
use Rattle.std.proofs.lemmas.Bool.{and_parts}
use Rattle.std.specs.FinMap as finmap
use Rattle.std.specs.FinSet as set
use Rattle.lemmas.proofs.SameGtid.{gtid_total, gtid_exact}
use Rattle.lemmas.proofs.Tests.{or_swap, not_both}
use Rattle.gtid_text.specs.declared.Gtid.{Gtid}
use Rattle.gtid_text.specs.Gtids.{gtid_cmp}
use Rattle.gtid_set.specs.Sets.{Gtids, gtid, only}
use Rattle.row_images.specs.Total.{row_eq_self}
use Rattle.rows.specs.declared.change.Change.TheVariants.{Update}
use Rattle.rows.specs.declared.change.RowFault.TheVariants.{RowDiffers}
use Rattle.rows.specs.declared.change.Transaction.{Transaction}
use Rattle.rows.specs.declared.schema.Table.{Table}
use Rattle.rows.specs.Total.{key_total}
use Rattle.rows.specs.Apply.{Rows, ◌>>=◌, apply, apply_change, apply_from, insert_row, insert_if_free, delete_if_same, or_else}
use Rattle.rows.specs.Fits.{misfit}
use Rattle.rows.specs.SharedOrders.{accounts, account, key_of, one_account}
use Rattle.rows.specs.Conflicts.{sharing_is_conflict}
use Rattle.rows.proofs.SharedOrders.{shared_orders_exist}
use Rattle.journal.specs.declared.Entry.{Entry}
use Rattle.journal.specs.Journals.{JournalValue, gtids_of, whole}
use Rattle.auto_position.specs.Sending.{sent}
use Rattle.apply_channel.specs.Channels.{ChannelValue, Received, most_received}
use Rattle.replica_core.specs.declared.event.Event.{Event}
use Rattle.replica_core.specs.declared.event.Event.TheVariants as event
use Rattle.replica_core.specs.declared.event.Reply.TheVariants as reply
use Rattle.replica_core.specs.State.{Site, State}
use Rattle.replica_core.specs.Machine as machine
use Rattle.replica_core.specs.Machine.{is_free, next_number, execute, take_seat, without_seat}
use Rattle.convergence.specs.Logs.{log}
use Rattle.convergence.specs.Served.{committed_here}
use Rattle.network.specs.declared.event.NetworkEvent.{NetworkEvent}
use Rattle.network.specs.declared.event.NetworkEvent.TheVariants.{Act, Position, Receive}
use Rattle.network.specs.Nodes.{Node, Sources}
use Rattle.network.specs.Machine.{Making, Decision, position_answer, decide, make, step, after}
use Rattle.network.specs.Runs.{made_at, events_at, local_of, locals, AreInTurn, IsInTurn, IsRunInTurn, start, end, run_locals}
use Rattle.network.specs.Exact.{node_log}
use Rattle.network.specs.SharedRun.{there_and_back, by_first, by_second, shared_run, executed_at, SharedRunsExist}
use Rattle.network.proofs.Small.{least_is_one, unowned}

-- ---- account 1 goes there and back

abbrev accounts_only : List Table
accounts_only = accounts ∷ []

-- account 1 with another balance
abbrev moved : Rows → ℕ → Rows
moved rows y = finmap.insert (finmap.remove rows (key_of 1)) (key_of 1) (account 1 y)

stands : (rows : Rows) (y : ℕ) → finmap.get (moved rows y) (key_of 1) ≡ Some (account 1 y)
stands rows y = finmap.get-insert key_total (finmap.remove rows (key_of 1)) (key_of 1) (account 1 y) (key_of 1)

moves : (n : ℕ) (rows : Rows) (x y : ℕ) → finmap.get rows (key_of 1) ≡ Some (account 1 x)
    → apply_change accounts_only n (Update accounts.name (account 1 x) (account 1 y)) rows ≡ Ok (moved rows y)
moves n rows x y there =
    ap (λ o. delete_if_same o n (key_of 1 ∷ []) (account 1 x) rows >>= insert_row n (key_of 1 ∷ []) (account 1 y)) there
    ∙ (ap (λ b. cond b (Ok (finmap.remove rows (key_of 1))) (Err (RowDiffers n 0)) >>= insert_row n (key_of 1 ∷ []) (account 1 y)) (row_eq_self (account 1 x))
    ∙ ap (λ o. insert_if_free (or_else None o 0) n (key_of 1 ∷ []) (account 1 y) (finmap.remove rows (key_of 1))) (finmap.get-remove key_total rows (key_of 1) (key_of 1)))

abbrev returned : Rows → ℕ → Rows
returned rows y = moved (moved rows y) 10

returns : (rows : Rows) (y : ℕ) → finmap.get rows (key_of 1) ≡ Some (account 1 10) → apply accounts_only (there_and_back y) rows ≡ Ok (returned rows y)
returns rows y there =
    ap (λ r. r >>= apply_from accounts_only 1 (Update accounts.name (account 1 y) (account 1 10) ∷ [])) (moves 0 rows 10 y there)
    ∙ ap (λ r. r >>= apply_from accounts_only 2 []) (moves 1 (moved rows y) y 10 (stands rows y))

there_first : finmap.get one_account (key_of 1) ≡ Some (account 1 10)
there_first = finmap.get-insert key_total finmap.empty (key_of 1) (account 1 10) (key_of 1)

-- ---- sets

-- what a channel asks with before anything is executed
abbrev nothing : Gtids
nothing = set.union set.empty set.empty

in_nothing : (g : Gtid) → set.contains nothing g ≡ false
in_nothing g = set.contains-union gtid_total set.empty set.empty g ∙ ap (λ b. b || b) (set.contains-empty gtid_cmp g)

-- ... and then it has received nothing
in_less : (g : Gtid) → set.contains (set.union nothing set.empty) g ≡ false
in_less g = set.contains-union gtid_total nothing set.empty g ∙ (λ i. in_nothing g i || set.contains-empty gtid_cmp g i)

within_none : (s : Gtids) → set.is_subset set.empty s ≡ true
within_none s = set.contains-is_subset gtid_total set.empty s (λ g i. not_both (set.contains (set.empty {R = gtid_cmp}) g) i (set.contains-empty gtid_cmp g))

own_within : (own : ℕ) (s : Gtids) → set.is_subset (only nothing own) s ≡ true
unfolding only
own_within own s = set.contains-is_subset gtid_total (set.retain nothing (λ g. g.source == own)) s (λ g i. not_both (set.contains nothing g)
    (and_parts (set.contains nothing g) (g.source == own) (sym (set.contains-retain nothing (λ x. x.source == own) g (λ x e. ap (λ (y : Gtid). y.source == own) (sym (gtid_exact g x e)))) ∙ i)).0
    (in_nothing g))

abbrev empty_journal : JournalValue
empty_journal = record { previous = set.empty; entries = [] }

sends_nothing : (own : ℕ) → sent empty_journal nothing (Some own) ≡ Ok []
sends_nothing own = simp (within_none nothing, own_within own (whole empty_journal)) refl

-- ---- what a node makes

-- a node that commits a transaction of its own, and then one of another node's
record Writer : Type 0 where
  own : ℕ
  other : ℕ
  name : List ℕ
  schema : List Table
  mine : Transaction
  theirs : Transaction
  rows : Rows
  -- the rows after its own transaction, and those after both
  one : Rows
  two : Rows
  mine_fits : misfit schema mine ≡ None
  theirs_fits : misfit schema theirs ≡ None
  mine_applies : apply schema mine rows ≡ Ok one
  theirs_applies : apply schema theirs one ≡ Ok two
  unlike : eq_by_cmp gtid_cmp (gtid other 1) (gtid own 1) ≡ false

module _ (w : Writer) where
  abbrev site : Site
  site = record { own = w.own; schema = w.schema }

  abbrev written : Entry
  written = record { gtid = gtid w.own 1; txn = w.mine }

  abbrev read : Entry
  read = record { gtid = gtid w.other 1; txn = w.theirs }

  abbrev channel : Option Gtids → List Received → ChannelValue
  channel asked received = record { name = w.name; preserve = false; stopped = false; asked = asked; received = received }

  abbrev begun : State
  begun = machine.opening set.empty w.rows

  abbrev opened : State
  opened = record begun { channels = channel None [] ∷ [] }

  abbrev positioned : State
  positioned = record begun { channels = channel (Some nothing) [] ∷ [] }

  abbrev wrote : State
  wrote = execute positioned written.gtid w.mine w.one

  abbrev came : State
  came = record wrote { channels = channel (Some nothing) (record { gtid = read.gtid; txn = Some w.theirs } ∷ []) ∷ [] }

  abbrev took : State
  took = take_seat 1 0 0 came

  abbrev ended : State
  ended = execute (without_seat took 1) read.gtid w.theirs w.two

  opens : machine.step site begun (event.OpenChannel w.name false) ≡ (reply.Opened 0, opened)
  opens = refl

  positions : machine.step site opened (event.Position 0) ≡ (reply.Ask nothing, positioned)
  positions = refl

  free : is_free site positioned 1 ≡ true
  free = simp (set.contains-empty gtid_cmp written.gtid, unowned positioned refl written.gtid) refl

  next : next_number site positioned ≡ Some 1
  next = least_is_one (is_free site positioned) free

  writes : machine.step site positioned (event.Local w.mine) ≡ (reply.Committed written.gtid, wrote)
  writes = simp (w.mine_fits, next, w.mine_applies) refl

  not_executed : set.contains wrote.executed read.gtid ≡ false
  not_executed = set.contains-insert gtid_total set.empty written.gtid read.gtid ∙ (λ i. w.unlike i || set.contains-empty gtid_cmp read.gtid i)

  room : nat_le most_received 0 ≡ false
  unfolding most_received
  room = refl

  receives : machine.step site wrote (event.Receive 0 read) ≡ (reply.Received 0, came)
  receives = simp (w.theirs_fits, room, not_executed) refl

  no_seat : finmap.get came.seats 1 ≡ None
  no_seat = finmap.get-empty nat_cmp 1

  takes : machine.step site came (event.Take 1 0 0) ≡ (reply.Taken read.gtid, took)
  takes = simp (no_seat, not_executed, unowned came refl read.gtid) refl

  in_seat : finmap.get took.seats 1 ≡ Some (record { channel = 0; place = 0 })
  in_seat = finmap.get-insert nat_cmp_total came.seats 1 (record { channel = 0; place = 0 }) 1

  commits : machine.step site took (event.Commit 1) ≡ (reply.Committed read.gtid, ended)
  commits = simp (in_seat, w.theirs_applies) refl

  abbrev events : List Event
  events = event.OpenChannel w.name false ∷ event.Position 0 ∷ event.Local w.mine ∷ event.Receive 0 read ∷ event.Take 1 0 0 ∷ event.Commit 1 ∷ []

  log_of_both : log site begun events ≡ written ∷ read ∷ []
  log_of_both = simp (w.mine_fits, next, w.mine_applies, w.theirs_fits, room, not_executed, no_seat, unowned came refl read.gtid, in_seat, w.theirs_applies) refl

-- ---- stages of a run

-- an event of the network, what it results in, and the nodes after it
record Stage : Type 0 where
  event : NetworkEvent
  making : Making
  nodes : List Node

abbrev events_of : List Stage → List NetworkEvent
events_of [] = []
events_of (x ∷ xs) = x.event ∷ events_of xs

abbrev AreStages : List Node → List Stage → Type 0
AreStages nodes [] = Unit {0}
AreStages nodes (x ∷ xs) = (decide nodes x.event ≡ Ok x.making) × ((make nodes (Ok x.making)).1 ≡ x.nodes) × AreStages x.nodes xs

abbrev left_by : List Node → List Stage → List Node
left_by nodes [] = nodes
left_by nodes (x ∷ xs) = left_by x.nodes xs

abbrev made_in : ℕ → List Stage → List Event
made_in i [] = []
made_in i (x ∷ xs) = made_at i (Ok x.making) ++ made_in i xs

abbrev locals_of : List Node → List Stage → List Entry
locals_of nodes [] = []
locals_of nodes (x ∷ xs) = local_of nodes (Ok x.making) ++ locals_of x.nodes xs

abbrev TakeTurns : List Table → List Entry → List Node → List Stage → Type 0
TakeTurns schema entries nodes [] = Unit {0}
TakeTurns schema entries nodes (x ∷ xs) = IsInTurn schema entries nodes (Ok x.making) × TakeTurns schema (entries ++ local_of nodes (Ok x.making)) x.nodes xs

stepped : (nodes : List Node) (x : Stage) → decide nodes x.event ≡ Ok x.making → (make nodes (Ok x.making)).1 ≡ x.nodes → (step nodes x.event).1 ≡ x.nodes
stepped nodes x decided made = ap (λ d. (make nodes d).1) decided ∙ made

after_stages : (xs : List Stage) (nodes : List Node) → AreStages nodes xs → after nodes (events_of xs) ≡ left_by nodes xs
after_stages [] nodes are = refl
after_stages (x ∷ xs) nodes are = ap (λ n. after n (events_of xs)) (stepped nodes x are.0 are.1) ∙ after_stages xs x.nodes are.2

made_by_stages : (i : ℕ) (xs : List Stage) (nodes : List Node) → AreStages nodes xs → events_at i nodes (events_of xs) ≡ made_in i xs
made_by_stages i [] nodes are = refl
made_by_stages i (x ∷ xs) nodes are =
    (λ k. made_at i (are.0 k) ++ events_at i (stepped nodes x are.0 are.1 k) (events_of xs)) ∙ ap (λ es. made_at i (Ok x.making) ++ es) (made_by_stages i xs x.nodes are.2)

locals_by_stages : (xs : List Stage) (nodes : List Node) → AreStages nodes xs → locals nodes (events_of xs) ≡ locals_of nodes xs
locals_by_stages [] nodes are = refl
locals_by_stages (x ∷ xs) nodes are =
    (λ k. local_of nodes (are.0 k) ++ locals (stepped nodes x are.0 are.1 k) (events_of xs)) ∙ ap (λ es. local_of nodes (Ok x.making) ++ es) (locals_by_stages xs x.nodes are.2)

turns_by_stages : (schema : List Table) (xs : List Stage) (entries : List Entry) (nodes : List Node) → AreStages nodes xs → AreInTurn schema entries nodes (events_of xs) → TakeTurns schema entries nodes xs
turns_by_stages schema [] entries nodes are turns = tt
turns_by_stages schema (x ∷ xs) entries nodes are turns = (
  subst (IsInTurn schema entries nodes) are.0 turns.0,
  turns_by_stages schema xs (entries ++ local_of nodes (Ok x.making)) x.nodes are.2
      (subst (λ (d : Decision). AreInTurn schema (entries ++ local_of nodes d) x.nodes (events_of xs)) are.0
      (subst (λ (n : List Node). AreInTurn schema (entries ++ local_of nodes (decide nodes x.event)) n (events_of xs)) (stepped nodes x are.0 are.1) turns.1)),
)

-- ---- the two nodes

abbrev first : Writer
first = record {
  own = 1;
  other = 2;
  name = 98 ∷ [];
  schema = accounts_only;
  mine = by_first.txn;
  theirs = by_second.txn;
  rows = one_account;
  one = returned one_account 20;
  two = returned (returned one_account 20) 30;
  mine_fits = refl;
  theirs_fits = refl;
  mine_applies = returns one_account 20 there_first;
  theirs_applies = returns (returned one_account 20) 30 (stands (moved one_account 20) 10);
  unlike = refl;
}

abbrev second : Writer
second = record {
  own = 2;
  other = 1;
  name = 97 ∷ [];
  schema = accounts_only;
  mine = by_second.txn;
  theirs = by_first.txn;
  rows = one_account;
  one = returned one_account 30;
  two = returned (returned one_account 30) 20;
  mine_fits = refl;
  theirs_fits = refl;
  mine_applies = returns one_account 30 there_first;
  theirs_applies = returns (returned one_account 30) 20 (stands (moved one_account 30) 10);
  unlike = refl;
}

abbrev reads_none : Sources
reads_none = finmap.empty

abbrev reads : ℕ → Sources
reads k = finmap.insert finmap.empty 0 k

reads_it : (k : ℕ) → finmap.get (reads k) 0 ≡ Some k
reads_it k = finmap.get-insert nat_cmp_total finmap.empty 0 k 0

abbrev node : Writer → State → Sources → Node
node w s sources = record { replica = record { site = site w; state = s }; sources = sources }

-- the two nodes, once the first has made a step, and once the second has
abbrev first_after : Sources → Node → machine.Step → List Node
first_after sources other x = node first x.1 sources ∷ other ∷ []

abbrev second_after : Sources → Node → machine.Step → List Node
second_after sources other x = other ∷ node second x.1 sources ∷ []

abbrev by : ℕ → Event → Sources → Making
by i e sources = record { node = i; event = e; sources = sources }

abbrev stage : NetworkEvent → Making → Node → Node → Stage
stage e m x y = record { event = e; making = m; nodes = x ∷ y ∷ [] }

abbrev open_first : Event
open_first = event.OpenChannel first.name false

abbrev open_second : Event
open_second = event.OpenChannel second.name false

abbrev stages : List Stage
stages =
    stage (Act 0 open_first) (by 0 open_first reads_none) (node first (opened first) reads_none) (node second (begun second) reads_none)
    ∷ stage (Position 0 0 1) (by 0 (event.Position 0) (reads 1)) (node first (positioned first) (reads 1)) (node second (begun second) reads_none)
    ∷ stage (Act 1 open_second) (by 1 open_second reads_none) (node first (positioned first) (reads 1)) (node second (opened second) reads_none)
    ∷ stage (Position 1 0 0) (by 1 (event.Position 0) (reads 0)) (node first (positioned first) (reads 1)) (node second (positioned second) (reads 0))
    ∷ stage (Act 0 (event.Local first.mine)) (by 0 (event.Local first.mine) (reads 1)) (node first (wrote first) (reads 1)) (node second (positioned second) (reads 0))
    ∷ stage (Act 1 (event.Local second.mine)) (by 1 (event.Local second.mine) (reads 0)) (node first (wrote first) (reads 1)) (node second (wrote second) (reads 0))
    ∷ stage (Receive 0 0) (by 0 (event.Receive 0 by_second) (reads 1)) (node first (came first) (reads 1)) (node second (wrote second) (reads 0))
    ∷ stage (Act 0 (event.Take 1 0 0)) (by 0 (event.Take 1 0 0) (reads 1)) (node first (took first) (reads 1)) (node second (wrote second) (reads 0))
    ∷ stage (Receive 1 0) (by 1 (event.Receive 0 by_first) (reads 0)) (node first (took first) (reads 1)) (node second (came second) (reads 0))
    ∷ stage (Act 1 (event.Take 1 0 0)) (by 1 (event.Take 1 0 0) (reads 0)) (node first (took first) (reads 1)) (node second (took second) (reads 0))
    ∷ stage (Act 0 (event.Commit 1)) (by 0 (event.Commit 1) (reads 1)) (node first (ended first) (reads 1)) (node second (took second) (reads 0))
    ∷ stage (Act 1 (event.Commit 1)) (by 1 (event.Commit 1) (reads 0)) (node first (ended first) (reads 1)) (node second (ended second) (reads 0))
    ∷ []

first_positions : decide (node first (opened first) reads_none ∷ node second (begun second) reads_none ∷ []) (Position 0 0 1) ≡ Ok (by 0 (event.Position 0) (reads 1))
first_positions = ap (position_answer 0 0 1 (node first (opened first) reads_none)) (sends_nothing 2)

second_positions : decide (node first (positioned first) (reads 1) ∷ node second (opened second) reads_none ∷ []) (Position 1 0 0) ≡ Ok (by 1 (event.Position 0) (reads 0))
second_positions = ap (position_answer 1 0 0 (node second (opened second) reads_none)) (sends_nothing 1)

first_receives : decide (node first (wrote first) (reads 1) ∷ node second (wrote second) (reads 0) ∷ []) (Receive 0 0) ≡ Ok (by 0 (event.Receive 0 by_second) (reads 1))
first_receives = simp (reads_it 1, within_none (set.union nothing set.empty), in_less by_second.gtid) refl

second_receives : decide (node first (took first) (reads 1) ∷ node second (wrote second) (reads 0) ∷ []) (Receive 1 0) ≡ Ok (by 1 (event.Receive 0 by_first) (reads 0))
second_receives = simp (reads_it 0, within_none (set.union nothing set.empty), in_less by_first.gtid) refl

are_stages : AreStages (start shared_run) stages
are_stages = (
  refl,
  ap (first_after reads_none (node second (begun second) reads_none)) (opens first),
  (
    first_positions,
    ap (first_after (reads 1) (node second (begun second) reads_none)) (positions first),
    (
      refl,
      ap (second_after reads_none (node first (positioned first) (reads 1))) (opens second),
      (
        second_positions,
        ap (second_after (reads 0) (node first (positioned first) (reads 1))) (positions second),
        (
          refl,
          ap (first_after (reads 1) (node second (positioned second) (reads 0))) (writes first),
          (
            refl,
            ap (second_after (reads 0) (node first (wrote first) (reads 1))) (writes second),
            (
              first_receives,
              ap (first_after (reads 1) (node second (wrote second) (reads 0))) (receives first),
              (
                refl,
                ap (first_after (reads 1) (node second (wrote second) (reads 0))) (takes first),
                (
                  second_receives,
                  ap (second_after (reads 0) (node first (took first) (reads 1))) (receives second),
                  (
                    refl,
                    ap (second_after (reads 0) (node first (took first) (reads 1))) (takes second),
                    (
                      refl,
                      ap (first_after (reads 1) (node second (took second) (reads 0))) (commits first),
                      (
                        refl,
                        ap (second_after (reads 0) (node first (ended first) (reads 1))) (commits second),
                        tt,
                      ),
                    ),
                  ),
                ),
              ),
            ),
          ),
        ),
      ),
    ),
  ),
)

-- ---- what the run leaves

locals_are : run_locals shared_run ≡ by_first ∷ by_second ∷ []
locals_are =
    locals_by_stages stages (start shared_run) are_stages
    ∙ (λ k. committed_here (event.Local first.mine) (writes first k).0 ++ (committed_here (event.Local second.mine) (writes second k).0 ++ []))

first_log : node_log shared_run 0 1 ≡ by_first ∷ by_second ∷ []
first_log = ap (log (site first) (begun first)) (made_by_stages 0 stages (start shared_run) are_stages) ∙ log_of_both first

second_log : node_log shared_run 1 2 ≡ by_second ∷ by_first ∷ []
second_log = ap (log (site second) (begun second)) (made_by_stages 1 stages (start shared_run) are_stages) ∙ log_of_both second

abbrev first_source : List Entry → ℕ
first_source [] = 0
first_source (e ∷ es) = e.gtid.source

one_is_not_two : ◌≡◌ {A = ℕ} 1 2 → ⊥
one_is_not_two e = omega arith

differ : node_log shared_run 0 1 ≢ node_log shared_run 1 2
differ e = one_is_not_two (ap first_source (sym first_log ∙ (e ∙ second_log)))

either_way : (s : Gtids) (g h : Gtid) → set.insert (set.insert s g) h ≡ set.insert (set.insert s h) g
either_way s g h = set.same_set gtid_total gtid_exact _ _ (λ q.
    set.contains-insert gtid_total (set.insert s g) h q
    ∙ (ap (λ b. eq_by_cmp gtid_cmp q h || b) (set.contains-insert gtid_total s g q)
    ∙ (or_swap (eq_by_cmp gtid_cmp q h) (eq_by_cmp gtid_cmp q g) (set.contains s q)
    ∙ sym (set.contains-insert gtid_total (set.insert s h) g q ∙ ap (λ b. eq_by_cmp gtid_cmp q g || b) (set.contains-insert gtid_total s h q)))))

executed_are : map executed_at (end shared_run) ≡ gtids_of (run_locals shared_run) ∷ gtids_of (run_locals shared_run) ∷ []
executed_are =
    ap (map executed_at) (after_stages stages (start shared_run) are_stages)
    ∙ (ap (λ s. s ∷ (ended second).executed ∷ []) (either_way set.empty by_first.gtid by_second.gtid)
    ∙ ap (λ (es : List Entry). gtids_of es ∷ gtids_of es ∷ []) (sym locals_are))

-- ---- the second has not executed what the first wrote

not_in_turn : IsRunInTurn shared_run → ⊥
not_in_turn turns =
    let all = turns_by_stages accounts_only stages [] (start shared_run) are_stages turns in
    let before : committed_here (event.Local first.mine) (machine.step (site first) (positioned first) (event.Local first.mine)).0 ≡ by_first ∷ [] =
    ap (λ (x : machine.Step). committed_here (event.Local first.mine) x.0) (writes first) in
    let now : committed_here (event.Local second.mine) (machine.step (site second) (positioned second) (event.Local second.mine)).0 ≡ by_second ∷ [] =
    ap (λ (x : machine.Step). committed_here (event.Local second.mine) x.0) (writes second) in
    not_both (set.contains (set.empty {R = gtid_cmp}) by_first.gtid)
    (all.1.1.1.1.1.0 0 by_second (ap (λ es. slice_get es 0) now) 0 by_first (ap (λ es. slice_get es 0) before) (sharing_is_conflict accounts_only by_first.txn by_second.txn refl))
    (set.contains-empty gtid_cmp by_first.gtid)

pub shared_runs_exist : SharedRunsExist
shared_runs_exist = record {
  distinct = refl;
  carriers = shared_orders_exist.carriers;
  commits = locals_are;
  shared = refl;
  not_in_turn = not_in_turn;
  first_log = first_log;
  second_log = second_log;
  differ = differ;
  executed = executed_are;
}
