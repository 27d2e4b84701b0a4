-- The small run: what its two nodes commit, which shares no key.
use Rattle.std.proofs.Common.{◌≡◌, ℕ, zero, suc, ◌<◌, pos, Bool, true, false, cond, not, ◌&&◌, List, [], ◌∷◌, ◌++◌, Option, Some, None, Ok, refl, sym, ap, ◌∙◌, subst, arith}
use Rattle.std.specs.Prelude.{find, is_none}
use Rattle.std.specs.List.{range_with_len}
use Rattle.std.specs.Option.{option_map, option_map_or, option_and_then}
use Rattle.std.specs.Ordering.{nat_cmp}
use Rattle.std.specs.FinMap as finmap
use Rattle.std.specs.FinMap.{get-empty}
use Rattle.std.specs.FinSet as set
use Rattle.std.proofs.lemmas.Option.{same_Some}
use Rattle.lemmas.proofs.Options.{none_some}
use Rattle.gtid_text.specs.declared.Gtid.{Gtid}
use Rattle.gtid_text.specs.Gtids.{gtid_cmp, same_gtid}
use Rattle.gtid_set.specs.Sets.{gtid, greatest, least_number}
use Rattle.row_images.specs.declared.value.Value.TheVariants.{Int}
use Rattle.rows.specs.declared.change.Key.{Key}
use Rattle.rows.specs.declared.schema.Table.{Table}
use Rattle.rows.specs.Order.{key_cmp}
use Rattle.rows.specs.Apply.{Rows, ◌>>=◌, apply, apply_from, insert_if_free, or_else}
use Rattle.rows.specs.Conflicts.{conflicts, conflict_is_sharing}
use Rattle.journal.specs.declared.Entry.{Entry}
use Rattle.apply_channel.specs.Channels.{Received}
use Rattle.replica_core.specs.declared.event.Spot.{Spot}
use Rattle.replica_core.specs.declared.event.Event.TheVariants.{Local}
use Rattle.replica_core.specs.declared.event.Reply.TheVariants.{NumbersUsedUp}
use Rattle.replica_core.specs.State.{Site, State, Seats, owns, owner, entry_at, seat_numbers}
use Rattle.replica_core.specs.Machine as machine
use Rattle.replica_core.specs.Machine.{is_free, next_number, local_answer}
use Rattle.history.specs.SmallWorld.{accounts, account, insertion, nth_of, opens_first, opens_second}
use Rattle.convergence.specs.Served.{committed_here}
use Rattle.network.specs.Nodes.{Node, opened_node}
use Rattle.network.specs.Runs.{AreApart, local_at, run_locals}
use Rattle.network.specs.SmallRun.{small_run, small_commits, ApartRunsExist}

abbrev schema : List Table
schema = accounts ∷ []

abbrev none : Rows
none = finmap.empty

abbrev site : ℕ → Site
site own = record { own = own; schema = schema }

abbrev fresh : State
fresh = machine.opening set.empty none

-- ---- the first local commit at a node takes number 1

first_found : (test : ℕ → Bool) (n : ℕ) → 0 < n → test 1 ≡ true → find test (range_with_len 1 n) ≡ Some 1
first_found test zero some h = absurd (omega (arith, some))
first_found test (suc n) some h = ap (λ b. cond b (Some 1) (find test (range_with_len 2 n))) h

some_numbers : 0 < greatest
unfolding greatest
some_numbers = omega arith

pub least_is_one : (test : ℕ → Bool) → test 1 ≡ true → least_number test ≡ Some 1
unfolding least_number
least_is_one test h = first_found test greatest some_numbers h

find_none : (p : ℕ → Bool) (xs : List ℕ) → ((x : ℕ) → p x ≡ false) → find p xs ≡ None
find_none p [] all = refl
find_none p (x ∷ xs) all = ap (λ b. cond b (Some x) (find p xs)) (all x) ∙ find_none p xs all

-- where no seat has taken a place
pub unowned : (s : State) → s.seats ≡ finmap.empty → (g : Gtid) → owner s g ≡ None
unowned s idle g = find_none (owns s g) seat_numbers (λ seat. ap (λ (o : Option Spot). option_map_or (λ (h : Gtid). same_gtid h g) (option_map (λ (e : Received). e.gtid) (option_and_then (entry_at s) o)) false) (ap (λ (seats : Seats). finmap.get seats seat) idle ∙ get-empty nat_cmp seat))

one_is_free : (own : ℕ) → is_free (site own) fresh 1 ≡ true
one_is_free own =
    ap (λ b. not b && is_none (owner fresh (gtid own 1))) (set.contains-empty gtid_cmp (gtid own 1))
    ∙ ap is_none (unowned fresh refl (gtid own 1))

next_is_one : (own : ℕ) → next_number (site own) fresh ≡ Some 1
next_is_one own = least_is_one (is_free (site own) fresh) (one_is_free own)

-- ---- an account is opened

abbrev key_of : ℕ → Key
key_of id = record { table = accounts.name; index = 0; values = Int (pos id) ∷ [] }

applies : (id balance : ℕ) → apply schema (insertion (account id balance)) none ≡ Ok (finmap.insert none (key_of id) (account id balance))
applies id balance = ap (λ o. insert_if_free (or_else None o 0) 0 (key_of id ∷ []) (account id balance) none >>= apply_from schema 1 []) (get-empty key_cmp (key_of id))

abbrev node : ℕ → Node
node own = opened_node schema none own

commits_one : (own id balance : ℕ) → local_at (Local (insertion (account id balance))) (node own) ≡ record { gtid = nth_of own 1; txn = insertion (account id balance) } ∷ []
commits_one own id balance =
    let t = insertion (account id balance) in
    ap (λ o. committed_here (Local t) (option_map_or (λ n. local_answer (gtid own n) t fresh (apply schema t none)) o (NumbersUsedUp, fresh)).0) (next_is_one own)
    ∙ ap (λ r. committed_here (Local t) (local_answer (gtid own 1) t fresh r).0) (applies id balance)

commits : run_locals small_run ≡ small_commits
commits =
    ap (λ es. es ++ (local_at (Local opens_second) (node 2) ++ [])) (commits_one 1 1 10)
    ∙ ap (λ es. record { gtid = nth_of 1 1; txn = opens_first } ∷ (es ++ [])) (commits_one 2 2 5)

-- ---- what they commit shares no key

one_source : (x e f : Entry) → Some x ≡ Some e → Some x ≡ Some f → e.gtid.source ≡ f.gtid.source
one_source x e f p q = ap (λ (y : Entry). y.gtid.source) (sym (same_Some x e p) ∙ same_Some x f q)

shared_none : (x y e f : Entry) → Some x ≡ Some e → Some y ≡ Some f → conflicts schema x.txn y.txn ≡ false → conflicts schema e.txn f.txn ≡ false
shared_none x y e f p q n =
    ap (λ (z : Entry). conflicts schema z.txn f.txn) (sym (same_Some x e p))
    ∙ (ap (λ (z : Entry). conflicts schema x.txn z.txn) (sym (same_Some y f q)) ∙ n)

apart : AreApart schema small_commits
apart zero zero e f p q differ = absurd (differ (one_source _ e f p q))
apart zero (suc zero) e f p q differ = shared_none _ _ e f p q (conflict_is_sharing schema opens_first opens_second)
apart (suc zero) zero e f p q differ = shared_none _ _ e f p q (conflict_is_sharing schema opens_second opens_first)
apart (suc zero) (suc zero) e f p q differ = absurd (differ (one_source _ e f p q))
apart zero (suc (suc k)) e f p q differ = none_some f q
apart (suc zero) (suc (suc k)) e f p q differ = none_some f q
apart (suc (suc i)) k e f p q differ = none_some e p

pub apart_runs_exist : ApartRunsExist
apart_runs_exist = record { distinct = refl; commits = commits; apart = subst (AreApart schema) (sym commits) apart }
