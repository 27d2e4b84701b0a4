-- Faithful runs.
use Rattle.std.proofs.Common.{◌++◌, ◌≡◌, ℕ, zero, suc, false, ◌||◌, List, [], ◌∷◌, take, Some, Result, Ok, sym, ap, ◌∙◌, subst}
use Rattle.std.specs.List.{AllByRecursion}
use Rattle.std.specs.Ordering.{nat_cmp}
use Rattle.std.specs.FinMap as finmap
use Rattle.std.specs.FinMap.{get-empty}
use Rattle.std.specs.FinSet as set
use Rattle.rows.specs.Apply.{Rows}
use Rattle.rows.specs.declared.change.RowFault.{RowFault}
use Rattle.gtid_text.specs.declared.Gtid.{Gtid}
use Rattle.gtid_set.specs.Sets.{Gtids}
use Rattle.apply_channel.specs.Channels.{ChannelValue}
use Rattle.replica_core.specs.declared.event.Spot.{Spot}
use Rattle.replica_core.specs.declared.event.Event.{Event}
use Rattle.replica_core.specs.State.{State, Site}
use Rattle.replica_core.specs.Machine.{step, replies, after}
use Rattle.history.specs.World.{OrderedWorld, is_opened, rows_of, AreGtidsSound, IsSound}
use Rattle.history.proofs.Closing.{closed_same}
use Rattle.convergence.specs.Faithful.{start_with, IsOpening, Since, since_after, IsFaithfulFrom, IsFaithfulRun, IsNotRefused, IsMerged, FaithfulRunsMerge, EqualSetsEqualRows, FrontsAreFaithful, RunsGoOn}
use Rattle.history.proofs.Covering.{covered, front, to_fronts}
use Rattle.convergence.proofs.Executing.{absorb}
use Rattle.history.proofs.Writing.{last_writer_stands}
use Rattle.convergence.proofs.Invariant.{AllApply, Invariant}
use Rattle.convergence.proofs.Steps.{step_keeps}
use mathlib.Core.Bool.{or-false}
use Rattle.lemmas.proofs.Options.{none_some}
use Rattle.lemmas.proofs.Lists.{all_from}
use Rattle.convergence.proofs.Sharing.{after_append}

no_more : (A : Gtids) (k : ℕ) (g : Gtid) → covered A (take k []) g ≡ set.contains A g
no_more A zero g = or-false (set.contains A g)
no_more A (suc k) g = or-false (set.contains A g)

no_seat : (a : ℕ) (spot : Spot) → finmap.get (finmap.empty {R = nat_cmp}) a ≡ Some spot → ⊥
no_seat a spot e = none_some spot (sym (get-empty nat_cmp a) ∙ e)

pub opening_holds : (world : OrderedWorld) (A : Gtids) (rows : Rows) → IsOpening world A rows → Invariant world (start_with A rows) (λ c. [])
opening_holds world A rows start = record {
  closed = start.closed;
  rows = start.stands_for;
  channels = λ c ch i. none_some ch i;
  seats = record {
    ready = λ a spot e. absurd (no_seat a spot e);
    in_range = λ a spot e. absurd (no_seat a spot e);
    distinct = λ a b x y g p q u v. absurd (no_seat a x p);
  };
  journal = record {
    fronts = to_fronts world (record { previous = A; entries = [] }) (λ k l. closed_same world (set.contains A) (front world A (take k [])) (λ g. ap (λ b. is_opened world g || b) (no_more A k g) ∙ absorb (is_opened world g) (set.contains A g) (start.closed.opened g)) start.closed);
    contents = tt;
    new = tt;
  };
  recorded = λ g. no_more A 0 g;
}

pub run_keeps : (world : OrderedWorld) (own : ℕ) (sound : AreGtidsSound world) (events : List Event) (s : State) (since : Since) → Invariant world s since → IsFaithfulFrom world (record { own = own; schema = world.schema }) s since events
    → ((later : Since) × Invariant world (after (record { own = own; schema = world.schema }) s events) later) × (AllApply world → AllByRecursion IsNotRefused (replies (record { own = own; schema = world.schema }) s events))
run_keeps world own sound [] s since inv f = ((since, inv), λ a. tt)
run_keeps world own sound (e ∷ es) s since inv f =
    let k = (step_keeps world own sound s since inv e).keeps f.0 in
    let rest = run_keeps world own sound es (step (record { own = own; schema = world.schema }) s e).1 (since_after e (step (record { own = own; schema = world.schema }) s e).0 since) k.0 f.1 in
    (rest.0, λ a. (k.1 a, rest.1 a))

merged : (world : OrderedWorld) (s : State) (since : Since) → IsSound world → Invariant world s since → IsMerged world s
merged world s since sound inv = record {
  closed = inv.closed;
  rows = inv.rows;
  writers = λ k. last_writer_stands world (set.contains s.executed) s.rows inv.rows k;
  running = all_from (λ (c : ChannelValue). c.stopped ≡ false) s.channels (λ i ch e. (inv.channels i ch e).running sound.applies);
  journal = inv.journal;
}

runs_merge : (world : OrderedWorld) (own : ℕ) (A : Gtids) (rows : Rows) (events : List Event) → IsSound world → IsOpening world A rows → IsFaithfulRun world (record { own = own; schema = world.schema }) A rows events
    → IsMerged world (after (record { own = own; schema = world.schema }) (start_with A rows) events) × AllByRecursion IsNotRefused (replies (record { own = own; schema = world.schema }) (start_with A rows) events)
runs_merge world own A rows events sound start f =
    let r = run_keeps world own sound.gtids events (start_with A rows) (λ c. []) (opening_holds world A rows start) f in
    (merged world (after (record { own = own; schema = world.schema }) (start_with A rows) events) r.0.0 sound r.0.1, r.1 sound.applies)

pub faithful_runs_merge : FaithfulRunsMerge
faithful_runs_merge world site A rows events same sound start f =
    let here : record { own = site.own; schema = world.schema } ≡ site = λ i. record { own = site.own; schema = (sym same) i } in
    let P : Site → Type 0 = λ x. IsMerged world (after x (start_with A rows) events) × AllByRecursion IsNotRefused (replies x (start_with A rows) events) in
    let Q : Site → Type 0 = λ x. IsFaithfulRun world x A rows events in
    subst P here (runs_merge world site.own A rows events sound start (subst Q (sym here) f))

one_ok : (r : Result Rows RowFault) (x y : Rows) → r ≡ Ok x → r ≡ Ok y → x ≡ y
one_ok r x y p q = cc

pub equal_sets_equal_rows : EqualSetsEqualRows
equal_sets_equal_rows world a b A B x y es fs p q sound h k f g same =
    let m = faithful_runs_merge world a A x es p sound h f in
    let n = faithful_runs_merge world b B y fs q sound k g in
    one_ok (rows_of world (set.contains (after a (start_with A x) es).executed)) _ _ m.0.rows (ap (λ (X : Gtids). rows_of world (set.contains X)) same ∙ n.0.rows)

front_faithful : (world : OrderedWorld) (site : Site) (s : State) (since : Since) (xs ys : List Event) → IsFaithfulFrom world site s since (xs ++ ys) → IsFaithfulFrom world site s since xs
front_faithful world site s since [] ys f = tt
front_faithful world site s since (x ∷ xs) ys f = (f.0, front_faithful world site (step site s x).1 (since_after x (step site s x).0 since) xs ys f.1)

pub fronts_are_faithful : FrontsAreFaithful
fronts_are_faithful world site A rows earlier later f = front_faithful world site (start_with A rows) (λ c. []) earlier later f

-- the last of the replies are those of the last events
last_replies : (site : Site) (s : State) (xs ys : List Event) → AllByRecursion IsNotRefused (replies site s (xs ++ ys)) → AllByRecursion IsNotRefused (replies site (after site s xs) ys)
last_replies site s [] ys h = h
last_replies site s (x ∷ xs) ys h = last_replies site (step site s x).1 xs ys h.1

pub runs_go_on : RunsGoOn
runs_go_on world site A rows earlier events s same sound start reached f =
    let P : State → Type 0 = IsMerged world in
    let Q : State → Type 0 = λ x. AllByRecursion IsNotRefused (replies site x events) in
    let whole = faithful_runs_merge world site A rows (earlier ++ events) same sound start f in (
      subst P (after_append site (start_with A rows) earlier events ∙ ap (λ (x : State). after site x events) (sym reached)) whole.0,
      subst Q (sym reached) (last_replies site (start_with A rows) earlier events whole.1),
    )
