-- Runs of a network: where each node ends, what is known of numbers, and what is never refused.
use Rattle.std.proofs.Common.{◌≡◌, ◌≢◌, ℕ, Bool, true, false, cond, not, ◌&&◌, inl, inr, List, [], ◌∷◌, ◌++◌, Option, Some, None, Result, Ok, Err, refl, sym, ap, ◌∙◌, subst, append_assoc, eqb}
use Rattle.std.specs.Prelude.{slice_get, ◌==◌}
use Rattle.std.specs.Option.{option_map_or}
use Rattle.std.specs.List.{AllByRecursion}
use Rattle.std.specs.FinSet as set
use Rattle.std.specs.FinSet.{contains-is_subset, contains-union}
use Rattle.std.proofs.lemmas.Bool.{cases_Bool, or_cases, and_parts, eqb-true, eq-eqb}
use Rattle.std.proofs.lemmas.List.{append-nil}
use Rattle.lemmas.proofs.Lists.{get_set_cases}
use Rattle.lemmas.proofs.SameGtid.{gtid_total, gtid_exact}
use Rattle.gtid_text.specs.declared.Gtid.{Gtid}
use Rattle.gtid_set.specs.Sets.{Gtids, only}
use Rattle.journal.specs.declared.Entry.{Entry}
use Rattle.journal.specs.Journals.{whole}
use Rattle.auto_position.specs.declared.PositionFault.{PositionFault}
use Rattle.auto_position.specs.declared.PositionFault.TheVariants.{PurgedRequired, ReplicaHasMore}
use Rattle.apply_channel.specs.Channels.{ChannelValue, received_gtids}
use Rattle.replica_core.specs.declared.event.Event.{Event}
use Rattle.replica_core.specs.State.{State, Site}
use Rattle.replica_core.specs.Machine.{ask}
use Rattle.replica_core.specs.Machine as machine
use Rattle.history.proofs.Covering.{in_whole}
use Rattle.convergence.proofs.Sharing.{after_append}
use Rattle.network.specs.declared.event.NetworkEvent.{NetworkEvent}
use Rattle.network.specs.declared.event.NetworkReply.{NetworkReply}
use Rattle.network.specs.declared.event.NetworkReply.TheVariants.{NoNode, NotHere, Refused, Nothing, Replied}
use Rattle.network.specs.Nodes.{Node}
use Rattle.network.specs.Machine.{Making, Decision, decide, make_at, make, step, replies, after}
use Rattle.network.specs.Sending.{is_entry}
use Rattle.network.specs.Runs.{made_at, events_at, local_of, locals}
use Rattle.network.specs.Rings.{IsNotMore, HasNoMore}
use Rattle.network.proofs.Deciding.{IsMade, IsRefused, decides}
use Rattle.network.proofs.Coming.{received_stands}
use Rattle.network.proofs.Numbers.{Numbers, own_done, numbers_step}

-- ---- numbers

pub numbers_run : (events : List NetworkEvent) (nodes : List Node) (L : List Entry) → Numbers nodes L → Numbers (after nodes events) (L ++ locals nodes events)
numbers_run [] nodes L n = subst (Numbers nodes) (sym (append-nil L)) n
numbers_run (e ∷ es) nodes L n =
    subst (Numbers (after (step nodes e).1 es)) (append_assoc L (local_of nodes (decide nodes e)) (locals (step nodes e).1 es))
    (numbers_run es (step nodes e).1 (L ++ local_of nodes (decide nodes e)) (numbers_step nodes L n e))

-- ---- where a node ends

pub record Came (nodes : List Node) (i : ℕ) (end : Node) (events : List Event) : Type 0 where
  pub node : Node
  pub at : slice_get nodes i ≡ Some node
  pub site : end.replica.site ≡ node.replica.site
  pub state : end.replica.state ≡ machine.after node.replica.site node.replica.state events

came_made : (nodes : List Node) (m : Making) (node : Node) → slice_get nodes m.node ≡ Some node → (i : ℕ) (end : Node) → slice_get (make_at nodes m node).1 i ≡ Some end → Came nodes i end (made_at i (Ok m))
came_made nodes m node at i end e =
    let new_node : Node = record { replica = record { site = node.replica.site; state = (machine.step node.replica.site node.replica.state m.event).1 }; sources = m.sources } in
    elim (get_set_cases nodes m.node new_node i end e) [
      | inl here ↦ record {
        node = node;
        at = ap (slice_get nodes) here.0 ∙ at;
        site = ap (λ (x : Node). x.replica.site) (sym here.1);
        state = ap (λ (x : Node). x.replica.state) (sym here.1) ∙ sym (ap (λ b. machine.after node.replica.site node.replica.state (cond b (m.event ∷ []) [])) (eq-eqb m.node i (sym here.0)));
      }
      | inr other ↦ record {
        node = end;
        at = other.1;
        site = refl;
        state = sym (ap (λ b. machine.after end.replica.site end.replica.state (cond b (m.event ∷ []) [])) (differs m.node i (λ same. other.0 (sym same))));
      }
    ]
  where
    differs : (a b : ℕ) → a ≢ b → eqb a b ≡ false
    differs a b n = elim (cases_Bool (eqb a b)) [ inl same ↦ absurd (n (eqb-true a b same)) | inr other ↦ other ]

came_decided : (nodes : List Node) (d : Decision) → ((m : Making) → d ≡ Ok m → IsMade nodes m) → (i : ℕ) (end : Node) → slice_get (make nodes d).1 i ≡ Some end → Came nodes i end (made_at i d)
came_decided nodes (Err r) is i end e = record { node = end; at = e; site = refl; state = refl }
came_decided nodes (Ok m) is i end e =
    let made = is m refl in
    subst (λ (o : Option Node). slice_get (option_map_or (make_at nodes m) o (NoNode, nodes)).1 i ≡ Some end → Came nodes i end (made_at i (Ok m))) (sym made.at)
    (came_made nodes m made.node made.at i end) e

pub came : (events : List NetworkEvent) (nodes : List Node) (i : ℕ) (end : Node) → slice_get (after nodes events) i ≡ Some end → Came nodes i end (events_at i nodes events)
came [] nodes i end e = record { node = end; at = e; site = refl; state = refl }
came (e ∷ es) nodes i end at =
    let later = came es (step nodes e).1 i end at in
    let first = came_decided nodes (decide nodes e) (decides nodes e).made i later.node later.at in
    record {
      node = first.node;
      at = first.at;
      site = later.site ∙ first.site;
      state = later.state
          ∙ (ap (λ (x : Site). machine.after x later.node.replica.state (events_at i (step nodes e).1 es)) first.site
          ∙ (ap (λ (s : State). machine.after first.node.replica.site s (events_at i (step nodes e).1 es)) first.state
          ∙ sym (after_append first.node.replica.site first.node.replica.state (made_at i (decide nodes e)) (events_at i (step nodes e).1 es))));
    }

-- ---- no source has less of its own than is known anywhere

contains-only : (s : Gtids) (source : ℕ) (g : Gtid) → set.contains (only s source) g ≡ (set.contains s g && (g.source == source))
unfolding only
contains-only s source g = set.contains-retain s (λ x. x.source == source) g (λ x e. ap (λ (y : Gtid). y.source == source) (sym (gtid_exact g x e)))

own_recorded : (nodes : List Node) (L : List Entry) → Numbers nodes L → (i k c : ℕ) (node source : Node) (channel : ChannelValue) → slice_get nodes i ≡ Some node → slice_get nodes k ≡ Some source → slice_get node.replica.state.channels c ≡ Some channel
    → set.is_subset (only (ask node.replica.state channel) source.replica.site.own) (whole source.replica.state.journal) ≡ true
own_recorded nodes L n i k c node source channel at from there =
    let s = node.replica.state in
    let j = source.replica.state.journal in
    contains-is_subset gtid_total (only (ask s channel) source.replica.site.own) (whole j) (λ g h.
    let both = and_parts (set.contains (ask s channel) g) (g.source == source.replica.site.own) (sym (contains-only (ask s channel) source.replica.site.own g) ∙ h) in
    let known : is_entry L g ≡ true = n.known i node at g (elim (or_cases (set.contains s.executed g) (set.contains (received_gtids channel.received) g) (sym (contains-union gtid_total s.executed (received_gtids channel.received) g) ∙ both.0)) [
      | inl done ↦ inl done
      | inr received ↦ inr (c, channel, there, received_stands channel.received g received)
    ]) in
    in_whole j g ∙ (n.recorded k source from g ∙ own_done nodes L n k source from g known (eqb-true g.source source.replica.site.own both.1)))

refusal_by : (b c : Bool) (X Y : Gtids) (all : List Entry) (fault : PositionFault) → c ≡ true → cond (not b) (Err (PurgedRequired X)) (cond (not c) (Err (ReplicaHasMore Y)) (Ok all)) ≡ Err fault → IsNotMore fault
refusal_by false c X Y all fault t e = subst IsNotMore (fault_is (PurgedRequired X) fault e) tt
  where
    fault_is : (f g : PositionFault) → ◌≡◌ {A = Result (List Entry) PositionFault} (Err f) (Err g) → f ≡ g
    fault_is f g p = cc
refusal_by true true X Y all fault t e = cc
refusal_by true false X Y all fault t e = cc

refused_not_more : (nodes : List Node) (L : List Entry) → Numbers nodes L → (fault : PositionFault) → IsRefused nodes fault → IsNotMore fault
refused_not_more nodes L n fault r =
    let j = r.source.replica.state.journal in
    let A = ask r.node.replica.state r.channel in
    let own = r.source.replica.site.own in
    refusal_by (set.is_subset j.previous A) (set.is_subset (only A own) (whole j)) (set.difference j.previous A) (set.difference (only A own) (whole j)) _ fault
    (own_recorded nodes L n r.i r.k r.c r.node r.source r.channel r.at r.from r.there) r.refusal

not_more : (nodes : List Node) (L : List Entry) → Numbers nodes L → (r : NetworkReply) → ((fault : PositionFault) → r ≡ Refused fault → IsRefused nodes fault) → HasNoMore r
not_more nodes L n (Refused fault) is = refused_not_more nodes L n fault (is fault refl)
not_more nodes L n NoNode is = tt
not_more nodes L n NotHere is = tt
not_more nodes L n Nothing is = tt
not_more nodes L n (Replied r) is = tt

replied_by : (nodes : List Node) (m : Making) (o : Option Node) → HasNoMore (option_map_or (make_at nodes m) o (NoNode, nodes)).0
replied_by nodes m (Some node) = tt
replied_by nodes m None = tt

decided_not_more : (nodes : List Node) (L : List Entry) → Numbers nodes L → (d : Decision) → ((fault : PositionFault) → d ≡ Err (Refused fault) → IsRefused nodes fault) → HasNoMore (make nodes d).0
decided_not_more nodes L n (Err r) is = not_more nodes L n r (λ fault e. is fault (ap Err e))
decided_not_more nodes L n (Ok m) is = replied_by nodes m (slice_get nodes m.node)

pub no_more : (events : List NetworkEvent) (nodes : List Node) (L : List Entry) → Numbers nodes L → AllByRecursion HasNoMore (replies nodes events)
no_more [] nodes L n = tt
no_more (e ∷ es) nodes L n = (
  decided_not_more nodes L n (decide nodes e) (decides nodes e).refused,
  no_more es (step nodes e).1 (L ++ local_of nodes (decide nodes e)) (numbers_step nodes L n e),
)
