-- What a decision of a network can be.
use Rattle.std.proofs.Common.{◌≡◌, ℕ, true, false, not, ◌⊎◌, inl, inr, List, Some, None, Option, Result, Ok, Err, refl, subst}
use Rattle.std.specs.Prelude.{slice_get}
use Rattle.std.specs.FinMap as finmap
use Rattle.std.specs.FinSet as set
use Rattle.std.proofs.lemmas.Bool.{not-false}
use Rattle.lemmas.proofs.Options.{on_option}
use Rattle.lemmas.proofs.Tests.{on_test}
use Rattle.gtid_set.specs.Sets.{Gtids}
use Rattle.journal.specs.declared.Entry.{Entry}
use Rattle.auto_position.specs.Sending.{sent}
use Rattle.auto_position.specs.declared.PositionFault.{PositionFault}
use Rattle.apply_channel.specs.Channels.{ChannelValue}
use Rattle.replica_core.specs.declared.event.Event.{Event}
use Rattle.replica_core.specs.declared.event.Event.TheVariants as event
use Rattle.replica_core.specs.declared.event.Reply.{Reply}
use Rattle.replica_core.specs.declared.event.Reply.TheVariants.{NoChannel, NotPositioned}
use Rattle.replica_core.specs.Machine.{ask}
use Rattle.network.specs.declared.event.NetworkEvent.{NetworkEvent}
use Rattle.network.specs.declared.event.NetworkEvent.TheVariants.{Act, Position, Receive}
use Rattle.network.specs.declared.event.NetworkReply.{NetworkReply}
use Rattle.network.specs.declared.event.NetworkReply.TheVariants.{NoNode, NotHere, Refused, Nothing, Replied}
use Rattle.network.specs.Nodes.{Node}
use Rattle.network.specs.Machine.{Making, Decision, is_for_network, act, position_answer, position_at, come, next_of, receive_next, receive_from, decide}

-- an event of a node's own
pub record IsAct (nodes : List Node) (m : Making) (node : Node) : Type 0 where
  pub own : is_for_network m.event ≡ false
  pub sources : m.sources ≡ node.sources

-- a Position at a source that sends
pub record IsPosition (nodes : List Node) (m : Making) (node : Node) : Type 0 where
  pub c : ℕ
  pub k : ℕ
  pub channel : ChannelValue
  pub at : slice_get node.replica.state.channels c ≡ Some channel
  pub event : m.event ≡ event.Position c
  pub sources : m.sources ≡ finmap.insert node.sources c k

-- a Receive of the source's first entry that has not come
pub record IsReceive (nodes : List Node) (m : Making) (node : Node) : Type 0 where
  pub c : ℕ
  pub k : ℕ
  pub channel : ChannelValue
  pub asked : Gtids
  pub source : Node
  pub entry : Entry
  pub at : slice_get node.replica.state.channels c ≡ Some channel
  pub with : channel.asked ≡ Some asked
  pub reads : finmap.get node.sources c ≡ Some k
  pub from : slice_get nodes k ≡ Some source
  pub kept : set.is_subset source.replica.state.journal.previous (come asked channel) ≡ true
  pub next : next_of (come asked channel) source.replica.state.journal ≡ Some entry
  pub event : m.event ≡ event.Receive c entry
  pub sources : m.sources ≡ node.sources

pub record IsMade (nodes : List Node) (m : Making) : Type 0 where
  pub node : Node
  pub at : slice_get nodes m.node ≡ Some node
  pub one : IsAct nodes m node ⊎ IsPosition nodes m node ⊎ IsReceive nodes m node

-- a source refuses what a channel of a node asks
pub record IsRefused (nodes : List Node) (fault : PositionFault) : Type 0 where
  pub i : ℕ
  pub k : ℕ
  pub c : ℕ
  pub node : Node
  pub source : Node
  pub channel : ChannelValue
  pub at : slice_get nodes i ≡ Some node
  pub from : slice_get nodes k ≡ Some source
  pub there : slice_get node.replica.state.channels c ≡ Some channel
  pub refusal : sent source.replica.state.journal (ask node.replica.state channel) (Some source.replica.site.own) ≡ Err fault

pub record Decides (nodes : List Node) (d : Decision) : Type 0 where
  pub made : (m : Making) → d ≡ Ok m → IsMade nodes m
  pub refused : (fault : PositionFault) → d ≡ Err (Refused fault) → IsRefused nodes fault

not_ok : {A : Type 0} (r : NetworkReply) (m : Making) → ◌≡◌ {A = Decision} (Err r) (Ok m) → A
not_ok r m e = cc

not_err : {A : Type 0} (r : NetworkReply) (m : Making) → ◌≡◌ {A = Decision} (Ok m) (Err r) → A
not_err r m e = cc

ok_is : (m n : Making) → ◌≡◌ {A = Decision} (Ok m) (Ok n) → m ≡ n
ok_is m n e = cc

no_node : (nodes : List Node) → Decides nodes (Err NoNode)
no_node nodes = record { made = λ m e. not_ok NoNode m e; refused = λ f e. cc }

not_here : (nodes : List Node) → Decides nodes (Err NotHere)
not_here nodes = record { made = λ m e. not_ok NotHere m e; refused = λ f e. cc }

nothing : (nodes : List Node) → Decides nodes (Err Nothing)
nothing nodes = record { made = λ m e. not_ok Nothing m e; refused = λ f e. cc }

replied : (nodes : List Node) (r : Reply) → Decides nodes (Err (Replied r))
replied nodes r = record { made = λ m e. not_ok (Replied r) m e; refused = λ f e. cc }

making : (nodes : List Node) (m : Making) → IsMade nodes m → Decides nodes (Ok m)
making nodes m made = record { made = λ n e. subst (IsMade nodes) (ok_is m n e) made; refused = λ f e. not_err (Refused f) m e }

fault_is : (f g : PositionFault) → ◌≡◌ {A = Decision} (Err (Refused f)) (Err (Refused g)) → f ≡ g
fault_is f g e = cc

module _ (nodes : List Node) where
  act_decides : (i : ℕ) (e : Event) (node : Node) → slice_get nodes i ≡ Some node → Decides nodes (act i e node)
  act_decides i e node at =
      on_test (Decides nodes) (is_for_network e) _ _
      (λ f. not_here nodes)
      (λ f. making nodes (record { node = i; event = e; sources = node.sources }) (record { node = node; at = at; one = inl (record { own = f; sources = refl }) }))

  position_decides : (i c k : ℕ) (node source : Node) (channel : ChannelValue) → slice_get nodes i ≡ Some node → slice_get nodes k ≡ Some source → slice_get node.replica.state.channels c ≡ Some channel
      → (r : Result (List Entry) PositionFault) → sent source.replica.state.journal (ask node.replica.state channel) (Some source.replica.site.own) ≡ r → Decides nodes (position_answer i c k node r)
  position_decides i c k node source channel at from there (Err fault) e = record {
    made = λ m f. not_ok (Refused fault) m f;
    refused = λ g f. subst (IsRefused nodes) (fault_is fault g f) (record { i = i; k = k; c = c; node = node; source = source; channel = channel; at = at; from = from; there = there; refusal = e });
  }
  position_decides i c k node source channel at from there (Ok entries) e =
      making nodes (record { node = i; event = event.Position c; sources = finmap.insert node.sources c k })
      (record { node = node; at = at; one = inr (inl (record { c = c; k = k; channel = channel; at = there; event = refl; sources = refl })) })

  receive_decides : (i c : ℕ) (node : Node) (channel : ChannelValue) → slice_get nodes i ≡ Some node → slice_get node.replica.state.channels c ≡ Some channel
      → (asked : Option Gtids) (source : Option ℕ) → channel.asked ≡ asked → finmap.get node.sources c ≡ source → Decides nodes (receive_from nodes i c node channel asked source)
  receive_decides i c node channel at there None source a r = replied nodes NotPositioned
  receive_decides i c node channel at there (Some asked) None a r = replied nodes NotPositioned
  receive_decides i c node channel at there (Some asked) (Some k) a r =
      on_option (Decides nodes) (λ (source : Node). receive_next i c node (come asked channel) source.replica.state.journal) (slice_get nodes k) _
      (λ n. no_node nodes)
      (λ source from. on_test (Decides nodes) (not (set.is_subset source.replica.state.journal.previous (come asked channel))) _ _
      (λ n. replied nodes NotPositioned)
      (λ kept. on_option (Decides nodes) (λ e. Ok (record { node = i; event = event.Receive c e; sources = node.sources })) (next_of (come asked channel) source.replica.state.journal) _
      (λ n. nothing nodes)
      (λ e next. making nodes (record { node = i; event = event.Receive c e; sources = node.sources }) (record {
        node = node;
        at = at;
        one = inr (inr (record {
          c = c;
          k = k;
          channel = channel;
          asked = asked;
          source = source;
          entry = e;
          at = there;
          with = a;
          reads = r;
          from = from;
          kept = not-false (set.is_subset source.replica.state.journal.previous (come asked channel)) kept;
          next = next;
          event = refl;
          sources = refl;
        }));
      }))))

  pub decides : (e : NetworkEvent) → Decides nodes (decide nodes e)
  decides (Act i e) =
      on_option (Decides nodes) (act i e) (slice_get nodes i) _
      (λ n. no_node nodes)
      (λ node at. act_decides i e node at)
  decides (Position i c k) =
      on_option (Decides nodes) _ (slice_get nodes i) _
      (λ n. no_node nodes)
      (λ node at. on_option (Decides nodes) _ (slice_get nodes k) _
      (λ n. no_node nodes)
      (λ source from. on_option (Decides nodes) (position_at i c k node source) (slice_get node.replica.state.channels c) _
      (λ n. replied nodes NoChannel)
      (λ channel there. position_decides i c k node source channel at from there _ refl)))
  decides (Receive i c) =
      on_option (Decides nodes) _ (slice_get nodes i) _
      (λ n. no_node nodes)
      (λ node at. on_option (Decides nodes) _ (slice_get node.replica.state.channels c) _
      (λ n. replied nodes NoChannel)
      (λ channel there. receive_decides i c node channel at there channel.asked (finmap.get node.sources c) refl refl))
