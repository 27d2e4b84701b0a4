-- The set with which a channel asks that has received nothing.
use Rattle.std.proofs.Common.{◌≡◌, ◌≤◌, List, length, sym, ap, subst, ◌∙◌}
use Rattle.std.specs.Prelude.{Result, Ok, Err, IfOk, IsOkUnless}
use Rattle.std.specs.FinSet as set
use Rattle.std.proofs.lemmas.List.{nil_from_length}
use Rattle.gtid_set.specs.Sets.{Gtids, source_count, most_sources}
use Rattle.gtid_set.specs.Full.{IsFullExactly, interval_count, most_intervals}
use Rattle.gtid_set.specs.declared.fault.SetFault.{SetFault}
use Rattle.gtid_set.specs.declared.fault.SetFault.TheVariants.{Memory, PoolFull, SourcesFull}
use Rattle.gtid_set.proofs.SetLemmas.{union_empty}
use Rattle.apply_channel.specs.Channels.{Received, received_gtids}

pub adds_nothing : (executed : Gtids) (received : List Received) → length received ≡ 0 → executed ≡ set.union executed (received_gtids received)
adds_nothing executed received e = union_empty executed ∙ ap (λ (rs : List Received). set.union executed (received_gtids rs)) (sym (nil_from_length received e))

copied : (r : Result Gtids SetFault) (s : Gtids) → source_count s ≤ most_sources → interval_count s ≤ most_intervals → IsOkUnless r Memory → IsFullExactly r s
copied (Ok _) s few small h = (few, small)
copied (Err Memory) s few small h = few
copied (Err PoolFull) s few small h = absurd cc
copied (Err SourcesFull) s few small h = absurd cc

-- a copy of what is executed fails where the set to ask with fails
pub copied_fully : (r : Result Gtids SetFault) (s asked : Gtids) → s ≡ asked → source_count s ≤ most_sources → interval_count s ≤ most_intervals → IsOkUnless r Memory → IsFullExactly r asked
copied_fully r s asked same few small h = subst (IsFullExactly r) same (copied r s few small h)

pub copied_set : (r : Result Gtids SetFault) (s asked : Gtids) → s ≡ asked → IfOk r (λ t. t ≡ s) → IfOk r (λ t. t ≡ asked)
copied_set (Ok t) s asked same h = h ∙ same
copied_set (Err f) s asked same h = tt
