use Rattle.std.proofs.Common.{sym, ap, ◌∙◌}
use Rattle.std.specs.FinSet as set
use Rattle.gtid_set.specs.Sets.{Gtids}
use Rattle.apply_channel.specs.Channels.{Keyed}
use Rattle.apply_channel.specs.Kept.{entries_of, is_open_at}
use Rattle.apply_channel.proofs.Absent.{not_received, settled_open}
use Rattle.apply_channel.proofs.channel.Channel.last_open.Goals as goal

pub returns-then-not-contains : goal.returns-then-not-contains
returns-then-not-contains c =
    let s = c.self.inside in
    let g = c.args.gtid.now in
    let absent = ap (λ (r : Gtids). set.contains r g) (sym c.self.invariant.gtids) ∙ sym c.contains.ensures ∙ c.if-not-contains.true in
    λ i lt. ap (λ (k : Keyed). is_open_at g k.channel.received i) (sym c.self.view_is) ∙ not_received g (entries_of s.slots.items) absent i

pub returns-then-is_settled : goal.returns-then-is_settled
returns-then-is_settled c = λ i lt. settled_open c.args.gtid.now c.args.self.now.channel.received (sym c.is_settled.ensures ∙ c.if-is_settled.true) i
