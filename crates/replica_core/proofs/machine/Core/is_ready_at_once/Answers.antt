use Rattle.std.proofs.Common.{◌≡◌, true, false, rules, sym, ap, ◌∙◌}
use Rattle.std.specs.Prelude.{is_none}
use Rattle.std.specs.List.{list_all}
use Rattle.std.specs.FinSet as set
use Rattle.gtid_set.specs.Sets.{Gtids}
use Rattle.replica_core.specs.State.{Replica}
use Rattle.replica_core.specs.Machine.{is_seat}
use Rattle.replica_core.proofs.AtOnceLemmas.{idle_slots}
use Rattle.replica_core.proofs.machine.Core.is_ready_at_once.Goals as goal

pub returns : goal.returns
returns c = λ yes.
    let r = c.args.self.now in
    let one : is_seat c.args.seat ≡ true = search rules in
    let idle : c.is_idle.result ≡ true = search rules in
    let next : c.is_next.result ≡ true = search rules in
    let new : set.contains c.executed.result.now c.args.entry.now.gtid ≡ false = search rules in
    record {
      channel = c.in-Some.one.now.channel;
      at = c.in-Some.ensures.found.value;
      next = c.is_next.ensures next;
      one = one;
      idle = c.is_idle.ensures idle;
      fits = c.requires;
      new = ap (λ (s : Gtids). set.contains s c.args.entry.now.gtid) (sym c.executed.ensures) ∙ new;
      room = search rules;
    }
