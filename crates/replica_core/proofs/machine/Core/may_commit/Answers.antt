use Rattle.std.proofs.Common.{◌≡◌, true, rules, sym, ◌∙◌}
use Rattle.replica_core.specs.Machine.{is_seat}
use Rattle.replica_core.proofs.TakeLemmas.{committable, commit_is}
use Rattle.replica_core.proofs.machine.Core.may_commit.Goals as goal

pub returns-clause-ok : goal.returns-clause-ok
returns-clause-ok c =
    let r = c.args.self.now in
    let at = c.in-Some-kept_channel.ensures.found in
    let channel = c.in-Some-kept_channel.channel.now.channel in
    let g = c.in-Some-entry.gtid in
    let t = c.in-Some-held.txn.now in
    let u = c.in_ok-clone.field-0 in
    let one : is_seat c.args.seat ≡ true = search rules in
    let has = sym c.in-Some.ensures in
    let entry = rw c.in-Some-held.is at c.in-Some-entry.ensures in
    let none = sym c.earlier_pending.ensures ∙ c.in_default-earlier_pending.is in
    record {
      answer = commit_is r.site r.state c.args.seat c.in-Some.spot channel g t u c.in_ok-clone.ensures.cases one has at.value entry none;
      is_one = one;
      may = committable r c.args.seat c.in-Some.spot channel g t u c.in_ok-clone.ensures.cases one has at.value entry at.kept c.kept_channel.ensures.seated;
      txn = c.in_ok-txn.ensures.cases ∙ sym c.in_ok-clone.ensures.cases;
    }
