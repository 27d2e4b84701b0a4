use Rattle.std.proofs.Common.{◌≡◌, inl, inr, true, rules, sym, ap, ◌∙◌, subst}
use Rattle.journal.specs.declared.Entry.{Entry}
use Rattle.std.specs.Prelude.{Some}
use Rattle.gtid_set.specs.declared.fault.SetFault.TheVariants.{Memory}
use Rattle.gtid_set.specs.Full.{IsFaultOf}
use Rattle.replica_core.specs.State.{Replica}
use Rattle.replica_core.specs.Faults.{IsFaultIn, HasRoomFor, executed_with}
use Rattle.replica_core.specs.AtOnce.{IsLeft, IsFaultAtOnce, HasRoomAtOnce}
use Rattle.replica_core.proofs.AtOnceLemmas.{makes_executed, commit_takes, done_ahead, fault_ahead, room_ahead, executed_ahead, receiving_ahead, executed_as}
use Rattle.replica_core.proofs.machine.Core.commit_at_once.Goals as goal

pub returns-in-Err-clause-fault : goal.returns-in-Err-clause-fault
returns-in-Err-clause-fault c =
    let r = c.args.self.now in
    let e = c.args.entry.now in
    let yes : c.is_ready_at_once.result ≡ true = search rules in
    let may = c.is_ready_at_once.ensures yes in
    let kept = c.entries_are_kept.ensures in
    let f = c.in-Err.fault in
    inr (record {
      cause = subst (IsFaultIn f) (sym (makes_executed r c.args.seat c.args.channel c.args.place e may kept))
          (subst (λ (x : Entry). IsFaultOf f (executed_with r.state x.gtid)) c.in_ok-copy.ensures.cases c.in-Err.ensures.fault);
      instead = commit_takes r c.args.seat c.args.channel c.args.place e may kept;
    })

pub returns-in_err-_place-clause-err : goal.returns-in_err-_place-clause-err
returns-in_err-_place-clause-err c =
    let r = c.args.self.now in
    let e = c.args.entry.now in
    let done = executed_as r c.execute_now.new.self e c.in_ok-copy.copy c.in_ok-copy.ensures.cases (rw c.in-Ok-true.field-0-test at c.in-Ok-true.ensures.ok) in
    let h : IsLeft r.site c.args.seat c.args.channel c.args.place e r.state c.receive_executed.new.self.state =
    inr (inr (record {
      rows = c.execute_now.new.self.state.rows;
      applied = done.applied;
      now = ap (λ (x : Replica). x.state) c.in_err-_place.ensures.err ∙ done.state;
    })) in
    search rules

pub returns-in_err-_place-clause-fault : goal.returns-in_err-_place-clause-fault
returns-in_err-_place-clause-fault c =
    let r = c.args.self.now in
    let e = c.args.entry.now in
    let yes : c.is_ready_at_once.result ≡ true = search rules in
    let may = c.is_ready_at_once.ensures yes in
    let kept = c.entries_are_kept.ensures in
    let done = executed_as r c.execute_now.new.self e c.in_ok-copy.copy c.in_ok-copy.ensures.cases (rw c.in-Ok-true.field-0-test at c.in-Ok-true.ensures.ok) in
    let f = c.in_err-_place.field-0.0 in
    let h : IsFaultAtOnce f r.site c.args.seat c.args.channel c.args.place e r.state =
    inl (fault_ahead r c.args.seat c.args.channel c.args.place e may kept c.execute_now.new.self.state.rows f c.execute_now.new.self.site c.execute_now.new.self.state done.site done.state c.in_err-_place.ensures.fault) in
    search rules

pub returns-clause-done : goal.returns-clause-done
returns-clause-done c =
    let r = c.args.self.now in
    let e = c.args.entry.now in
    let yes : c.is_ready_at_once.result ≡ true = search rules in
    let may = c.is_ready_at_once.ensures yes in
    let kept = c.entries_are_kept.ensures in
    let done = executed_as r c.execute_now.new.self e c.in_ok-copy.copy c.in_ok-copy.ensures.cases (rw c.in-Ok-true.field-0-test at c.in-Ok-true.ensures.ok) in
    done_ahead r c.args.seat c.args.channel c.args.place e may kept c.execute_now.new.self.state.rows c.execute_now.new.self.site c.execute_now.new.self.state c.receive_executed.new.self.state c.in_ok-_place._place
    done.applied done.site done.state c.in_ok-_place.ensures.ok

pub returns-in_err-copy-clause-room : goal.returns-in_err-copy-clause-room
returns-in_err-copy-clause-room c =
    let r = c.args.self.now in
    let e = c.args.entry.now in
    let yes : c.is_ready_at_once.result ≡ true = search rules in
    let may = c.is_ready_at_once.ensures yes in
    let kept = c.entries_are_kept.ensures in
    let h : HasRoomAtOnce Memory r.site c.args.seat c.args.channel c.args.place e r.state =
    inr (subst (HasRoomFor Memory) (sym (makes_executed r c.args.seat c.args.channel c.args.place e may kept)) may.room) in
    search rules

pub returns-in-Err-clause-room : goal.returns-in-Err-clause-room
returns-in-Err-clause-room c =
    let r = c.args.self.now in
    let e = c.args.entry.now in
    let yes : c.is_ready_at_once.result ≡ true = search rules in
    let may = c.is_ready_at_once.ensures yes in
    let kept = c.entries_are_kept.ensures in
    let f = c.in-Err.fault in
    inr (subst (HasRoomFor f) (sym (makes_executed r c.args.seat c.args.channel c.args.place e may kept))
    (subst (λ (x : Entry). HasRoomFor f (Some (executed_with r.state x.gtid))) c.in_ok-copy.ensures.cases c.in-Err.ensures.room))

pub returns-in_err-_place-clause-room : goal.returns-in_err-_place-clause-room
returns-in_err-_place-clause-room c =
    let r = c.args.self.now in
    let e = c.args.entry.now in
    let yes : c.is_ready_at_once.result ≡ true = search rules in
    let may = c.is_ready_at_once.ensures yes in
    let kept = c.entries_are_kept.ensures in
    let done = executed_as r c.execute_now.new.self e c.in_ok-copy.copy c.in_ok-copy.ensures.cases (rw c.in-Ok-true.field-0-test at c.in-Ok-true.ensures.ok) in
    let f = c.in_err-_place.field-0.0 in
    let h : HasRoomAtOnce f r.site c.args.seat c.args.channel c.args.place e r.state =
    inl (room_ahead r c.args.seat c.args.channel c.args.place e may kept c.execute_now.new.self.state.rows f c.execute_now.new.self.state done.state c.in_err-_place.ensures.room) in
    search rules

pub receive_executed-requires-clause-executed : goal.receive_executed-requires-clause-executed
receive_executed-requires-clause-executed c =
    let r = c.args.self.now in
    let e = c.args.entry.now in
    let yes : c.is_ready_at_once.result ≡ true = search rules in
    let may = c.is_ready_at_once.ensures yes in
    let kept = c.entries_are_kept.ensures in
    let done = executed_as r c.execute_now.new.self e c.in_ok-copy.copy c.in_ok-copy.ensures.cases (rw c.in-Ok-true.field-0-test at c.in-Ok-true.ensures.ok) in
    executed_ahead r c.args.seat c.args.channel c.args.place e may kept c.execute_now.new.self.state.rows c.execute_now.new.self.state done.state

pub receive_executed-requires-clause-receives : goal.receive_executed-requires-clause-receives
receive_executed-requires-clause-receives c =
    let r = c.args.self.now in
    let e = c.args.entry.now in
    let yes : c.is_ready_at_once.result ≡ true = search rules in
    let may = c.is_ready_at_once.ensures yes in
    let kept = c.entries_are_kept.ensures in
    let done = executed_as r c.execute_now.new.self e c.in_ok-copy.copy c.in_ok-copy.ensures.cases (rw c.in-Ok-true.field-0-test at c.in-Ok-true.ensures.ok) in
    receiving_ahead r c.args.seat c.args.channel c.args.place e may kept c.execute_now.new.self.state.rows c.execute_now.new.self done.state
