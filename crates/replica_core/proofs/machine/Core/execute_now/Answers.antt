use Rattle.std.proofs.Common.{◌&&◌, None, refl, sym, ap, subst, ◌∙◌}
use Rattle.rows.specs.Tables.{AreTables}
use Rattle.replica_core.specs.State.{Replica}
use Rattle.replica_core.proofs.Writable.{fits_writable}
use Rattle.replica_core.proofs.CommitLemmas.{core_executed, executed_is}
use Rattle.replica_core.specs.Slots.{seats_of}
use Rattle.replica_core.specs.Seated.{IsUnowned}
use Rattle.replica_core.specs.Committing.{Executes}
use Rattle.replica_core.proofs.CoreLemmas.{replica_of}
use Rattle.replica_core.proofs.machine.Core.execute_now.Goals as goal

pub append-requires-clause-writable : goal.append-requires-clause-writable
append-requires-clause-writable c =
    let e = c.args.entry in
    let schema = ap (λ (r : Replica). r.site.schema) c.self.view_is in
    let tables = subst AreTables (c.schema.ensures.value ∙ schema) c.tables.ensures.kept in
    λ i. c.requires.may.number i && fits_writable c.args.self.now.site.schema e.txn tables c.requires.may.fits i

pub invariant_of-self-in-Ok : goal.invariant_of-self-in-Ok
invariant_of-self-in-Ok c =
    let core = c.self.inside in
    let alone = subst (λ (r : Replica). IsUnowned r.state.channels r.state.seats c.args.entry.gtid) (sym c.self.view_is) c.requires.may.alone in
    core_executed c.args.entry core.rows c.apply_fitting.new.self core.channels c.mark_executed.new.self (seats_of core.seats) (seats_of core.seats) None core.journal.journal c.append.new.self.journal c.self.invariant alone refl c.in-Ok.ensures.same c.mark_executed.ensures c.in_ok-append.ensures.ok

pub returns-in-Ok-clause-ok : goal.returns-in-Ok-clause-ok
returns-in-Ok-clause-ok c =
    let core = c.self.inside in
    let done = executed_is c.args.entry core.own core.rows c.apply_fitting.new.self (seats_of core.seats) (seats_of core.seats) None core.channels c.mark_executed.new.self core.journal.journal c.append.new.self.journal c.args.txn.now c.requires.same c.in-Ok.ensures.ok c.in-Ok.ensures.same c.mark_executed.ensures c.in_ok-append.ensures.ok refl in
    subst (λ (r : Replica). Executes r None c.args.entry (replica_of core.own c.apply_fitting.new.self (seats_of core.seats) c.mark_executed.new.self.list c.append.new.self.journal)) c.self.view_is done
