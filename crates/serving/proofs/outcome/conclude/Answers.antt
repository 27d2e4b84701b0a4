use Rattle.std.proofs.Common.{rules, ◌≡◌, true, false, subst}
use Rattle.replica_core.specs.Machine.{drained}
use Rattle.world.specs.Meaning.{AreJournals}
use Rattle.serving.proofs.Runs.{Laws, holds_all, audit_concluded}
use Rattle.serving.proofs.Shapes.{run_named}
use Rattle.serving.proofs.outcome.conclude.Goals as goal

pub returns-then-is_drained-clause-found : goal.returns-then-is_drained-clause-found
returns-then-is_drained-clause-found c =
    let b = c.args.bundle.now in
    let core = c.args.core.now in
    let done : drained core.state ≡ true = search rules in
    let order = c.args.order in
    let laws : Laws = record { decide = c.workers_decide.ensures; holds = c.served_holds_all.ensures; decide_in_order = c.workers_decide_in_order.ensures; holds_in_order = c.served_holds_all_in_order.ensures } in
    let all = holds_all order b core c.requires.run (subst AreJournals c.journals.ensures c.keep_rules.ensures) done laws in
    record { sound = all.0; holds = all.1; named = run_named order b core c.requires.run }

pub returns-clause-found : goal.returns-clause-found
returns-clause-found c =
    let undone : drained c.args.core.now.state ≡ false = search rules in
    let laws : Laws = record { decide = c.workers_decide.ensures; holds = c.served_holds_all.ensures; decide_in_order = c.workers_decide_in_order.ensures; holds_in_order = c.served_holds_all_in_order.ensures } in
    audit_concluded c.args.order c.args.bundle.now c.args.core.now c.in_ok-verdict.verdict c.requires.run (subst AreJournals c.journals.ensures c.keep_rules.ensures) undone c.requires.ends c.in_ok-verdict.ensures.found laws
