use Rattle.std.proofs.Common.{◌≡◌, rules, length}
use Rattle.commands.proofs.Receipts.{merged_apply}
use Rattle.commands.proofs.worker_history.run_shared.Goals as goal

-- each step has a receipt, which a worker's pass has got
pub returns-in-Ok-close-clause-work : goal.returns-in-Ok-close-clause-work
returns-in-Ok-close-clause-work g c =
    let count : length c.in-Ok.passes.items ≡ c.args.seats = search rules in
    merged_apply c.in-Ok.passes.items c.run_workers-passes.result.passes.items c.in-Ok-close.book.steps c.args.seats count c.run_workers-passes.ensures.count
    c.in-Ok.ensures.passes c.run_workers-passes.ensures.each c.in-Ok-close.ensures.ok.receipts
