use Rattle.std.proofs.Common.{◌≡◌, ◌++◌, List, map, take, drop, length, None, [], ap, ◌∙◌, arith}
use lib.Seq.{take-append_seam}
use Rattle.applier.specs.declared.workers.Worker.{Worker}
use Rattle.shared_replica.specs.Passes.{PassValue}
use Rattle.applier.specs.Tickets.{reached, nowhere}
use Rattle.applier.proofs.GoingOn.{each_pass}
use Rattle.applier.proofs.workers.run_workers.Goals as goal

pub returns-clause-each : goal.returns-clause-each
returns-clause-each g c = λ i d less.
    let pass : Worker g.row.N.Denot → PassValue = λ w. w.pass in
    let old = c.as_mut_slice.result.now in
    let new = c.serve_all.new.workers in
    let same : length new ≡ length old = c.serve_all.auto.workers in
    let long : c.make_workers-workers.result.len ≡ length new = omega (arith, same, c.as_mut_slice.ensures.len) in
    let rest = drop (length new) c.make_workers-workers.result.items in
    let back : take c.make_workers-workers.result.len (new ++ rest) ≡ new = ap (λ n. take n (new ++ rest)) long ∙ take-append_seam new rest in
    each_pass pass old new _ _ (record { pass = d; hand = reached nowhere []; me = 0; fault = None })
    (ap (λ (l : List (Worker g.row.N.Denot)). map pass l) c.as_mut_slice.ensures.value ∙ c.make_workers-workers.ensures)
    (c.into_passes.ensures ∙ ap (λ (l : List (Worker g.row.N.Denot)). map pass l) back) same c.serve_all.ensures i d less
