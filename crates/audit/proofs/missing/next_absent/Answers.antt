use Rattle.std.proofs.Common.{◌+◌, not, ℕ, Bool, arith, ap, sym, ◌∙◌}
use Rattle.std.specs.FinSet as set
use Rattle.gtid_set.specs.Sets.{gtid}
use Rattle.audit.proofs.Numbers.{find_here, find_behind, find_nothing}
use Rattle.audit.proofs.missing.next_absent.Goals as goal

-- after the run the set has not got the number
pub returns-then-last-below : goal.returns-then-last-below
returns-then-last-below c =
    let p : ℕ → Bool = λ n. not (set.contains c.args.opened.now (gtid c.args.source n)) in
    let run = c.in-Some.ensures.some in
    sym (find_behind p (c.args.after + 1) c.in-Some.last c.args.below run.reaches (omega (arith, c.if-last-below.true)) (λ n a b. ap not (run.all n a b))
    ∙ find_here p (c.in-Some.last + 1) c.args.below (omega (arith, c.if-last-below.true)) (ap not run.ended))

-- the run reaches the greater number
pub returns-else-last-below : goal.returns-else-last-below
returns-else-last-below c =
    let p : ℕ → Bool = λ n. not (set.contains c.args.opened.now (gtid c.args.source n)) in
    let run = c.in-Some.ensures.some in
    sym (find_nothing p (c.args.after + 1) c.in-Some.last c.args.below (omega (arith, c.if-after-below.false)) (omega (arith, c.if-last-below.false))
    (λ n a b. ap not (run.all n a b)))
