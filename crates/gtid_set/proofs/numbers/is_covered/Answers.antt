use Rattle.std.proofs.Common.{ap, sym, ◌∙◌}
use Rattle.gtid_set.specs.Numbers.{numbered, all_numbered}
use Rattle.gtid_set.specs.Spans.{has}
use Rattle.gtid_set.specs.Sweep.{start_of}
use Rattle.gtid_set.proofs.CutLemmas.{covered, uncovered, start_within}
use Rattle.gtid_set.proofs.numbers.is_covered.Goals as goal

pub returns-in-None : goal.returns-in-None
returns-in-None c =
    let t = numbered c.args.numbers in
    (start_of t, start_within t c.requires.filled, ap (λ is. has (all_numbered is) (start_of t)) c.in-None.ensures.cases)

pub returns-in-Some : goal.returns-in-Some
returns-in-Some c =
    covered (all_numbered c.args.walk.now) (numbered c.args.numbers) (numbered c.in-Some.first) _ (ap all_numbered c.in-Some.ensures.cases) (sym c.is_inside.ensures ∙ c.if-is_inside.true)

pub returns-in-Some-2 : goal.returns-in-Some-2
returns-in-Some-2 c =
    uncovered (all_numbered c.args.walk.now) (numbered c.args.numbers) (numbered c.in-Some.first) _ (ap all_numbered c.in-Some.ensures.cases) c.requires.filled c.requires.merged c.requires.reach (sym c.is_inside.ensures ∙ c.if-is_inside.false)
