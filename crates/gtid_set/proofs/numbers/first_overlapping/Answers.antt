use Rattle.std.proofs.Common.{drop, sym, ap, ◌∙◌}
use Rattle.gtid_set.specs.Numbers.{numbered, all_numbered}
use Rattle.gtid_set.proofs.SpanLemmas.{apart_after}
use Rattle.gtid_set.proofs.numbers.first_overlapping.Goals as goal

pub returns-in-Some-2-clause-apart : goal.returns-in-Some-2-clause-apart
returns-in-Some-2-clause-apart c none =
    apart_after (all_numbered c.args.walk.now) (numbered c.in-Some.first) (numbered c.args.numbers) (all_numbered (drop 1 c.args.walk.now)) (ap all_numbered c.in-Some.ensures.cases) c.requires.merged c.requires.reach (sym c.is_met.ensures ∙ c.if-is_met.false)
