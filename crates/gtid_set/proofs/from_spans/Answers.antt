use Rattle.std.proofs.Common.{ap, sym, ◌∙◌, arith}
use Rattle.std.specs.FinSet as set
use Rattle.gtid_set.specs.Spans.{set_of}
use Rattle.gtid_set.proofs.FaultLemmas.{crowded_full}
use Rattle.gtid_set.proofs.SetSources.{sources_of-set_of}
use Rattle.gtid_set.proofs.from_spans.Goals as goal

pub returns-then-count_sources_of-clause-full : goal.returns-then-count_sources_of-clause-full
returns-then-count_sources_of-clause-full c =
    let count = c.count_sources_of.ensures ∙ sym (ap set.len (sources_of-set_of c.args.spans.now c.requires.filled)) in
    omega (arith, count)

pub from_fitting_spans-requires-clause-fits : goal.from_fitting_spans-requires-clause-fits
from_fitting_spans-requires-clause-fits c =
    let count = c.count_sources_of.ensures ∙ sym (ap set.len (sources_of-set_of c.args.spans.now c.requires.filled)) in
    omega (arith, count)

pub returns-clause-full : goal.returns-clause-full
returns-clause-full c =
    let count = c.count_sources_of.ensures ∙ sym (ap set.len (sources_of-set_of c.args.spans.now c.requires.filled)) in
    crowded_full c.from_fitting_spans.result (set_of c.args.spans.now) (omega (arith, count)) c.from_fitting_spans.ensures.full
