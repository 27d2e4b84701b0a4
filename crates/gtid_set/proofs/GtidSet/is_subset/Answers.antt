use Rattle.std.proofs.Common.{◌∙◌}
use Rattle.std.specs.FinSet as set
use Rattle.gtid_set.specs.Spans.{set_of}
use Rattle.gtid_set.proofs.SetSources.{subset_held}
use Rattle.gtid_set.proofs.GtidSet.is_subset.Goals as goal

pub returns : goal.returns
returns c =
    subset_held c.is_within.result c.by_source.result c.by_source-2.result c.is_within.ensures
    ∙ (λ i. set.is_subset (set_of (c.by_source.ensures i)) (set_of (c.by_source-2.ensures i)))
    ∙ (λ i. set.is_subset (c.self.view_is i) (c.other.view_is i))
