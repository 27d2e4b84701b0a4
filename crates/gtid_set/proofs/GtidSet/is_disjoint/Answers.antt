use Rattle.std.proofs.Common.{◌≡◌, subst, ◌∙◌}
use Rattle.std.specs.Prelude.{IsTrue, ◌↔◌}
use Rattle.std.specs.FinSet as set
use Rattle.gtid_set.specs.Sets.{Gtids}
use Rattle.gtid_set.specs.Spans.{set_of}
use Rattle.gtid_set.proofs.SetSources.{disjoint_held}
use Rattle.gtid_set.proofs.GtidSet.is_disjoint.Goals as goal

pub returns : goal.returns
returns c =
    let P : Gtids → Type 0 = λ s. IsTrue c.are_apart.result ↔ (s ≡ set.empty) in
    subst P ((λ i. set.intersection (set_of (c.by_source.ensures i)) (set_of (c.by_source-2.ensures i))) ∙ (λ i. set.intersection (c.self.view_is i) (c.other.view_is i)))
    (disjoint_held c.are_apart.result c.by_source.result c.by_source-2.result c.are_apart.ensures)
