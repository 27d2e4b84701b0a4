use Rattle.std.proofs.Common.{◌≡◌, subst}
use Rattle.std.specs.Prelude.{IsTrue, ◌↔◌}
use Rattle.gtid_set.specs.Sets.{Gtids}
use Rattle.gtid_set.specs.Spans.{set_of}
use Rattle.gtid_set.proofs.GtidSet.is_equal.Goals as goal

pub returns : goal.returns
returns c =
    let P : Gtids → Type 0 = λ s. IsTrue c.are_equal.result ↔ (s ≡ c.args.other.now) in
    let Q : Gtids → Type 0 = λ t. IsTrue c.are_equal.result ↔ (set_of c.self.inside.spans ≡ t) in
    subst P c.self.view_is (subst Q c.other.view_is c.are_equal.ensures)
