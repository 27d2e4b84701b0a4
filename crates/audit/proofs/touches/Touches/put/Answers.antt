use Rattle.std.proofs.Common.{ap, ◌∙◌}
use Rattle.std.specs.FinMap as map
use Rattle.rows.specs.Order.{key_cmp}
use Rattle.rows.specs.Total.{key_total, key_exact}
use Rattle.rows.proofs.Equal.{key_test}
use Rattle.rows.proofs.Hashed.{same_tests}
use Rattle.audit.proofs.Hashed.{hashed_put}
use Rattle.audit.proofs.touches.Touches.put.Goals as goal

pub returns : goal.returns
returns c =
    hashed_put key_cmp key_test same_tests key_total key_exact c.self.inside.last.entries c.insert.new.self.entries c.args.key c.args.gtid.now c.in-Ok.ensures.updates.0
    ∙ ap (λ m. map.insert m c.args.key c.args.gtid.now) c.self.view_is
