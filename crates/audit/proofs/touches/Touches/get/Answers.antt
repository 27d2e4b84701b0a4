use Rattle.std.proofs.Common.{sym, ap, ◌∙◌}
use Rattle.std.specs.FinMap as map
use Rattle.rows.specs.Order.{key_cmp}
use Rattle.rows.specs.Total.{key_total}
use Rattle.rows.proofs.Equal.{key_test}
use Rattle.rows.proofs.Hashed.{same_tests}
use Rattle.audit.proofs.Stored.{get-stored}
use Rattle.audit.proofs.Hashed.{hashed_at}
use Rattle.audit.proofs.touches.Touches.get.Goals as goal

pub returns : goal.returns
returns c =
    c.get.ensures.value ∙ hashed_at key_cmp key_test same_tests c.self.inside.last.entries c.args.key.now
    ∙ sym (get-stored key_cmp key_total c.self.inside.last.entries c.args.key.now) ∙ ap (λ m. map.get m c.args.key.now) c.self.view_is
