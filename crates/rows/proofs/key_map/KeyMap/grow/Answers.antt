use Rattle.std.proofs.Common.{sym, ap, ◌∙◌}
use Rattle.rows.specs.Patch.{grow_by}
use Rattle.rows.proofs.Patching.{grown_next}
use Rattle.rows.proofs.key_map.KeyMap.grow.Goals as goal

pub loop-touch-preserved : goal.loop-touch-preserved
loop-touch-preserved c =
    let t = c.touch-item.result in
    c.in_ok-grow_one.ensures.ok ∙ ap (grow_by t.before t.key t.after) c.loop-touch.invariant
    ∙ sym (grown_next c.loop-touch.touch-index c.args.patch.now t c.args.self.now c.loop-touch-test.true c.touch-item.is)
