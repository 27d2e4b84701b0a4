use Rattle.std.proofs.Common.{◌≡◌, ◌+◌, List, length, sym, ap, ◌∙◌, arith}
use Rattle.std.specs.FinMap as map
use Rattle.rows.specs.declared.patch.Seen.{Seen}
use Rattle.rows.specs.Making.{put_back}
use Rattle.rows.specs.Order.{key_cmp}
use Rattle.rows.proofs.Undoing.{put_back_last, one_less}
use Rattle.rows.proofs.making.restore_all.Goals as goal

pub loop-seen-preserved : goal.loop-seen-preserved
loop-seen-preserved c =
    let rest : length c.loop-seen.log.items ≡ length c.pop.new.self.items + 1 = one_less c.loop-seen.log.items c.pop.new.self.items c.in-Some.seen c.in-Some.ensures.items in (
      ap (put_back c.pop.new.self.items) c.restore.ensures.rows
          ∙ sym (put_back_last c.pop.new.self.items c.in-Some.seen (map.from_entries {R = key_cmp} c.loop-seen.carriers.entries))
          ∙ ap (λ (l : List Seen). put_back l (map.from_entries {R = key_cmp} c.loop-seen.carriers.entries)) (sym c.in-Some.ensures.items)
          ∙ c.loop-seen.invariant.0,
      omega (rest, c.loop-seen.invariant.1, c.restore.ensures.spare, arith),
    )
