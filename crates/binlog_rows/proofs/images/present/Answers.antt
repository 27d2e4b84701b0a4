use Rattle.std.proofs.Common.{◌∙◌, ◌++◌, ◌+◌, ap, drop, sym, arith}
use Rattle.binlog_rows.specs.Images.{present_from}
use Rattle.binlog_rows.proofs.Walks.{present_on, present_not, present_all}
use Rattle.binlog_rows.proofs.images.present.Goals as goal
use Rattle.binlog_rows.proofs.images.present.Goals.{then-is_set+in_ok-push, else-is_set}

pub loop-i-preserved : goal.loop-i-preserved
loop-i-preserved c =
    let behind = present_from c.args.bits.now (c.loop-i.i + 1) (drop (c.loop-i.i + 1) c.args.columns.now) in
    elim c.if-is_set.branch [
      | then-is_set+in_ok-push w ↦
          ap (λ v. v.items ++ behind) w.found-is
          ∙ ap (λ items. items ++ behind) w.in_ok-push.ensures.items
          ∙ present_on c.args.bits.now c.loop-i.i c.args.columns.now _ c.loop-i.found.items (omega arith)
          (sym c.is_set.ensures ∙ w.if-is_set.true)
          ∙ c.loop-i.invariant
      | else-is_set w ↦
          ap (λ v. v.items ++ behind) w.found-is
          ∙ ap (λ columns. c.loop-i.found.items ++ columns)
          (present_not c.args.bits.now c.loop-i.i c.args.columns.now (omega arith) (sym c.is_set.ensures ∙ w.if-is_set.false))
          ∙ c.loop-i.invariant
    ]

pub returns : goal.returns
returns c = present_all c.args.bits.now c.loop-i.i c.args.columns.now c.loop-i.found.items (omega arith) ∙ c.loop-i.invariant
