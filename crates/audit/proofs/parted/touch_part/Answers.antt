use Rattle.std.proofs.Common.{◌≡◌, ◌∷◌, ◌++◌, ◌+◌, [], suc, List, take, take-suc, sym, ap, subst, ◌∙◌, arith}
use Rattle.audit.specs.Marks.{owner_of}
use Rattle.audit.specs.Owned.{OwnsMore}
use Rattle.audit.specs.declared.parted.MarkTouch.{MarkTouch}
use Rattle.audit.proofs.Owning.{owns_more}
use Rattle.audit.proofs.parted.touch_part.Goals as goal

pub loop-touch-preserved : goal.loop-touch-preserved
loop-touch-preserved c =
    let at = c.loop-touch.touch-index in
    let all = c.args.touches.now in
    let touch : MarkTouch = c.touch-item.result in
    let next : at + 1 ≡ suc at = omega arith in
    let more : take (at + 1) all ≡ take at all ++ touch ∷ [] =
    ap (λ n. take n all) next ∙ take-suc all at touch c.loop-touch-test.true ∙ ap (λ (t : MarkTouch). take at all ++ t ∷ []) (sym c.touch-item.is) in
    subst (λ (ts : List MarkTouch). OwnsMore c.args.part (owner_of c.args.owners.now) ts (owner_of c.touch.new.self)) (sym more)
    (owns_more c.args.part (owner_of c.args.owners.now) (owner_of c.loop-touch.owners) (owner_of c.touch.new.self) (take at all) touch c.loop-touch.invariant (c.in_ok-touch.ensures c.if-not-branch.false))
