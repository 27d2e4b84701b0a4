use Rattle.std.proofs.Common.{◌≡◌, ◌∷◌, ◌++◌, ◌+◌, [], suc, List, take, take-suc, sym, ap, subst, ◌∙◌, arith}
use Rattle.std.specs.Global.{Vec}
use Rattle.std.specs.List.{AllByRecursion}
use Rattle.std.proofs.lemmas.List.{take_all}
use Rattle.audit.specs.Marks.{owner_of}
use Rattle.audit.specs.Owned.{IsOwnIn, OwnsMore, touches_in_lists}
use Rattle.audit.specs.declared.parted.MarkTouch.{MarkTouch}
use Rattle.audit.proofs.Owning.{list_owns}
use Rattle.audit.proofs.parted.are_own.Goals as goal

pub loop-list-preserved : goal.loop-list-preserved
loop-list-preserved c =
    let at = c.loop-list.list-index in
    let all = c.args.lists.now in
    let list : Vec MarkTouch = c.list-item.result in
    let part = c.args.part in
    let next : at + 1 ≡ suc at = omega arith in
    let more : take (at + 1) all ≡ take at all ++ list ∷ [] =
    ap (λ n. take n all) next ∙ take-suc all at list c.loop-list-test.true ∙ ap (λ (l : Vec MarkTouch). take at all ++ l ∷ []) (sym c.list-item.is) in
    let owned = subst (λ (ts : List MarkTouch). OwnsMore part (owner_of c.loop-list.owners) ts (owner_of c.touch_part.new.owners)) c.deref.ensures.value (c.in_ok-touch_part.ensures c.if-not-branch.false) in
    subst (λ (ls : List (Vec MarkTouch)). AllByRecursion (IsOwnIn part (owner_of c.touch_part.new.owners)) (touches_in_lists ls)) (sym more)
    (list_owns part (owner_of c.loop-list.owners) (owner_of c.touch_part.new.owners) (take at all) list c.loop-list.invariant owned)

pub returns : goal.returns
returns c = λ yes.
    let all = c.args.lists.now in
    let whole : take c.loop-list.list-index all ≡ all = take_all c.loop-list.list-index all (omega (arith, c.loop-list-test.false)) in
    record {
      owner = owner_of c.loop-list.owners;
      own = subst (λ (ls : List (Vec MarkTouch)). AllByRecursion (IsOwnIn c.args.part (owner_of c.loop-list.owners)) (touches_in_lists ls)) whole c.loop-list.invariant;
    }
