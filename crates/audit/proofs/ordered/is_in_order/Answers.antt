use Rattle.std.proofs.Common.{◌≡◌, ◌+◌, Some, take, sym, subst, arith}
use Rattle.std.specs.Prelude.{slice_get}
use Rattle.journal.specs.declared.Entry.{Entry}
use Rattle.audit.specs.Ordered.{AreBelow}
use Rattle.audit.proofs.Rising.{get_here, tops_stay, entry_below, next_below, so_far_more}
use Rattle.audit.proofs.ordered.is_in_order.Goals as goal
use Rattle.std.proofs.lemmas.Option.{slice_get_within}

pub loop-entry-preserved : goal.loop-entry-preserved
loop-entry-preserved c =
    let at = c.loop-entry.entry-index in
    let es = c.args.entries.now in
    let opened = c.args.opened.now in
    let e : Entry = c.entry-item.result in
    let here : slice_get es at ≡ Some e = get_here es at e c.loop-entry-test.true c.entry-item.is in
    let i = c.loop-entry.invariant in
    let before = c.in_ok-before.before in
    let source = c.in_ok-before.ensures.source in
    let up = c.in-Some.ensures in
    let below = c.in_ok-before.ensures.below (take at es) i.tops i.below in
    let kept = c.in_ok-before.ensures.kept (take at es) i.tops i.below in
    let below_top = subst (λ s. AreBelow opened (take at es) s (before.number + 1)) (sym source) below in
    record {
      tops = tops_stay opened es at e here c.turn_to.new.tops.entries kept;
      below = next_below opened es at e here before c.in-Some.next source up below_top;
      so_far = so_far_more opened es at e here i.so_far (entry_below opened es at e here before c.in-Some.next source up below_top);
    }

pub returns : goal.returns
returns c = λ _ place e here.
    c.loop-entry.invariant.so_far place e (omega (arith, slice_get_within c.args.entries.now place e here, c.loop-entry-test.false, c.loop-entry.auto.entry-index-end)) here
