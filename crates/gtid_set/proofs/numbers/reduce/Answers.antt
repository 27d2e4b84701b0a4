use Rattle.std.proofs.Common.{drop, ◌∷◌, ap, sym, ◌∙◌, not, ◌&&◌, ◌||◌}
use Rattle.std.proofs.lemmas.Result.{on_ok_weaker}
use Rattle.std.specs.List.{list_all}
use Rattle.gtid_set.specs.Numbers.{numbered, all_numbered}
use Rattle.gtid_set.specs.Spans.{has, is_merged}
use Rattle.gtid_set.specs.Sweep.{all_before, within}
use Rattle.gtid_set.proofs.CutLemmas.{within_from, more_from, before_later, kept_less, all_before_head}
use Rattle.gtid_set.proofs.SpanLemmas.{nothing, merged_head}
use Rattle.gtid_set.proofs.CombineLemmas.{without_holes}
use Rattle.gtid_set.proofs.numbers.reduce.Goals as goal

pub loop-numbers-init : goal.loop-numbers-init
loop-numbers-init c =
    let none = nothing (all_numbered c.clear.new.self.items) (ap all_numbered c.clear.ensures.items) in
    record {
      left = c.requires.left;
      right = c.requires.right;
      merged = none.merged;
      before = none.before (all_numbered c.args.left);
      has = λ q. ap (λ b. b || (has (all_numbered c.args.left) q && not (has (all_numbered c.args.right) q))) (none.none q);
    }

pub cut-requires-clause-before : goal.cut-requires-clause-before
cut-requires-clause-before c =
    all_before_head (all_numbered c.loop-numbers.out.items) (all_numbered c.loop-numbers.left) (numbered c.in-Some.numbers) (all_numbered (drop 1 c.loop-numbers.left)) (ap all_numbered c.in-Some.ensures.cases) c.loop-numbers.invariant.before

pub cut-requires-clause-filled : goal.cut-requires-clause-filled
cut-requires-clause-filled c =
    (merged_head (numbered c.in-Some.numbers) (all_numbered (drop 1 c.loop-numbers.left)) (sym (ap (λ is. is_merged (all_numbered is)) c.in-Some.ensures.cases) ∙ c.loop-numbers.invariant.left)).filled

pub loop-numbers-preserved : goal.loop-numbers-preserved
loop-numbers-preserved c =
    let span = numbered c.in-Some.numbers in
    let more = all_numbered c.advance.new.self in
    let inv = c.loop-numbers.invariant in
    let parts = ap all_numbered (c.in-Some.ensures.cases ∙ sym (ap (λ is. c.in-Some.numbers ∷ is) c.advance.ensures)) in
    let head = merged_head span more (sym (ap is_merged parts) ∙ inv.left) in
    let skips = c.skip.ensures in
    let made = c.in_ok-cut.ensures in
    let out = all_numbered c.loop-numbers.out.items in
    let new = all_numbered c.cut.new.out.items in
    let right = all_numbered c.loop-numbers.right in
    let rest = all_numbered c.skip.new.walk in
    record {
      left = head.tail;
      right = skips.merged;
      merged = made.merged;
      before = before_later out new span more made.later head.after (sym (ap (list_all (all_before out)) parts) ∙ inv.before);
      has = λ q. kept_less (has out q) (has new q) (within span q) (has more q) (has right q) (has rest q) _ (made.has q)
          (λ w. skips.same q (within_from span q w)) (λ m. skips.same q (more_from span more q head m))
          (ap (λ ss. has out q || (has ss q && not (has right q))) (sym parts) ∙ inv.has q);
    }

pub returns-in_default-peek : goal.returns-in_default-peek
returns-in_default-peek c =
    let inv = c.loop-numbers.invariant in
    on_ok_weaker c.push_all.result
    (λ e. without_holes (all_numbered c.loop-numbers.out.items) (all_numbered c.loop-numbers.left) (all_numbered c.loop-numbers.right) (all_numbered c.skip.new.walk) _ (numbered c.in-Some.numbers) (all_numbered (drop 1 c.loop-numbers.left))
    (λ q. has (all_numbered c.args.left) q && not (has (all_numbered c.args.right) q)) (ap all_numbered c.in-Some.ensures.cases) inv.left inv.merged inv.before c.skip.ensures (ap all_numbered c.in_default-peek.ensures.cases) inv.has e)
    c.push_all.ensures
