use Rattle.std.proofs.Common.{◌∷◌, ◌≡◌, true, ap, sym, ◌∙◌}
use Rattle.std.proofs.lemmas.Bool.Decides.{when_true}
use Rattle.gtid_set.specs.Numbers.{numbered, all_numbered}
use Rattle.gtid_set.specs.Spans.{has, is_merged}
use Rattle.gtid_set.specs.Sweep.{within, IsWithin, IsNotWithin}
use Rattle.gtid_set.proofs.CutLemmas.{within_from, more_from, has_first, has_more, looked}
use Rattle.gtid_set.proofs.SpanLemmas.{merged_head}
use Rattle.gtid_set.proofs.numbers.is_within.Goals as goal

pub loop-numbers-preserved : goal.loop-numbers-preserved
loop-numbers-preserved c =
    let span = numbered c.in-Some.numbers in
    let more = all_numbered c.advance.new.self in
    let left = all_numbered c.loop-numbers.left in
    let rest = all_numbered c.skip.new.walk in
    let inv = c.loop-numbers.invariant in
    let parts = ap all_numbered (c.in-Some.ensures.cases ∙ sym (ap (λ is. c.in-Some.numbers ∷ is) c.advance.ensures)) in
    let head = merged_head span more (sym (ap is_merged parts) ∙ inv.left) in
    let skips = c.skip.ensures in
    let all = when_true (IsWithin (within span) (has rest)) (IsNotWithin (within span) (has rest)) c.if-not-is_covered.false c.is_covered.ensures in
    record {
      left = head.tail;
      right = skips.merged;
      still = λ q m. inv.still q (has_more left span more q parts m);
      same = λ q m. skips.same q (more_from span more q head m) ∙ inv.same q (has_more left span more q parts m);
      done = λ q a m. looked left span more q (has (all_numbered c.args.right) q ≡ true) parts m
          (λ w. sym (inv.same q (has_first left span more q parts w)) ∙ sym (skips.same q (within_from span q w)) ∙ all q w)
          (λ none. inv.done q a none);
    }
