use Rattle.std.proofs.Common.{drop, ◌∷◌, ◌≡◌, false, max, ap, sym, ◌∙◌, refl}
use Rattle.gtid_set.specs.Sets.{gtid}
use Rattle.gtid_set.specs.Numbers.{numbered, all_numbered}
use Rattle.gtid_set.specs.Spans.{has, is_merged}
use Rattle.gtid_set.proofs.CutLemmas.{within_from, more_from, has_first, has_more, looked, hole_of, common_gtid}
use Rattle.gtid_set.proofs.SpanLemmas.{merged_head}
use Rattle.gtid_set.proofs.numbers.are_apart.Goals as goal

pub loop-numbers-preserved : goal.loop-numbers-preserved
loop-numbers-preserved c =
    let span = numbered c.in-Some.numbers in
    let more = all_numbered c.advance.new.self in
    let left = all_numbered c.loop-numbers.left in
    let rest = all_numbered c.skip.new.walk in
    let inv = c.loop-numbers.invariant in
    let parts = ap all_numbered (c.in-Some.ensures.cases ∙ sym (ap (λ is. c.in-Some.numbers ∷ is) c.advance.ensures)) in
    let head = merged_head span more (sym (ap is_merged parts) ∙ inv.left) in
    let skips = c.skip.ensures in
    record {
      left = head.tail;
      right = skips.merged;
      still = λ q m. inv.still q (has_more left span more q parts m);
      same = λ q m. skips.same q (more_from span more q head m) ∙ inv.same q (has_more left span more q parts m);
      done = λ q a m. looked left span more q (has (all_numbered c.args.right) q ≡ false) parts m
          (λ w. sym (inv.same q (has_first left span more q parts w)) ∙ sym (skips.same q (within_from span q w)) ∙ c.in_default-first_overlapping.ensures.apart refl q w)
          (λ none. inv.done q a none);
    }

pub returns-in-Some-first_overlapping : goal.returns-in-Some-first_overlapping
returns-in-Some-first_overlapping c =
    let span = numbered c.in-Some.numbers in
    let more = all_numbered (drop 1 c.loop-numbers.left) in
    let left = all_numbered c.loop-numbers.left in
    let rest = all_numbered c.skip.new.walk in
    let inv = c.loop-numbers.invariant in
    let parts = ap all_numbered c.in-Some.ensures.cases in
    let head = merged_head span more (sym (ap is_merged parts) ∙ inv.left) in
    let skips = c.skip.ensures in
    let other = numbered c.in-Some-first_overlapping._other in
    let h = hole_of rest span other (all_numbered (drop 1 c.skip.new.walk)) c.in-Some-first_overlapping.ensures.found skips.merged skips.reach in
    let g = common_gtid span other head.filled h.head.filled h.met h.reached in
    let q = gtid span.source (max span.lo other.lo) in (
      q,
      inv.still q (has_first left span more q parts g.0),
      sym (inv.same q (has_first left span more q parts g.0)) ∙ sym (skips.same q (within_from span q g.0)) ∙ has_first rest other (all_numbered (drop 1 c.skip.new.walk)) q h.parts g.1,
    )
