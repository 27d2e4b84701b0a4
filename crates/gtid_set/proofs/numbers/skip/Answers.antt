use Rattle.std.proofs.Common.{drop, ◌∷◌, ap, sym, ◌∙◌}
use Rattle.gtid_set.specs.Numbers.{numbered, all_numbered}
use Rattle.gtid_set.specs.Spans.{is_merged, has}
use Rattle.gtid_set.specs.Sweep.{all_reach}
use Rattle.gtid_set.proofs.SpanLemmas.{skip_over, reach_all, merged_head}
use Rattle.gtid_set.proofs.numbers.skip.Goals as goal

pub loop-first-preserved : goal.loop-first-preserved
loop-first-preserved c =
    let first = numbered c.in-Some.first in
    let more = all_numbered c.advance.new.self in
    let parts = ap all_numbered (c.in-Some.ensures.cases ∙ sym (ap (λ is. c.in-Some.first ∷ is) c.advance.ensures)) in
    let ended = sym c.ends_before.ensures ∙ c.if-not-ends_before.false in
    record {
      merged = (merged_head first more (sym (ap is_merged parts) ∙ c.loop-first.invariant.merged)).tail;
      same = λ q h. sym (skip_over first (numbered c.args.numbers) more q ended h) ∙ sym (ap (λ ss. has ss q) parts) ∙ c.loop-first.invariant.same q h;
    }

pub returns-then-not-ends_before : goal.returns-then-not-ends_before
returns-then-not-ends_before c =
    let parts = ap all_numbered c.in-Some.ensures.cases in
    let first = numbered c.in-Some.first in
    let more = all_numbered (drop 1 c.loop-first.walk) in
    let reaches = sym c.ends_before.ensures ∙ c.if-not-ends_before.true in
    record {
      merged = c.loop-first.invariant.merged;
      reach = ap (all_reach (numbered c.args.numbers)) parts ∙ reach_all first (numbered c.args.numbers) more (sym (ap is_merged parts) ∙ c.loop-first.invariant.merged) reaches;
      same = c.loop-first.invariant.same;
    }
