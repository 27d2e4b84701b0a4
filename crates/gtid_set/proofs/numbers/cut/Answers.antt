use Rattle.std.proofs.Common.{not, ◌&&◌, ◌||◌, subst, sym, drop, ap, ◌∙◌, refl, arith}
use Rattle.gtid_set.specs.Numbers.{numbered, all_numbered}
use Rattle.gtid_set.specs.Spans.{has, is_merged, is_before}
use Rattle.gtid_set.specs.Sweep.{Meets, all_reach, within, all_before}
use Rattle.gtid_set.proofs.CutLemmas.{hole_of, cut_step, cut_end, cut_rest, behind_reach, behind_before, front_before, full_before}
use Rattle.gtid_set.proofs.SpanLemmas.{merged_push, all_push}
use Rattle.gtid_set.proofs.NumberLemmas.{pushed}
use Rattle.gtid_set.proofs.numbers.cut.Goals as goal

pub returns-then-numbers-hole : goal.returns-then-numbers-hole
returns-then-numbers-hole c =
    let t = numbered c.loop-hole.left in
    let hole = numbered c.in-Some.hole in
    let inv = c.loop-hole.invariant in
    let adds = c.in_ok-push_front.ensures in
    let rest = all_numbered c.loop-hole.rest in
    let h = hole_of rest t hole (all_numbered (drop 1 c.loop-hole.rest)) c.in-Some.ensures.found inv.rest inv.reach in
    record {
      merged = adds.merged;
      later = λ u b a. adds.later u (λ lt. front_before (numbered c.args.numbers) t hole u refl inv.hi h.met lt b) (inv.later u b a);
      has = λ q. cut_end (all_numbered c.loop-hole.out.items) (all_numbered c.push_front.new.out.items) rest t hole (all_numbered (drop 1 c.loop-hole.rest)) q h adds (omega arith) ∙ inv.has q;
    }

pub loop-hole-preserved : goal.loop-hole-preserved
loop-hole-preserved c =
    let t = numbered c.loop-hole.left in
    let hole = numbered c.in-Some.hole in
    let more = all_numbered c.advance.new.self in
    let inv = c.loop-hole.invariant in
    let adds = c.in_ok-push_front.ensures in
    let old = all_numbered c.loop-hole.out.items in
    let new = all_numbered c.push_front.new.out.items in
    let rest = all_numbered c.loop-hole.rest in
    let h = hole_of rest t hole more (subst (λ is. Meets rest t hole (all_numbered is)) (sym c.advance.ensures) c.in-Some.ensures.found) inv.rest inv.reach in
    record {
      rest = h.head.tail;
      reach = behind_reach rest t hole more h;
      hi = inv.hi;
      filled = omega arith;
      merged = adds.merged;
      before = behind_before old new rest t hole more h adds inv.before;
      later = λ u b a. adds.later u (λ lt. front_before (numbered c.args.numbers) t hole u refl inv.hi h.met lt b) (inv.later u b a);
      has = λ q. cut_step old new rest t hole more q h adds (omega arith) ∙ inv.has q;
    }

pub returns : goal.returns
returns c =
    let t = numbered c.loop-hole.left in
    let inv = c.loop-hole.invariant in
    let old = all_numbered c.loop-hole.out.items in
    let new = all_numbered c.push.new.self.items in
    let e = pushed c.loop-hole.out.items c.push.new.self.items c.loop-hole.left c.in_ok-push.ensures.items in
    record {
      merged = ap is_merged e ∙ merged_push old t inv.merged inv.before inv.filled;
      later = λ u b a. ap (λ ss. all_before ss u) e ∙ all_push (λ s. is_before s u) old t (inv.later u b a) (full_before (numbered c.args.numbers) t u refl inv.hi b);
      has = λ q. cut_rest old new (all_numbered c.loop-hole.rest) t q e (c.in_default.ensures.apart refl) ∙ inv.has q;
    }

pub loop-hole-init : goal.loop-hole-init
loop-hole-init c =
    let same = ap all_numbered (sym c.again-rest.ensures) in
    record {
      rest = ap is_merged (sym same) ∙ c.requires.holes;
      reach = ap (all_reach (numbered c.args.numbers)) (sym same) ∙ c.requires.reach;
      hi = refl;
      filled = c.requires.filled;
      merged = c.requires.merged;
      before = c.requires.before;
      later = λ u b a. a;
      has = λ q. ap (λ ss. has (all_numbered c.args.out.now.items) q || (within (numbered c.args.numbers) q && not (has ss q))) (sym same);
    }
