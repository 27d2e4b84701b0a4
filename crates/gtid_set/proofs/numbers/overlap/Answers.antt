use Rattle.std.proofs.Common.{subst, sym, ◌&&◌, ◌||◌, ◌≡◌, ap, ◌∙◌, refl, ◌++◌, ◌∷◌, []}
use Rattle.gtid_set.specs.Numbers.{numbered, all_numbered}
use Rattle.gtid_set.specs.Spans.{has, is_merged, is_before}
use Rattle.gtid_set.specs.Sweep.{Meets, all_reach, all_before_common, all_before, within, common_of}
use Rattle.gtid_set.proofs.CutLemmas.{hole_of, common_start, overlap_step, common_filled, common_next, common_first, common_before, overlap_end}
use Rattle.gtid_set.proofs.SpanLemmas.{merged_push, all_push}
use Rattle.gtid_set.proofs.NumberLemmas.{pushed}
use Rattle.gtid_set.proofs.numbers.overlap.Goals as goal

pub loop-other-init : goal.loop-other-init
loop-other-init c =
    let same = ap all_numbered c.again-rest.ensures in
    let t = numbered c.args.numbers in
    let out = all_numbered c.args.out.now.items in
    record {
      rest = ap is_merged same ∙ c.requires.others;
      reach = ap (all_reach t) same ∙ c.requires.reach;
      merged = c.requires.merged;
      before = ap (all_before_common out t) same ∙ common_start out t (all_numbered c.args.others.now) c.requires.before c.requires.reach;
      later = λ u a b. b;
      has = λ q. ap (λ ss. has out q || (within t q && has ss q)) same;
    }

pub loop-other-preserved : goal.loop-other-preserved
loop-other-preserved c =
    let t = numbered c.args.numbers in
    let other = numbered c.in-Some.other in
    let more = all_numbered c.advance.new.self in
    let inv = c.loop-other.invariant in
    let old = all_numbered c.loop-other.out.items in
    let new = all_numbered c.push.new.self.items in
    let rest = all_numbered c.loop-other.rest in
    let h = hole_of rest t other more (subst (λ is. Meets rest t other (all_numbered is)) (sym c.advance.ensures) c.in-Some.ensures.found) inv.rest inv.reach in
    let e : new ≡ old ++ common_of t other ∷ [] =
    pushed c.loop-other.out.items c.push.new.self.items _ c.in_ok-push.ensures.items ∙ (λ i. old ++ (record { source = 0; lo = c.max.ensures i; hi = c.min.ensures i }) ∷ []) in
    record {
      rest = h.head.tail;
      reach = h.reach;
      merged = ap is_merged e ∙ merged_push old (common_of t other) inv.merged (common_first old rest t other more h.parts inv.before) (common_filled rest t other more c.requires.filled h);
      before = common_next old new rest t other more h e inv.before;
      later = λ u b a. ap (λ ss. all_before ss u) e ∙ all_push (λ s. is_before s u) old (common_of t other) (inv.later u b a) (common_before t other u h.met b);
      has = λ q. overlap_step old new rest t other more q h e ∙ inv.has q;
    }

pub returns : goal.returns
returns c =
    let t = numbered c.args.numbers in
    let inv = c.loop-other.invariant in
    record {
      merged = inv.merged;
      later = inv.later;
      has = λ q. overlap_end (has (all_numbered c.loop-other.out.items) q) (within t q) (has (all_numbered c.loop-other.rest) q) _ (c.in_default.ensures.apart refl q) (inv.has q);
    }
