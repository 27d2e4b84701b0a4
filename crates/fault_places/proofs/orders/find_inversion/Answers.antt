use Rattle.std.proofs.Common.{◌≡◌, ◌≤◌, Some, None, refl, take, sym, ◌∙◌, arith}
use Rattle.std.specs.BTreeMap.{get}
use Rattle.gtid_text.specs.Gtids.{gtid_cmp}
use Rattle.fault_places.proofs.Inversions.{inversion_next, none_next, not_after, inversion_none}
use Rattle.fault_places.proofs.orders.find_inversion.Goals as goal

pub loop-i-preserved-in_default : goal.loop-i-preserved-in_default
loop-i-preserved-in_default c =
    let place = get gtid_cmp c.args.places.now in
    let e = c.index-entries-i.result in
    let stands : None ≡ place e.gtid = sym c.in_default.is ∙ c.position_of.ensures in
    record {
      left = inversion_next place c.args.entries.now c.loop-i.i e None _ c.loop-i-test.true c.index-entries-i.is stands refl c.loop-i.invariant.left;
      none = λ p h. none_next place c.args.entries.now c.loop-i.i e None p c.loop-i-test.true c.index-entries-i.is stands refl (c.loop-i.invariant.none p h);
    }

pub loop-i-preserved-then-place-last : goal.loop-i-preserved-then-place-last
loop-i-preserved-then-place-last c =
    let place = get gtid_cmp c.args.places.now in
    let e = c.index-entries-i.result in
    let q = c.in-Some.place in
    let stands : Some q ≡ place e.gtid = sym c.in-Some.is ∙ c.position_of.ensures in
    let above : c.loop-i.last ≤ q = omega (arith, c.if-place-last.true) in
    record {
      left = inversion_next place c.args.entries.now c.loop-i.i e (Some q) _ c.loop-i-test.true c.index-entries-i.is stands
          (inversion_none place (take c.loop-i.i c.args.entries.now) e q (c.loop-i.invariant.none q above)) c.loop-i.invariant.left;
      none = λ p h. none_next place c.args.entries.now c.loop-i.i e (Some q) p c.loop-i-test.true c.index-entries-i.is stands (not_after p q h)
          (c.loop-i.invariant.none p (omega (arith, above, h)));
    }

pub loop-i-preserved : goal.loop-i-preserved
loop-i-preserved c =
    let place = get gtid_cmp c.args.places.now in
    let e = c.index-entries-i.result in
    let q = c.in-Some.place in
    let stands : Some q ≡ place e.gtid = sym c.in-Some.is ∙ c.position_of.ensures in
    record {
      left = inversion_next place c.args.entries.now c.loop-i.i e (Some q) _ c.loop-i-test.true c.index-entries-i.is stands
          (sym c.inversion_at.ensures ∙ c.in_default-inversion_at.is) c.loop-i.invariant.left;
      none = λ p h. none_next place c.args.entries.now c.loop-i.i e (Some q) p c.loop-i-test.true c.index-entries-i.is stands
          (not_after p q (omega (arith, c.if-place-last.false, h))) (c.loop-i.invariant.none p h);
    }
