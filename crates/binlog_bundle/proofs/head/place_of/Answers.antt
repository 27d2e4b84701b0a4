use Rattle.std.proofs.Common.{ℕ, ◌+◌, ◌-◌, ◌^◌, min, refl, sym, ap, ◌∙◌, arith}
use Rattle.binlog_bundle.proofs.Heading.{shorter, skips_one, skips_none, skips_all, skips_end}
use Rattle.binlog_bundle.proofs.head.place_of.Goals as goal

pub returns-then-due-le1 : goal.returns-then-due-le1
returns-then-due-le1 c lines are =
    c.saturating_add.ensures ∙ ap (λ (k : ℕ). min (c.args.n + k) (2 ^ 64 - 1)) (sym (skips_all (c.loop-line.invariant.skipping lines are) c.in-Some.ensures.found (sym c.is_passed.ensures ∙ c.if-is_passed.false) c.if-due-le1.true))

pub loop-line-preserved-then-is_passed : goal.loop-line-preserved-then-is_passed
loop-line-preserved-then-is_passed c = record {
  fits = shorter c.loop-line.skipped c.args.head.now c.loop-line.left.now c.in-Some.line.now c.in-Some.after.now c.loop-line.invariant.fits c.in-Some.ensures.found;
  skipping = λ lines are. skips_one (c.loop-line.invariant.skipping lines are) c.in-Some.ensures.found _ (sym c.is_passed.ensures ∙ c.if-is_passed.true) refl;
}

pub loop-line-preserved : goal.loop-line-preserved
loop-line-preserved c = record {
  fits = omega (arith, shorter c.loop-line.skipped c.args.head.now c.loop-line.left.now c.in-Some.line.now c.in-Some.after.now c.loop-line.invariant.fits c.in-Some.ensures.found);
  skipping = λ lines are. skips_none (c.loop-line.invariant.skipping lines are) c.in-Some.ensures.found _ (sym c.is_passed.ensures ∙ c.if-is_passed.false) c.if-due-le1.false refl;
}

pub returns : goal.returns
returns c lines are =
    c.saturating_add-2.ensures ∙ ap (λ (k : ℕ). min (c.args.n + k) (2 ^ 64 - 1)) (sym (skips_end lines c.args.n c.loop-line.left.now c.loop-line.skipped c.loop-line.due (c.loop-line.invariant.skipping lines are) c.in_default.ensures.none))
