use Rattle.std.proofs.Common.{sym, ◌∙◌}
use Rattle.row_images.proofs.FirstValue.{digits_other, digits_odd, digits_even}
use Rattle.row_images.proofs.first_value.digits_len.Goals as goal

pub returns-then-not-ends_at-clause-len : goal.returns-then-not-ends_at-clause-len
returns-then-not-ends_at-clause-len c = digits_other c.args.text.now c.run_end-end.result c.run_end-end.ensures (sym c.ends_at.ensures ∙ c.if-not-ends_at.true)

pub returns-then-end-eq1-clause-len : goal.returns-then-end-eq1-clause-len
returns-then-end-eq1-clause-len c = digits_odd c.args.text.now c.run_end-end.result c.run_end-end.ensures (sym c.ends_at.ensures ∙ c.if-not-ends_at.false) c.if-end-eq1.true

pub returns-clause-len : goal.returns-clause-len
returns-clause-len c = digits_even c.args.text.now c.run_end-end.result c.run_end-end.ensures (sym c.ends_at.ensures ∙ c.if-not-ends_at.false) c.if-end-eq1.false
