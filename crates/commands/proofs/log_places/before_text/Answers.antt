use Rattle.std.proofs.Common.{◌∙◌, arith, rules}
use Rattle.commands.proofs.FoundTexts.{before_found, before_next}
use Rattle.commands.proofs.log_places.before_text.Goals as goal

pub returns-then-begins : goal.returns-then-begins
returns-then-begins c = c.split_at.ensures.front ∙ before_found c.args.text.now c.args.line.now c.loop-i.i (omega arith) (search rules) ∙ c.loop-i.invariant

pub loop-i-preserved : goal.loop-i-preserved
loop-i-preserved c = before_next c.args.text.now c.args.line.now c.loop-i.i (omega arith) (search rules) ∙ c.loop-i.invariant
