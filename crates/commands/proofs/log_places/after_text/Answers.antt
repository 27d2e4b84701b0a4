use Rattle.std.proofs.Common.{sym, ◌∙◌, arith, rules}
use Rattle.commands.proofs.FoundTexts.{after_found, after_next}
use Rattle.commands.proofs.log_places.after_text.Goals as goal

pub returns-in-Some : goal.returns-in-Some
returns-in-Some c = sym (after_found c.args.text.now c.args.line.now c.in-Some.rest.now c.loop-i.i (omega arith) (search rules)) ∙ c.loop-i.invariant

pub loop-i-preserved : goal.loop-i-preserved
loop-i-preserved c = sym (after_next c.args.text.now c.args.line.now c.loop-i.i (omega arith) (search rules)) ∙ c.loop-i.invariant
