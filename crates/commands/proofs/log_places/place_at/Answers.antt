use Rattle.std.proofs.Common.{ap, ◌∙◌, ◌-◌, arith, rules}
use Rattle.commands.specs.LogPlaces.{place_of, place_from, at_line, after_line}
use Rattle.commands.proofs.LinesPassed.{at_next, at_none, at_last}
use Rattle.commands.proofs.log_places.place_at.Goals as goal

pub returns-in_default : goal.returns-in_default
returns-in_default c = c.at_line.ensures.place ∙ at_none (place_of c.loop-before.place) c.loop-before.before c.loop-before.left.now (omega arith) (search rules) ∙ c.loop-before.invariant.place

pub loop-before-preserved : goal.loop-before-preserved
loop-before-preserved c = record {
  place = ap (λ p. place_from p (c.loop-before.before - 1) c.in-Some.rest.now) (c.after_line-place.ensures.place ∙ ap after_line c.at_line-in-loop-before.ensures.place) ∙ at_next (place_of c.loop-before.place) c.loop-before.before c.loop-before.left.now c.in-Some.line.now c.in-Some.rest.now (omega arith) (search rules) ∙ c.loop-before.invariant.place;
  columns = omega (arith, c.after_line-place.ensures.columns, c.at_line-in-loop-before.ensures.columns, c.loop-before.invariant.columns);
}

pub returns : goal.returns
returns c = c.at_line-2.ensures.place ∙ ap (at_line (place_of c.loop-before.place)) c.first_line.ensures ∙ at_last (place_of c.loop-before.place) c.loop-before.before c.loop-before.left.now (omega arith) ∙ c.loop-before.invariant.place
