use Rattle.std.proofs.Common.{option_map, ap}
use Rattle.row_images.proofs.Passes.{word_next, rest_next}
use Rattle.row_images.proofs.row.next_word.Goals as goal

pub returns-in-Some-clause-word : goal.returns-in-Some-clause-word
returns-in-Some-clause-word c = word_next (option_map (λ t. t.now) c.args.left) c.in-Some.text.now c.cut.result.0.now (ap (option_map (λ t. t.now)) c.in-Some.is) c.cut.ensures.word

pub returns-in-Some-clause-rest : goal.returns-in-Some-clause-rest
returns-in-Some-clause-rest c = rest_next (option_map (λ t. t.now) c.args.left) c.in-Some.text.now (option_map (λ t. t.now) c.cut.result.1) (ap (option_map (λ t. t.now)) c.in-Some.is) c.cut.ensures.rest
