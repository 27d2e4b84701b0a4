use Rattle.std.proofs.Common.{◌≤◌, length, take_all, ap, sym, ◌∙◌, arith}
use Rattle.fault_places.specs.HiddenValues.{first_words}
use Rattle.fault_places.proofs.FirstWords.{words_of_front}
use Rattle.fault_places.proofs.hidden_values.words_within.Goals as goal

pub returns-then-text-most : goal.returns-then-text-most
returns-then-text-most c =
    let short : length c.args.text.now ≤ c.args.most = omega (arith, c.if-text-most.true) in
    c.first_words.ensures ∙ ap (first_words c.args.count) (sym (take_all c.args.most c.args.text.now short)) ∙ words_of_front c.args.most c.args.count c.args.text.now

pub returns-else-text-most : goal.returns-else-text-most
returns-else-text-most c = c.first_words-else-text-most.ensures ∙ words_of_front c.args.most c.args.count c.args.text.now
