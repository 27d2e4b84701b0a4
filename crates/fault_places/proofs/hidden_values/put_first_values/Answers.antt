use Rattle.std.proofs.Common.{ℕ, ◌+◌, ◌-◌, List, length, ◌++◌, refl, ap, ◌∙◌}
use Rattle.std.specs.Prelude.{flat_map}
use Rattle.std.proofs.lemmas.Result.{on_ok_weaker}
use Rattle.fault_places.specs.Lines.{shown_byte}
use Rattle.fault_places.specs.HiddenValues.{first_words, second_values, first_values}
use Rattle.fault_places.proofs.FirstWords.{in_parts}
use Rattle.fault_places.proofs.hidden_values.put_first_values.Goals as goal

pub returns : goal.returns
returns c =
    let count = c.args.count in
    let line = c.args.line.now in
    on_ok_weaker c.put_second_values.result
    (in_parts shown_byte 120 _ (first_words (2 + count) line) (second_values count line) (first_values count line) _ _ _ refl
    (c.saturating_sub.ensures ∙ ap (λ (t : List ℕ). 120 - length t) c.words_within-first.ensures)
    (c.in_ok-put_bytes.ensures ∙ ap (λ (t : List ℕ). c.args.out.now.items ++ flat_map shown_byte t) c.words_within-first.ensures))
    c.put_second_values.ensures
