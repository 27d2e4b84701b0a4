use Rattle.std.proofs.Common.{option_map, sym, ap, ◌∙◌}
use Rattle.row_images.proofs.RowLaws.{value_there, null_past}
use Rattle.row_images.proofs.row.Row.value_at.Goals as goal

pub returns-in_ok-value-in-Some : goal.returns-in_ok-value-in-Some
returns-in_ok-value-in-Some c =
    c.unwrap_or.ensures ∙ value_there c.args.self.now c.args.column c.in-Some.word.now c.in_ok-value-in-Some.value c.keeps_rules.ensures (sym (ap (option_map (λ w. w.now)) c.in-Some.is) ∙ c.word_at.ensures) c.in_ok-value-in-Some.ensures

pub returns-in-None : goal.returns-in-None
returns-in-None c = null_past c.args.self.now c.args.column (sym (ap (option_map (λ w. w.now)) c.in-None.is) ∙ c.word_at.ensures)
