use Rattle.std.proofs.Common.{option_map, sym, ap, ◌∙◌}
use Rattle.row_images.specs.Values.{value_text}
use Rattle.row_images.proofs.RowLaws.{word_is, null_past}
use Rattle.row_images.proofs.row.Row.word_or_null_at.Goals as goal

pub returns-in-Some : goal.returns-in-Some
returns-in-Some c = word_is c.args.self.now c.args.column c.in-Some.word.now (sym (ap (option_map (λ w. w.now)) c.in-Some.is) ∙ c.word_at.ensures)

pub returns-in-None : goal.returns-in-None
returns-in-None c = c.as_slice.ensures ∙ ap value_text (null_past c.args.self.now c.args.column (sym (ap (option_map (λ w. w.now)) c.in-None.is) ∙ c.word_at.ensures))
