use Rattle.std.proofs.Common.{nat_eq, option_map, sym, ap, ◌∙◌}
use Rattle.std.specs.Cmp.Lexicographic.{pointwise}
use Rattle.row_images.specs.Values.{is_null}
use Rattle.row_images.proofs.RowLaws.{null_there, null_past}
use Rattle.row_images.proofs.row.Row.is_null_at.Goals as goal

pub returns-in-Some : goal.returns-in-Some
returns-in-Some c =
    c.eq.ensures ∙ ap (λ w. pointwise nat_eq c.in-Some.word.now w) c.as_slice.ensures
    ∙ null_there c.args.self.now c.args.column c.in-Some.word.now c.keeps_rules.ensures (sym (ap (option_map (λ w. w.now)) c.in-Some.is) ∙ c.word_at.ensures)

pub returns-in-None : goal.returns-in-None
returns-in-None c = ap is_null (null_past c.args.self.now c.args.column (sym (ap (option_map (λ w. w.now)) c.in-None.is) ∙ c.word_at.ensures))
