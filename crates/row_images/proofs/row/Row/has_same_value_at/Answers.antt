use Rattle.std.proofs.Common.{nat_eq, get_or, ◌∙◌}
use Rattle.std.specs.Cmp.Lexicographic.{pointwise}
use Rattle.row_images.specs.declared.value.Value.TheVariants.{Null}
use Rattle.row_images.proofs.RowLaws.{fits_at, words_same}
use Rattle.row_images.proofs.row.Row.has_same_value_at.Goals as goal

pub returns : goal.returns
returns c =
    c.eq.ensures ∙ (λ i. pointwise nat_eq (c.word_or_null_at.ensures i) (c.word_or_null_at-2.ensures i))
    ∙ words_same (get_or c.args.self.now c.args.column Null) (get_or c.args.other.now c.args.column Null)
    (fits_at c.args.self.now c.args.column c.keeps_rules.ensures) (fits_at c.args.other.now c.args.column c.keeps_rules-2.ensures)
