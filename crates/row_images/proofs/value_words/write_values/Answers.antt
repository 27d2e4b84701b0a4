use Rattle.std.proofs.Common.{◌++◌, ◌-◌, List, ℕ, length, take, drop, ap, ◌∙◌}
use Rattle.std.proofs.lemmas.Result.{on_ok_weaker}
use Rattle.std.specs.String.{string_bytes}
use Rattle.row_images.specs.Images.{values_behind}
use Rattle.row_images.proofs.ImageLaws.{values_cut}
use Rattle.row_images.proofs.value_words.write_values.Goals as goal

pub returns : goal.returns
returns c =
    on_ok_weaker c.write_behind.result
    (λ e. e ∙ ap (λ (t : List ℕ). t ++ values_behind (take (length c.args.values.now - 1) (drop 1 c.args.values.now))) c.in_ok-write_value.ensures ∙ values_cut (string_bytes c.args.out.now) c.first-item.result c.args.values.now c.in-len1-up.len_at_least c.first-item.is)
    c.write_behind.ensures
