use Rattle.std.proofs.Common.{ℕ, ◌≤◌, sym, subst, ap, ◌∙◌}
use Rattle.std.specs.List.{list_any}
use Rattle.row_images.specs.Values.{is_longer}
use Rattle.binlog_entries.proofs.LimitLaws.{short_image}
use Rattle.binlog_entries.proofs.limits.image_limit.Goals as goal

pub returns-then-not-has_longer_value : goal.returns-then-not-has_longer_value
returns-then-not-has_longer_value c =
    let some = subst (λ (n : ℕ). 1 ≤ n) c.len.ensures c.if-len-lt1.false in
    let few = subst (λ (n : ℕ). n ≤ 4096) c.len-else-len-lt1.ensures c.if-len-gt4096.false in
    let long = c.has_longer_value.ensures ∙ ap (λ (n : ℕ). list_any (is_longer n) c.args.image.now) c.bytes.ensures in
    sym (short_image c.args.table.now c.args.image.now c.has_longer_value.result some few long c.if-not-has_longer_value.true)
