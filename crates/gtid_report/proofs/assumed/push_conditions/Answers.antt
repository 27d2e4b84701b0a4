use Rattle.std.proofs.Common.{ℕ, List, ◌++◌, ap, ◌∙◌}
use Rattle.std.specs.Prelude.{string_bytes}
use Rattle.gtid_report.specs.Assumed.{with_references}
use Rattle.gtid_report.specs.Joined.{joined, implied}
use Rattle.gtid_report.proofs.AssumedLemmas.{conditions_put}
use Rattle.gtid_report.proofs.assumed.push_conditions.Goals as goal

pub returns : goal.returns
returns c =
    let before = c.cut_at_rows.result.0.now in
    let after = c.cut_at_rows.result.1.now in
    let implies = c.is_implied-is_implied.result in
    let first = c.is_empty-is_first.result in
    let still = c.is_still_first.result in
    c.in_ok-push_joined-2.ensures
    ∙ ap (λ (t : List ℕ). t ++ joined still after) (c.in_ok-join_implied.ensures ∙ ap (λ (t : List ℕ). t ++ joined first (implied implies)) c.in_ok-push_joined.ensures)
    ∙ conditions_put (string_bytes c.args.out.now) c.args.bundle.now implies first still before after c.is_implied-is_implied.ensures c.is_empty-is_first.ensures c.is_still_first.ensures
    (c.cut_at_rows.ensures.whole ∙ c.assumptions.ensures) (c.cut_at_rows.ensures.place ∙ ap with_references c.assumptions.ensures)
