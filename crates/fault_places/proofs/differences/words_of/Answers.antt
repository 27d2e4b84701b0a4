use Rattle.std.proofs.Common.{◌≡◌, ℕ, ◌<◌, List, IfOk, map, length, rules, ap, ◌∙◌, subst, arith}
use Rattle.std.specs.Prelude.{◌==◌}
use Rattle.std.specs.List.{slice_split}
use Rattle.std.proofs.lemmas.Bool.Decides.{nat_tests}
use Rattle.std.proofs.lemmas.Iterator.Consumers.{map_from_collect}
use Rattle.std.proofs.lemmas.Iterator.Splits.{YieldsList-from_slice_split}
use Rattle.fault_places.proofs.Worded.{split_words}
use Rattle.fault_places.proofs.differences.words_of.Goals as goal

pub returns : goal.returns
returns c =
    let row = c.args.row.now in
    let some : 0 < length row = grind (arith, nat_tests) in
    subst (λ (ws : List (List ℕ)). IfOk c.collect.result (λ words. map (λ x. x.now) words.items ≡ ws))
    (ap (slice_split (λ b. b == 32)) (c.as_bytes.ensures.value ∙ c.as_str.ensures) ∙ split_words row c.keeps_rules.ensures some)
    (map_from_collect _ c.collect.ensures.ran (YieldsList-from_slice_split _ (λ b. b == 32) c.as_bytes.result.now c.split.ensures.rest c.split.ensures.done c.split.ensures.closure (λ x b q h. search rules)))
