use Rattle.std.proofs.Common.{◌≡◌, ℕ, List, IfOk, map, rules, subst}
use Rattle.std.specs.Prelude.{◌==◌}
use Rattle.std.proofs.lemmas.Iterator.Consumers.{map_from_collect}
use Rattle.std.proofs.lemmas.Iterator.Splits.{YieldsList-from_slice_split}
use Rattle.audit.proofs.Worded.{split_words}
use Rattle.audit.proofs.row_words.list_words.Goals as goal

pub returns : goal.returns
returns c =
    subst (λ (ws : List (List ℕ)). IfOk c.collect.result (λ list. map (λ w. w.now) list.items ≡ ws)) (split_words c.args.text.now)
    (map_from_collect _ c.collect.ensures.ran (YieldsList-from_slice_split _ (λ b. b == 32) c.args.text.now c.split.ensures.rest c.split.ensures.done c.split.ensures.closure (λ x b q h. search rules)))
