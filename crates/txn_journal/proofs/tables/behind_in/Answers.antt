use Rattle.std.proofs.Common.{sym, ap, ◌∙◌}
use Rattle.txn_journal.proofs.NewWords.{Word, texts, pair_step}
use Rattle.txn_journal.proofs.tables.behind_in.Goals as goal
use Rattle.std.proofs.lemmas.List.{map_push}

pub words-preserved : goal.words-preserved
words-preserved c =
    pair_step c.args.limits (texts c.words.uniques.items) _ c.words.left.now _ _ _ (ap texts c.in_ok-push-in-len2-up.ensures.items ∙ map_push (λ (w : Word). w.now) c.words.uniques.items _) c.in-len2-up.len_at_least c.words.invariant (sym c.in_ok-is_unique-in-len2-up.ensures ∙ c.if-not-branch.false)
