use Rattle.std.proofs.Common.{◌<◌, List, ℕ, Bor, length, subst}
use Rattle.txn_journal.proofs.ShapeWords.{too_few}
use Rattle.txn_journal.proofs.references.words_in.Goals as goal

pub returns-in_default : goal.returns-in_default
returns-in_default c = too_few c.args.limits c.args.text.now c.in_ok-words.words.items c.in_ok-words.ensures (subst (λ (ws : List (Bor (List ℕ))). length ws < 4) c.as_slice.ensures.value c.in_default.len_below)
