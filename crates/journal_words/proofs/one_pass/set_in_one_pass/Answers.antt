use Rattle.std.proofs.Common.{sym, subst}
use Rattle.journal_words.specs.WordPrefix.{Promises}
use Rattle.journal_words.proofs.OnePassLemmas.{promised_first}
use Rattle.journal_words.proofs.one_pass.set_in_one_pass.Goals as goal

pub returns-then-add_all : goal.returns-then-add_all
returns-then-add_all c =
    c.add_all.ensures c.if-add_all.true c.args.word.now
    (subst (λ s. Promises c.args.word.now s c.in-Some.first c.in-Some.rest.now) (sym c.empty-set.ensures) (promised_first c.args.word.now c.in-Some.rest.now c.in-Some.first c.in-Some.ensures))
