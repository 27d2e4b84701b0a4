use Rattle.std.proofs.Common.{sym, ◌∙◌}
use Rattle.txn_journal.proofs.NewWords.{new_refused, new_next}
use Rattle.txn_journal.proofs.tables.are_new.Goals as goal
use Rattle.std.proofs.lemmas.Bool.{not-true, not-false}

pub returns-then-not-branch : goal.returns-then-not-branch
returns-then-not-branch c =
    new_refused c.loop-word.seen.keys c.args.words.now c.loop-word.word-index _ _ c.loop-word-test.true c.loop-word.invariant (not-false _ (sym c.in_ok-insert.ensures.added ∙ c.if-not-branch.true))

pub loop-word-preserved : goal.loop-word-preserved
loop-word-preserved c =
    new_next c.loop-word.seen.keys c.args.words.now c.insert.new.self.keys c.loop-word.word-index _ _ c.loop-word-test.true c.loop-word.invariant (not-true _ (sym c.in_ok-insert.ensures.added ∙ c.if-not-branch.false)) c.in_ok-insert.ensures.keys
