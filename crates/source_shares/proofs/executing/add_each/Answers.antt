use Rattle.std.proofs.Common.{◌≡◌, ◌∷◌, ◌+◌, suc, drop, ap, sym, ◌∙◌, arith}
use Rattle.std.proofs.Math.Seq.{drop-cons}
use Rattle.convergence.specs.Deciding.{all_of}
use Rattle.journal.specs.Journals.{JournalValue, whole}
use Rattle.source_shares.proofs.Unions.{all_more}
use Rattle.source_shares.proofs.executing.add_each.Goals as goal

pub loop-journal-preserved : goal.loop-journal-preserved
loop-journal-preserved c =
    let at = c.loop-journal.journal-index in
    let next : suc at ≡ at + 1 = omega arith in
    let j : JournalValue = c.journal-item.result in
    let left : drop at c.args.journals.now ≡ j ∷ drop (at + 1) c.args.journals.now =
    drop-cons c.args.journals.now at j c.loop-journal-test.true ∙ (λ i. sym c.journal-item.is i ∷ drop (next i) c.args.journals.now) in
    ap (λ s. all_of s (drop (at + 1) c.args.journals.now)) (c.add_journal.ensures c.if-not-add_journal.false)
    ∙ all_more c.loop-journal.known (whole j) (drop (at + 1) c.args.journals.now)
    ∙ ap (all_of c.loop-journal.known) (sym left)
    ∙ c.loop-journal.invariant
