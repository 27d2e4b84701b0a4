use Rattle.std.proofs.Common.{◌≡◌, suc, ◌+◌, ◌-◌, ◌<◌, ◌≤◌, ◌++◌, ◌∷◌, take, length, get_or, sym, ap, ◌∙◌, arith}
use Rattle.std.proofs.lemmas.Bool.{eqb-true}
use Rattle.std.proofs.lemmas.List.{take_rest}
use Rattle.txn_journal.proofs.ImageParts.{AtBar, around_text, bar_nowhere, bar_at, three_there}
use Rattle.txn_journal.proofs.images.around_bar.Goals as goal
use Rattle.txn_journal.proofs.images.around_bar.Goals.{then-at-lt1-via-then-at-lt1, then-at-lt1-via-else-at-lt1+then-at-text, then-at-lt1-via-else-at-lt1+else-at-text+then-text-at-ne32, then-at-lt1-via-else-at-lt1+else-at-text+else-text-at-ne32+then-text-at-ne32-2}

pub returns-in_default-clause-none : goal.returns-in_default-clause-none
returns-in_default-clause-none c before after around = bar_nowhere c.args.text.now before after (λ k lt h. c.in_default.ensures k (omega arith) lt h) around

pub returns-then-at-lt1-clause-none : goal.returns-then-at-lt1-clause-none
returns-then-at-lt1-clause-none c before after around =
    let at : AtBar c.in-Some.at c.args.text.now = around_text c.in-Some.at c.args.text.now before after around (λ k lt h. c.in-Some.ensures.0.before k (omega arith) lt h) c.in-Some.ensures.1 in
    let next : c.in-Some.at + 1 ≡ suc c.in-Some.at = omega arith in
    elim c.then-at-lt1.branch [
      | then-at-lt1-via-then-at-lt1 w ↦ omega (arith, at.some, w.if-at-lt1.true)
      | then-at-lt1-via-else-at-lt1+then-at-text w ↦ omega (arith, at.more, w.if-at-text.true)
      | then-at-lt1-via-else-at-lt1+else-at-text+then-text-at-ne32 w ↦ w.if-text-at-ne32.true (at.left (c.in-Some.at - 1) (omega (arith, w.if-at-lt1.false)))
      | then-at-lt1-via-else-at-lt1+else-at-text+else-text-at-ne32+then-text-at-ne32-2 w ↦ w.if-text-at-ne32-2.true (ap (λ k. get_or c.args.text.now k 0) next ∙ at.right)
    ]

pub returns-clause-some : goal.returns-clause-some
returns-clause-some c =
    let n = c.in-Some.at in
    let t = c.args.text.now in
    let inside : n < length t = c.in-Some.ensures.0.high in
    let some : 1 ≤ n = omega (arith, c.if-at-lt1.false) in
    let more : n + 1 < length t = omega (arith, c.if-at-text.false) in
    record {
      parts = three_there n t some more c.if-text-at-ne32.false (eqb-true _ 124 c.in-Some.ensures.1) c.if-text-at-ne32-2.false ∙ ap (λ r. take (n - 1) t ++ 32 ∷ (124 ∷ 32 ∷ r)) (sym (take_rest t (n + 2)));
      first = bar_at (n - 1) t (omega (arith, inside)) (λ k lt h. c.in-Some.ensures.0.before k (omega arith) (omega (arith, lt)) h);
    }
