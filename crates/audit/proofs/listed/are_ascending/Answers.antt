use Rattle.std.proofs.Common.{◌≡◌, rules, subst}
use Rattle.std.specs.Ordering.{is_lt}
use Rattle.std.specs.List.{IsAllAdjacentAnswer}
use Rattle.std.proofs.lemmas.List.Sorted.{answers_always}
use Rattle.gtid_text.specs.Gtids.{gtid_cmp}
use Rattle.audit.proofs.Firsts.{adjacent_rise}
use Rattle.audit.proofs.listed.are_ascending.Goals as goal

pub returns : goal.returns
returns c = λ yes.
    let answer = c.is_sorted_by.ensures.cases (λ a b. is_lt (gtid_cmp a.now.gtid b.now.gtid)) (answers_always _ _ _ (λ f a r g called. search rules)) in
    adjacent_rise (λ e. e.now) c.args.entries.now (subst (IsAllAdjacentAnswer (λ a b r. r ≡ is_lt (gtid_cmp a.now.gtid b.now.gtid)) c.args.entries.now) yes answer)
