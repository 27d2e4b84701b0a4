use Rattle.std.proofs.Common.{◌≡◌, Bool, rules, subst}
use Rattle.std.specs.Ordering.{is_lt}
use Rattle.std.specs.List.{IsAllAdjacentAnswer}
use Rattle.std.proofs.lemmas.List.Sorted.{answers_always}
use Rattle.gtid_text.specs.Gtids.{gtid_cmp}
use Rattle.journal.specs.declared.Entry.{Entry}
use Rattle.audit.specs.Contents.{IsAscending}
use Rattle.audit.proofs.Firsts.{adjacent_rise, each_itself}
use Rattle.audit.proofs.contents.is_ascending.Goals as goal

abbrev less : Entry → Entry → Bool
less a b = is_lt (gtid_cmp a.gtid b.gtid)

pub returns : goal.returns
returns c = λ yes.
    let answer = c.is_sorted_by.ensures.cases less (answers_always _ _ _ (λ f a r g called. search rules)) in
    subst IsAscending (each_itself c.args.entries.now) (adjacent_rise (λ e. e) c.args.entries.now (subst (IsAllAdjacentAnswer (λ a b r. r ≡ less a b) c.args.entries.now) yes answer))
