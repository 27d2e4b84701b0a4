use Rattle.std.proofs.Common.{drop, ◌∷◌, ap, sym, ◌∙◌}
use Rattle.std.specs.List.{list_all}
use Rattle.gtid_set.specs.Numbers.{numbered, all_numbered}
use Rattle.gtid_set.specs.Sweep.{is_sorted, is_from, start_of}
use Rattle.gtid_set.proofs.SpanLemmas.{takes_left, takes_right, all_later, from_other}
use Rattle.gtid_set.proofs.numbers.take_first.Goals as goal

pub returns-then-starts_by-clause-some : goal.returns-then-starts_by-clause-some
returns-then-starts_by-clause-some c =
    let a = numbered c.in-Some.numbers in
    let b = numbered c.in-Some-peek.other in
    let by = sym c.starts_by.ensures ∙ c.if-starts_by.true in
    let mine = ap all_numbered (c.in-Some.ensures.cases ∙ sym (ap (λ is. c.in-Some.numbers ∷ is) c.advance-then-starts_by.ensures)) in
    let theirs = ap all_numbered c.in-Some-peek.ensures.cases in
    takes_left (all_numbered c.args.left.now) (all_numbered c.args.right.now) a (all_numbered c.advance-then-starts_by.new.self) mine c.requires.left c.requires.right
    (ap (list_all (λ t. is_from (start_of a) (start_of t))) theirs
    ∙ all_later (start_of a) b (all_numbered (drop 1 c.args.right.now)) by (sym (ap is_sorted theirs) ∙ c.requires.right))

pub returns-clause-some : goal.returns-clause-some
returns-clause-some c =
    let a = numbered c.in-Some.numbers in
    let b = numbered c.in-Some-peek.other in
    let by = from_other (start_of a) (start_of b) (sym c.starts_by.ensures ∙ c.if-starts_by.false) in
    let mine = ap all_numbered c.in-Some.ensures.cases in
    let theirs = ap all_numbered (c.in-Some-peek.ensures.cases ∙ sym (ap (λ is. c.in-Some-peek.other ∷ is) c.advance-2.ensures)) in
    takes_right (all_numbered c.args.left.now) (all_numbered c.args.right.now) b (all_numbered c.advance-2.new.self) theirs c.requires.left c.requires.right
    (ap (list_all (λ t. is_from (start_of b) (start_of t))) mine
    ∙ all_later (start_of b) a (all_numbered (drop 1 c.args.left.now)) by (sym (ap is_sorted mine) ∙ c.requires.left))
