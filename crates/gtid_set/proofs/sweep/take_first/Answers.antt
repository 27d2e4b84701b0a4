use Rattle.std.proofs.Common.{drop, ◌∷◌, ap, sym, ◌∙◌}
use Rattle.std.specs.List.{list_all}
use Rattle.gtid_set.specs.Sweep.{is_sorted, is_from, start_of}
use Rattle.gtid_set.proofs.SpanLemmas.{takes_left, takes_right, all_later, from_other}
use Rattle.gtid_set.proofs.sweep.take_first.Goals as goal

pub returns-then-starts_by-clause-some : goal.returns-then-starts_by-clause-some
returns-then-starts_by-clause-some c =
    let a = c.in-Some.span in
    let b = c.in-Some-peek.other in
    let by = sym c.starts_by.ensures ∙ c.if-starts_by.true in
    let mine = c.in-Some.ensures.cases ∙ sym (ap (λ ss. a ∷ ss) c.advance-then-starts_by.ensures) in
    let theirs = c.in-Some-peek.ensures.cases in
    takes_left c.args.left.now c.args.right.now a c.advance-then-starts_by.new.self mine c.requires.left c.requires.right
    (ap (list_all (λ t. is_from (start_of a) (start_of t))) theirs
    ∙ all_later (start_of a) b (drop 1 c.args.right.now) by (sym (ap is_sorted theirs) ∙ c.requires.right))

pub returns-clause-some : goal.returns-clause-some
returns-clause-some c =
    let a = c.in-Some.span in
    let b = c.in-Some-peek.other in
    let by = from_other (start_of a) (start_of b) (sym c.starts_by.ensures ∙ c.if-starts_by.false) in
    let mine = c.in-Some.ensures.cases in
    let theirs = c.in-Some-peek.ensures.cases ∙ sym (ap (λ ss. b ∷ ss) c.advance-2.ensures) in
    takes_right c.args.left.now c.args.right.now b c.advance-2.new.self theirs c.requires.left c.requires.right
    (ap (list_all (λ t. is_from (start_of b) (start_of t))) mine
    ∙ all_later (start_of b) a (drop 1 c.args.left.now) by (sym (ap is_sorted mine) ∙ c.requires.left))
