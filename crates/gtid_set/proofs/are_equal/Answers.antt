use Rattle.std.proofs.Common.{List, subst}
use Rattle.std.specs.Bool.{MatchBool}
use Rattle.std.proofs.lemmas.Bool.Decides.{when_true, when_false}
use Rattle.gtid_text.specs.declared.Span.{Span}
use Rattle.gtid_set.specs.Spans.{has}
use Rattle.gtid_set.specs.Sweep.{IsWithin, IsNotWithin}
use Rattle.gtid_set.proofs.SetSources.{differ_held, equal_held}
use Rattle.gtid_set.proofs.are_equal.Goals as goal

pub returns-then-not-is_within : goal.returns-then-not-is_within
returns-then-not-is_within c =
    let xs = c.args.left.now in
    let ys = c.args.right.now in
    let P : List Span → List Span → Type 0 = λ xs ys. IsNotWithin (has xs) (has ys) in
    let apart = when_false (IsWithin (has c.by_source.result) (has c.by_source-2.result)) (IsNotWithin (has c.by_source.result) (has c.by_source-2.result)) c.if-not-is_within.true c.is_within.ensures in
    (λ h. absurd cc, λ e. absurd (differ_held xs ys (subst (λ zs. P xs zs) c.by_source-2.ensures (subst (λ zs. P zs c.by_source-2.result) c.by_source.ensures apart)) e))

pub returns : goal.returns
returns c =
    let xs = c.args.left.now in
    let ys = c.args.right.now in
    let P : List Span → List Span → Type 0 = λ xs ys. IsWithin (has xs) (has ys) in
    let Q : List Span → List Span → Type 0 = λ ys xs. MatchBool c.is_within-2.result (IsWithin (has ys) (has xs)) (IsNotWithin (has ys) (has xs)) in
    let inside = when_true (IsWithin (has c.by_source.result) (has c.by_source-2.result)) (IsNotWithin (has c.by_source.result) (has c.by_source-2.result)) c.if-not-is_within.false c.is_within.ensures in
    equal_held c.is_within-2.result xs ys (subst (λ zs. P xs zs) c.by_source-2.ensures (subst (λ zs. P zs c.by_source-2.result) c.by_source.ensures inside))
    (subst (λ zs. Q ys zs) c.by_source-4.ensures (subst (λ zs. Q zs c.by_source-4.result) c.by_source-3.ensures c.is_within-2.ensures))
