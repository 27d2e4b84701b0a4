use Rattle.std.proofs.Common.{ℕ, List, subst, Global, string_bytes}
use Rattle.std.specs.Prelude.{Result}
use Rattle.gtid_report.specs.SetAnswers.{Answers}
use Rattle.gtid_report.specs.declared.fault.Fault.{Fault}
use Rattle.gtid_report.proofs.AnswerLemmas.{equal_line, disjoint_line}
use Rattle.gtid_report.proofs.functions.of_two.Goals as goal

pub returns-in-Equal : goal.returns-in-Equal
returns-in-Equal c =
    let P : Result (List ℕ) Fault → Type 0 = λ want. Answers (string_bytes {Z = Global}) c.text_of_test-in-Equal.result want in
    subst P (equal_line c.args.function c.is_equal.result c.args.left.now c.args.right.now c.in-Equal.is c.is_equal.ensures) c.text_of_test-in-Equal.ensures

pub returns-in-Disjoint : goal.returns-in-Disjoint
returns-in-Disjoint c =
    let P : Result (List ℕ) Fault → Type 0 = λ want. Answers (string_bytes {Z = Global}) c.text_of_test-in-Disjoint.result want in
    subst P (disjoint_line c.args.function c.is_disjoint.result c.args.left.now c.args.right.now c.in-Disjoint.is c.is_disjoint.ensures) c.text_of_test-in-Disjoint.ensures
