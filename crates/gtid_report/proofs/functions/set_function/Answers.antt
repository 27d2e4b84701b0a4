use Rattle.std.proofs.Common.{ℕ, List, sym, subst, ◌∙◌, inr, Global, string_bytes}
use Rattle.std.specs.Prelude.{Some, None, Result}
use Rattle.std.specs.Option.{option_map}
use Rattle.gtid_report.specs.SetAnswers.{Answers}
use Rattle.gtid_report.specs.declared.fault.Fault.{Fault}
use Rattle.gtid_report.specs.declared.functions.Function.TheVariants.{One, Two, Source}
use Rattle.gtid_report.proofs.AnswerLemmas.{line_named}
use Rattle.gtid_report.proofs.functions.set_function.Goals as goal

pub returns-in-None : goal.returns-in-None
returns-in-None c = inr (sym (line_named c.args.name.now c.args.a.now (option_map (λ w. w.now) c.args.b) None (sym c.in-None.is ∙ c.function_named.ensures)))

pub returns-in-Some-One : goal.returns-in-Some-One
returns-in-Some-One c =
    let P : Result (List ℕ) Fault → Type 0 = λ want. Answers (string_bytes {Z = Global}) c.one_line.result want in
    let named = (λ i. Some (sym c.in-Some-One.field-0-is i)) ∙ sym c.in-Some-One.is ∙ c.function_named.ensures in
    subst P (line_named c.args.name.now c.args.a.now (option_map (λ w. w.now) c.args.b) (Some (One c.in-Some-One.function)) named) c.one_line.ensures

pub returns-in-Some-Two : goal.returns-in-Some-Two
returns-in-Some-Two c =
    let P : Result (List ℕ) Fault → Type 0 = λ want. Answers (string_bytes {Z = Global}) c.two_line.result want in
    let named = (λ i. Some (sym c.in-Some-Two.field-0-is i)) ∙ sym c.in-Some-Two.is ∙ c.function_named.ensures in
    subst P (line_named c.args.name.now c.args.a.now (option_map (λ w. w.now) c.args.b) (Some (Two c.in-Some-Two.function)) named) c.two_line.ensures

pub returns-in-Some-Source : goal.returns-in-Some-Source
returns-in-Some-Source c =
    let P : Result (List ℕ) Fault → Type 0 = λ want. Answers (string_bytes {Z = Global}) c.source_line.result want in
    let named = (λ i. Some (sym c.in-Some-Source.field-0-is i)) ∙ sym c.in-Some-Source.is ∙ c.function_named.ensures in
    subst P (line_named c.args.name.now c.args.a.now (option_map (λ w. w.now) c.args.b) (Some (Source c.in-Some-Source.function)) named) c.source_line.ensures
