use Rattle.std.proofs.Common.{◌≡◌, ◌+◌, List, length, sym, ap, ◌∙◌, arith}
use Rattle.rows.specs.declared.steps.EntryStep.{EntryStep}
use Rattle.rows.specs.Steps.{all_undone}
use Rattle.rows.proofs.StepLemmas.{all_undone_last, one_fewer}
use Rattle.rows.proofs.steps.take_all_back.Goals as goal

pub loop-step-preserved : goal.loop-step-preserved
loop-step-preserved c =
    let rest : length c.loop-step.log.items ≡ length c.pop.new.self.items + 1 = one_fewer c.loop-step.log.items c.pop.new.self.items c.in-Some.step c.in-Some.ensures.items in (
      ap (all_undone c.pop.new.self.items) c.take_back.ensures.entries
          ∙ sym (all_undone_last c.pop.new.self.items c.in-Some.step c.loop-step.carriers.entries)
          ∙ ap (λ (l : List EntryStep). all_undone l c.loop-step.carriers.entries) (sym c.in-Some.ensures.items)
          ∙ c.loop-step.invariant.0,
      omega (rest, c.loop-step.invariant.1, c.take_back.ensures.spare, arith),
    )
