use Rattle.std.proofs.Common.{◌++◌, ◌∷◌, [], List, sym, ap, ◌∙◌, subst}
use Rattle.audit.specs.Gathering.{AreRuns, HasNoRun, Run}
use Rattle.audit.proofs.Gatherings.{run_begun}
use Rattle.audit.proofs.gathering.run_of.Goals as goal

pub returns-clause-kept : goal.returns-clause-kept
returns-clause-kept c = λ contents are.
    let no : HasNoRun c.args.runs.now.items c.args.source = subst (λ (rs : List Run). HasNoRun rs c.args.source) c.deref.ensures.value (c.place_near.ensures.none c.in_default.is) in
    subst (AreRuns contents) (sym (c.in_ok-push.ensures.items ∙ ap (λ (r : Run). c.args.runs.now.items ++ r ∷ []) c.begin.ensures)) (run_begun contents c.args.runs.now.items are c.args.source no)
