use Rattle.std.proofs.Common.{◌≡◌, ◌++◌, map, sym, ap, ◌∙◌, subst}
use Rattle.world.specs.Audit.{all_entries, first_contents}
use Rattle.audit.specs.Gathering.{AreListed, entries_of}
use Rattle.audit.specs.Marks.{owner_of}
use Rattle.audit.proofs.Gatherings.{gathered_agree}
use Rattle.audit.proofs.Listings.{gathered_listed}
use Rattle.audit.proofs.gathering.gather_list.Goals as goal

pub returns-clause-agree : goal.returns-clause-agree
returns-clause-agree c = λ _.
    gathered_agree c.args.opened.now c.args.schema.now c.args.journals.now c.gather_all.new.state.runs.items (owner_of c.gather_all.new.state.owners) (c.in_ok-gather_all.ensures c.if-not-branch.false c.requires.begun)

pub returns-clause-listed : goal.returns-clause-listed
returns-clause-listed c = λ _.
    let gathered = c.in_ok-gather_all.ensures c.if-not-branch.false c.requires.begun in
    let put : map (λ e. e.now) c.push_runs.new.list.items ≡ entries_of c.sort_runs.new.runs.items =
    c.in_ok-push_runs.ensures ∙ ap (λ es. map (λ e. e.now) es ++ entries_of c.deref.result.now) c.requires.empty ∙ ap entries_of c.deref.ensures.value in
    subst (AreListed (first_contents c.args.opened.now (all_entries c.args.journals.now))) (sym put)
    (gathered_listed c.args.opened.now c.args.schema.now c.args.journals.now c.gather_all.new.state.runs.items c.sort_runs.new.runs.items (owner_of c.gather_all.new.state.owners) gathered c.sort_runs.ensures)
