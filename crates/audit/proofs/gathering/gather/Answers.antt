use Rattle.std.proofs.Common.{sym, ◌∙◌}
use Rattle.std.proofs.lemmas.Result.{IfOk-weaker}
use Rattle.audit.specs.Marks.{owner_of}
use Rattle.audit.proofs.Gatherings.{gathered_kept, gathered_opened}
use Rattle.audit.proofs.gathering.gather.Goals as goal

pub returns-then-contains : goal.returns-then-contains
returns-then-contains c = λ yes es g.
    gathered_opened c.args.opened.now c.args.schema.now es (owner_of c.args.state.now.owners) c.args.entry.now c.args.state.now.runs.items g (sym c.contains.ensures ∙ c.if-contains.true)

pub returns-in-Some : goal.returns-in-Some
returns-in-Some c =
    IfOk-weaker c.gather_new.result _ _
    (λ own gathers yes es g. gathers yes c.args.opened.now es (sym c.contains.ensures ∙ c.if-contains.false)
    (gathered_kept c.args.opened.now c.args.schema.now es (owner_of c.args.state.now.owners) c.args.entry.now c.args.state.now.runs.items c.run_of.new.runs.items c.in_ok-place.ensures.kept g))
    c.gather_new.ensures
