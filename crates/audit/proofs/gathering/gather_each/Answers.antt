use Rattle.std.proofs.Common.{◌≤◌, ◌++◌, List, length, take, subst, arith}
use Rattle.std.proofs.lemmas.List.{take_all}
use Rattle.audit.specs.Marks.{owner_of}
use Rattle.journal.specs.declared.Entry.{Entry}
use Rattle.audit.specs.Gathering.{IsGathered}
use Rattle.audit.proofs.Gatherings.{entry_more}
use Rattle.audit.proofs.Rising.{get_here}
use Rattle.audit.proofs.gathering.gather_each.Goals as goal

pub loop-entry-preserved : goal.loop-entry-preserved
loop-entry-preserved c = λ es g.
    let at = c.loop-entry.entry-index in
    let xs = c.args.entries.now in
    let e : Entry = c.entry-item.result in
    subst (λ (zs : List Entry). IsGathered c.args.opened.now c.args.schema.now zs c.gather.new.state.runs.items (owner_of c.gather.new.state.owners))
    (entry_more es xs at e (get_here xs at e c.loop-entry-test.true c.entry-item.is))
    (c.in_ok-gather.ensures c.if-not-branch.false (es ++ take at xs) (c.loop-entry.invariant es g))

pub returns : goal.returns
returns c = λ yes es g.
    let end : length c.args.entries.now ≤ c.loop-entry.entry-index = omega (arith, c.loop-entry-test.false, c.loop-entry.auto.entry-index-end) in
    subst (λ (zs : List Entry). IsGathered c.args.opened.now c.args.schema.now (es ++ zs) c.loop-entry.state.runs.items (owner_of c.loop-entry.state.owners))
    (take_all c.loop-entry.entry-index c.args.entries.now end)
    (c.loop-entry.invariant es g)
