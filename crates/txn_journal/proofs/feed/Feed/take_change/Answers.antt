use Rattle.std.proofs.Common.{◌++◌, ℕ, List, refl, sym, ap, subst, ◌∙◌}
use Rattle.gtid_set.specs.declared.fault.SetFault.TheVariants.{PoolFull, SourcesFull}
use Rattle.gtid_set.specs.Full.{IsMemoryOr}
use Rattle.txn_journal.specs.Stream.{GivesFull}
use Rattle.txn_journal.proofs.Pieces.{line_ok, line_wrong, line_fault}
use Rattle.txn_journal.proofs.feed.Feed.take_change.Goals as goal

pub returns-in-Ok-clause-next : goal.returns-in-Ok-clause-next
returns-in-Ok-clause-next g c =
    let f = c.args.self.now in
    line_ok g.T.TakeLine.judge f.stopped f.stopped f.made c.take_change.new.self f.lines c.saturating_add-number.result f.rest.items f.rest.items c.args.line.now
    c.requires.goes refl c.requires.whole (ap (λ (r : List ℕ). g.T.TakeLine.judge f.made (r ++ c.args.line.now)) c.requires.first ∙ c.in-Ok.ensures) c.requires.first c.saturating_add-number.ensures

pub returns-in-Err-Wrong-clause-next : goal.returns-in-Err-Wrong-clause-next
returns-in-Err-Wrong-clause-next g c =
    let f = c.args.self.now in
    line_wrong g.T.TakeLine.judge f.stopped f.made f.lines c.saturating_add-number.result f.rest.items c.args.line.now c.in-Err-Wrong.cause
    c.requires.goes c.requires.whole (ap (λ (r : List ℕ). g.T.TakeLine.judge f.made (r ++ c.args.line.now)) c.requires.first ∙ rw c.in-Err-Wrong.field-0-is at c.in-Err-Wrong.ensures) c.saturating_add-number.ensures

pub returns-in-Err-Set-clause-next : goal.returns-in-Err-Set-clause-next
returns-in-Err-Set-clause-next g c =
    let f = c.args.self.now in
    line_fault g.T.TakeLine.full g.T.TakeLine.judge c.in-Err-Set.fault f.stopped f.made f.lines f.rest.items c.args.line.now c.requires.goes c.requires.whole
    (subst (λ (r : List ℕ). IsMemoryOr (GivesFull (g.T.TakeLine.full SourcesFull) (g.T.TakeLine.judge f.made (r ++ c.args.line.now))) (GivesFull (g.T.TakeLine.full PoolFull) (g.T.TakeLine.judge f.made (r ++ c.args.line.now))) c.in-Err-Set.fault)
    (sym c.requires.first) (rw c.in-Err-Set.field-0-is at c.in-Err-Set.ensures))
