use Rattle.std.proofs.Common.{sym, ◌∙◌}
use Rattle.txn_journal.specs.Feeds.{progress}
use Rattle.txn_journal.proofs.FirstLines.{first_taken, first_there}
use Rattle.txn_journal.proofs.Pieces.{behind_line, line_fails, line_taken, rest_kept}
use Rattle.txn_journal.proofs.feed.Feed.take_piece.Goals as goal

pub returns-in-Err-clause-next : goal.returns-in-Err-clause-next
returns-in-Err-clause-next g c =
    line_fails g.T.TakeLine.full g.T.TakeLine.judge c.in-Err.fault _ (progress c.lines.self) (progress c.take_next.new.self) (progress c.take_next.new.self) _ c.lines.left.now c.in-Some.line.now c.in-Some.after.now c.in-Some.ensures.found.parts c.in-Err.ensures.next c.lines.invariant.so_far c.lines.invariant.may

pub lines-preserved : goal.lines-preserved
lines-preserved g c = record {
  goes = c.take_next.ensures.goes;
  may = λ f h. c.lines.invariant.may f (behind_line g.T.TakeLine.full g.T.TakeLine.judge f (progress c.lines.self) (progress c.take_next.new.self) c.lines.left.now c.in-Some.line.now c.in-Some.after.now c.in-Some.ensures.found.parts c.in-Ok.ensures.next h);
  so_far = line_taken g.T.TakeLine.judge (progress c.lines.self) (progress c.take_next.new.self) _ c.lines.left.now c.in-Some.line.now c.in-Some.after.now c.in-Some.ensures.found.parts c.in-Ok.ensures.next c.lines.invariant.so_far;
  first = λ s n line after start counts at many.
      absurd (
      let refused = first_taken g.T.TakeLine.counts g.T.TakeLine.full g.T.TakeLine.judge c.lines.self.stopped c.lines.self.made c.lines.self.lines c.lines.self.rest.items (progress c.args.self.now) c.args.piece.now c.lines.left.now c.in-Some.line.now c.in-Some.after.now c.take_next.result
      c.lines.invariant.goes c.lines.invariant.first c.in-Some.ensures.found c.take_next.ensures.room s n line after start counts at many in
      let taken = c.in-Ok.is in
      cc
      );
}

pub returns-in-None-clause-next : goal.returns-in-None-clause-next
returns-in-None-clause-next g c =
    rest_kept g.T.TakeLine.judge c.lines.self.stopped c.lines.self.made c.lines.self.lines c.lines.self.rest.items c.extend_from_slice.new.self.items c.lines.left.now _ c.lines.invariant.goes c.in-None.ensures.none c.in_ok-extend_from_slice-in-None.ensures.items c.lines.invariant.so_far

pub returns-in-Err-clause-room : goal.returns-in-Err-clause-room
returns-in-Err-clause-room g c s n line after start counts at many =
    sym c.in-Err.is
    ∙ first_taken g.T.TakeLine.counts g.T.TakeLine.full g.T.TakeLine.judge c.lines.self.stopped c.lines.self.made c.lines.self.lines c.lines.self.rest.items (progress c.args.self.now) c.args.piece.now c.lines.left.now c.in-Some.line.now c.in-Some.after.now c.take_next.result
    c.lines.invariant.goes c.lines.invariant.first c.in-Some.ensures.found c.take_next.ensures.room s n line after start counts at many

pub returns-in-None-clause-room : goal.returns-in-None-clause-room
returns-in-None-clause-room g c s n line after start counts at many =
    absurd (first_there g.T.TakeLine.counts g.T.TakeLine.full g.T.TakeLine.judge (progress c.args.self.now) (progress c.lines.self) c.args.piece.now c.lines.left.now c.lines.invariant.first c.in-None.ensures.none s n line after start counts at many)
