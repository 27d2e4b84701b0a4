use Rattle.std.proofs.Common.{ap, inl}
use Rattle.binlog_entries.specs.Drafts.{standing}
use Rattle.binlog_entries.specs.Readers.{progress}
use Rattle.binlog_entries.proofs.Pieces.{behind_line, line_fails, line_taken, piece_kept}
use Rattle.binlog_entries.proofs.reader.LogReader.take_piece.Goals as goal

pub returns-in-Err-clause-next : goal.returns-in-Err-clause-next
returns-in-Err-clause-next c =
    line_fails c.in-Err.fault _ (progress c.lines.self) (progress c.take_line.new.self) (progress c.take_line.new.self) _ c.lines.left.now c.in-Some.line.now c.in-Some.after.now c.in-Some.ensures.found.parts c.in-Err.ensures.next c.lines.invariant.so_far
    (λ f h. inl (c.lines.invariant.may f h))

pub lines-preserved : goal.lines-preserved
lines-preserved c = record {
  goes = c.take_line.ensures.goes;
  may = λ f h. c.lines.invariant.may f (behind_line f (progress c.lines.self) (progress c.take_line.new.self) c.lines.left.now c.in-Some.line.now c.in-Some.after.now c.in-Some.ensures.found.parts c.in-Ok.ensures.next h);
  so_far = line_taken (progress c.lines.self) (progress c.take_line.new.self) _ c.lines.left.now c.in-Some.line.now c.in-Some.after.now c.in-Some.ensures.found.parts c.in-Ok.ensures.next c.lines.invariant.so_far;
}

pub returns-in-None-clause-next : goal.returns-in-None-clause-next
returns-in-None-clause-next c =
    piece_kept c.keep.result (progress c.args.self.now) c.args.piece.now c.lines.self.stopped c.keep.new.self.stopped (standing c.lines.self.draft) (standing c.keep.new.self.draft) c.lines.self.lines c.keep.new.self.lines c.lines.self.rest.items c.keep.new.self.rest.items c.lines.left.now
    c.lines.invariant.goes c.in-None.ensures.none c.keep.ensures.rest c.keep.ensures.memory (ap standing c.keep.ensures.draft) c.keep.ensures.lines c.keep.ensures.stopped c.lines.invariant.so_far
