use Rattle.std.proofs.Common.{sym, subst, ◌∙◌, inr}
use Rattle.gtid_set.specs.declared.fault.SetFault.{SetFault}
use Rattle.binlog_entries.specs.Stream.{Progress, IsPieceFault, IsAfter, feed_bytes}
use Rattle.binlog_entries.specs.Readers.{progress}
use Rattle.binlog_entries.specs.declared.reader.LogReader.{LogReader}
use Rattle.binlog_entries.proofs.Pieces.{piece_stops, stopped_at}
use Rattle.binlog_entries.proofs.reader.LogReader.feed.Goals as goal
use Rattle.binlog_entries.proofs.reader.LogReader.feed.Goals.{in-Err-take_piece, in_default-take_piece}

pub returns-in-Err-clause-next : goal.returns-in-Err-clause-next
returns-in-Err-clause-next c = stopped_at _ (progress c.args.self.now) c.in-Err.fault c.args.piece.now (sym c.answer.ensures ∙ c.in-Err.is)

pub returns-clause-next : goal.returns-clause-next
returns-clause-next c =
    let may : SetFault → Type 0 = IsPieceFault (progress c.args.self.now) c.args.piece.now in
    let after : Progress = feed_bytes (progress c.args.self.now) c.args.piece.now in
    let P : LogReader → Type 0 = λ r. IsAfter may (progress r) after in
    elim c.match-take_piece.branch [
      | in-Err-take_piece w ↦ subst P (sym w.self-is) (piece_stops may w.in-Err-take_piece.fault (progress c.take_piece.new.self) after w.in-Err-take_piece.ensures.next)
      | in_default-take_piece w ↦ subst P (sym w.self-is) (inr (sym w.in_default-take_piece.ensures.next))
    ]
