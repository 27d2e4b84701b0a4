use Rattle.replica_script.proofs.Answered.{told_next, fault_told}
use Rattle.replica_script.proofs.edge.answer_lines.Goals as goal

pub returns-in-Err : goal.returns-in-Err
returns-in-Err g c =
    fault_told g.A.Answerer.answers g.A.Answerer.stops g.A.Answerer.ends _ (g.R.Read.remaining c.args.reader.now) c.loop-before.before _ _ _ _ _ _ c.loop-before.invariant c.in-Err.ensures.fault

pub loop-before-preserved : goal.loop-before-preserved
loop-before-preserved g c =
    told_next g.A.Answerer.answers _ (g.R.Read.remaining c.args.reader.now) c.loop-before.before c.loop-before.script c.answer_next.new.script
    (g.R.Read.remaining c.loop-before.reader) (g.R.Read.remaining c.answer_next.new.reader) _ (g.W.Write.contents c.loop-before.writer)
    (g.W.Write.contents c.answer_next.new.writer) c.in-Ok-true.field-0 c.loop-before.invariant c.in-Ok-true.field-0-test c.in-Ok-true.ensures.next
