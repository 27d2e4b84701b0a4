use Rattle.std.proofs.Common.{Some, ap, ◌+◌, ◌∙◌}
use Rattle.std.proofs.lemmas.List.{take_rest}
use Rattle.row_images.proofs.Cuts.{run_cut, run_alone}
use Rattle.row_images.proofs.words.cut.Goals as goal

pub returns-then-end-line-clause-word : goal.returns-then-end-line-clause-word
returns-then-end-line-clause-word c = (run_cut c.args.line.now c.run_end-end.result c.run_end-end.ensures c.if-end-line.true).0

pub returns-then-end-line-clause-rest : goal.returns-then-end-line-clause-rest
returns-then-end-line-clause-rest c =
    ap Some (take_rest c.args.line.now (c.run_end-end.result + 1))
    ∙ (run_cut c.args.line.now c.run_end-end.result c.run_end-end.ensures c.if-end-line.true).1

pub returns-else-end-line-clause-word : goal.returns-else-end-line-clause-word
returns-else-end-line-clause-word c = (run_alone c.args.line.now c.run_end-end.result c.run_end-end.ensures c.if-end-line.false).0

pub returns-else-end-line-clause-rest : goal.returns-else-end-line-clause-rest
returns-else-end-line-clause-rest c = (run_alone c.args.line.now c.run_end-end.result c.run_end-end.ensures c.if-end-line.false).1
