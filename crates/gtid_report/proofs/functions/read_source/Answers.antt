use Rattle.std.proofs.Common.{◌∙◌}
use Rattle.std.specs.Prelude.{Ok, Err}
use Rattle.gtid_report.proofs.AnswerLemmas.{word_source}
use Rattle.gtid_report.proofs.functions.read_source.Goals as goal

pub returns-in-Ok : goal.returns-in-Ok
returns-in-Ok c = word_source c.args.word.now (Ok c.in-Ok.source) c.in-Ok.ensures.exact

pub returns-in-Err : goal.returns-in-Err
returns-in-Err c = (λ i. Err (c.from.ensures i)) ∙ word_source c.args.word.now (Err c.in-Err.fault) c.in-Err.ensures.exact
