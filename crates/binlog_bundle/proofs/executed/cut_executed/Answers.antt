use Rattle.std.proofs.Common.{refl}
use Rattle.binlog_bundle.proofs.Saying.{silent_name, silent_behind, says_it}
use Rattle.binlog_bundle.proofs.executed.cut_executed.Goals as goal

pub returns-in_default : goal.returns-in_default
returns-in_default c = silent_name c.args.line.now c.args.line.now refl c.in_default.ensures

pub returns-in-Some-executed_part : goal.returns-in-Some-executed_part
returns-in-Some-executed_part c =
    says_it c.args.line.now c.in-Some.behind.now c.in-Some-executed_part.part.now c.in-Some-executed_part.word.now c.split_before.result.0.now c.split_before.result.1.now _ c.in-Some.ensures c.in-Some-executed_part.ensures refl c.split_before.ensures

pub returns-in-None : goal.returns-in-None
returns-in-None c = silent_behind c.args.line.now c.args.line.now c.in-Some.behind.now refl c.in-Some.ensures c.in-None.ensures
