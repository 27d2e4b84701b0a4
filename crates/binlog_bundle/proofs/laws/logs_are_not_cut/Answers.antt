use Rattle.binlog_bundle.proofs.OwnLines.{line_other, log_others}
use Rattle.binlog_bundle.proofs.laws.logs_are_not_cut.Goals as goal

pub returns-clause-line : goal.returns-clause-line
returns-clause-line c = line_other

pub returns-clause-log : goal.returns-clause-log
returns-clause-log c = log_others
