use Rattle.binlog_rows.proofs.DoubleWalks.{power_small}
use Rattle.binlog_rows.proofs.doubles.power.Goals as goal

pub returns-clause-small : goal.returns-clause-small
returns-clause-small c = power_small c.args.places c.requires
