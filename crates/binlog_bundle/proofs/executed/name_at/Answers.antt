use Rattle.txn_journal.specs.Versions.{limits_of, newest}
use Rattle.binlog_bundle.proofs.Lacking.{not_there}
use Rattle.binlog_bundle.proofs.executed.name_at.Goals as goal

pub unreachable-requires : goal.unreachable-requires
unreachable-requires c = not_there (limits_of (newest c.keeps_rules.ensures.0)) c.args.bundle.now.start.schema c.args.bundle.now.channels c.channels.result.now c.args.bundle.now.journals c.args.place c.keeps_rules.ensures.1.brought c.channels.ensures c.requires c.in-None.ensures
