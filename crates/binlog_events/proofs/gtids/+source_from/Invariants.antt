use Rattle.binlog_events.proofs.gtids.+source_from.Given as goal

abbrev pub decreases-source_from : goal.decreases-source_from
decreases-source_from l = l.left
