use Rattle.std.proofs.Common.{sym, ◌∙◌}
use Rattle.binlog_files.proofs.Telling.{said_numbers}
use Rattle.binlog_files.proofs.previous.take_set.Goals as goal

pub precede-requires : goal.precede-requires
precede-requires c = said_numbers c.args.text.now c.in-Some.gtids (sym c.in_ok-gtids.ensures.found ∙ c.in-Some.is)
