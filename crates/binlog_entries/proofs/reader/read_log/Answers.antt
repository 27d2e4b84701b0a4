use Rattle.binlog_entries.specs.Stream.{Seen}
use Rattle.binlog_entries.specs.Readers.{log_seen}
use Rattle.binlog_entries.proofs.Whole.{seen_found, seen_refused, read_copied}
use Rattle.binlog_entries.proofs.reader.read_log.Goals as goal

pub returns-in-Ok-clause-found : goal.returns-in-Ok-clause-found
returns-in-Ok-clause-found c =
    seen_found log_seen c.args.opening.now c.args.text.now c.read.result
    (read_copied c.args.opening.now c.in-Ok.opening c.args.text.now (Seen log_seen c.read.result) c.in-Ok.ensures.ok c.read.ensures)

pub returns-in-Ok-clause-refused : goal.returns-in-Ok-clause-refused
returns-in-Ok-clause-refused c =
    seen_refused log_seen c.args.opening.now c.args.text.now c.read.result
    (read_copied c.args.opening.now c.in-Ok.opening c.args.text.now (Seen log_seen c.read.result) c.in-Ok.ensures.ok c.read.ensures)

pub returns-in-Ok-clause-exact : goal.returns-in-Ok-clause-exact
returns-in-Ok-clause-exact c = read_copied c.args.opening.now c.in-Ok.opening c.args.text.now (Seen log_seen c.read.result) c.in-Ok.ensures.ok c.read.ensures
