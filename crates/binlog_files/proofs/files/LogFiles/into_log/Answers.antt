use Rattle.binlog_files.specs.Moved.{files_state}
use Rattle.binlog_files.proofs.Wholes.{log_of_files}
use Rattle.binlog_files.proofs.files.LogFiles.into_log.Goals as goal

pub returns : goal.returns
returns c =
    log_of_files c.events_mean_entries.ensures (files_state c.args.self.taken) c.into_log.result.previous c.into_log.result.entries.items c.into_log.result.varied.items
    c.into_log.ensures.previous c.into_log.ensures.entries c.into_log.ensures.varied
