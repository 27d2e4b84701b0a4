use Rattle.std.proofs.Common.{[], rules}
use Rattle.binlog_bundle.proofs.import.import_bundle_from.Goals as goal

pub returns-in-Err-Unsupported-clause-refused : goal.returns-in-Err-Unsupported-clause-refused
returns-in-Err-Unsupported-clause-refused g c = record { columns = []; refused = search rules }
