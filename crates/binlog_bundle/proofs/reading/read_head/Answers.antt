use Rattle.std.proofs.Common.{rules, ◌++◌}
use Rattle.binlog_bundle.proofs.Feeding.{decoded_refused}
use Rattle.binlog_bundle.proofs.reading.read_head.Goals as goal

pub returns-clause-refused : goal.returns-clause-refused
returns-clause-refused c =
    decoded_refused c.deref.result.now (c.args.head.now.items ++ c.args.end.now) c.decode_bundle_by-read.result (search rules) c.decode_bundle_by-read.ensures.refused c.decode_bundle_by-read.ensures.exact
