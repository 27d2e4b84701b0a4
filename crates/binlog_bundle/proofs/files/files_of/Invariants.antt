use Rattle.std.proofs.Common.{◌≡◌, drop}
use Rattle.binlog_bundle.specs.Files.{files_of}
use Rattle.binlog_bundle.proofs.files.files_of.Given as goal

abbrev pub invariant-loop-channel : goal.invariant-loop-channel
invariant-loop-channel l = files_of l.name (drop l.channel-index l.channels) ≡ files_of l.fn.name l.fn.channels
