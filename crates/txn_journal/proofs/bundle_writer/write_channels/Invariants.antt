use Rattle.std.proofs.Common.{◌≡◌, ◌++◌, drop, length}
use Rattle.std.specs.String.{string_bytes}
use Rattle.txn_journal.specs.Texts.{channels_and_journals_text}
use Rattle.txn_journal.proofs.bundle_writer.write_channels.Given as goal

abbrev pub invariant-loop-channel : goal.invariant-loop-channel
invariant-loop-channel l = string_bytes l.out ++ channels_and_journals_text l.version l.schema (drop (length l.yielded) l.channels) (drop (length l.yielded) l.journals) ≡ string_bytes l.fn.out ++ channels_and_journals_text l.version l.schema l.channels l.journals
