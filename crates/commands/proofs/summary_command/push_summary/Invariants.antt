use Rattle.std.proofs.Common.{◌≡◌, ◌++◌, [], drop, take, string_bytes}
use Rattle.commands.specs.Summaries.{summary_behind}
use Rattle.commands.specs.Tallies.{AreLeft}
use Rattle.commands.proofs.summary_command.push_summary.Given as goal

abbrev pub invariant-loop-fault : goal.invariant-loop-fault
invariant-loop-fault l =
    (string_bytes l.text ++ summary_behind (take l.fault-index l.faults) (drop l.fault-index l.faults) ≡ string_bytes l.initial.text ++ summary_behind [] l.faults)
    × AreLeft (take l.fault-index l.faults) (drop l.fault-index l.faults) l.counts
