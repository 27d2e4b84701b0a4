use Rattle.std.proofs.Common.{ℕ, List, ◌++◌, length}
use Rattle.binlog_events.specs.Names.{names_in}
use Rattle.binlog_events.specs.Listing.{HasListed}
use Rattle.binlog_events.proofs.lister.drain.Given as goal

abbrev pub invariant-events : goal.invariant-events
invariant-events l = (bytes text : List ℕ) → HasListed l.detail l.fn.frames (names_in l.fn.names) bytes (text ++ l.fn.out.items) → HasListed l.detail l.frames (names_in l.names) bytes (text ++ l.out.items)

abbrev pub decreases-events : goal.decreases-events
decreases-events l = length l.frames.left
