use Rattle.std.proofs.Common.{take, drop}
use Rattle.serving.specs.Servable.{CanReceive}
use Rattle.serving.specs.Serving.{pick_entries, Receives}
use Rattle.serving.proofs.receiving.feed.Given as goal

abbrev pub invariant-loop-place : goal.invariant-loop-place
invariant-loop-place l = record {
  received : Receives l.apply l.fn.core l.channel (take l.place (pick_entries l.entries l.places)) l.core;
  can : CanReceive l.channel (drop l.place (pick_entries l.entries l.places)) l.core;
}
