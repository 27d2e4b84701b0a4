use Rattle.std.proofs.Common.{◌≡◌, [], drop}
use Rattle.world.specs.Bundles.{histories_of}
use Rattle.audit.specs.Joined.{append_all_new}
use Rattle.audit.proofs.joined.join_journals.Given as goal

abbrev pub invariant-loop-journal : goal.invariant-loop-journal
invariant-loop-journal l = append_all_new l.order.entries (histories_of l.opened (drop l.journal-index l.journals)) ≡ append_all_new [] (histories_of l.opened l.journals)
