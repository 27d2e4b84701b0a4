use Rattle.std.proofs.Common.{◌≡◌, ◌++◌, drop}
use Rattle.world.specs.Audit.{all_entries}
use Rattle.audit.specs.Contents.{beyond}
use Rattle.audit.proofs.contents.entries_beyond.Given as goal

abbrev pub invariant-loop-journal : goal.invariant-loop-journal
invariant-loop-journal l = l.list.items ++ beyond l.opened (all_entries (drop l.journal-index l.journals)) ≡ beyond l.opened (all_entries l.journals)
