use Rattle.std.proofs.Common.{◌≡◌, ◌++◌, drop}
use Rattle.audit.specs.Contents.{beyond}
use Rattle.audit.proofs.contents.push_entries.Given as goal

abbrev pub invariant-loop-entry : goal.invariant-loop-entry
invariant-loop-entry l = l.list.items ++ beyond l.opened (drop l.entry-index l.entries) ≡ l.fn.list.items ++ beyond l.opened l.entries
