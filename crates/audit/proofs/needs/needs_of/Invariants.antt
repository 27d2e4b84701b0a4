use Rattle.std.proofs.Common.{◌≡◌, true, drop, map}
use Rattle.std.specs.FinMap as finmap
use Rattle.audit.specs.Contents.{as_pair}
use Rattle.audit.specs.Gaps.{needs_over}
use Rattle.audit.proofs.Apart.{IsApart}
use Rattle.audit.proofs.needs.needs_of.Given as goal

abbrev pub invariant-loop-entry : goal.invariant-loop-entry
invariant-loop-entry l = record {
  needs : needs_over l.schema l.last l.needs (map as_pair (drop l.entry-index l.entries)) ≡ needs_over l.schema finmap.empty finmap.empty (map as_pair l.entries);
  apart : l.apart ≡ true → IsApart l.schema (map as_pair l.entries) (map as_pair (drop l.entry-index l.entries)) l.last;
}
