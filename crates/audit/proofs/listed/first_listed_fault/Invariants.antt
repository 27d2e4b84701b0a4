use Rattle.std.proofs.Common.{◌≡◌, drop, map}
use Rattle.audit.specs.Contents.{as_pair}
use Rattle.world.specs.Audit.{first_fault}
use Rattle.audit.proofs.listed.first_listed_fault.Given as goal

abbrev pub invariant-loop-entry : goal.invariant-loop-entry
invariant-loop-entry l = (first_fault l.rows.schema (map as_pair (map (λ e. e.now) (drop l.entry-index l.entries))) l.rows.rows ≡ first_fault l.fn.rows.schema (map as_pair (map (λ e. e.now) l.entries)) l.fn.rows.rows) × (l.rows.schema ≡ l.fn.rows.schema)
