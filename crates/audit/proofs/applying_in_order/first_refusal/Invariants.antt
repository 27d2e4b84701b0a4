use Rattle.std.proofs.Common.{◌≡◌, drop}
use Rattle.world.specs.Audit.{first_fault}
use Rattle.audit.proofs.applying_in_order.first_refusal.Given as goal

abbrev pub invariant-loop-place : goal.invariant-loop-place
invariant-loop-place l = (first_fault l.rows.schema (drop l.place l.order.entries) l.rows.rows ≡ first_fault l.fn.rows.schema l.order.entries l.fn.rows.rows) × (l.rows.schema ≡ l.fn.rows.schema)
