use Rattle.std.proofs.Common.{◌≡◌, take}
use Rattle.log_transactions.proofs.varied.VariedColumns.of.Given as goal

abbrev pub invariant-loop-one : goal.invariant-loop-one
invariant-loop-one l = l.columns ≡ take l.one-index l.varied
