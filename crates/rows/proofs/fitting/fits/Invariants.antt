use Rattle.std.proofs.Common.{◌≡◌, ◌≤◌, drop}
use Rattle.rows.specs.Fits.{misfit_from, misfit}
use Rattle.rows.proofs.fitting.fits.Given as goal

abbrev pub invariant-loop-n : goal.invariant-loop-n
invariant-loop-n l = record {
  rest : misfit_from l.schema l.n (drop l.n l.txn.changes) ≡ misfit l.schema l.txn;
  few : l.n ≤ 4294967294;
}
