use Rattle.std.proofs.Common.{◌≡◌, drop}
use Rattle.gtid_text.specs.Scan.{skip_while}
use Rattle.binlog_rows.specs.Digits.{is_zero}
use Rattle.binlog_rows.proofs.decimals.without_zeros.Given as goal

abbrev pub invariant-loop-i : goal.invariant-loop-i
invariant-loop-i l = skip_while is_zero (drop l.i l.digits) ≡ skip_while is_zero l.digits
