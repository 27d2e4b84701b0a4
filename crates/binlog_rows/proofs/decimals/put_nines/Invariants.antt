use Rattle.std.proofs.Common.{◌≡◌, ◌-◌, option_map}
use Rattle.binlog_rows.specs.Decimals.{behind_others, nines_at}
use Rattle.binlog_rows.proofs.decimals.put_nines.Given as goal

abbrev pub invariant-loop-i : goal.invariant-loop-i
invariant-loop-i l =
    option_map (behind_others l.out.items) (nines_at (l.count - l.i) l.rest)
    ≡ option_map (behind_others l.fn.out.items) (nines_at l.count l.bytes)
