use Rattle.std.proofs.Common.{◌∙◌, ◌-◌, ◌+◌, arith}
use Rattle.binlog_rows.proofs.DigitWalks.{nines_none, nines_on, nines_end}
use Rattle.binlog_rows.proofs.decimals.put_nines.Goals as goal

pub returns-in_default : goal.returns-in_default
returns-in_default c =
    nines_none (c.args.count - c.loop-i.i) (c.args.count - (c.loop-i.i + 1)) c.loop-i.out.items c.put_group.new.out.items c.loop-i.rest.now
    (omega arith) (rw c.in_default.is at c.in_ok-behind.ensures)
    ∙ c.loop-i.invariant

pub loop-i-preserved : goal.loop-i-preserved
loop-i-preserved c =
    nines_on (c.args.count - c.loop-i.i) (c.args.count - (c.loop-i.i + 1)) c.loop-i.out.items c.put_group.new.out.items c.loop-i.rest.now
    c.in-Some.behind.now (omega arith) (rw c.in-Some.is at c.in_ok-behind.ensures)
    ∙ c.loop-i.invariant

pub returns : goal.returns
returns c = nines_end (c.args.count - c.loop-i.i) c.loop-i.out.items c.loop-i.rest.now (omega arith) ∙ c.loop-i.invariant
