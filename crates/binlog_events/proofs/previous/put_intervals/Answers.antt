use Rattle.std.proofs.Common.{rules, arith, sym, ◌∙◌, ◌-◌}
use Rattle.binlog_events.proofs.Sets.{interval_put, no_interval, intervals_end}
use Rattle.binlog_events.proofs.previous.put_intervals.Goals as goal

pub returns-then-not-is_behind : goal.returns-then-not-is_behind
returns-then-not-is_behind c =
    sym c.loop-left.invariant.0
    ∙ sym (no_interval c.loop-left.left (c.loop-left.left - 1) c.loop-left.last c.interval_at-interval.result c.loop-left.rest.now c.loop-left.out.items (omega arith) c.interval_at-interval.ensures (sym c.is_behind.ensures ∙ c.if-not-is_behind.true))

pub loop-left-preserved : goal.loop-left-preserved
loop-left-preserved c = (
  interval_put c.loop-left.left (c.loop-left.left - 1) c.loop-left.last c.interval_at-interval.result c.loop-left.rest.now c.rest_of-rest.result.now c.loop-left.out.items c.put_interval.new.out.items
      (omega arith) c.interval_at-interval.ensures (sym c.is_behind.ensures ∙ c.if-not-is_behind.false) c.rest_of-rest.ensures c.in_ok-put_interval.ensures
      ∙ c.loop-left.invariant.0,
  search rules,
)

pub returns : goal.returns
returns c = sym c.loop-left.invariant.0 ∙ sym (intervals_end c.loop-left.left c.loop-left.last c.loop-left.rest.now c.loop-left.out.items (omega arith))
