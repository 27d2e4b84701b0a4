use Rattle.std.proofs.Common.{rules, arith, sym, ap, ◌∙◌, ◌-◌}
use Rattle.std.specs.Prelude.{option_map}
use Rattle.binlog_events.specs.Previous.{item_of, put_whole}
use Rattle.binlog_events.proofs.Sets.{item_put, item_not_put, no_item, items_end}
use Rattle.binlog_events.proofs.previous.put_items.Goals as goal

pub returns-in_default : goal.returns-in_default
returns-in_default c =
    sym c.loop-left.invariant
    ∙ sym (no_item c.args.is_tagged c.loop-left.left (c.loop-left.left - 1) (option_map item_of c.loop-left.last) c.loop-left.rest.now c.loop-left.out.items (omega arith) c.in_default.ensures.item)

pub returns-then-not-branch : goal.returns-then-not-branch
returns-then-not-branch c =
    sym c.loop-left.invariant
    ∙ sym (item_not_put c.args.is_tagged c.loop-left.left (c.loop-left.left - 1) (option_map item_of c.loop-left.last) (item_of c.in-Some.item) c.loop-left.rest.now c.in-Some.behind.now c.loop-left.out.items
    (omega arith) c.in-Some.ensures.item (search rules))

pub loop-left-preserved : goal.loop-left-preserved
loop-left-preserved c =
    item_put c.args.is_tagged c.loop-left.left (c.loop-left.left - 1) (option_map item_of c.loop-left.last) (item_of c.in-Some.item) c.loop-left.rest.now c.in-Some.behind.now c.loop-left.out.items c.put_item.new.out.items
    (omega arith) c.in-Some.ensures.item (search rules)
    ∙ c.loop-left.invariant

pub returns : goal.returns
returns c =
    sym c.loop-left.invariant
    ∙ items_end c.args.is_tagged c.loop-left.left (option_map item_of c.loop-left.last) c.loop-left.rest.now c.loop-left.out.items (omega arith)
    ∙ ap (λ b. put_whole b c.loop-left.out.items) (sym c.is_empty.ensures)
