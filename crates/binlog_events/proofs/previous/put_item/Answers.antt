use Rattle.std.proofs.Common.{rules, arith, sym, subst, ◌∙◌, ◌-◌, ◌≡◌, List, ℕ, Option, IfOk}
use Rattle.std.specs.Prelude.{option_map}
use Rattle.binlog_events.specs.Previous.{item_of, put_whole}
use Rattle.binlog_events.proofs.Sets.{led_put, no_intervals, not_following}
use Rattle.binlog_events.proofs.previous.put_item.Goals as goal

pub returns-then-item-eq0 : goal.returns-then-item-eq0
returns-then-item-eq0 c =
    no_intervals c.args.item.now.count (option_map item_of c.args.last.now) c.args.item.now.source c.args.item.now.tag.now c.args.item.now.intervals.now c.args.out.now.items (omega arith)

pub returns-then-not-may_follow : goal.returns-then-not-may_follow
returns-then-not-may_follow c =
    sym (not_following (option_map item_of c.args.last.now) (item_of c.args.item.now) c.args.out.now.items (sym c.may_follow.ensures ∙ c.if-not-may_follow.true))

pub returns : goal.returns
returns c =
    subst (λ (x : Option (List ℕ)). IfOk c.put_intervals.result (λ whole. x ≡ put_whole whole c.put_intervals.new.out.items))
    (led_put c.args.item.now.count (c.args.item.now.count - 1) (option_map item_of c.args.last.now) c.args.item.now.source c.args.item.now.tag.now c.args.item.now.intervals.now c.args.out.now.items
    c.push.new.self.items c.put_source.new.out.items c.put_tag.new.out.items (omega arith) (sym c.may_follow.ensures ∙ c.if-not-may_follow.false) (search rules) (search rules) (search rules))
    c.put_intervals.ensures
