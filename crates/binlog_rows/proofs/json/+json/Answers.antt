use Rattle.std.proofs.Common.{◌≡◌, ◌-◌, ◌+◌, ◌∙◌, ap, arith, rules}
use Rattle.std.proofs.lemmas.Result.{IfOk-weaker}
use Rattle.binlog_rows.specs.Scalars.{scalar_text}
use Rattle.binlog_rows.specs.Json.{members_view, value_text}
use Rattle.binlog_rows.proofs.JsonWalks.{putting, no_key, no_value, member_stop, member_on, members_end, no_levels, no_container, container}
use Rattle.binlog_rows.proofs.json.+json.Goals as goal
use Rattle.binlog_rows.proofs.json.+json.Goals.{put_value-then-levels-eq0-via-then-levels-eq0, put_value-then-levels-eq0-via-else-levels-eq0+then-kind-ge4}

pub put_members-returns-in_default : goal.put_members-returns-in_default
put_members-returns-in_default t c =
    let l = c.loop-i in
    let m = members_view c.args.members.now in
    no_key (value_text c.args.levels) m (m.count - l.i) (m.count - 1 - l.i) c.key_width.result c.args.most l.out.items l.keys.now l.values.now
    (omega arith) c.key_width.ensures c.in_default.ensures
    ∙ l.invariant

pub put_members-returns-in_default-split : goal.put_members-returns-in_default-split
put_members-returns-in_default-split t c =
    let l = c.loop-i in
    let m = members_view c.args.members.now in
    no_value (value_text c.args.levels) m (m.count - l.i) (m.count - 1 - l.i) c.key_width.result c.value_width.result c.args.most l.out.items
    l.keys.now l.values.now c.in-Some.key.now c.in-Some.more_keys.now (omega arith) c.key_width.ensures c.value_width.ensures
    c.in-Some.ensures c.in_default-split.ensures
    ∙ l.invariant

pub put_members-returns-then-not-branch : goal.put_members-returns-then-not-branch
put_members-returns-then-not-branch t c =
    let l = c.loop-i in
    let m = members_view c.args.members.now in
    member_stop (value_text c.args.levels) m (m.count - l.i) (m.count - 1 - l.i) c.key_width.result c.value_width.result c.args.most l.out.items
    c.put_member.new.out.items l.keys.now l.values.now c.in-Some.key.now c.in-Some.more_keys.now c.in-Some-split.value.now
    c.in-Some-split.more_values.now (omega arith) c.key_width.ensures c.value_width.ensures c.in-Some.ensures c.in-Some-split.ensures
    (search rules)
    ∙ l.invariant

pub put_members-loop-i-preserved : goal.put_members-loop-i-preserved
put_members-loop-i-preserved t c =
    let l = c.loop-i in
    let m = members_view c.args.members.now in
    member_on (value_text c.args.levels) m (m.count - l.i) (m.count - 1 - l.i) (m.count - (l.i + 1)) c.key_width.result c.value_width.result
    c.args.most l.out.items c.put_member.new.out.items l.keys.now l.values.now c.in-Some.key.now c.in-Some.more_keys.now
    c.in-Some-split.value.now c.in-Some-split.more_values.now (omega arith) (omega arith) c.key_width.ensures c.value_width.ensures
    c.in-Some.ensures c.in-Some-split.ensures (search rules)
    ∙ l.invariant

pub put_members-returns : goal.put_members-returns
put_members-returns t c =
    let l = c.loop-i in
    let m = members_view c.args.members.now in
    IfOk-weaker c.put_text.result _ _ (λ done e. e
    ∙ members_end (value_text c.args.levels) m (m.count - l.i) c.args.most l.out.items l.keys.now l.values.now (omega arith)
    ∙ l.invariant) c.put_text.ensures

pub put_value-returns-then-levels-eq0 : goal.put_value-returns-then-levels-eq0
put_value-returns-then-levels-eq0 t c =
    let is : scalar_text c.args.kind c.args.bytes.now ≡ value_text c.args.levels c.args.kind c.args.bytes.now =
    elim c.then-levels-eq0.branch [
      | put_value-then-levels-eq0-via-then-levels-eq0 w ↦ no_levels c.args.levels c.args.kind c.args.bytes.now (omega (arith, w.if-levels-eq0))
      | put_value-then-levels-eq0-via-else-levels-eq0+then-kind-ge4 w ↦
          no_container c.args.levels c.args.kind c.args.bytes.now (omega (arith, w.if-kind-ge4))
    ] in
    IfOk-weaker c.put_scalar.result _ _ (λ done e. e ∙ ap (λ found. putting c.args.most c.args.out.now.items found) is) c.put_scalar.ensures

pub put_value-returns-in-None : goal.put_value-returns-in-None
put_value-returns-in-None t c =
    ap (λ found. putting c.args.most c.args.out.now.items found)
    (container c.args.levels (c.args.levels - 1) c.args.kind c.args.bytes.now _ (omega arith) (omega arith) c.in-None.ensures)

pub put_value-returns-in-Some : goal.put_value-returns-in-Some
put_value-returns-in-Some t c =
    IfOk-weaker c.put_container.result _ _ (λ done e. e
    ∙ ap (λ found. putting c.args.most c.args.out.now.items found)
    (container c.args.levels (c.args.levels - 1) c.args.kind c.args.bytes.now _ (omega arith) (omega arith) c.in-Some.ensures))
    c.put_container.ensures
