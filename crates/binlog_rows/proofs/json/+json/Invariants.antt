use Rattle.std.proofs.Common.{◌≡◌, ◌++◌, ◌+◌, ◌-◌, ◌*◌, option_map}
use Rattle.binlog_rows.specs.Texts.{within}
use Rattle.binlog_rows.specs.Json.{members_view, members_text, all_members_text, value_text}
use Rattle.binlog_rows.proofs.json.+json.Given as goal

abbrev pub decreases-put_value : goal.decreases-put_value
decreases-put_value l = 4 * l.levels

abbrev pub decreases-put_container : goal.decreases-put_container
decreases-put_container l = 4 * l.levels + 3

abbrev pub decreases-put_members : goal.decreases-put_members
decreases-put_members l = 4 * l.levels + 2

abbrev pub decreases-put_member : goal.decreases-put_member
decreases-put_member l = 4 * l.levels + 1

abbrev pub invariant-put_members-loop-i : goal.invariant-put_members-loop-i
invariant-put_members-loop-i l =
    within l.most (option_map (λ text. l.out.items ++ text)
    (members_text (value_text l.levels) (members_view l.members) (l.members.count - l.i) l.keys l.values))
    ≡ within l.most (option_map (λ text. l.fn.out.items ++ text) (all_members_text (value_text l.levels) (members_view l.members)))
