use Rattle.std.proofs.Common.{rules, ◌≤◌, ◌+◌, cond, ap, sym, ◌∙◌, arith, List}
use Rattle.std.specs.Prelude.{Some, is_none}
use Rattle.rows.specs.declared.schema.Table.{Table}
use Rattle.apply_channel.specs.Channels as channels
use Rattle.replica_core.specs.Machine.{ready_from}
use Rattle.replica_core.proofs.KeptLemmas.{gone_by}
use Rattle.replica_core.proofs.ReadyLemmas.{none_ready, nothing_after, next_is_ready, next_decides, ready_where, not_nowhere}
use Rattle.replica_core.proofs.machine.Core.ready_of.Goals as goal

pub returns-in_default : goal.returns-in_default
returns-in_default c =
    let r = c.args.self.now in
    let k = c.args.channel.now in
    let none = ap (λ (schema : List Table). channels.next_ready schema k.channel.received c.looking.from) (sym c.requires.schema) ∙ sym c.next_ready.ensures ∙ c.in_default.is in
    sym (none_ready r.site.schema r.state k.channel c.looking.from c.requires.kept none) ∙ c.looking.invariant

pub returns-in_default-entry : goal.returns-in_default-entry
returns-in_default-entry c =
    let r = c.args.self.now in
    let k = c.args.channel.now in
    let is = ap (λ (schema : List Table). channels.next_ready schema k.channel.received c.looking.from) (sym c.requires.schema) ∙ sym c.next_ready.ensures ∙ c.in-Some.is in
    let next = next_is_ready r.site.schema k.channel c.looking.from c.in-Some.place is in
    absurd (not_nowhere k.channel.received c.in-Some.place next.high c.in_default-entry.ensures)

pub returns-then-is_none : goal.returns-then-is_none
returns-then-is_none c =
    let r = c.args.self.now in
    let k = c.args.channel.now in
    let n = c.in-Some.place in
    let is = ap (λ (schema : List Table). channels.next_ready schema k.channel.received c.looking.from) (sym c.requires.schema) ∙ sym c.next_ready.ensures ∙ c.in-Some.is in
    let next = next_is_ready r.site.schema k.channel c.looking.from n is in
    let free = ready_where r.site.schema r.state k.channel n _ c.requires.kept c.in-Some-entry.ensures next.ready ∙ sym (ap is_none c.owner.ensures) ∙ gone_by c.owner.result c.is_none.result c.is_none.ensures ∙ c.if-is_none.true in
    sym (sym c.looking.invariant ∙ next_decides r.site.schema r.state k.channel c.looking.from n c.requires.kept is ∙ ap (λ b. cond b (Some n) (ready_from r.site.schema r.state k.channel (n + 1))) free)

pub looking-preserved : goal.looking-preserved
looking-preserved c =
    let r = c.args.self.now in
    let k = c.args.channel.now in
    let n = c.in-Some.place in
    let is = ap (λ (schema : List Table). channels.next_ready schema k.channel.received c.looking.from) (sym c.requires.schema) ∙ sym c.next_ready.ensures ∙ c.in-Some.is in
    let next = next_is_ready r.site.schema k.channel c.looking.from n is in
    let free = ready_where r.site.schema r.state k.channel n _ c.requires.kept c.in-Some-entry.ensures next.ready ∙ sym (ap is_none c.owner.ensures) ∙ gone_by c.owner.result c.is_none.result c.is_none.ensures ∙ c.if-is_none.false in
    sym (next_decides r.site.schema r.state k.channel c.looking.from n c.requires.kept is ∙ ap (λ b. cond b (Some n) (ready_from r.site.schema r.state k.channel (n + 1))) free) ∙ c.looking.invariant

pub overflow_add-from : goal.overflow_add-from
overflow_add-from c =
    let r = c.args.self.now in
    let k = c.args.channel.now in
    let is = ap (λ (schema : List Table). channels.next_ready schema k.channel.received c.looking.from) (sym c.requires.schema) ∙ sym c.next_ready.ensures ∙ c.in-Some.is in
    let next = next_is_ready r.site.schema k.channel c.looking.from c.in-Some.place is in
    let high = next.high in
    let end : c.in-Some.place + 1 ≤ c.len-end.result = omega (arith, high, c.len-end.ensures) in
    search rules

pub looking-smaller : goal.looking-smaller
looking-smaller c =
    let r = c.args.self.now in
    let k = c.args.channel.now in
    let is = ap (λ (schema : List Table). channels.next_ready schema k.channel.received c.looking.from) (sym c.requires.schema) ∙ sym c.next_ready.ensures ∙ c.in-Some.is in
    let next = next_is_ready r.site.schema k.channel c.looking.from c.in-Some.place is in
    let low = next.low in
    let high = next.high in
    omega (arith, low, high)

pub returns : goal.returns
returns c = sym (nothing_after c.args.self.now.site.schema c.args.self.now.state c.args.channel.now.channel c.looking.from (omega (arith, c.len-end.ensures, c.looking-test.false))) ∙ c.looking.invariant
