use Rattle.std.proofs.Common.{rules, ◌≡◌, length, Some, ap, sym, subst, ◌∙◌}
use Rattle.std.specs.Prelude.{slice_get}
use Rattle.network.proofs.NetworkLemmas.{got, position_done, refused_there, unplanned, lent_back}
use Rattle.network.specs.Reading.{AreRead}
use Rattle.auto_position.specs.Sending.{IsRefusal}
use Rattle.auto_position.specs.declared.PositionFault.{PositionFault}
use Rattle.network.proofs.network.Network.position.Goals as goal

pub returns-clause-ok : goal.returns-clause-ok
returns-clause-ok c =
    let N = c.self.inside.nodes.items in
    let i = c.args.node in
    let k = c.args.source in
    let one = c.in-Some.one.now in
    let from = c.in-Some-get.from.now in
    let at : Some one ≡ slice_get N i = got c.deref.result.now N i one c.deref.ensures.value c.in-Some.ensures.lookup.3.0 c.in-Some.ensures.lookup.1 in
    let there : Some from ≡ slice_get N k = got c.deref-2.result.now N k from c.deref-2.ensures.value c.in-Some-get.ensures.lookup.3.0 c.in-Some-get.ensures.lookup.1 in
    position_done N c.args.self.now c.self.view_is i c.args.channel k one from at there c.replica.result.now c.replica.ensures c.in_ok-ask.field-0 c.in-Some-2.ask c.in_ok-ask.ensures.ok c.in-Some-2.is
    c.as_journal.result.now (c.as_journal.ensures ∙ (c.journal.ensures ∙ ap (λ r. r.state.journal) c.replica-3.ensures)) c.own-own.result (c.own-own.ensures ∙ ap (λ r. r.site.own) c.replica-2.ensures) c.in-Ok.field-0.items c.in-Ok.ensures.plan
    c.in_ok-reply.reply c.position_at.new.nodes.items c.in_ok-reply.ensures.ok

pub returns-in-Err-Set-clause-fault : goal.returns-in-Err-Set-clause-fault
returns-in-Err-Set-clause-fault c =
    let N = c.self.inside.nodes.items in
    let i = c.args.node in
    let k = c.args.source in
    let one = c.in-Some.one.now in
    let from = c.in-Some-get.from.now in
    let at : Some one ≡ slice_get N i = got c.deref.result.now N i one c.deref.ensures.value c.in-Some.ensures.lookup.3.0 c.in-Some.ensures.lookup.1 in
    let there : Some from ≡ slice_get N k = got c.deref-2.result.now N k from c.deref-2.ensures.value c.in-Some-get.ensures.lookup.3.0 c.in-Some-get.ensures.lookup.1 in
    rw c.in-Err-Set.field-0-is (unplanned N c.args.self.now c.self.view_is i c.args.channel k one from at there c.replica.result.now c.replica.ensures c.in_ok-ask.field-0 c.in-Some-2.ask c.in_ok-ask.ensures.ok c.in-Some-2.is
    c.as_journal.result.now (c.as_journal.ensures ∙ (c.journal.ensures ∙ ap (λ r. r.state.journal) c.replica-3.ensures)) _
    (subst (λ (x : PositionFault). IsRefusal x c.as_journal.result.now c.in-Some-2.ask (Some c.own-own.result)) c.in-Err-Set.field-0-is c.in-Err-Set.ensures.refusal))

pub returns-in-Err-PurgedRequired-clause-ok : goal.returns-in-Err-PurgedRequired-clause-ok
returns-in-Err-PurgedRequired-clause-ok c =
    let N = c.self.inside.nodes.items in
    let i = c.args.node in
    let k = c.args.source in
    let one = c.in-Some.one.now in
    let from = c.in-Some-get.from.now in
    let at : Some one ≡ slice_get N i = got c.deref.result.now N i one c.deref.ensures.value c.in-Some.ensures.lookup.3.0 c.in-Some.ensures.lookup.1 in
    let there : Some from ≡ slice_get N k = got c.deref-2.result.now N k from c.deref-2.ensures.value c.in-Some-get.ensures.lookup.3.0 c.in-Some-get.ensures.lookup.1 in
    rw c.in-Err-PurgedRequired.field-0-is (refused_there N c.args.self.now c.self.view_is i c.args.channel k one from at there c.replica.result.now c.replica.ensures c.in_ok-ask.field-0 c.in-Some-2.ask c.in_ok-ask.ensures.ok c.in-Some-2.is
    c.as_journal.result.now (c.as_journal.ensures ∙ (c.journal.ensures ∙ ap (λ r. r.state.journal) c.replica-3.ensures)) c.own-own.result (c.own-own.ensures ∙ ap (λ r. r.site.own) c.replica-2.ensures) _
    (subst (λ (x : PositionFault). IsRefusal x c.as_journal.result.now c.in-Some-2.ask (Some c.own-own.result)) c.in-Err-PurgedRequired.field-0-is c.in-Err-PurgedRequired.ensures.refusal))

pub returns-in-Err-ReplicaHasMore-clause-ok : goal.returns-in-Err-ReplicaHasMore-clause-ok
returns-in-Err-ReplicaHasMore-clause-ok c =
    let N = c.self.inside.nodes.items in
    let i = c.args.node in
    let k = c.args.source in
    let one = c.in-Some.one.now in
    let from = c.in-Some-get.from.now in
    let at : Some one ≡ slice_get N i = got c.deref.result.now N i one c.deref.ensures.value c.in-Some.ensures.lookup.3.0 c.in-Some.ensures.lookup.1 in
    let there : Some from ≡ slice_get N k = got c.deref-2.result.now N k from c.deref-2.ensures.value c.in-Some-get.ensures.lookup.3.0 c.in-Some-get.ensures.lookup.1 in
    rw c.in-Err-ReplicaHasMore.field-0-is (refused_there N c.args.self.now c.self.view_is i c.args.channel k one from at there c.replica.result.now c.replica.ensures c.in_ok-ask.field-0 c.in-Some-2.ask c.in_ok-ask.ensures.ok c.in-Some-2.is
    c.as_journal.result.now (c.as_journal.ensures ∙ (c.journal.ensures ∙ ap (λ r. r.state.journal) c.replica-3.ensures)) c.own-own.result (c.own-own.ensures ∙ ap (λ r. r.site.own) c.replica-2.ensures) _
    (subst (λ (x : PositionFault). IsRefusal x c.as_journal.result.now c.in-Some-2.ask (Some c.own-own.result)) c.in-Err-ReplicaHasMore.field-0-is c.in-Err-ReplicaHasMore.ensures.refusal))

pub invariant_of-self : goal.invariant_of-self
invariant_of-self c =
    let same : c.self.inside.readers.len ≡ length c.position_at.new.readers = search rules in
    subst (λ r. AreRead c.position_at.new.nodes.items r) (sym (lent_back c.position_at.new.readers _ c.self.inside.readers.len same)) c.position_at.ensures.read

pub invariant_of-self-2 : goal.invariant_of-self-2
invariant_of-self-2 c =
    let same : c.self.inside.readers.len ≡ length c.position_at.new.readers = search rules in
    subst (λ r. AreRead c.position_at.new.nodes.items r) (sym (lent_back c.position_at.new.readers _ c.self.inside.readers.len same)) c.position_at.ensures.read
