use Rattle.std.proofs.Common.{◌≡◌, ◌+◌, ◌≤◌, cond, sym, ap, ◌∙◌, arith}
use Rattle.std.proofs.lemmas.List.{take_all}
use Rattle.dependency_graph.specs.Chains.{first_number}
use Rattle.dependency_graph.specs.Kept.{waiting}
use Rattle.dependency_graph.proofs.Entries.{distinct_of}
use Rattle.dependency_graph.proofs.Adding.{links_more, counts_more, room_more}
use Rattle.dependency_graph.proofs.graph.link.Goals as goal
use Rattle.dependency_graph.proofs.graph.link.Goals.{then-push, else-push}

pub loop-key-preserved : goal.loop-key-preserved
loop-key-preserved c =
    let keys = c.args.keys.now in
    let i = c.loop-key.key-index in
    let k = c.key-item.result in
    let old = c.loop-key.invariant in
    let sum : c.if-push.waits ≡ c.loop-key.waits + cond c.push.result 1 0 = elim c.if-push.branch [
      | then-push w ↦ w.waits-is ∙ ap (λ b. c.loop-key.waits + cond b 1 0) (sym w.if-push.true)
      | else-push w ↦ (let same : c.if-push.waits ≡ c.loop-key.waits + 0 = let is = w.waits-is in omega (is, arith) in same ∙ ap (λ b. c.loop-key.waits + cond b 1 0) (sym w.if-push.false))
    ] in
    let few : c.if-push.waits ≤ i + 1 = elim c.if-push.branch [
      | then-push w ↦ (let is = w.waits-is in let before = old.few in omega (is, before, arith))
      | else-push w ↦ (let is = w.waits-is in let before = old.few in omega (is, before, arith))
    ] in
    record {
      few = few;
      room = room_more c.loop-key.chains c.push.new.self keys i k c.loop-key-test.true c.push.ensures.room old.room;
      links = links_more c.args.chains.now c.loop-key.chains c.push.new.self keys i k c.args.node (distinct_of keys c.requires.distinct) c.loop-key-test.true c.key-item.is old.links c.push.ensures.pushes;
      counts = counts_more c.args.chains.now c.loop-key.chains keys i k c.args.node c.loop-key.waits c.if-push.waits c.push.result (distinct_of keys c.requires.distinct) c.loop-key-test.true c.key-item.is old.links old.counts c.push.ensures.had_one sum;
    }

pub returns-clause-waits : goal.returns-clause-waits
returns-clause-waits c = λ f h below.
    c.loop-key.invariant.counts f h below
    ∙ ap (waiting (λ k. first_number (f k)) c.args.node) (take_all c.loop-key.key-index c.args.keys.now c.loop-key-test.false)
