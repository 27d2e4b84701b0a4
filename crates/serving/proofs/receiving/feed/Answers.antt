use Rattle.std.proofs.Common.{rules, ◌≡◌, ◌+◌, ◌<◌, suc, List, [], ◌∷◌, ◌++◌, length, take, drop, ap, subst, sym, ◌∙◌, arith}
use Rattle.std.proofs.Math.Seq.{take-suc}
use Rattle.std.proofs.lemmas.List.{take_all}
use Rattle.journal.specs.declared.Entry.{Entry}
use Rattle.serving.specs.Faults.{KnowsWith}
use Rattle.serving.specs.Serving.{pick_entries, apply_events_at, Receives}
use Rattle.serving.proofs.Conditions.{can_next, is_accepted, goes_on}
use Rattle.serving.proofs.Knowing.{knows_so_far, weaker}
use Rattle.serving.proofs.Sending.{picked_length, picked_is_at}
use Rattle.serving.proofs.Runs.{applied_between, receives_one, receives_more}
use Rattle.serving.proofs.receiving.feed.Goals as goal

pub receive-requires : goal.receive-requires
receive-requires c =
    let from = c.args.entries.now in
    let places = c.args.places.now in
    let entries : List Entry = pick_entries from places in
    let place = c.loop-place.place in
    let entry : Entry = c.in-Some.entry.now in
    let few : place < length entries = subst (λ n. place < n) (sym (picked_length from places c.requires.below)) c.loop-place-test.true in
    let is = picked_is_at from places place entry c.requires.below c.loop-place-test.true c.in-Some.ensures.lookup.1 in
    (can_next c.loop-place.core c.args.channel place entry entries few is c.loop-place.invariant.can).taken.0

pub returns-in_err-receive-clause-fault : goal.returns-in_err-receive-clause-fault
returns-in_err-receive-clause-fault c =
    let old = c.args.core.now in
    let core = c.loop-place.core in
    let from = c.args.entries.now in
    let places = c.args.places.now in
    let entries : List Entry = pick_entries from places in
    let place = c.loop-place.place in
    let entry : Entry = c.in-Some.entry.now in
    let few : place < length entries = subst (λ n. place < n) (sym (picked_length from places c.requires.below)) c.loop-place-test.true in
    let is = picked_is_at from places place entry c.requires.below c.loop-place-test.true c.in-Some.ensures.lookup.1 in
    let h = weaker c.in_err-receive.field-0.0 (KnowsWith core.state (entry ∷ [])) (KnowsWith old.state entries)
    (λ all has. knows_so_far all c.args.apply old core c.args.channel place entry entries few is c.loop-place.invariant.received has)
    c.in_err-receive.ensures.fault in
    search rules

pub returns-clause-received : goal.returns-clause-received
returns-clause-received c =
    let from = c.args.entries.now in
    let places = c.args.places.now in
    let entries : List Entry = pick_entries from places in
    let same = picked_length from places c.requires.below in
    subst (λ (es : List Entry). Receives c.args.apply c.args.core.now c.args.channel es c.loop-place.core)
    (take_all c.loop-place.place entries (omega (arith, same, c.loop-place-test.false)))
    c.loop-place.invariant.received

pub loop-place-preserved : goal.loop-place-preserved
loop-place-preserved c =
    let old = c.args.core.now in
    let core = c.loop-place.core in
    let next = c.receive.new.core in
    let from = c.args.entries.now in
    let places = c.args.places.now in
    let entries : List Entry = pick_entries from places in
    let place = c.loop-place.place in
    let entry : Entry = c.in-Some.entry.now in
    let few : place < length entries = subst (λ n. place < n) (sym (picked_length from places c.requires.below)) c.loop-place-test.true in
    let is = picked_is_at from places place entry c.requires.below c.loop-place-test.true c.in-Some.ensures.lookup.1 in
    let rest : List Entry = drop (place + 1) entries in
    let more = apply_events_at c.args.apply c.args.channel place in
    let between = applied_between c.args.apply c.args.channel place in
    let can = can_next core c.args.channel place entry entries few is c.loop-place.invariant.can in
    let one = receives_one c.args.apply core next c.args.channel entry more between (is_accepted core c.args.channel entry rest can) c.in_ok-receive.ensures.now in
    let up : suc place ≡ place + 1 = omega arith in
    let one_more : take place entries ++ entry ∷ [] ≡ take (place + 1) entries =
    ap (λ (e : Entry). take place entries ++ e ∷ []) is ∙ sym (take-suc entries place entry few) ∙ ap (λ n. take n entries) up in
    record {
      received = subst (λ (es : List Entry). Receives c.args.apply old c.args.channel es next) one_more
          (receives_more c.args.apply old core next c.args.channel (take place entries) (entry ∷ []) c.loop-place.invariant.received one);
      can = goes_on c.args.apply core next c.args.channel entry more between c.in_ok-receive.ensures.now rest can;
    }
