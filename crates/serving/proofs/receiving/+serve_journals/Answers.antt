use Rattle.std.proofs.Common.{rules, ◌≡◌, ◌+◌, List, [], subst, sym}
use Rattle.std.proofs.lemmas.Result.{on_ok_weaker, IfErr-weaker}
use Rattle.journal.specs.declared.Entry.{Entry}
use Rattle.serving.specs.Faults.{IsFaultWhere, KnowsWith, KnowsToo}
use Rattle.serving.specs.Servable.{CanReceive, CanServeEach}
use Rattle.serving.specs.Serving.{pick_entries, Receives, Starts}
use Rattle.serving.proofs.Conditions.{serve_first, serve_rest, can_receive_soon, can_receive_behind}
use Rattle.serving.proofs.Knowing.{soon_fault, rest_fault, sent_fault}
use Rattle.serving.proofs.Runs.{receives_none, serves_more, starts_none, starts_all}
use Rattle.serving.proofs.receiving.+serve_journals.Goals as goal

pub ask_for-requires : goal.ask_for-requires
ask_for-requires t c =
    serve_first c.args.core.now c.args.number c.in-Some-split_first.channel.now c.args.channels.now c.in-Some-split_first.rest.now c.in-Some.journal.now c.in-Some.others.now c.args.journals.now
    c.in-Some-split_first.ensures.cases.0 c.in-Some.ensures.cases.0 c.requires

-- ---- the channel receives at once

pub feed-requires-clause-can : goal.feed-requires-clause-can
feed-requires-clause-can t c =
    let es : List Entry = pick_entries c.in-Some.journal.now.entries c.in_ok-places.places.items in
    let same : pick_entries c.entries.result.now c.deref.result.now ≡ es = λ i. pick_entries (c.entries.ensures i) (c.deref.ensures.value i) in
    subst (λ (xs : List Entry). CanReceive c.args.number xs c.ask_for.new.core) (sym same)
    (can_receive_soon c.args.core.now c.args.number c.in-Some-split_first.channel.now c.args.channels.now c.in-Some-split_first.rest.now c.in-Some.journal.now c.in-Some.others.now c.args.journals.now
    c.in-Some-split_first.ensures.cases.0 c.in-Some.ensures.cases.0 c.requires es c.ask_for.new.core c.in_ok-places.ensures.asks)

pub returns-in_err-feed-clause-fault : goal.returns-in_err-feed-clause-fault
returns-in_err-feed-clause-fault t c =
    let es : List Entry = pick_entries c.in-Some.journal.now.entries c.in_ok-places.places.items in
    let a = c.ask_for.new.core in
    let f = c.in_err-feed.field-0.0 in
    let same : pick_entries c.entries.result.now c.deref.result.now ≡ es = λ i. pick_entries (c.entries.ensures i) (c.deref.ensures.value i) in
    let h : IsFaultWhere (KnowsToo c.args.core.now.state c.args.journals.now) f =
    soon_fault f c.args.core.now a c.args.number c.in-Some-split_first.channel.now c.in-Some.journal.now c.in-Some.others.now c.args.journals.now es c.in-Some.ensures.cases.0 c.in_ok-places.ensures.asks
    (subst (λ (xs : List Entry). IsFaultWhere (KnowsWith a.state xs) f) same c.in_err-feed.ensures.fault) in
    search rules

pub serve_journals-requires : goal.serve_journals-requires
serve_journals-requires t c =
    let es : List Entry = pick_entries c.in-Some.journal.now.entries c.in_ok-places.places.items in
    let same : pick_entries c.entries.result.now c.deref.result.now ≡ es = λ i. pick_entries (c.entries.ensures i) (c.deref.ensures.value i) in
    let starts : Starts c.args.apply c.args.core.now c.args.number c.in-Some-split_first.channel.now c.in-Some.journal.now es [] c.feed.new.core =
    starts_all c.args.apply c.args.core.now c.ask_for.new.core c.feed.new.core c.args.number c.in-Some-split_first.channel.now c.in-Some.journal.now es c.in_ok-places.ensures.asks
    (subst (λ (xs : List Entry). Receives c.args.apply c.ask_for.new.core c.args.number xs c.feed.new.core) same c.in_ok-feed.ensures.received) in
    let can : CanServeEach (c.args.number + 1) c.in-Some-split_first.rest.now c.in-Some.others.now c.feed.new.core =
    serve_rest c.args.core.now c.args.number c.in-Some-split_first.channel.now c.args.channels.now c.in-Some-split_first.rest.now c.in-Some.journal.now c.in-Some.others.now c.args.journals.now
    c.in-Some-split_first.ensures.cases.0 c.in-Some.ensures.cases.0 c.requires c.args.apply es [] c.feed.new.core starts in
    search rules

pub returns-then-others-lt-FEW-clause-served : goal.returns-then-others-lt-FEW-clause-served
returns-then-others-lt-FEW-clause-served t c =
    let es : List Entry = pick_entries c.in-Some.journal.now.entries c.in_ok-places.places.items in
    let s = c.serve_journals.new.core in
    let same : pick_entries c.entries.result.now c.deref.result.now ≡ es = λ i. pick_entries (c.entries.ensures i) (c.deref.ensures.value i) in
    let starts : Starts c.args.apply c.args.core.now c.args.number c.in-Some-split_first.channel.now c.in-Some.journal.now es [] c.feed.new.core =
    starts_all c.args.apply c.args.core.now c.ask_for.new.core c.feed.new.core c.args.number c.in-Some-split_first.channel.now c.in-Some.journal.now es c.in_ok-places.ensures.asks
    (subst (λ (xs : List Entry). Receives c.args.apply c.ask_for.new.core c.args.number xs c.feed.new.core) same c.in_ok-feed.ensures.received) in
    on_ok_weaker c.serve_journals.result
    (λ more. serves_more c.args.apply c.args.core.now c.feed.new.core s s c.args.number c.in-Some-split_first.channel.now c.args.channels.now c.in-Some-split_first.rest.now
    c.in-Some.journal.now c.in-Some.others.now c.args.journals.now es [] c.in-Some-split_first.ensures.cases.0 c.in-Some.ensures.cases.0 starts more (receives_none c.args.apply s c.args.number))
    c.serve_journals.ensures.served

pub returns-then-others-lt-FEW-clause-fault : goal.returns-then-others-lt-FEW-clause-fault
returns-then-others-lt-FEW-clause-fault t c =
    let es : List Entry = pick_entries c.in-Some.journal.now.entries c.in_ok-places.places.items in
    let same : pick_entries c.entries.result.now c.deref.result.now ≡ es = λ i. pick_entries (c.entries.ensures i) (c.deref.ensures.value i) in
    let starts : Starts c.args.apply c.args.core.now c.args.number c.in-Some-split_first.channel.now c.in-Some.journal.now es [] c.feed.new.core =
    starts_all c.args.apply c.args.core.now c.ask_for.new.core c.feed.new.core c.args.number c.in-Some-split_first.channel.now c.in-Some.journal.now es c.in_ok-places.ensures.asks
    (subst (λ (xs : List Entry). Receives c.args.apply c.ask_for.new.core c.args.number xs c.feed.new.core) same c.in_ok-feed.ensures.received) in
    IfErr-weaker c.serve_journals.result (IsFaultWhere (KnowsToo c.feed.new.core.state c.in-Some.others.now)) (IsFaultWhere (KnowsToo c.args.core.now.state c.args.journals.now))
    (λ f h. rest_fault f c.args.apply c.args.core.now c.feed.new.core c.args.number c.in-Some-split_first.channel.now c.in-Some.journal.now c.in-Some.others.now c.args.journals.now es []
    c.in-Some.ensures.cases.0 starts h)
    c.serve_journals.ensures.fault

-- ---- or once the others were served

pub serve_journals-requires-2 : goal.serve_journals-requires-2
serve_journals-requires-2 t c =
    let es : List Entry = pick_entries c.in-Some.journal.now.entries c.in_ok-places.places.items in
    let starts = starts_none c.args.apply c.args.core.now c.ask_for.new.core c.args.number c.in-Some-split_first.channel.now c.in-Some.journal.now es c.in_ok-places.ensures.asks in
    let can : CanServeEach (c.args.number + 1) c.in-Some-split_first.rest.now c.in-Some.others.now c.ask_for.new.core =
    serve_rest c.args.core.now c.args.number c.in-Some-split_first.channel.now c.args.channels.now c.in-Some-split_first.rest.now c.in-Some.journal.now c.in-Some.others.now c.args.journals.now
    c.in-Some-split_first.ensures.cases.0 c.in-Some.ensures.cases.0 c.requires c.args.apply [] es c.ask_for.new.core starts in
    search rules

pub returns-in_err-serve_journals-clause-fault : goal.returns-in_err-serve_journals-clause-fault
returns-in_err-serve_journals-clause-fault t c =
    let es : List Entry = pick_entries c.in-Some.journal.now.entries c.in_ok-places.places.items in
    let f = c.in_err-serve_journals.field-0.0 in
    let starts = starts_none c.args.apply c.args.core.now c.ask_for.new.core c.args.number c.in-Some-split_first.channel.now c.in-Some.journal.now es c.in_ok-places.ensures.asks in
    let h : IsFaultWhere (KnowsToo c.args.core.now.state c.args.journals.now) f =
    rest_fault f c.args.apply c.args.core.now c.ask_for.new.core c.args.number c.in-Some-split_first.channel.now c.in-Some.journal.now c.in-Some.others.now c.args.journals.now [] es
    c.in-Some.ensures.cases.0 starts c.in_err-serve_journals.ensures.fault in
    search rules

pub feed-requires-2-clause-can : goal.feed-requires-2-clause-can
feed-requires-2-clause-can t c =
    let es : List Entry = pick_entries c.in-Some.journal.now.entries c.in_ok-places.places.items in
    let same : pick_entries c.entries-2.result.now c.deref-2.result.now ≡ es = λ i. pick_entries (c.entries-2.ensures i) (c.deref-2.ensures.value i) in
    subst (λ (xs : List Entry). CanReceive c.args.number xs c.serve_journals-2.new.core) (sym same)
    (can_receive_behind c.args.core.now c.args.number c.in-Some-split_first.channel.now c.args.channels.now c.in-Some-split_first.rest.now c.in-Some.journal.now c.in-Some.others.now c.args.journals.now
    c.in-Some-split_first.ensures.cases.0 c.in-Some.ensures.cases.0 c.requires c.args.apply es c.ask_for.new.core c.serve_journals-2.new.core c.in_ok-places.ensures.asks c.in_ok-serve_journals.ensures.served)

pub returns-clause-served : goal.returns-clause-served
returns-clause-served t c =
    let es : List Entry = pick_entries c.in-Some.journal.now.entries c.in_ok-places.places.items in
    let s = c.serve_journals-2.new.core in
    let same : pick_entries c.entries-2.result.now c.deref-2.result.now ≡ es = λ i. pick_entries (c.entries-2.ensures i) (c.deref-2.ensures.value i) in
    let starts = starts_none c.args.apply c.args.core.now c.ask_for.new.core c.args.number c.in-Some-split_first.channel.now c.in-Some.journal.now es c.in_ok-places.ensures.asks in
    on_ok_weaker c.feed-2.result
    (λ received. serves_more c.args.apply c.args.core.now c.ask_for.new.core s c.feed-2.new.core c.args.number c.in-Some-split_first.channel.now c.args.channels.now c.in-Some-split_first.rest.now
    c.in-Some.journal.now c.in-Some.others.now c.args.journals.now [] es c.in-Some-split_first.ensures.cases.0 c.in-Some.ensures.cases.0 starts c.in_ok-serve_journals.ensures.served
    (subst (λ (xs : List Entry). Receives c.args.apply s c.args.number xs c.feed-2.new.core) same received))
    c.feed-2.ensures.received

pub returns-clause-fault : goal.returns-clause-fault
returns-clause-fault t c =
    let es : List Entry = pick_entries c.in-Some.journal.now.entries c.in_ok-places.places.items in
    let s = c.serve_journals-2.new.core in
    let same : pick_entries c.entries-2.result.now c.deref-2.result.now ≡ es = λ i. pick_entries (c.entries-2.ensures i) (c.deref-2.ensures.value i) in
    IfErr-weaker c.feed-2.result (IsFaultWhere (KnowsWith s.state (pick_entries c.entries-2.result.now c.deref-2.result.now))) (IsFaultWhere (KnowsToo c.args.core.now.state c.args.journals.now))
    (λ f h. sent_fault f c.args.apply c.args.core.now c.ask_for.new.core s c.args.number c.in-Some-split_first.channel.now c.in-Some-split_first.rest.now c.in-Some.journal.now c.in-Some.others.now c.args.journals.now es
    c.in-Some.ensures.cases.0 c.in_ok-places.ensures.asks c.in_ok-serve_journals.ensures.served (subst (λ (xs : List Entry). IsFaultWhere (KnowsWith s.state xs) f) same h))
    c.feed-2.ensures.fault
