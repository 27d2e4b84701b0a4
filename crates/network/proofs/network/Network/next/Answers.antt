use Rattle.std.proofs.Common.{rules, ◌≡◌, false, ◌<◌, Some, Err, length, refl, ap, sym, ◌∙◌, subst, arith}
use Rattle.std.specs.Prelude.{slice_get, MatchOption}
use Rattle.std.specs.FinSet as set
use Rattle.std.proofs.lemmas.Option.{slice_get_read, slice_get_past}
use Rattle.replica_core.specs.State.{Replica}
use Rattle.replica_core.specs.declared.event.Reply.TheVariants.{NotPositioned}
use Rattle.network.specs.declared.event.NetworkEvent.TheVariants.{Receive}
use Rattle.network.specs.declared.event.NetworkReply.TheVariants.{Replied}
use Rattle.network.specs.Machine.{decide}
use Rattle.gtid_set.specs.Full.{IsMemoryOr}
use Rattle.network.specs.Faults.{IsReadingCause, IsEventCause, HasRoomIn}
use Rattle.network.specs.Next.{IsAtEnd, IsEntryNext}
use Rattle.network.specs.Reading.{HasRead, IsReadFrom}
use Rattle.network.proofs.NetworkLemmas.{got, IsAsking, purged_cause, reading_cause, anew_room, uncopied, uncopied_room, asked_read, purged_decided, next_read, at_end, entry_next}
use Rattle.network.proofs.network.Network.next.Goals as goal

pub start-requires : goal.start-requires
start-requires c =
    let N = c.self.inside.nodes.items in
    let R = c.self.inside.readers.items in
    let i = c.args.node in
    let d = c.args.channel in
    let k = c.in-Some-source.source in
    let one = c.in-Some.one.now in
    let from = c.in-Some-get.from.now in
    let channel = c.in-Some-channel.into.now.channel in
    let asked = c.in-Some-last_ask.asked.now in
    let received = c.received.result.now in
    let j = c.as_journal-journal.result.now in
    let a : IsAsking N i d k one from channel asked received j = record {
      at = got c.deref.result.now N i one c.deref.ensures.value c.in-Some.ensures.lookup.3.0 c.in-Some.ensures.lookup.1;
      there = ap (λ (r : Replica). slice_get r.state.channels d) (sym c.replica.ensures) ∙ c.in-Some-channel.ensures.value;
      with = c.in-Some-last_ask.ensures;
      reads = c.in-Some-source.ensures;
      source = got c.deref-2.result.now N k from c.deref-2.ensures.value c.in-Some-get.ensures.lookup.3.0 c.in-Some-get.ensures.lookup.1;
      received_is = c.received.ensures;
      journal = c.as_journal-journal.ensures ∙ (c.journal.ensures ∙ ap (λ (r : Replica). r.state.journal) c.replica-2.ensures);
    } in
    let below : i < length R = let there = c.in-Some.ensures.lookup.3.0 in let same = ap length c.deref.ensures.value in omega (there, same, c.self.invariant.count, arith) in
    let reader : slice_get R i ≡ Some c.index.result.now = slice_get_read R (length R) i c.index.result.now refl below c.index.ensures in
    asked_read N i d k one from channel asked received j a c.place-known.result
    (subst (λ p. IsReadFrom N i d k p) (sym c.place-known.ensures) (c.self.invariant.read i d k c.index.result.now reader))

pub returns-in_default-2-clause-ok : goal.returns-in_default-2-clause-ok
returns-in_default-2-clause-ok c =
    let N = c.self.inside.nodes.items in
    let i = c.args.node in
    let d = c.args.channel in
    let k = c.in-Some-source.source in
    let one = c.in-Some.one.now in
    let from = c.in-Some-get.from.now in
    let channel = c.in-Some-channel.into.now.channel in
    let asked = c.in-Some-last_ask.asked.now in
    let received = c.received.result.now in
    let j = c.as_journal-journal.result.now in
    let a : IsAsking N i d k one from channel asked received j = record {
      at = got c.deref.result.now N i one c.deref.ensures.value c.in-Some.ensures.lookup.3.0 c.in-Some.ensures.lookup.1;
      there = ap (λ (r : Replica). slice_get r.state.channels d) (sym c.replica.ensures) ∙ c.in-Some-channel.ensures.value;
      with = c.in-Some-last_ask.ensures;
      reads = c.in-Some-source.ensures;
      source = got c.deref-2.result.now N k from c.deref-2.ensures.value c.in-Some-get.ensures.lookup.3.0 c.in-Some-get.ensures.lookup.1;
      received_is = c.received.ensures;
      journal = c.as_journal-journal.ensures ∙ (c.journal.ensures ∙ ap (λ (r : Replica). r.state.journal) c.replica-2.ensures);
    } in
    subst (λ ns. decide ns (Receive i d) ≡ Err (Replied NotPositioned)) c.self.view_is
    (purged_decided N i d k one from channel asked received j a (subst (λ o. MatchOption o (set.is_subset j.previous (set.union asked received) ≡ false) (HasRead (set.union asked received) j)) c.in_default-2.is c.in_ok-place.ensures.ok))

pub returns-in-Ok-clause-ok : goal.returns-in-Ok-clause-ok
returns-in-Ok-clause-ok c =
    let N = c.self.inside.nodes.items in
    let i = c.args.node in
    let d = c.args.channel in
    let k = c.in-Some-source.source in
    let one = c.in-Some.one.now in
    let from = c.in-Some-get.from.now in
    let channel = c.in-Some-channel.into.now.channel in
    let asked = c.in-Some-last_ask.asked.now in
    let received = c.received.result.now in
    let j = c.as_journal-journal.result.now in
    let a : IsAsking N i d k one from channel asked received j = record {
      at = got c.deref.result.now N i one c.deref.ensures.value c.in-Some.ensures.lookup.3.0 c.in-Some.ensures.lookup.1;
      there = ap (λ (r : Replica). slice_get r.state.channels d) (sym c.replica.ensures) ∙ c.in-Some-channel.ensures.value;
      with = c.in-Some-last_ask.ensures;
      reads = c.in-Some-source.ensures;
      source = got c.deref-2.result.now N k from c.deref-2.ensures.value c.in-Some-get.ensures.lookup.3.0 c.in-Some-get.ensures.lookup.1;
      received_is = c.received.ensures;
      journal = c.as_journal-journal.ensures ∙ (c.journal.ensures ∙ ap (λ (r : Replica). r.state.journal) c.replica-2.ensures);
    } in
    let start = subst (λ o. MatchOption o (set.is_subset j.previous (set.union asked received) ≡ false) (HasRead (set.union asked received) j)) c.in-Some-2.is c.in_ok-place.ensures.ok in
    let next = next_read (set.union asked received) (set.union asked c.received-2.result.now) j c.entries.result.now c.in-Some-2.place c.next_place-next.result start (ap (set.union asked) (c.received-2.ensures ∙ sym c.received.ensures)) c.entries.ensures c.next_place-next.ensures in
    let es = c.entries-2.result.now in
    let entry : slice_get es c.next_place-next.result ≡ Some c.in-Some-get-2.entry.now = slice_get_read es (length es) c.next_place-next.result c.in-Some-get-2.entry.now refl c.in-Some-get-2.ensures.lookup.3.0 c.in-Some-get-2.ensures.lookup.1 in
    subst (λ ns. IsEntryNext ns i d c.next_place-next.result c.in-Ok.copy) c.self.view_is
    (entry_next N i d k one from channel asked received j a c.next_place-next.result next.read c.in-Ok.copy
    (next.next ∙ (ap (λ xs. slice_get xs c.next_place-next.result) (sym c.entries-2.ensures) ∙ (entry ∙ sym (ap Some c.in-Ok.ensures.cases))))
    c.keeps_rules.ensures.writable)

pub returns-in-Err-clause-fault : goal.returns-in-Err-clause-fault
returns-in-Err-clause-fault c =
    let N = c.self.inside.nodes.items in
    let i = c.args.node in
    let d = c.args.channel in
    let k = c.in-Some-source.source in
    let one = c.in-Some.one.now in
    let from = c.in-Some-get.from.now in
    let channel = c.in-Some-channel.into.now.channel in
    let asked = c.in-Some-last_ask.asked.now in
    let received = c.received.result.now in
    let j = c.as_journal-journal.result.now in
    let a : IsAsking N i d k one from channel asked received j = record {
      at = got c.deref.result.now N i one c.deref.ensures.value c.in-Some.ensures.lookup.3.0 c.in-Some.ensures.lookup.1;
      there = ap (λ (r : Replica). slice_get r.state.channels d) (sym c.replica.ensures) ∙ c.in-Some-channel.ensures.value;
      with = c.in-Some-last_ask.ensures;
      reads = c.in-Some-source.ensures;
      source = got c.deref-2.result.now N k from c.deref-2.ensures.value c.in-Some-get.ensures.lookup.3.0 c.in-Some-get.ensures.lookup.1;
      received_is = c.received.ensures;
      journal = c.as_journal-journal.ensures ∙ (c.journal.ensures ∙ ap (λ (r : Replica). r.state.journal) c.replica-2.ensures);
    } in
    let start = subst (λ o. MatchOption o (set.is_subset j.previous (set.union asked received) ≡ false) (HasRead (set.union asked received) j)) c.in-Some-2.is c.in_ok-place.ensures.ok in
    let next = next_read (set.union asked received) (set.union asked c.received-2.result.now) j c.entries.result.now c.in-Some-2.place c.next_place-next.result start (ap (set.union asked) (c.received-2.ensures ∙ sym c.received.ensures)) c.entries.ensures c.next_place-next.ensures in
    let es = c.entries-2.result.now in
    let entry : slice_get es c.next_place-next.result ≡ Some c.in-Some-get-2.entry.now = slice_get_read es (length es) c.next_place-next.result c.in-Some-get-2.entry.now refl c.in-Some-get-2.ensures.lookup.3.0 c.in-Some-get-2.ensures.lookup.1 in
    let e = c.in-Some-get-2.entry.now in
    let is_next : IsEntryNext N i d c.next_place-next.result e = entry_next N i d k one from channel asked received j a c.next_place-next.result next.read e
    (next.next ∙ (ap (λ xs. slice_get xs c.next_place-next.result) (sym c.entries-2.ensures) ∙ entry)) c.keeps_rules.ensures.writable in
    let f = c.refusal_to_receive.result in
    subst (λ ns. IsEventCause f ns (Receive i d)) c.self.view_is (uncopied N i d k c.next_place-next.result one from channel asked received j a e is_next f c.refusal_to_receive.ensures.cause)

pub returns-in-Err-clause-room : goal.returns-in-Err-clause-room
returns-in-Err-clause-room c =
    let N = c.self.inside.nodes.items in
    let i = c.args.node in
    let d = c.args.channel in
    let k = c.in-Some-source.source in
    let one = c.in-Some.one.now in
    let from = c.in-Some-get.from.now in
    let channel = c.in-Some-channel.into.now.channel in
    let asked = c.in-Some-last_ask.asked.now in
    let received = c.received.result.now in
    let j = c.as_journal-journal.result.now in
    let a : IsAsking N i d k one from channel asked received j = record {
      at = got c.deref.result.now N i one c.deref.ensures.value c.in-Some.ensures.lookup.3.0 c.in-Some.ensures.lookup.1;
      there = ap (λ (r : Replica). slice_get r.state.channels d) (sym c.replica.ensures) ∙ c.in-Some-channel.ensures.value;
      with = c.in-Some-last_ask.ensures;
      reads = c.in-Some-source.ensures;
      source = got c.deref-2.result.now N k from c.deref-2.ensures.value c.in-Some-get.ensures.lookup.3.0 c.in-Some-get.ensures.lookup.1;
      received_is = c.received.ensures;
      journal = c.as_journal-journal.ensures ∙ (c.journal.ensures ∙ ap (λ (r : Replica). r.state.journal) c.replica-2.ensures);
    } in
    let start = subst (λ o. MatchOption o (set.is_subset j.previous (set.union asked received) ≡ false) (HasRead (set.union asked received) j)) c.in-Some-2.is c.in_ok-place.ensures.ok in
    let next = next_read (set.union asked received) (set.union asked c.received-2.result.now) j c.entries.result.now c.in-Some-2.place c.next_place-next.result start (ap (set.union asked) (c.received-2.ensures ∙ sym c.received.ensures)) c.entries.ensures c.next_place-next.ensures in
    let es = c.entries-2.result.now in
    let entry : slice_get es c.next_place-next.result ≡ Some c.in-Some-get-2.entry.now = slice_get_read es (length es) c.next_place-next.result c.in-Some-get-2.entry.now refl c.in-Some-get-2.ensures.lookup.3.0 c.in-Some-get-2.ensures.lookup.1 in
    let e = c.in-Some-get-2.entry.now in
    let is_next : IsEntryNext N i d c.next_place-next.result e = entry_next N i d k one from channel asked received j a c.next_place-next.result next.read e
    (next.next ∙ (ap (λ xs. slice_get xs c.next_place-next.result) (sym c.entries-2.ensures) ∙ entry)) c.keeps_rules.ensures.writable in
    let f = c.refusal_to_receive.result in
    subst (λ ns. HasRoomIn f ns (Receive i d)) c.self.view_is (uncopied_room N i d k c.next_place-next.result one from channel asked received j a e is_next f c.refusal_to_receive.ensures.room)

pub returns-in-None-clause-ok : goal.returns-in-None-clause-ok
returns-in-None-clause-ok c =
    let N = c.self.inside.nodes.items in
    let i = c.args.node in
    let d = c.args.channel in
    let k = c.in-Some-source.source in
    let one = c.in-Some.one.now in
    let from = c.in-Some-get.from.now in
    let channel = c.in-Some-channel.into.now.channel in
    let asked = c.in-Some-last_ask.asked.now in
    let received = c.received.result.now in
    let j = c.as_journal-journal.result.now in
    let a : IsAsking N i d k one from channel asked received j = record {
      at = got c.deref.result.now N i one c.deref.ensures.value c.in-Some.ensures.lookup.3.0 c.in-Some.ensures.lookup.1;
      there = ap (λ (r : Replica). slice_get r.state.channels d) (sym c.replica.ensures) ∙ c.in-Some-channel.ensures.value;
      with = c.in-Some-last_ask.ensures;
      reads = c.in-Some-source.ensures;
      source = got c.deref-2.result.now N k from c.deref-2.ensures.value c.in-Some-get.ensures.lookup.3.0 c.in-Some-get.ensures.lookup.1;
      received_is = c.received.ensures;
      journal = c.as_journal-journal.ensures ∙ (c.journal.ensures ∙ ap (λ (r : Replica). r.state.journal) c.replica-2.ensures);
    } in
    let start = subst (λ o. MatchOption o (set.is_subset j.previous (set.union asked received) ≡ false) (HasRead (set.union asked received) j)) c.in-Some-2.is c.in_ok-place.ensures.ok in
    let next = next_read (set.union asked received) (set.union asked c.received-2.result.now) j c.entries.result.now c.in-Some-2.place c.next_place-next.result start (ap (set.union asked) (c.received-2.ensures ∙ sym c.received.ensures)) c.entries.ensures c.next_place-next.ensures in
    subst (λ ns. IsAtEnd ns i d c.next_place-next.result) c.self.view_is
    (at_end N i d k one from channel asked received j a c.next_place-next.result next.read
    (next.next ∙ (ap (λ xs. slice_get xs c.next_place-next.result) (sym c.entries-2.ensures) ∙ slice_get_past c.entries-2.result.now c.next_place-next.result c.in-None.ensures.lookup.3)))

pub returns-in_err-place-clause-fault : goal.returns-in_err-place-clause-fault
returns-in_err-place-clause-fault c =
    let N = c.self.inside.nodes.items in
    let R = c.self.inside.readers.items in
    let i = c.args.node in
    let d = c.args.channel in
    let k = c.in-Some-source.source in
    let one = c.in-Some.one.now in
    let from = c.in-Some-get.from.now in
    let channel = c.in-Some-channel.into.now.channel in
    let asked = c.in-Some-last_ask.asked.now in
    let received = c.received.result.now in
    let j = c.as_journal-journal.result.now in
    let a : IsAsking N i d k one from channel asked received j = record {
      at = got c.deref.result.now N i one c.deref.ensures.value c.in-Some.ensures.lookup.3.0 c.in-Some.ensures.lookup.1;
      there = ap (λ (r : Replica). slice_get r.state.channels d) (sym c.replica.ensures) ∙ c.in-Some-channel.ensures.value;
      with = c.in-Some-last_ask.ensures;
      reads = c.in-Some-source.ensures;
      source = got c.deref-2.result.now N k from c.deref-2.ensures.value c.in-Some-get.ensures.lookup.3.0 c.in-Some-get.ensures.lookup.1;
      received_is = c.received.ensures;
      journal = c.as_journal-journal.ensures ∙ (c.journal.ensures ∙ ap (λ (r : Replica). r.state.journal) c.replica-2.ensures);
    } in
    let f = c.in_err-place.field-0.0 in
    let fault : IsMemoryOr ⊥ (IsReadingCause f c.args.self.now i d) f =
    subst (λ ns. IsMemoryOr ⊥ (IsReadingCause f ns i d) f) c.self.view_is (purged_cause N i d k one from channel asked received j a f c.in_err-place.ensures.fault) in
    let cause : IsEventCause f c.args.self.now (Receive i d) = reading_cause c.args.self.now i d f fault in
    search rules

pub returns-in_err-place-clause-room : goal.returns-in_err-place-clause-room
returns-in_err-place-clause-room c =
    let N = c.self.inside.nodes.items in
    let R = c.self.inside.readers.items in
    let i = c.args.node in
    let d = c.args.channel in
    let k = c.in-Some-source.source in
    let one = c.in-Some.one.now in
    let from = c.in-Some-get.from.now in
    let channel = c.in-Some-channel.into.now.channel in
    let asked = c.in-Some-last_ask.asked.now in
    let received = c.received.result.now in
    let j = c.as_journal-journal.result.now in
    let a : IsAsking N i d k one from channel asked received j = record {
      at = got c.deref.result.now N i one c.deref.ensures.value c.in-Some.ensures.lookup.3.0 c.in-Some.ensures.lookup.1;
      there = ap (λ (r : Replica). slice_get r.state.channels d) (sym c.replica.ensures) ∙ c.in-Some-channel.ensures.value;
      with = c.in-Some-last_ask.ensures;
      reads = c.in-Some-source.ensures;
      source = got c.deref-2.result.now N k from c.deref-2.ensures.value c.in-Some-get.ensures.lookup.3.0 c.in-Some-get.ensures.lookup.1;
      received_is = c.received.ensures;
      journal = c.as_journal-journal.ensures ∙ (c.journal.ensures ∙ ap (λ (r : Replica). r.state.journal) c.replica-2.ensures);
    } in
    let f = c.in_err-place.field-0.0 in
    let room : HasRoomIn f c.args.self.now (Receive i d) =
    subst (λ ns. HasRoomIn f ns (Receive i d)) c.self.view_is (anew_room N i d k one from channel asked received j a f c.in_err-place.ensures.anew) in
    search rules
