use Rattle.std.proofs.Common.{◌∙◌, length, refl, sym, ap}
use Rattle.std.specs.FinSet as set
use Rattle.journal.specs.declared.Entry.{Entry}
use Rattle.std.proofs.lemmas.Option.{slice_get_read}
use Rattle.network.specs.Reading.{has_come}
use Rattle.network.proofs.ReadingLemmas.{next_is, next_none}
use Rattle.network.proofs.reading.next_place.Goals as goal

pub returns-else-has_come : goal.returns-else-has_come
returns-else-has_come c =
    let es = c.args.entries.now in
    let x = c.index-entries-next.result in
    record {
      short = c.next.invariant.short;
      come = c.next.invariant.come;
      next = next_is (has_come (set.union c.args.asked.now c.args.received.now)) es c.next.next x c.next.invariant.come (slice_get_read es (length es) c.next.next x refl c.next-test.true c.index-entries-next.is) (ap (λ (e : Entry). has_come (set.union c.args.asked.now c.args.received.now) e) c.index-entries-next.is ∙ (sym c.has_come.ensures ∙ c.if-has_come.false));
    }

pub returns-after-next : goal.returns-after-next
returns-after-next c = record {
  short = c.next.invariant.short;
  come = c.next.invariant.come;
  next = next_none (has_come (set.union c.args.asked.now c.args.received.now)) c.args.entries.now c.next.next c.next.invariant.come c.next-test.false;
}
