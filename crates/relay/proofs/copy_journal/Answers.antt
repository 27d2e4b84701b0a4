use Rattle.std.proofs.Common.{◌≡◌, ◌<◌, List, take, get_or, length, ap, subst, ◌∙◌}
use Rattle.std.specs.FinSet as set
use Rattle.journal.specs.declared.Entry.{Entry}
use Rattle.journal.specs.Journals.{JournalValue, gtids_of, whole}
use Rattle.relay.proofs.CopyLemmas.{new_at}
use Rattle.relay.proofs.copy_journal.Goals as goal

pub push-requires-clause-new : goal.push-requires-clause-new
push-requires-clause-new c =
    let j = c.args.journal.now in
    let i = c.loop-entry.entry-index in
    let x = c.entry-item.result in
    let same : c.entries-entry-items.result.now ≡ j.entries = c.entries-entry-items.ensures in
    let next : c.in_ok-entry.entry ≡ get_or j.entries i x = c.in_ok-entry.ensures.cases ∙ c.entry-item.is ∙ ap (λ (es : List Entry). get_or es i x) same in
    let below : i < length j.entries = subst (λ (es : List Entry). i < length es) same c.loop-entry-test.true in
    ap (λ (k : JournalValue). set.contains (whole k) c.in_ok-entry.entry.gtid) c.loop-entry.invariant
    ∙ ap (λ (e : Entry). set.contains (set.union j.previous (gtids_of (take i j.entries))) e.gtid) next
    ∙ new_at i j.previous j.entries x below c.keeps_rules.ensures.new
