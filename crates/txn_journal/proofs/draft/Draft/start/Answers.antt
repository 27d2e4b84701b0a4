use Rattle.std.proofs.Common.{refl, sym, ap, subst, arith, ◌∙◌}
use Rattle.gtid_set.specs.Laws.{HaveNumbers}
use Rattle.journal.proofs.EntryLemmas.{no_numbers}
use Rattle.txn_journal.proofs.Seen.{seen_start, of_set}
use Rattle.txn_journal.proofs.draft.Draft.start.Goals as goal

pub invariant_of-result : goal.invariant_of-result
invariant_of-result c = record {
  seen_all = seen_start c.start.result c.empty-2.result (c.start.ensures ∙ ap of_set (c.empty.ensures ∙ sym c.empty-2.ensures));
  open_new = λ e. absurd cc;
  writable = rw c.new-2.ensures.items refl;
  few = omega arith;
}

pub start-requires : goal.start-requires
start-requires c = subst HaveNumbers (sym c.empty.ensures) no_numbers
