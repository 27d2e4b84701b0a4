use Rattle.std.proofs.Common.{sym, ap, ◌∙◌}
use Rattle.std.proofs.lemmas.Result.{err_from_is_err_and}
use Rattle.txn_journal.proofs.Seen.{seen_start, of_set}
use Rattle.txn_journal.proofs.GtidLaws.{set_found, written_numbers}
use Rattle.txn_journal.proofs.FullSets.{previous_full}
use Rattle.txn_journal.specs.Drafts.{standing}
use Rattle.txn_journal.proofs.draft.Draft.follow.Goals as goal

pub invariant_of-self : goal.invariant_of-self
invariant_of-self c = record {
  seen_all = seen_start c.start.result c.in_ok-self.field-0 (c.start.ensures ∙ ap of_set (sym c.in_ok-self.ensures.ok));
  open_new = λ e. absurd cc;
  writable = c.args.self.now.writable;
  few = c.args.self.now.few;
}

pub returns-in_err-previous-clause-line : goal.returns-in_err-previous-clause-line
returns-in_err-previous-clause-line c =
    let p = err_from_is_err_and c.from_residual.result c.from_residual.ensures.1 in
    rw (p.1, p.2, c.in-Some.is) (previous_full (standing c.args.self.now) c.in-Some.word.now c.in_err-previous.field-0.0 c.in_err-previous.ensures.fault)

pub start-requires : goal.start-requires
start-requires c =
    let previous = c.in-Some-2.previous in
    written_numbers previous (set_found c.in-Some.word.now previous (sym c.in_ok-previous.ensures.found ∙ c.in-Some-2.is)).1
