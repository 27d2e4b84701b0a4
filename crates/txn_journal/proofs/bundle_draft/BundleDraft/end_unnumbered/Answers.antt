use Rattle.std.proofs.Common.{refl, sym, ap}
use Rattle.std.proofs.lemmas.Result.{err_from_is_err_and}
use Rattle.txn_journal.specs.Machine.{Standing}
use Rattle.txn_journal.specs.Drafts.{standing}
use Rattle.txn_journal.specs.Stamps.{right_stamp}
use Rattle.txn_journal.specs.BundleDrafts.{bundle_standing}
use Rattle.txn_journal.proofs.InnerSteps.{AtEnd, ends_wrong, ends_well, ends_failed}
use Rattle.txn_journal.proofs.bundle_draft.BundleDraft.end_unnumbered.Goals as goal

pub returns-then-stamp-ne0 : goal.returns-then-stamp-ne0
returns-then-stamp-ne0 c =
    let s = bundle_standing c.args.self.now in
    let called = record s { draft = standing c.take_entry.new.self } in
    let at : AtEnd s called called c.in_ok-entry.entry 0 c.stamp.result = record {
      called = ap (λ (d : Standing). record s { draft = d }) c.take_entry.ensures.left;
      left = refl;
      entry = c.in_ok-entry.ensures.entry;
      is_right = ap (λ v. right_stamp v s.bundle.start.schema (standing c.take_entry.new.self).journal.entries c.in_ok-entry.entry) (sym c.requires.version);
      is_written = c.stamp.ensures;
    } in
    ends_wrong s called called c.in_ok-entry.entry 0 c.stamp.result at c.if-stamp-ne0.true

pub returns-in_err-join : goal.returns-in_err-join
returns-in_err-join c =
    let s = bundle_standing c.args.self.now in
    let called = record s { draft = standing c.take_entry.new.self } in
    let at : AtEnd s called called c.in_ok-entry.entry 0 c.stamp.result = record {
      called = ap (λ (d : Standing). record s { draft = d }) c.take_entry.ensures.left;
      left = refl;
      entry = c.in_ok-entry.ensures.entry;
      is_right = ap (λ v. right_stamp v s.bundle.start.schema (standing c.take_entry.new.self).journal.entries c.in_ok-entry.entry) (sym c.requires.version);
      is_written = c.stamp.ensures;
    } in
    let p = err_from_is_err_and c.from_residual-in_err-join.result c.from_residual-in_err-join.ensures.1 in
    rw (p.1, p.2) (ends_failed s called called _ c.in_ok-entry.entry 0 c.stamp.result (standing c.join.new.self) c.in_err-join.field-0.0 at c.if-stamp-ne0.false c.in_err-join.ensures.line)

pub returns : goal.returns
returns c =
    let s = bundle_standing c.args.self.now in
    let called = record s { draft = standing c.take_entry.new.self } in
    let at : AtEnd s called called c.in_ok-entry.entry 0 c.stamp.result = record {
      called = ap (λ (d : Standing). record s { draft = d }) c.take_entry.ensures.left;
      left = refl;
      entry = c.in_ok-entry.ensures.entry;
      is_right = ap (λ v. right_stamp v s.bundle.start.schema (standing c.take_entry.new.self).journal.entries c.in_ok-entry.entry) (sym c.requires.version);
      is_written = c.stamp.ensures;
    } in
    ends_well s called called c.in_ok-entry.entry 0 c.stamp.result (standing c.join.new.self) at c.if-stamp-ne0.false c.in_ok-join.ensures.line
