use Rattle.std.proofs.Common.{ap}
use Rattle.std.proofs.lemmas.Result.{err_from_is_err_and}
use Rattle.txn_journal.specs.Machine.{Standing}
use Rattle.txn_journal.specs.Drafts.{standing}
use Rattle.txn_journal.specs.BundleDrafts.{bundle_standing}
use Rattle.txn_journal.proofs.InnerSteps.{AtEnd, ends_wrong, ends_well, ends_failed}
use Rattle.txn_journal.proofs.bundle_draft.BundleDraft.end_numbered.Goals as goal

pub returns-then-stamp : goal.returns-then-stamp
returns-then-stamp c =
    let s = bundle_standing c.args.self.now in
    let called = record s { draft = standing c.take_entry.new.self } in
    let t = bundle_standing c.next_written.new.self in
    let at : AtEnd s called t c.in_ok-entry.entry c.in_ok-stamp.stamp c.stamp.result = record {
      called = ap (λ (d : Standing). record s { draft = d }) c.take_entry.ensures.left;
      left = c.next_written.ensures.left;
      entry = c.in_ok-entry.ensures.entry;
      is_right = c.in_ok-stamp.ensures.stamp;
      is_written = c.stamp.ensures;
    } in
    ends_wrong s called t c.in_ok-entry.entry c.in_ok-stamp.stamp c.stamp.result at c.if-stamp.true

pub returns-in_err-join : goal.returns-in_err-join
returns-in_err-join c =
    let s = bundle_standing c.args.self.now in
    let called = record s { draft = standing c.take_entry.new.self } in
    let t = bundle_standing c.next_written.new.self in
    let at : AtEnd s called t c.in_ok-entry.entry c.in_ok-stamp.stamp c.stamp.result = record {
      called = ap (λ (d : Standing). record s { draft = d }) c.take_entry.ensures.left;
      left = c.next_written.ensures.left;
      entry = c.in_ok-entry.ensures.entry;
      is_right = c.in_ok-stamp.ensures.stamp;
      is_written = c.stamp.ensures;
    } in
    let p = err_from_is_err_and c.from_residual-in_err-join.result c.from_residual-in_err-join.ensures.1 in
    rw (p.1, p.2) (ends_failed s called t _ c.in_ok-entry.entry c.in_ok-stamp.stamp c.stamp.result (standing c.join.new.self) c.in_err-join.field-0.0 at c.if-stamp.false c.in_err-join.ensures.line)

pub returns : goal.returns
returns c =
    let s = bundle_standing c.args.self.now in
    let called = record s { draft = standing c.take_entry.new.self } in
    let t = bundle_standing c.next_written.new.self in
    let at : AtEnd s called t c.in_ok-entry.entry c.in_ok-stamp.stamp c.stamp.result = record {
      called = ap (λ (d : Standing). record s { draft = d }) c.take_entry.ensures.left;
      left = c.next_written.ensures.left;
      entry = c.in_ok-entry.ensures.entry;
      is_right = c.in_ok-stamp.ensures.stamp;
      is_written = c.stamp.ensures;
    } in
    ends_well s called t c.in_ok-entry.entry c.in_ok-stamp.stamp c.stamp.result (standing c.join.new.self) at c.if-stamp.false c.in_ok-join.ensures.line
