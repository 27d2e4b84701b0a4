use Rattle.std.proofs.Common.{ℕ, List, Option, ◌++◌, sym, subst}
use Rattle.gtid_set.specs.Sets.{Gtids}
use Rattle.txn_journal.specs.BundleReaders.{bundle_reading}
use Rattle.txn_journal.specs.declared.fault.JournalFault.{JournalFault}
use Rattle.binlog_bundle.specs.Logs.{terms_of}
use Rattle.binlog_bundle.specs.Refused.{StopsAt, IsNoOwn, IsFed}
use Rattle.binlog_bundle.specs.Channels.{HasRead, IsDescribed}
use Rattle.binlog_bundle.proofs.Coming.{last_refused, end_refused, end_found}
use Rattle.binlog_bundle.proofs.import.end.Goals as goal

pub returns-in-Err-clause-refused : goal.returns-in-Err-clause-refused
returns-in-Err-clause-refused g c =
    let own = c.split_line.result.0.now in
    subst (λ (f : JournalFault). IsNoOwn (terms_of c.args.grants (g.L.Logs.origin c.args.logs.now)) f c.args.text.now) (sym c.fault_at_line.ensures)
    (last_refused (terms_of c.args.grants (g.L.Logs.origin c.args.logs.now)) c.args.start.now c.args.text.now c.args.left.now own c.split_line.result.1.now c.in-Ok.said.items c.args.progress c.in-Err.fault c.line_at.result
    c.requires.last c.requires.come c.split_line.ensures.parts c.split_line.ensures.first c.in-Ok.ensures
    (subst (λ (xs : List ℕ). (before : List ℕ) → HasRead c.args.progress before → StopsAt c.in-Err.fault (before ++ (xs ++ own))) c.deref.ensures.value c.in-Err.ensures.refused) c.line_at.ensures)

pub without_lack-requires : goal.without_lack-requires
without_lack-requires g c =
    let own = c.split_line.result.0.now in
    let q = bundle_reading c.add_both.new.reader in
    subst (λ (xs : List (Option Gtids)). IsDescribed (terms_of c.args.grants (g.L.Logs.origin c.args.logs.now)) c.args.text.now c.in-Ok-close.bundle xs c.args.progress.notes.items) (sym c.deref-in-Ok-close.ensures.value)
    (end_found (terms_of c.args.grants (g.L.Logs.origin c.args.logs.now)) c.args.start.now c.args.text.now c.args.left.now own c.split_line.result.1.now c.in-Ok.said.items c.args.progress q c.in-Ok-close.bundle
    c.requires.last c.requires.come c.split_line.ensures.parts c.in-Ok.ensures
    (subst (λ (xs : List ℕ). (before : List ℕ) → HasRead c.args.progress before → IsFed q (before ++ (xs ++ own))) c.deref.ensures.value c.in-Ok-add_both.ensures.fed) c.in-Ok-close.ensures.found)

pub returns-clause-refused : goal.returns-clause-refused
returns-clause-refused g c =
    let own = c.split_line.result.0.now in
    let q = bundle_reading c.add_both.new.reader in
    subst (λ (f : JournalFault). IsNoOwn (terms_of c.args.grants (g.L.Logs.origin c.args.logs.now)) f c.args.text.now) (sym c.fault_at_line-in-Err-close.ensures)
    (end_refused (terms_of c.args.grants (g.L.Logs.origin c.args.logs.now)) c.args.start.now c.args.text.now c.args.left.now own c.split_line.result.1.now c.in-Ok.said.items c.args.progress q c.in-Err-close.fault c.line_at-in-Err-close.result
    c.requires.last c.requires.come c.split_line.ensures.parts c.split_line.ensures.first c.in-Ok.ensures
    (subst (λ (xs : List ℕ). (before : List ℕ) → HasRead c.args.progress before → IsFed q (before ++ (xs ++ own))) c.deref.ensures.value c.in-Ok-add_both.ensures.fed) c.in-Err-close.ensures.refused c.line_at-in-Err-close.ensures)
