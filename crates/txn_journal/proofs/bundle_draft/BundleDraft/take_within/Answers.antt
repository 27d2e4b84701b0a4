use Rattle.std.proofs.Common.{◌≡◌, ◌≤◌, List, Some, Ok, sym, ap, subst, ◌∙◌}
use Rattle.gtid_set.specs.Sets.{Gtids, source_count, most_sources}
use Rattle.rows.specs.declared.schema.Table.{Table}
use Rattle.txn_journal.specs.Machine.{judge}
use Rattle.txn_journal.specs.Drafts.{standing}
use Rattle.txn_journal.specs.BundleDrafts.{bundle_standing}
use Rattle.txn_journal.proofs.InnerSteps.{inner_taken, inner_failed, writers_stay}
use Rattle.txn_journal.proofs.CountedEnds.{inner_full_of}
use Rattle.txn_journal.proofs.bundle_draft.BundleDraft.take_within.Goals.{then-not-has_begun+in-Some-1, then-not-has_begun+in-None-1, else-not-has_begun}
use Rattle.txn_journal.proofs.bundle_draft.BundleDraft.take_within.Goals as goal

pub returns-in-Ok-clause-line : goal.returns-in-Ok-clause-line
returns-in-Ok-clause-line c = inner_taken (bundle_standing c.args.self.now) c.schema.result.now _ c.args.line.now c.add_open_channel.result (bundle_standing c.add_open_channel.new.self) c.requires c.schema.ensures c.in-Ok.ensures.line c.add_open_channel.ensures

pub returns-in-Err-clause-line : goal.returns-in-Err-clause-line
returns-in-Err-clause-line c = inner_failed (bundle_standing c.args.self.now) c.schema.result.now _ c.args.line.now c.in-Err.fault _ c.requires c.schema.ensures c.in-Err.ensures.line

pub returns-in-Ok-clause-room : goal.returns-in-Ok-clause-room
returns-in-Ok-clause-room c full =
    let s = bundle_standing c.args.self.now in
    let few = subst (λ (x : Gtids). source_count x ≤ most_sources) c.opening_set.ensures c.keeps_limits.ensures.sources in
    absurd (let refused = c.in-Ok.ensures.room (inner_full_of s c.schema.result.now c.args.line.now c.requires c.schema.ensures few full) in cc)

pub returns-in-Err-clause-room : goal.returns-in-Err-clause-room
returns-in-Err-clause-room c full =
    let s = bundle_standing c.args.self.now in
    let few = subst (λ (x : Gtids). source_count x ≤ most_sources) c.opening_set.ensures c.keeps_limits.ensures.sources in
    c.in-Err.ensures.room (inner_full_of s c.schema.result.now c.args.line.now c.requires c.schema.ensures few full)

pub invariant_of-self : goal.invariant_of-self
invariant_of-self c = record {
  written = elim c.if-not-has_begun.branch [
    | then-not-has_begun+in-Some-1 w ↦ λ writers is. absurd (let k = sym (λ i. (w.self-is i).1.1.1.1.1.1.1.1.1.0) ∙ is in cc)
    | then-not-has_begun+in-None-1 w ↦ λ writers is. absurd (let k = sym (λ i. (w.self-is i).1.1.1.1.1.1.1.1.1.0) ∙ is in cc)
    | else-not-has_begun w ↦
        let b = c.args.self.now in
        let judged : judge (Some b.bundle.start.schema) (standing b.draft) c.args.line.now ≡ Ok (standing c.take_line.new.self) = ap (λ (t : List Table). judge (Some t) (standing b.draft) c.args.line.now) (sym c.schema.ensures) ∙ c.in-Ok.ensures.line in
        let begun = sym c.has_begun.ensures ∙ w.if-not-has_begun.false in
        λ writers is. writers_stay b.version b.bundle.start.schema (standing b.draft) (standing c.take_line.new.self) c.args.line.now b.writers c.requires judged begun b.written writers (sym (λ i. (w.self-is i).1.1.1.1.1.1.1.1.1.0) ∙ is)
  ];
}
