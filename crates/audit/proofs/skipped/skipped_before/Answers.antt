use Rattle.std.proofs.Common.{rules, ◌≡◌, ◌≤◌, ◌+◌, suc, ◌∷◌, length, map, drop, None, sym, ap, ◌∙◌, arith}
use Rattle.std.specs.FinSet as set
use Rattle.std.proofs.Math.Seq.{drop-cons}
use Rattle.gtid_set.specs.Full.{interval_count}
use Rattle.journal.specs.declared.Entry.{Entry}
use Rattle.audit.specs.Contents.{as_pair}
use Rattle.audit.specs.Faults.{IsFaultWithin}
use Rattle.audit.specs.Others.{skips_from}
use Rattle.audit.proofs.Counting.{no_intervals}
use Rattle.audit.proofs.Parts.{fault_of_step, step_skips}
use Rattle.audit.proofs.skipped.skipped_before.Goals as goal

pub loop-entry-init : goal.loop-entry-init
loop-entry-init c =
    let few : interval_count c.empty-skipped.result ≤ 0 = let none = no_intervals in let same = ap interval_count c.empty-skipped.ensures in omega (arith, none, same) in
    (ap (λ skipped. skips_from skipped None (map as_pair c.args.entries.now)) c.empty-skipped.ensures, few)

pub loop-entry-preserved : goal.loop-entry-preserved
loop-entry-preserved c =
    let at = c.loop-entry.entry-index in
    let next : suc at ≡ at + 1 = omega arith in
    let entry : Entry = c.entry-item.result in
    let left : drop at c.args.entries.now ≡ entry ∷ drop (at + 1) c.args.entries.now =
    drop-cons c.args.entries.now at entry c.loop-entry-test.true ∙ (λ i. sym c.entry-item.is i ∷ drop (next i) c.args.entries.now) in
    step_skips c.args.entries.now (drop (at + 1) c.args.entries.now) at entry c.loop-entry.skipped (skips_from set.empty None (map as_pair c.args.entries.now)) c.loop-entry.last c.number_before-after.result
    left c.number_before-after.ensures c.loop-entry.invariant.0 c.loop-entry.invariant.1 c.add_between.new.skipped c.in_ok-add_between.ensures.ok

pub returns-in_err-add_between-clause-fault : goal.returns-in_err-add_between-clause-fault
returns-in_err-add_between-clause-fault c =
    let at = c.loop-entry.entry-index in
    let next : suc at ≡ at + 1 = omega arith in
    let entry : Entry = c.entry-item.result in
    let left : drop at c.args.entries.now ≡ entry ∷ drop (at + 1) c.args.entries.now =
    drop-cons c.args.entries.now at entry c.loop-entry-test.true ∙ (λ i. sym c.entry-item.is i ∷ drop (next i) c.args.entries.now) in
    let fault : IsFaultWithin (skips_from set.empty None (map as_pair c.args.entries.now)) (length c.args.entries.now) c.in_err-add_between.field-0.0 =
    fault_of_step c.args.entries.now (drop (at + 1) c.args.entries.now) at entry c.loop-entry.skipped (skips_from set.empty None (map as_pair c.args.entries.now)) c.loop-entry.last c.number_before-after.result
    left c.number_before-after.ensures c.loop-entry.invariant.0 c.loop-entry.invariant.1 c.in_err-add_between.field-0.0 c.loop-entry-test.true c.in_err-add_between.ensures.fault in
    search rules
