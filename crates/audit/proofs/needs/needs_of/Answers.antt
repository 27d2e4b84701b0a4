use Rattle.std.proofs.Common.{◌≡◌, ◌∷◌, ◌+◌, suc, map, drop, ap, ◌∙◌, sym, subst, arith, true≢false}
use Rattle.std.proofs.Math.Seq.{drop-cons}
use Rattle.journal.specs.declared.Entry.{Entry}
use Rattle.audit.specs.Contents.{as_pair}
use Rattle.std.specs.List.{list_all}
use Rattle.audit.specs.Gaps.{needs_over, last_of_keys, is_own}
use Rattle.audit.proofs.Apart.{IsApart, apart_first, apart_step, needs_more}
use Rattle.audit.proofs.needs.needs_of.Goals as goal
use Rattle.audit.proofs.needs.needs_of.Goals.{then-apart, else-apart}

pub loop-entry-init : goal.loop-entry-init
loop-entry-init c = record {
  needs = λ i. needs_over c.args.schema.now (c.new-last.ensures i) (c.new-needs.ensures i) (map as_pair c.args.entries.now);
  apart = λ yes. subst (IsApart c.args.schema.now (map as_pair c.args.entries.now) (map as_pair c.args.entries.now)) (sym c.new-last.ensures) (apart_first c.args.schema.now (map as_pair c.args.entries.now));
}

pub loop-entry-preserved : goal.loop-entry-preserved
loop-entry-preserved c =
    let at = c.loop-entry.entry-index in
    let next : suc at ≡ at + 1 = omega arith in
    let entry : Entry = c.entry-item.result in
    let left : drop at c.args.entries.now ≡ entry ∷ drop (at + 1) c.args.entries.now =
    drop-cons c.args.entries.now at entry c.loop-entry-test.true ∙ (λ i. sym c.entry-item.is i ∷ drop (next i) c.args.entries.now) in
    record {
      needs = needs_more c.args.schema.now c.args.entries.now at entry c.loop-entry.last c.touch_last.new.self c.loop-entry.needs c.put.new.self c.in_ok-keys.keys.items c.in_ok-earlier.earlier.items _
          left c.in_ok-keys.ensures (c.in_ok-earlier.ensures.list ∙ ap (λ ks. last_of_keys entry.gtid ks c.loop-entry.last) c.deref.ensures.value) c.in_ok-put.ensures c.in_ok-touch_last.ensures c.loop-entry.invariant.needs;
      apart = λ yes. elim c.if-apart.branch [
        | then-apart w ↦ apart_step c.args.schema.now c.args.entries.now at entry c.loop-entry.last c.touch_last.new.self c.in_ok-keys.keys.items
            left c.in_ok-keys.ensures c.in_ok-touch_last.ensures
            (ap (list_all (is_own entry.gtid c.loop-entry.last)) (sym c.deref.ensures.value) ∙ sym c.in_ok-earlier.ensures.own ∙ sym w.apart-is ∙ yes)
            (c.loop-entry.invariant.apart w.if-apart.true)
        | else-apart w ↦ absurd (true≢false (sym yes ∙ w.apart-is ∙ w.if-apart.false))
      ];
    }
