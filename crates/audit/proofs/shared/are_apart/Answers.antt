use Rattle.std.proofs.Common.{◌≡◌, ◌∷◌, ◌++◌, ◌+◌, ℕ, suc, List, map, drop, refl, ◌∙◌, ap, sym, subst, arith}
use Rattle.std.proofs.Math.Seq.{drop-cons}
use Rattle.std.specs.FinMap as finmap
use Rattle.journal.specs.declared.Entry.{Entry}
use Rattle.rows.specs.WriteSet.{write_set}
use Rattle.audit.specs.Contents.{as_pair}
use Rattle.audit.specs.Gaps.{touch_last}
use Rattle.audit.specs.Marks.{TouchesMarks, key_mark, owner_of}
use Rattle.audit.proofs.Apart.{apart_first, apart_step}
use Rattle.audit.proofs.MarkLemmas.{marked_first, marked_next, own_keys_of}
use Rattle.audit.proofs.shared.are_apart.Goals as goal

pub loop-entry-init : goal.loop-entry-init
loop-entry-init c = (finmap.empty, apart_first c.args.schema.now (map as_pair c.args.entries.now), marked_first (owner_of c.in_ok-owners.owners))

pub loop-entry-preserved : goal.loop-entry-preserved
loop-entry-preserved c =
    let at = c.loop-entry.entry-index in
    let next : suc at ≡ at + 1 = omega arith in
    let entry : Entry = c.entry-item.result in
    let left : drop at c.args.entries.now ≡ entry ∷ drop (at + 1) c.args.entries.now =
    drop-cons c.args.entries.now at entry c.loop-entry-test.true ∙ (λ i. sym c.entry-item.is i ∷ drop (next i) c.args.entries.now) in
    let keys = write_set c.args.schema.now entry.txn in
    let last = c.loop-entry.invariant.0 in
    let old = owner_of c.loop-entry.owners in
    let new = owner_of c.touch_all.new.self in
    let marks : c.deref.result.now ≡ map key_mark keys = c.deref.ensures.value ∙ c.in_ok-push_marks.ensures ∙ ap (λ (xs : List ℕ). xs ++ map key_mark keys) c.clear.ensures.items in
    let touched : TouchesMarks old (map key_mark keys) entry.gtid.source new = subst (λ (ms : List ℕ). TouchesMarks old ms entry.gtid.source new) marks (c.in_ok-touch_all.ensures c.if-not-branch.false) in
    let are = c.loop-entry.invariant.2 in (
      touch_last entry.gtid keys last,
      apart_step c.args.schema.now c.args.entries.now at entry last (touch_last entry.gtid keys last) keys left refl refl (own_keys_of entry.gtid keys last old new are touched) c.loop-entry.invariant.1,
      marked_next entry.gtid keys last old new are touched,
    )
