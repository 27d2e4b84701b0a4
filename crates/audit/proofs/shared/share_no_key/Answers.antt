use Rattle.std.proofs.Common.{◌≡◌, ◌∷◌, ◌++◌, ◌+◌, ℕ, suc, Bor, List, map, drop, ◌∙◌, ap, sym, subst, arith}
use Rattle.std.proofs.Math.Seq.{drop-cons}
use Rattle.std.specs.FinMap as finmap
use Rattle.journal.specs.declared.Entry.{Entry}
use Rattle.rows.specs.WriteSet.{write_set}
use Rattle.audit.specs.Contents.{as_pair}
use Rattle.audit.specs.Gaps.{touch_last}
use Rattle.audit.specs.Marks.{TouchesMarks, key_mark, owner_of}
use Rattle.audit.proofs.Apart.{IsApart, apart_first, apart_more}
use Rattle.audit.proofs.MarkLemmas.{marked_first, marked_next, own_keys_of}
use Rattle.audit.proofs.shared.share_no_key.Goals as goal

pub loop-entry-init : goal.loop-entry-init
loop-entry-init c = (finmap.empty, apart_first c.args.schema.now (map as_pair (map (λ (x : Bor Entry). x.now) c.args.entries.now)), marked_first (owner_of c.in_ok-owners.owners))

pub loop-entry-preserved : goal.loop-entry-preserved
loop-entry-preserved c =
    let at = c.loop-entry.entry-index in
    let next : suc at ≡ at + 1 = omega arith in
    let lent : Bor Entry = c.entry-item.result in
    let entry = lent.now in
    let all = c.args.entries.now in
    let left : drop at all ≡ lent ∷ drop (at + 1) all = drop-cons all at lent c.loop-entry-test.true ∙ (λ i. sym c.entry-item.is i ∷ drop (next i) all) in
    let keys = write_set c.args.schema.now entry.txn in
    let last = c.loop-entry.invariant.0 in
    let old = owner_of c.loop-entry.owners in
    let new = owner_of c.touch_all.new.self in
    let marks : c.deref.result.now ≡ map key_mark keys = c.deref.ensures.value ∙ c.in_ok-push_marks.ensures ∙ ap (λ (xs : List ℕ). xs ++ map key_mark keys) c.clear.ensures.items in
    let touched : TouchesMarks old (map key_mark keys) entry.gtid.source new = subst (λ (ms : List ℕ). TouchesMarks old ms entry.gtid.source new) marks (c.in_ok-touch_all.ensures c.if-not-branch.false) in
    let are = c.loop-entry.invariant.2 in (
      touch_last entry.gtid keys last,
      apart_more c.args.schema.now (map as_pair (map (λ (x : Bor Entry). x.now) all)) (map as_pair (map (λ (x : Bor Entry). x.now) (drop (at + 1) all))) (as_pair entry) last
          (subst (λ (xs : List (Bor Entry)). IsApart c.args.schema.now (map as_pair (map (λ (x : Bor Entry). x.now) all)) (map as_pair (map (λ (x : Bor Entry). x.now) xs)) last) left c.loop-entry.invariant.1)
          (own_keys_of entry.gtid keys last old new are touched),
      marked_next entry.gtid keys last old new are touched,
    )
