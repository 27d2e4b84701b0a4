use Rattle.std.proofs.Common.{rules, ◌≡◌, length, refl, sym, ap, subst, ◌∙◌, arith}
use Rattle.std.proofs.lemmas.Slice.Zip.{AllZip-long}
use Rattle.std.specs.List.{AllZip}
use Rattle.std_collections.proofs.HashLookup.{IsHashed-same_keys}
use Rattle.indexmap.specs.Layout.{IsHashed}
use Rattle.key_table.specs.Reached.{AreReached, key_hash}
use Rattle.key_table.proofs.TableChanges.{carried, keys_copied, written}
use Rattle.key_table.proofs.table.KeyTable.copy.Goals as goal

pub index_all-used-requires-clause-hashes : goal.index_all-used-requires-clause-hashes
index_all-used-requires-clause-hashes g c =
    let eq = g.K.PartialEq.eq in
    let hash = λ (k : g.row.K.Denot). key_hash (g.K.Hash.hash_input k) in
    let es = c.self.inside.entries.items in
    let fs = c.in_ok-entries.entries.items in
    let zip : AllZip (λ p q. (q.0 ≡ p.0) × g.V.Clone.is_clone p.1 q.1) es fs = subst (λ l. AllZip (λ p q. (q.0 ≡ p.0) × g.V.Clone.is_clone p.1 q.1) l fs) c.deref.ensures.value c.in_ok-entries.ensures.entries in
    let hashed : IsHashed eq hash c.in_ok-entries.hashes.items fs =
    subst (λ l. IsHashed eq hash l fs) (sym (c.in_ok-entries.ensures.hashes ∙ c.deref-2.ensures.value)) (IsHashed-same_keys eq hash c.self.inside.hashes.items es fs (keys_copied g.V.Clone.is_clone es fs zip) c.self.invariant.0) in
    subst (λ l. IsHashed eq hash l c.deref-3.result.now) (sym c.deref-4.ensures.value) (subst (λ l. IsHashed eq hash c.in_ok-entries.hashes.items l) (sym c.deref-3.ensures.value) hashed)

pub invariant_of-result : goal.invariant_of-result
invariant_of-result g c =
    let eq = g.K.PartialEq.eq in
    let cmp = g.K.Ord.cmp in
    let hash = λ (k : g.row.K.Denot). key_hash (g.K.Hash.hash_input k) in
    let es = c.self.inside.entries.items in
    let fs = c.in_ok-entries.entries.items in
    let zip : AllZip (λ p q. (q.0 ≡ p.0) × g.V.Clone.is_clone p.1 q.1) es fs = subst (λ l. AllZip (λ p q. (q.0 ≡ p.0) × g.V.Clone.is_clone p.1 q.1) l fs) c.deref.ensures.value c.in_ok-entries.ensures.entries in
    let len : length fs ≡ length es = AllZip-long (λ p q. (q.0 ≡ p.0) × g.V.Clone.is_clone p.1 q.1) es fs zip in
    carried eq cmp hash c.index_all-used.new.strays refl refl
    (written c.in_ok-slots.slots.len c.index_all-used.new.slots c.in_ok-slots.slots.items (c.index_all-used.ensures.len ∙ ap length c.deref_mut.ensures.value) (search (rules, arith))) (
      subst (λ l. IsHashed eq hash l fs) (sym (c.in_ok-entries.ensures.hashes ∙ c.deref-2.ensures.value)) (IsHashed-same_keys eq hash c.self.inside.hashes.items es fs (keys_copied g.V.Clone.is_clone es fs zip) c.self.invariant.0),
      omega (len, c.self.invariant.1, arith),
      subst (λ l. AreReached cmp hash l c.index_all-used.new.slots c.index_all-used.new.strays) c.deref-3.ensures.value c.index_all-used.ensures.reached,
    )
