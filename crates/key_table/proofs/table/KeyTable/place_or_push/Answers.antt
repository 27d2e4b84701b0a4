use Rattle.std.proofs.Common.{rules, List, ◌<◌, ◌++◌, ◌∷◌, [], length, refl, sym, ap, subst, ◌∙◌, arith}
use Rattle.indexmap.specs.IndexMap.{index_of}
use Rattle.key_table.specs.Reached.{AreReached, IsReached, KeepsReached, key_hash}
use Rattle.key_table.proofs.TableChanges.{carried, pushed, written}
use Rattle.key_table.proofs.TableLemmas.{none_lookup, on_err, some_place, value_missing}
use Rattle.key_table.proofs.table.KeyTable.place_or_push.Goals as goal

pub invariant_of-self : goal.invariant_of-self
invariant_of-self g c =
    let eq = g.K.PartialEq.eq in
    let cmp = g.K.Ord.cmp in
    let hash = λ (k : g.row.K.Denot). key_hash (g.K.Hash.hash_input k) in
    carried eq cmp hash c.self.inside.strays refl refl
    (written c.self.inside.slots.len c.find_or_note.new.slots c.self.inside.slots.items (c.find_or_note.ensures.len ∙ ap length c.deref_mut.ensures.value) (search (rules, arith)))
    (c.self.invariant.0, c.self.invariant.1, subst (λ l. AreReached cmp hash l c.find_or_note.new.slots c.self.inside.strays) c.deref.ensures.value c.find_or_note.ensures.same)

pub invariant_of-self-in-Nowhere : goal.invariant_of-self-in-Nowhere
invariant_of-self-in-Nowhere g c =
    let eq = g.K.PartialEq.eq in
    let cmp = g.K.Ord.cmp in
    let hash = λ (k : g.row.K.Denot). key_hash (g.K.Hash.hash_input k) in
    carried eq cmp hash c.self.inside.strays refl refl
    (written c.self.inside.slots.len c.find_or_note.new.slots c.self.inside.slots.items (c.find_or_note.ensures.len ∙ ap length c.deref_mut.ensures.value) (search (rules, arith)))
    (c.self.invariant.0, c.self.invariant.1, subst (λ l. AreReached cmp hash l c.find_or_note.new.slots c.self.inside.strays) c.deref.ensures.value c.find_or_note.ensures.same)

pub invariant_of-self-in_err-push_entry-in-Noted : goal.invariant_of-self-in_err-push_entry-in-Noted
invariant_of-self-in_err-push_entry-in-Noted g c =
    let eq = g.K.PartialEq.eq in
    let cmp = g.K.Ord.cmp in
    let hash = λ (k : g.row.K.Denot). key_hash (g.K.Hash.hash_input k) in
    carried eq cmp hash c.self.inside.strays c.in_err-push_entry-in-Noted.ensures.err.0 c.in_err-push_entry-in-Noted.ensures.err.1
    (written c.self.inside.slots.len c.find_or_note.new.slots c.self.inside.slots.items (c.find_or_note.ensures.len ∙ ap length c.deref_mut.ensures.value) (search (rules, arith)))
    (c.self.invariant.0, c.self.invariant.1, subst (λ l. AreReached cmp hash l c.find_or_note.new.slots c.self.inside.strays) c.deref.ensures.value c.find_or_note.ensures.same)

pub invariant_of-self-in-Noted : goal.invariant_of-self-in-Noted
invariant_of-self-in-Noted g c =
    let eq = g.K.PartialEq.eq in
    let cmp = g.K.Ord.cmp in
    let hash = λ (k : g.row.K.Denot). key_hash (g.K.Hash.hash_input k) in
    let es = c.self.inside.entries.items in
    let new = c.find_or_note.new.slots in
    carried eq cmp hash c.self.inside.strays c.in_ok-push_entry-in-Noted.ensures.entries c.in_ok-push_entry-in-Noted.ensures.hashes
    (written c.self.inside.slots.len new c.self.inside.slots.items (c.find_or_note.ensures.len ∙ ap length c.deref_mut.ensures.value) (search (rules, arith)))
    (pushed eq g.met.K.Eq.laws cmp hash es c.self.inside.hashes.items (c.args.key, c.args.value) c.hash_of-hash.result c.deref_mut.result.now new c.self.inside.strays c.self.inside.strays
    (carried eq cmp hash c.self.inside.strays refl refl c.deref_mut.ensures.value c.self.invariant)
    c.in_ok-push_entry-in-Noted.ensures.small
    (value_missing (eq c.args.key) es (none_lookup eq g.met.K.Eq.laws es c.deref.result.now c.args.key c.deref.ensures.value (c.in-Noted.ensures.noted refl)))
    c.hash_of-hash.ensures
    (subst (λ (l : List _). IsReached cmp new c.self.inside.strays c.args.key c.hash_of-hash.result (length l)) c.deref.ensures.value (c.in-Noted.ensures.reached refl))
    (subst (λ (l : List _). KeepsReached cmp eq (λ i. i < length l) c.args.key c.deref_mut.result.now c.self.inside.strays new c.self.inside.strays) c.deref.ensures.value c.find_or_note.ensures.keeps))

pub returns-in_err-push_entry-in-Noted-clause-absent : goal.returns-in_err-push_entry-in-Noted-clause-absent
returns-in_err-push_entry-in-Noted-clause-absent g c =
    let eq = g.K.PartialEq.eq in
    on_err c.from_residual.result _ (value_missing (eq c.args.key) c.args.self.now.entries
    (none_lookup eq g.met.K.Eq.laws c.args.self.now.entries c.deref.result.now c.args.key (c.deref.ensures.value ∙ ap (λ m. m.entries) c.self.view_is) (c.in-Noted.ensures.noted refl)))

pub push_beyond-requires-clause-absent : goal.push_beyond-requires-clause-absent
push_beyond-requires-clause-absent g c =
    let eq = g.K.PartialEq.eq in
    value_missing (eq c.args.key) c.self.inside.entries.items (none_lookup eq g.met.K.Eq.laws c.self.inside.entries.items c.deref.result.now c.args.key c.deref.ensures.value (c.in-Nowhere.ensures.nowhere refl))

pub returns-in_err-push_beyond-in-Nowhere-clause-absent : goal.returns-in_err-push_beyond-in-Nowhere-clause-absent
returns-in_err-push_beyond-in-Nowhere-clause-absent g c =
    let eq = g.K.PartialEq.eq in
    on_err c.from_residual-in_err-push_beyond-in-Nowhere.result _ (value_missing (eq c.args.key) c.args.self.now.entries
    (none_lookup eq g.met.K.Eq.laws c.args.self.now.entries c.deref.result.now c.args.key (c.deref.ensures.value ∙ ap (λ m. m.entries) c.self.view_is) (c.in-Nowhere.ensures.nowhere refl)))

pub returns-in-At-clause-there : goal.returns-in-At-clause-there
returns-in-At-clause-there g c =
    let eq = g.K.PartialEq.eq in
    let es = c.self.inside.entries.items in (
      refl,
      sym (ap (λ m. index_of eq m c.args.key) c.self.view_is) ∙ some_place eq g.met.K.Eq.laws es c.deref.result.now c.args.key c.in-At.found c.deref.ensures.value c.self.invariant.0.0 (c.in-At.ensures.at c.in-At.found refl),
      ap (λ m. m.entries) c.self.view_is,
    )

pub returns-in_ok-push_entry-in-Noted-clause-new : goal.returns-in_ok-push_entry-in-Noted-clause-new
returns-in_ok-push_entry-in-Noted-clause-new g c =
    let eq = g.K.PartialEq.eq in (
      search (rules, arith) ∙ ap (λ m. length m.entries) c.self.view_is,
      none_lookup eq g.met.K.Eq.laws c.args.self.now.entries c.deref.result.now c.args.key (c.deref.ensures.value ∙ ap (λ m. m.entries) c.self.view_is) (c.in-Noted.ensures.noted refl),
      ap (λ m. m.entries) c.count_slot.ensures ∙ c.in_ok-push_entry-in-Noted.ensures.entries ∙ ap (λ m. m.entries ++ (c.args.key, c.args.value) ∷ []) c.self.view_is,
    )

pub returns-in_ok-push_beyond-in-Nowhere-clause-new : goal.returns-in_ok-push_beyond-in-Nowhere-clause-new
returns-in_ok-push_beyond-in-Nowhere-clause-new g c =
    let eq = g.K.PartialEq.eq in (
      search (rules, arith) ∙ ap (λ m. length m.entries) c.self.view_is,
      none_lookup eq g.met.K.Eq.laws c.args.self.now.entries c.deref.result.now c.args.key (c.deref.ensures.value ∙ ap (λ m. m.entries) c.self.view_is) (c.in-Nowhere.ensures.nowhere refl),
      c.in_ok-push_beyond-in-Nowhere.ensures.entries ∙ ap (λ m. m.entries ++ (c.args.key, c.args.value) ∷ []) c.self.view_is,
    )
