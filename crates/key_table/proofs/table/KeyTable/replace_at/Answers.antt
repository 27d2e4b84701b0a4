use Rattle.std.proofs.Common.{◌≡◌, ◌<◌, length, Some, slice_get, refl, sym, ap, subst, ◌∙◌}
use Rattle.std.specs.Map.{keys_of, values_of}
use Rattle.std_collections.proofs.Entries.{keys_set_value_at}
use Rattle.indexmap.specs.IndexMap.{set_value_at}
use Rattle.key_table.specs.Reached.{key_hash}
use Rattle.key_table.proofs.Puts.{over_updated}
use Rattle.key_table.proofs.TableChanges.{carried, revalued, set_pair, took}
use Rattle.key_table.proofs.table.KeyTable.replace_at.Goals as goal

pub invariant_of-self : goal.invariant_of-self
invariant_of-self g c =
    let eq = g.K.PartialEq.eq in
    let cmp = g.K.Ord.cmp in
    let hash = λ (k : g.row.K.Denot). key_hash (g.K.Hash.hash_input k) in
    let es = c.self.inside.entries.items in
    let within : c.args.place < length es = subst (λ m. c.args.place < length m.entries) (sym c.self.view_is) c.requires in
    carried eq cmp hash c.self.inside.strays (set_pair es c.args.place c.index_mut.result.now _ c.replace.new.dest within c.index_mut.ensures.value) refl refl
    (revalued eq g.met.K.Eq.laws cmp hash es c.self.inside.hashes.items c.args.place c.replace.new.dest c.self.inside.slots.items c.self.inside.strays c.self.invariant)

pub returns-clause-took : goal.returns-clause-took
returns-clause-took g c =
    let es = c.self.inside.entries.items in
    let within : c.args.place < length es = subst (λ m. c.args.place < length m.entries) (sym c.self.view_is) c.requires in
    subst (λ m. slice_get (values_of m.entries) c.args.place ≡ Some c.replace.result) c.self.view_is (took es c.args.place c.index_mut.result.now _ within c.index_mut.ensures.value ∙ ap Some (sym c.replace.ensures.value))

pub returns-clause-entries : goal.returns-clause-entries
returns-clause-entries g c =
    let es = c.self.inside.entries.items in
    let within : c.args.place < length es = subst (λ m. c.args.place < length m.entries) (sym c.self.view_is) c.requires in
    set_pair es c.args.place c.index_mut.result.now _ c.replace.new.dest within c.index_mut.ensures.value
    ∙ ap (λ v. set_value_at es c.args.place v) c.replace.ensures.after ∙ ap (λ m. set_value_at m.entries c.args.place c.args.value) c.self.view_is

pub returns-clause-updates : goal.returns-clause-updates
returns-clause-updates g c = λ key index.
    let eq = g.K.PartialEq.eq in
    let es = c.self.inside.entries.items in
    let within : c.args.place < length es = subst (λ m. c.args.place < length m.entries) (sym c.self.view_is) c.requires in
    over_updated eq g.met.K.Eq.laws c.args.self.now.entries _ key c.args.value c.args.place index
    (set_pair es c.args.place c.index_mut.result.now _ c.replace.new.dest within c.index_mut.ensures.value
    ∙ ap (λ v. set_value_at es c.args.place v) c.replace.ensures.after ∙ ap (λ m. set_value_at m.entries c.args.place c.args.value) c.self.view_is)

pub returns-clause-keys : goal.returns-clause-keys
returns-clause-keys g c =
    let es = c.self.inside.entries.items in
    let within : c.args.place < length es = subst (λ m. c.args.place < length m.entries) (sym c.self.view_is) c.requires in
    ap keys_of (set_pair es c.args.place c.index_mut.result.now _ c.replace.new.dest within c.index_mut.ensures.value)
    ∙ keys_set_value_at es c.args.place c.replace.new.dest ∙ ap (λ m. keys_of m.entries) c.self.view_is
