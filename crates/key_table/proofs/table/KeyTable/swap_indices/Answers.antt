use Rattle.std.proofs.Common.{rules, ◌<◌, ◌≤◌, length, swap, sym, ap, subst, ◌∙◌, arith}
use Rattle.std.proofs.lemmas.List.Edits.{length-swap}
use Rattle.key_table.specs.Reached.{AreReached, key_hash}
use Rattle.key_table.specs.Tables.{most}
use Rattle.key_table.proofs.Moves.{swapped}
use Rattle.key_table.proofs.TableChanges.{carried, written}
use Rattle.key_table.proofs.table.KeyTable.swap_indices.Goals as goal

pub invariant_of-self : goal.invariant_of-self
invariant_of-self g c =
    let eq = g.K.PartialEq.eq in
    let cmp = g.K.Ord.cmp in
    let hash = λ (k : g.row.K.Denot). key_hash (g.K.Hash.hash_input k) in
    let es = c.self.inside.entries.items in
    let hs = c.self.inside.hashes.items in
    let t = c.self.invariant in
    let a = c.args.a in
    let b = c.args.b in
    let in_a : a < length es = subst (λ m. a < length m.entries) (sym c.self.view_is) c.requires.a_in_bounds in
    let in_b : b < length es = subst (λ m. b < length m.entries) (sym c.self.view_is) c.requires.b_in_bounds in
    carried eq cmp hash c.exchange.new.strays c.swap-2.ensures.items c.swap.ensures.items
    (written c.self.inside.slots.len c.exchange.new.slots c.self.inside.slots.items (c.exchange.ensures.len ∙ ap length c.deref_mut.ensures.value) (search (rules, arith))) (
      swapped eq g.met.K.Eq.laws hash es hs a b in_a in_b t.0,
      subst (λ n. n ≤ most) (sym (length-swap es a b)) t.1,
      subst (λ l. AreReached cmp hash (swap l a b) c.exchange.new.slots c.exchange.new.strays) c.deref.ensures.value
          (c.exchange.ensures.reached (subst (λ l. AreReached cmp hash l c.deref_mut.result.now c.self.inside.strays) (sym c.deref.ensures.value) (subst (λ s. AreReached cmp hash es s c.self.inside.strays) (sym c.deref_mut.ensures.value) t.2))),
    )
