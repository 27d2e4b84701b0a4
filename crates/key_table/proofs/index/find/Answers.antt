use Rattle.std.proofs.Common.{◌≡◌, false, length, refl, ap, subst}
use Rattle.key_table.specs.Reached.{key_hash}
use Rattle.key_table.specs.Slots.{home, is_noted, steps}
use Rattle.key_table.proofs.ReachLemmas.{none_free, none_under}
use Rattle.key_table.proofs.index.find.Goals as goal

pub returns-in-Free-clause-absent : goal.returns-in-Free-clause-absent
returns-in-Free-clause-absent g c = λ _.
    none_free g.K.PartialEq.eq g.K.Ord.cmp (λ k. key_hash (g.K.Hash.hash_input k)) (λ x y e. ap key_hash (g.met.K.Hash.respects_eq x y e)) c.args.slots.now c.args.strays.now c.args.entries.now c.args.key.now c.args.hash c.in-Free._slot c.requires.reached c.requires.hash
    (c.in-Free.ensures.free c.in-Free._slot refl) (λ place under. c.in-Free.ensures.nowhere place c.in-Free._slot under refl)

pub returns-in-Beyond-clause-absent : goal.returns-in-Beyond-clause-absent
returns-in-Beyond-clause-absent g c = λ none.
    none_under g.K.PartialEq.eq g.K.Ord.cmp (λ k. key_hash (g.K.Hash.hash_input k)) (λ x y e. ap key_hash (g.met.K.Hash.respects_eq x y e)) c.args.slots.now c.args.strays.now c.args.entries.now c.args.key.now c.requires.reached
    (λ place under. subst (λ h. is_noted c.args.slots.now (home (length c.args.slots.now) h) steps h place ≡ false) c.requires.hash (c.in-Beyond.ensures.beyond place under refl))
    (λ place own same full stray. c.find.ensures.absent none place own same stray)
