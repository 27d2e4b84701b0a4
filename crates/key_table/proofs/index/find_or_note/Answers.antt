use Rattle.std.proofs.Common.{◌≡◌, ◌<◌, false, length, refl, ap, subst, arith}
use Rattle.key_table.specs.Reached.{key_hash}
use Rattle.key_table.specs.Slots.{home, is_noted, steps}
use Rattle.key_table.proofs.ReachLemmas.{all_kept, keeps_fewer, none_free, none_under, reached_kept, strays_kept}
use Rattle.key_table.proofs.index.find_or_note.Goals as goal

pub returns-in-Free-clause-noted : goal.returns-in-Free-clause-noted
returns-in-Free-clause-noted g c = λ _.
    none_free g.K.PartialEq.eq g.K.Ord.cmp (λ k. key_hash (g.K.Hash.hash_input k)) (λ x y e. ap key_hash (g.met.K.Hash.respects_eq x y e)) c.args.slots.now c.args.strays.now c.args.entries.now c.args.key.now c.args.hash c.in-Free.slot c.requires.reached c.requires.hash
    (c.in-Free.ensures.free c.in-Free.slot refl) (λ place under. c.in-Free.ensures.nowhere place c.in-Free.slot under refl)

pub returns-in-Free-clause-keeps : goal.returns-in-Free-clause-keeps
returns-in-Free-clause-keeps g c =
    reached_kept g.K.PartialEq.eq g.K.Ord.cmp (λ i. i < length c.args.entries.now) c.args.key.now c.args.slots.now c.fill.new.slots c.args.strays.now c.args.strays.now
    (keeps_fewer 4294967295 (length c.args.entries.now) c.args.slots.now c.fill.new.slots (omega (c.requires.len, arith)) c.fill.ensures.keeps) c.fill.ensures.len
    (strays_kept g.K.PartialEq.eq g.K.Ord.cmp c.args.key.now c.args.strays.now)

pub returns-in-Free-clause-same : goal.returns-in-Free-clause-same
returns-in-Free-clause-same g c =
    all_kept g.K.PartialEq.eq g.K.Ord.cmp (λ k. key_hash (g.K.Hash.hash_input k)) c.args.slots.now c.fill.new.slots c.args.strays.now c.args.entries.now 4294967295 c.requires.len c.fill.ensures.keeps c.fill.ensures.len c.requires.reached

pub returns-in-None-clause-nowhere : goal.returns-in-None-clause-nowhere
returns-in-None-clause-nowhere g c = λ _.
    none_under g.K.PartialEq.eq g.K.Ord.cmp (λ k. key_hash (g.K.Hash.hash_input k)) (λ x y e. ap key_hash (g.met.K.Hash.respects_eq x y e)) c.args.slots.now c.args.strays.now c.args.entries.now c.args.key.now c.requires.reached
    (λ place under. subst (λ h. is_noted c.args.slots.now (home (length c.args.slots.now) h) steps h place ≡ false) c.requires.hash (c.in-Beyond.ensures.beyond place under refl))
    (λ place own same full stray. c.in-None.ensures.absent refl place own same stray)
