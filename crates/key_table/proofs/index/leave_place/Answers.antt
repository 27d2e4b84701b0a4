use Rattle.std.proofs.Common.{◌<◌, ◌⊎◌}
use Rattle.key_table.specs.Reached.{key_hash}
use Rattle.key_table.proofs.Moves.{removed}
use Rattle.key_table.proofs.ReachLemmas.{reached_kept}
use Rattle.key_table.proofs.index.leave_place.Goals as goal

pub returns-clause-leaves : goal.returns-clause-leaves
returns-clause-leaves g c =
    removed g.K.PartialEq.eq g.met.K.Eq.laws g.K.Ord.cmp (λ k. key_hash (g.K.Hash.hash_input k)) c.args.entries.now c.args.key.now c.args.place c.args.slots.now c.move_note.new.slots c.fill_place.new.slots c.args.strays.now c.remove.new.self c.fill_place.new.strays
    c.requires.hashes.0 c.requires.index
    (reached_kept g.K.PartialEq.eq g.K.Ord.cmp (λ i. (i < c.args.place) ⊎ (c.args.place < i)) c.args.key.now c.args.slots.now c.move_note.new.slots c.args.strays.now c.remove.new.self c.move_note.ensures.keeps c.move_note.ensures.len c.remove.ensures.keeps)
    c.fill_place.ensures.fills
