use Rattle.std.proofs.Common.{◌<◌}
use Rattle.key_table.proofs.ReachLemmas.{reached_kept, strays_kept}
use Rattle.key_table.proofs.index.index.Goals as goal

pub returns-in-Some-clause-keeps : goal.returns-in-Some-clause-keeps
returns-in-Some-clause-keeps g c =
    reached_kept g.K.PartialEq.eq g.K.Ord.cmp (λ i. i < c.args.place) c.args.key.now c.args.slots.now c.note.new.slots c.args.strays.now c.args.strays.now c.note.ensures.keeps c.note.ensures.len
    (strays_kept g.K.PartialEq.eq g.K.Ord.cmp c.args.key.now c.args.strays.now)

pub returns-in-None-clause-keeps : goal.returns-in-None-clause-keeps
returns-in-None-clause-keeps g c =
    reached_kept g.K.PartialEq.eq g.K.Ord.cmp (λ i. i < c.args.place) c.args.key.now c.args.slots.now c.note.new.slots c.args.strays.now c.put.new.self c.note.ensures.keeps c.note.ensures.len c.put.ensures.keeps
