use Rattle.std.proofs.Common.{◌≡◌, ◌<◌, ◌⊎◌, inl, inr, true, length, sym, subst}
use Rattle.key_table.specs.Slots.{home, is_full, is_noted, steps}
use Rattle.key_table.proofs.ReachLemmas.{reached_kept}
use Rattle.key_table.proofs.index.move_place.Goals as goal

pub returns-clause-reached : goal.returns-clause-reached
returns-clause-reached g c = λ reached.
    elim reached [
      | inl noted ↦ inl (subst (λ n. is_noted c.move_note.new.slots (home n c.args.hash) steps c.args.hash c.args.to ≡ true) (sym c.move_note.ensures.len) (c.move_note.ensures.moved noted))
      | inr stray ↦ inr (
        subst (λ n. is_full c.move_note.new.slots (home n c.args.hash) steps ≡ true) (sym c.move_note.ensures.len) (c.move_note.ensures.keeps.full (home (length c.args.slots.now) c.args.hash) steps stray.0),
        c.move_to.ensures.moved c.args.from stray.1,
      )
    ]

pub returns-clause-keeps : goal.returns-clause-keeps
returns-clause-keeps g c =
    reached_kept g.K.PartialEq.eq g.K.Ord.cmp (λ i. (i < c.args.from) ⊎ (c.args.from < i)) c.args.key.now c.args.slots.now c.move_note.new.slots c.args.strays.now c.move_to.new.self c.move_note.ensures.keeps c.move_note.ensures.len c.move_to.ensures.keeps
