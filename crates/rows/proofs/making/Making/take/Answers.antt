use Rattle.std.proofs.Common.{List, [], ◌∷◌, ◌++◌, None, ap, ◌∙◌}
use Rattle.std.specs.FinMap as map
use Rattle.rows.specs.declared.patch.Seen.{Seen}
use Rattle.rows.specs.Making.{Course}
use Rattle.rows.specs.Order.{key_cmp}
use Rattle.rows.proofs.Undoing.{noted}
use Rattle.rows.proofs.making.Making.take.Goals as goal

pub returns-clause-before : goal.returns-clause-before
returns-clause-before c =
    noted c.args.key None c.take_out-row.result c.self.inside.log.items c.note.new.log.items (map.from_entries c.self.inside.carriers.entries) (map.from_entries c.take_out-row.new.carriers.entries)
    (c.note.ensures ∙ ap (λ (l : List Seen). l ++ record { key = c.args.key; row = c.take_out-row.result } ∷ []) c.make_room.ensures.log)
    (c.take_out-row.ensures.over ∙ (λ i. map.get (map.from_entries {R = key_cmp} (c.make_room.ensures.entries i)) c.args.key))
    (c.take_out-row.ensures.rows ∙ (λ i. map.remove (map.from_entries {R = key_cmp} (c.make_room.ensures.entries i)) c.args.key))
    ∙ ap (λ (r : Course). r.before) c.self.view_is
