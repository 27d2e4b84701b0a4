use Rattle.std.proofs.Common.{List, [], ◌∷◌, ◌++◌, Some, ap, ◌∙◌}
use Rattle.std.specs.FinMap as map
use Rattle.rows.specs.declared.patch.Seen.{Seen}
use Rattle.rows.specs.Making.{Course}
use Rattle.rows.specs.Order.{key_cmp}
use Rattle.rows.proofs.Undoing.{noted}
use Rattle.rows.proofs.making.Making.put.Goals as goal

pub returns-clause-before : goal.returns-clause-before
returns-clause-before c =
    noted c.args.key (Some c.args.row) c.put_in_room-row.result c.self.inside.log.items c.note.new.log.items (map.from_entries c.self.inside.carriers.entries) (map.from_entries c.put_in_room-row.new.carriers.entries)
    (c.note.ensures ∙ ap (λ (l : List Seen). l ++ record { key = c.args.key; row = c.put_in_room-row.result } ∷ []) c.make_room.ensures.log)
    (c.put_in_room-row.ensures.over ∙ (λ i. map.get (map.from_entries {R = key_cmp} (c.make_room.ensures.entries i)) (c.in_ok-own.ensures i)))
    (c.put_in_room-row.ensures.rows ∙ (λ i. map.insert (map.from_entries {R = key_cmp} (c.make_room.ensures.entries i)) (c.in_ok-own.ensures i) c.args.row))
    ∙ ap (λ (r : Course). r.before) c.self.view_is
