-- What the words of a table's line are.
use Rattle.std.specs.Prelude.{map, option_map}
use Rattle.txn_journal.specs.Shapes.{Shape, Behind}
use Rattle.txn_journal.specs.declared.tables.TableWords.{TableWords}
use Rattle.txn_journal.specs.declared.tables.BehindWords.{BehindWords}

abbrev pub shape : TableWords → Shape
shape t = record { name = t.name; columns = t.columns.now; primary = t.primary.now; uniques = map (λ u. u.now) t.uniques.items; hidden = option_map (λ c. c.now) t.hidden }

abbrev pub behind_shape : BehindWords → Behind
behind_shape b = record { uniques = map (λ u. u.now) b.uniques.items; hidden = option_map (λ c. c.now) b.hidden }
