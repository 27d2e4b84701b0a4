use Rattle.key_table.proofs.Puts.{placed_at, placed_entries, placed_opened, placed_unique}
use Rattle.key_table.proofs.table.KeyTable.open.Goals as goal

pub returns-in-Ok-clause-ok : goal.returns-in-Ok-clause-ok
returns-in-Ok-clause-ok g c = placed_opened g.K.PartialEq.eq g.met.K.Eq.laws c.args.self.now.entries c.place_or_push.new.self.entries c.args.key c.args.value c.in-Ok.place c.in-Ok._back (c.in-Ok.ensures.there, c.in-Ok.ensures.new)

pub returns-in-Ok-clause-at : goal.returns-in-Ok-clause-at
returns-in-Ok-clause-at g c = placed_at g.K.PartialEq.eq g.met.K.Eq.laws c.args.self.now.entries c.place_or_push.new.self.entries c.args.key c.args.value c.in-Ok.place c.in-Ok._back (c.in-Ok.ensures.there, c.in-Ok.ensures.new)

pub returns-in-Ok-clause-entries : goal.returns-in-Ok-clause-entries
returns-in-Ok-clause-entries g c = placed_entries g.K.PartialEq.eq g.met.K.Eq.laws c.args.self.now.entries c.place_or_push.new.self.entries c.args.key c.args.value c.in-Ok.place c.in-Ok._back (c.in-Ok.ensures.there, c.in-Ok.ensures.new)

pub returns-in-Ok-clause-unique : goal.returns-in-Ok-clause-unique
returns-in-Ok-clause-unique g c = placed_unique g.K.PartialEq.eq g.met.K.Eq.laws c.args.self.now.entries c.place_or_push.new.self.entries c.args.key c.args.value c.in-Ok.place c.in-Ok._back (c.in-Ok.ensures.there, c.in-Ok.ensures.new) c.place_or_push.ensures.unique
