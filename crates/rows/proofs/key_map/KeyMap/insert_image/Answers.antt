use Rattle.rows.specs.Keys.{carried_keys}
use Rattle.rows.proofs.Placed.{put_inserted}
use Rattle.rows.proofs.key_map.KeyMap.insert_image.Goals as goal

pub returns-then-put_if_free-clause-ok : goal.returns-then-put_if_free-clause-ok
returns-then-put_if_free-clause-ok c =
    put_inserted c.args.change (carried_keys c.args.schema.now c.args.table.now c.args.row.now) c.args.row.now c.args.self.now c.put_if_free.new.self (c.put_if_free.ensures.put c.if-put_if_free.true)
