use Rattle.std.proofs.Common.{List, ap, ◌∙◌}
use Rattle.rows.specs.declared.schema.Table.{Table}
use Rattle.rows.specs.WriteSet.{touches}
use Rattle.write_set.proofs.Seen.{sees_them}
use Rattle.replica_core.proofs.SightLemmas.{all_seen, as_seen}
use Rattle.replica_core.proofs.prepared.sight.Goals as goal

pub returns-clause-all : goal.returns-clause-all
returns-clause-all c =
    all_seen c.args.rows.now.schema c.in_ok-keys.keys.items c.args.txn.now c.footprint.result
    (sees_them c.args.rows.now.schema c.args.rows.now.rows c.in_ok-keys.keys.items c.footprint.result c.footprint.ensures.seen)
    (λ key. c.in_ok-keys.ensures.members key ∙ ap (λ (schema : List Table). touches schema c.args.txn.now key) c.schema.ensures.value)

pub returns-clause-seen : goal.returns-clause-seen
returns-clause-seen c = as_seen c.args.rows.now.rows c.in_ok-keys.keys.items c.footprint.result c.footprint.ensures.seen
