use Rattle.std.proofs.Common.{ap, ◌∙◌}
use Rattle.lemmas.proofs.Options.{if_ok}
use Rattle.rows.specs.WriteSet.{write_set}
use Rattle.write_set.specs.FirstTouch.{each_once}
use Rattle.write_set.proofs.Firsts.{once_members, once_pairs}
use Rattle.write_set.proofs.keys_of.Goals as goal

pub returns-clause-members : goal.returns-clause-members
returns-clause-members c =
    if_ok c.unique_by_hash.result (λ set is. once_members set.keys (write_set c.args.schema.now c.args.txn.now) (is ∙ ap each_once c.in_ok-keys_touched.ensures)) c.unique_by_hash.ensures

pub returns-clause-once : goal.returns-clause-once
returns-clause-once c =
    if_ok c.unique_by_hash.result (λ set is. once_pairs set.keys (write_set c.args.schema.now c.args.txn.now) (is ∙ ap each_once c.in_ok-keys_touched.ensures)) c.unique_by_hash.ensures
