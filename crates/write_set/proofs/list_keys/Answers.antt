use Rattle.std.proofs.Common.{ap, ◌∙◌}
use Rattle.lemmas.proofs.Options.{if_ok}
use Rattle.rows.specs.WriteSet.{write_set}
use Rattle.write_set.specs.FirstTouch.{each_once}
use Rattle.write_set.proofs.Firsts.{once_members, once_pairs}
use Rattle.write_set.proofs.list_keys.Goals as goal

pub returns-then-len-le-FEW-clause-members : goal.returns-then-len-le-FEW-clause-members
returns-then-len-le-FEW-clause-members c =
    if_ok c.unique_by_comparison.result (λ list is. once_members list.items (write_set c.args.schema.now c.args.txn.now) (is ∙ ap each_once c.in_ok-touched.ensures)) c.unique_by_comparison.ensures

pub returns-then-len-le-FEW-clause-once : goal.returns-then-len-le-FEW-clause-once
returns-then-len-le-FEW-clause-once c =
    if_ok c.unique_by_comparison.result (λ list is. once_pairs list.items (write_set c.args.schema.now c.args.txn.now) (is ∙ ap each_once c.in_ok-touched.ensures)) c.unique_by_comparison.ensures

pub returns-in_ok-unique_by_hash-clause-members : goal.returns-in_ok-unique_by_hash-clause-members
returns-in_ok-unique_by_hash-clause-members c =
    if_ok c.into_keys.result (λ list is. once_members list.items (write_set c.args.schema.now c.args.txn.now) (is ∙ c.in_ok-unique_by_hash.ensures ∙ ap each_once c.in_ok-touched.ensures)) c.into_keys.ensures

pub returns-in_ok-unique_by_hash-clause-once : goal.returns-in_ok-unique_by_hash-clause-once
returns-in_ok-unique_by_hash-clause-once c =
    if_ok c.into_keys.result (λ list is. once_pairs list.items (write_set c.args.schema.now c.args.txn.now) (is ∙ c.in_ok-unique_by_hash.ensures ∙ ap each_once c.in_ok-touched.ensures)) c.into_keys.ensures
