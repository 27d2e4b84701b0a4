use Rattle.std.proofs.Common.{◌≡◌, List, subst}
use Rattle.std.specs.Prelude.{IfOk}
use Rattle.rows.specs.declared.change.Key.{Key}
use Rattle.rows.specs.Patch.{seen_of_keys}
use Rattle.write_set.proofs.Seen.{sees_them}
use Rattle.write_set.proofs.prepared.footprint.Goals as goal

pub returns-clause-all : goal.returns-clause-all
returns-clause-all c =
    sees_them c.args.rows.now.schema c.args.rows.now.rows c.args.keys.keys c.footprint.result
    (subst (λ (keys : List Key). IfOk c.footprint.result (λ f. f.seen ≡ seen_of_keys c.args.rows.now.rows keys)) c.in_ok-into_keys.ensures c.footprint.ensures.seen)
