use Rattle.std.proofs.Common.{◌≡◌, List, sym, subst}
use Rattle.rows.specs.declared.schema.Table.{Table}
use Rattle.world.specs.declared.verdict.Verdict.TheVariants.{Sound}
use Rattle.world.specs.Audit.{verdict_of_keys, world_of}
use Rattle.audit.proofs.direct.audit_keys_of.Goals as goal

pub returns-then-branch-clause-found : goal.returns-then-branch-clause-found
returns-then-branch-clause-found c =
    sym (subst (λ (s : List Table). verdict_of_keys (world_of s c.args.opened.now c.args.rows.now.rows c.args.journals.now) c.args.journals.now ≡ Sound) c.schema.ensures.value
    (c.in_ok-are_keys_sound.ensures c.if-branch.true c.args.rows.now.rows))
