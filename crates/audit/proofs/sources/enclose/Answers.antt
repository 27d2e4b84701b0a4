use Rattle.std.proofs.Common.{rules, sym, subst}
use Rattle.gtid_set.specs.Sets.{Gtids}
use Rattle.audit.specs.Contents.{in_order}
use Rattle.audit.specs.Worlds.{AllFit, LieBeyond}
use Rattle.audit.proofs.Lying.{firsts_lie_beyond}
use Rattle.audit.proofs.sources.enclose.Goals as goal

pub invariant_of-result : goal.invariant_of-result
invariant_of-result c =
    let fit : AllFit c.in_ok-rows.rows.schema (in_order c.args.contents) = search rules in
    (fit, subst (λ (opened : Gtids). LieBeyond opened c.args.contents) (sym c.in-Ok.ensures.ok) (firsts_lie_beyond c.args.opened.now c.args.journals.now c.args.contents c.keep_rules.ensures c.requires.brought))
