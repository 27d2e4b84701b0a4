use Rattle.std.proofs.Common.{sym, ◌∙◌, arith}
use Rattle.std.specs.FinSet as set
use Rattle.gtid_set.specs.declared.combine.Operation.TheVariants.{Difference}
use Rattle.gtid_set.specs.Spans.{has, set_of}
use Rattle.gtid_set.proofs.SetLemmas.{contains-set_of}
use Rattle.gtid_set.proofs.SetSources.{fewer_sources, first_of_and}
use Rattle.gtid_set.proofs.CombineLemmas.{made_of}
use Rattle.gtid_set.proofs.difference.Goals as goal

pub combination-requires-clause-fits : goal.combination-requires-clause-fits
combination-requires-clause-fits c =
    let left = c.args.left.now in
    let right = c.args.right.now in
    let fewer = fewer_sources (set.difference (set_of left) (set_of right)) (set_of left) (λ q h. contains-set_of left q ∙ first_of_and (has left q) _ (sym (made_of Difference left right q) ∙ h)) in
    let fits = c.requires.fits in
    omega (arith, fewer, fits)
