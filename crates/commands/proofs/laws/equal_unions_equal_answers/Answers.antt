use Rattle.std.proofs.Common.{subst}
use Rattle.rows.specs.Carriers.{AreCarriers}
use Rattle.rows.specs.Database.{Database}
use Rattle.world.specs.Meaning.{AreJournals}
use Rattle.commands.proofs.Exact.{answers_alike}
use Rattle.commands.proofs.laws.equal_unions_equal_answers.Goals as goal

pub returns : goal.returns
returns c =
    let carriers = subst (λ (d : Database). AreCarriers d.schema d.rows) c.rows.ensures c.schema.ensures.kept.carriers in
    let first = subst AreJournals c.journals.ensures c.keep_rules.ensures in
    let second = subst AreJournals c.journals-2.ensures c.keep_rules-2.ensures in
    answers_alike c.equal_unions_equal_rows.ensures c.args.first.now c.args.second.now carriers first second
