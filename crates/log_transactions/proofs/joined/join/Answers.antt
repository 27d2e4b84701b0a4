use Rattle.std.proofs.Common.{◌≡◌, ap, subst, ◌∙◌}
use Rattle.std.specs.FinSet as set
use Rattle.gtid_set.specs.Sets.{Gtids}
use Rattle.gtid_set.specs.Spans.{set_of}
use Rattle.log_transactions.proofs.JoinLaws.{twice_joined}
use Rattle.log_transactions.proofs.joined.join.Goals as goal

pub returns-clause-part : goal.returns-clause-part
returns-clause-part c =
    let old = c.args.whole.now in
    let part = c.add_all.new.whole in
    twice_joined part c.in_ok-whole.field-0 c.args.more.now c.in_ok-whole.ensures.ok
    ∙ subst (λ (more : Gtids). set.union part more ≡ set.union old more) (ap set_of c.deref.ensures.value ∙ c.in_ok-spans.ensures.stand) c.add_all.ensures.part
