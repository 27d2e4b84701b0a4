use Rattle.std.proofs.Common.{◌≡◌, rules, ap, subst, ◌∙◌}
use Rattle.journal.specs.Journals.{JournalValue, whole}
use Rattle.relay.specs.Own.{OwnValue, purge_to, IsPurgeFault}
use Rattle.relay.specs.declared.PurgeFault.TheVariants.{Set}
use Rattle.relay.proofs.OwnLemmas.{whole-purged_to, own_purged, purged_fits}
use Rattle.relay.proofs.OwnJournal.purge.Goals as goal

pub invariant_of-self : goal.invariant_of-self
invariant_of-self c =
    let n = c.args.count in
    let j = c.self.inside.journal in
    let rest : c.purge.new.self ≡ purge_to n j = c.purge.ensures ∙ ap (λ s. let r : JournalValue = record (purge_to n j) { previous = s } in r) c.in_ok-previous.ensures.ok in
    rw (rest, c.settle.ensures) (own_purged n j c.self.inside.known c.self.invariant)

pub returns-clause-executed : goal.returns-clause-executed
returns-clause-executed c =
    let n = c.args.count in
    let j = c.self.inside.journal in
    let rest : c.purge.new.self ≡ purge_to n j = c.purge.ensures ∙ ap (λ s. let r : JournalValue = record (purge_to n j) { previous = s } in r) c.in_ok-previous.ensures.ok in
    ap whole rest ∙ whole-purged_to n j ∙ ap (λ (o : OwnValue). whole o.journal) c.self.view_is

pub returns-in_err-previous-clause-fault : goal.returns-in_err-previous-clause-fault
returns-in_err-previous-clause-fault c =
    let f = c.in_err-previous.field-0.0 in
    let fits = purged_fits c.args.count c.self.inside.journal c.self.inside.known c.self.invariant c.keeps_limits.ensures.sources in
    let fault : IsPurgeFault (Set f) c.args.count c.args.self.now.journal = subst (λ (o : OwnValue). IsPurgeFault (Set f) c.args.count o.journal) c.self.view_is (c.in_err-previous.ensures.fault, fits) in
    search rules
