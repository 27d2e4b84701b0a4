use Rattle.std.proofs.Common.{◌≡◌, ◌≤◌, ap, subst, ◌∙◌}
use Rattle.std.specs.FinSet as set
use Rattle.gtid_set.specs.Full.{interval_count, most_intervals}
use Rattle.gtid_set.specs.Sets.{source_count, most_sources}
use Rattle.relay.specs.declared.Known.{Known}
use Rattle.relay.specs.Known.{ahead_by}
use Rattle.relay.specs.Own.{with_last}
use Rattle.relay.proofs.OwnLemmas.{own_appended}
use Rattle.relay.proofs.OwnJournal.append.Goals as goal

pub invariant_of-self-in-Ok : goal.invariant_of-self-in-Ok
invariant_of-self-in-Ok c =
    let g = c.args.entry.gtid in
    let known = c.self.inside.known in
    let put : c.push.new.self ≡ with_last c.args.entry c.self.inside.journal = c.in_ok-push.ensures.ok in
    let advanced : c.advance.new.self ≡ ahead_by g known.executed = c.in-Ok.ensures.ok ∙ ap (λ (k : Known). ahead_by g k.executed) c.in_ok-catch_up.ensures.ok in
    let caught : c.catch_up.new.self.executed ≡ known.executed = ap (λ (k : Known). k.executed) c.in_ok-catch_up.ensures.ok in
    let fits = subst (λ s. source_count (set.insert s g) ≤ most_sources) caught c.in-Ok.ensures.full.0 in
    let small = subst (λ s. interval_count (set.insert s g) ≤ most_intervals) caught c.in-Ok.ensures.full.1 in
    rw (put, advanced) (own_appended c.args.entry c.self.inside.journal known fits small c.self.invariant)
