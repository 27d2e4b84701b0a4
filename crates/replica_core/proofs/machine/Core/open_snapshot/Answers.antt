use Rattle.std.proofs.Common.{ap, ◌∙◌}
use Rattle.replica_core.specs.Kept.{ChannelsValue}
use Rattle.journal.specs.Journals.{whole}
use Rattle.replica_core.specs.Slots.{seats_of}
use Rattle.replica_core.proofs.CoreLemmas.{opened_is, core_opened}
use Rattle.replica_core.proofs.machine.Core.open_snapshot.Goals as goal

pub returns-clause-ok : goal.returns-clause-ok
returns-clause-ok c =
    opened_is c.args.own c.args.rows c.args.executed c.no_seats.result c.new.result c.in_ok-journal.journal.journal c.no_seats.ensures (ap (λ (v : ChannelsValue). v.list) c.new.ensures) c.in_ok-journal.ensures.ok

pub invariant_of-result : goal.invariant_of-result
invariant_of-result c =
    let same = ap (λ (v : ChannelsValue). v.schema) c.new.ensures ∙ c.in_ok-schema.ensures.cases ∙ c.schema.ensures.value in
    core_opened c.args.rows.schema c.new.result (whole c.in_ok-journal.journal.journal) (seats_of c.no_seats.result) same (ap (λ (v : ChannelsValue). v.list) c.new.ensures) c.no_seats.ensures
