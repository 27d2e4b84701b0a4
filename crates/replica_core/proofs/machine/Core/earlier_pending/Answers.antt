use Rattle.std.proofs.Common.{sym, ◌∙◌}
use Rattle.replica_core.proofs.KeptLemmas.{waiting_is}
use Rattle.replica_core.proofs.machine.Core.earlier_pending.Goals as goal

pub returns-then-preserves : goal.returns-then-preserves
returns-then-preserves c =
    let r = c.args.self.now in
    let found = c.first_waiting.ensures ∙ waiting_is r.site.schema r.state c.args.channel.now.channel c.args.place c.requires.kept in
    rw (sym c.preserves.ensures ∙ c.if-preserves.true) found
