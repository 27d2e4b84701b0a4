use Rattle.std.proofs.Common.{◌∙◌, ap}
use Rattle.std.proofs.lemmas.Result.{IfOk-weaker, on_ok_weaker}
use Rattle.logical_timestamps.specs.Writers.{latest_in_turn, record_writes}
use Rattle.logical_timestamps.proofs.Last.{next_last_committed, next_writers}
use Rattle.logical_timestamps.proofs.writers.LastWriters.next.Goals as goal

pub returns-clause-last_committed : goal.returns-clause-last_committed
returns-clause-last_committed c = IfOk-weaker c.write_all.result _ _ (λ n told earlier h.
    told ∙ ap (λ keys. latest_in_turn c.args.number keys c.args.self.now 0) c.in_ok-keys.ensures
    ∙ next_last_committed c.args.schema.now c.args.self.now c.args.number earlier c.args.entry.now h)
    c.write_all.ensures.latest

pub returns-clause-writers : goal.returns-clause-writers
returns-clause-writers c = on_ok_weaker c.write_all.result (λ told earlier h.
    told ∙ ap (λ keys. record_writes c.args.number keys c.args.self.now) c.in_ok-keys.ensures
    ∙ next_writers c.args.schema.now c.args.self.now c.args.number earlier c.args.entry.now h)
    c.write_all.ensures.written
