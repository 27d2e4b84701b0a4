use Rattle.std.proofs.Common.{ap}
use Rattle.std.specs.Prelude.{Ok}
use Rattle.gtid_report.specs.SetAnswers.{◌>>=◌}
use Rattle.server_states.specs.States.{SetsValue, lines_of_sets}
use Rattle.server_states.proofs.lines.check_server.Goals as goal

pub returns : goal.returns
returns c =
    let name = c.args.server.now.name in
    (lines_of_sets name c.in_ok-sets.sets, ap (λ r. r >>= λ (sets : SetsValue). Ok (lines_of_sets name sets)) c.in_ok-sets.ensures)
