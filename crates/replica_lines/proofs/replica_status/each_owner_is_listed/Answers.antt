use Rattle.replica_lines.proofs.ToldLemmas.{each_seat_told}
use Rattle.replica_lines.proofs.replica_status.each_owner_is_listed.Goals as goal

pub returns : goal.returns
returns c = each_seat_told c.args.core.now.state c.one_seat_each.ensures
