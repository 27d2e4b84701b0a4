use Rattle.replica_script.proofs.ReadBack.{take_again, commit_again, rollback_again}
use Rattle.replica_script.proofs.laws.seats_are_read_back.Goals as goal

pub returns : goal.returns
returns c = record { take = take_again; commit = commit_again; rollback = rollback_again }
