use Rattle.server_states.proofs.Holders.{counted_all}
use Rattle.server_states.proofs.laws.shared_by_two.Goals as goal

pub returns-clause-all : goal.returns-clause-all
returns-clause-all c = λ ss t g e. (counted_all ss t g e).all

pub returns-clause-shared : goal.returns-clause-shared
returns-clause-shared c = λ ss t g e. (counted_all ss t g e).shared
