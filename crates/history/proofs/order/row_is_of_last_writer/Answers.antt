use Rattle.history.proofs.Writing.{last_writer_stands}
use Rattle.history.proofs.order.row_is_of_last_writer.Goals as goal

pub returns : goal.returns
returns c = last_writer_stands
