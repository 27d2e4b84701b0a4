-- What is said of a log before it is read.
use Rattle.gtid_set.specs.Sets.{Gtids}
use Rattle.binlog_files.specs.declared.given.GivenSets.{GivenSets}

-- the opening set, whose transactions are passed over, and the GTIDs for whose statements an operator answers
pub record Given : Type 0 where
  pub opening : Gtids
  pub accepted : Gtids

abbrev pub sets : GivenSets → Given
sets g = record { opening = g.opening.now; accepted = g.accepted.now }
