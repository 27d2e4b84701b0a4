-- GTIDs that differ.
use Rattle.std.proofs.Common.{◌≡◌, ◌≢◌, false}
use Rattle.std.proofs.lemmas.Bool.{false_from_ne_true}
use Rattle.lemmas.proofs.SameGtid.{same_is_equal}
use Rattle.gtid_text.specs.declared.Gtid.{Gtid}
use Rattle.gtid_text.specs.Gtids.{same_gtid}

pub same_gtid_other : (g h : Gtid) → g ≢ h → same_gtid g h ≡ false
same_gtid_other g h n = false_from_ne_true (same_gtid g h) (λ e. n (same_is_equal g h e))
