use Rattle.std.proofs.Common.{List, ℕ, sym, subst}
use Rattle.txn_journal.specs.declared.bundle_reader.BundleReader.{BundleReader}
use Rattle.parallel_reading.specs.Coming.{HasCome}
use Rattle.parallel_reading.proofs.reading.feed_beside.Goals as goal

pub returns : goal.returns
returns g c bytes come = c.fed_beside.ensures bytes (subst (λ (reader : BundleReader). HasCome reader bytes) (sym c.replace-taken.ensures.value) come)
