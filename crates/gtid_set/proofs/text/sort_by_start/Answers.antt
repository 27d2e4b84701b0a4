use Rattle.std.proofs.Common.{rules}
use Rattle.std.proofs.lemmas.List.Sorted.{answers_always}
use Rattle.gtid_set.specs.Sweep.{start_of}
use Rattle.gtid_set.proofs.SortLemmas.{rises_sorted}
use Rattle.gtid_set.proofs.text.sort_by_start.Goals as goal

pub returns-clause-rises : goal.returns-clause-rises
returns-clause-rises c = rises_sorted _ (c.sort_unstable_by_key.ensures.sorted start_of (answers_always _ _ _ (λ f a r g h. search rules)))
