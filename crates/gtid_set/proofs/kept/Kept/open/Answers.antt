use Rattle.std.specs.List.{concat}
use Rattle.std.proofs.Common.{subst, sym, ap, List, ℕ, []}
use Rattle.gtid_set.specs.declared.sources.SourceList.{SourceList}
use Rattle.gtid_set.specs.Kept.{IsKeptIn}
use Rattle.interval_pool.specs.Values.{PoolValue}
use Rattle.gtid_set.proofs.KeptGrowth.{kept_none}
use Rattle.gtid_set.proofs.kept.Kept.«open».Goals as goal

pub invariant_of-result : goal.invariant_of-result
invariant_of-result c =
    let Q : List SourceList → Type 0 = λ ss. IsKeptIn c.«open».result ss (concat c.new-2.result.items) in
    let R : List (List ℕ) → Type 0 = λ is. IsKeptIn c.«open».result [] (concat is) in
    subst Q (sym c.new.ensures.items) (subst R (sym c.new-2.ensures.items) (kept_none c.«open».result (ap (λ (p : PoolValue). p.lists) c.«open».ensures)))
