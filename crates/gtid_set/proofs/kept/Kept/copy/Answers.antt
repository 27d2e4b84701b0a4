use Rattle.std.proofs.Common.{None, ◌≡◌, sym, ap, subst, ◌∙◌, List, ℕ}
use Rattle.std.specs.Prelude.{slice_index_or}
use Rattle.std.specs.List.{concat}
use Rattle.gtid_set.specs.declared.sources.SourceList.{SourceList}
use Rattle.gtid_set.specs.Kept.{IsKeptIn}
use Rattle.gtid_set.proofs.KeptGrowth.{kept_again}
use Rattle.gtid_set.proofs.kept.Kept.copy.Goals as goal

pub invariant_of-result : goal.invariant_of-result
invariant_of-result c =
    let p = c.self.inside.pool in
    let q = c.in_ok-pool.pool in
    let sources : c.in_ok-sources.sources.items ≡ c.self.inside.sources.items = c.in_ok-sources.ensures.items ∙ c.deref.ensures.value in
    let order : concat c.in_ok-order.order.items ≡ concat c.self.inside.order.items = c.in_ok-order.ensures ∙ ap concat c.deref-2.ensures.value in
    let P : List SourceList → List ℕ → Type 0 = IsKeptIn q in
    subst (λ ss. P ss (concat c.in_ok-order.order.items)) (sym sources) (subst (P c.self.inside.sources.items) (sym order)
    (kept_again p q c.self.inside.sources.items (concat c.self.inside.order.items) (λ m. ap (λ ls. slice_index_or ls m None) c.in_ok-pool.ensures.ok.lists) c.self.invariant).kept)
