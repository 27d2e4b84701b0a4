-- What is known of a closed book.
use Rattle.std.proofs.Common.{◌≡◌, List, map, sym, subst, ◌∙◌}
use Rattle.replica_core.specs.State.{Replica}
use Rattle.shared_replica.specs.History.{BookValue, IsBook}
use Rattle.shared_replica.specs.Passes.{PassValue, SharedValue}
use Rattle.shared_replica.specs.Closing.{ClosedValue, IsClosed, IsMerge, sheet, tally_of_passes}
use Rattle.shared_replica.specs.declared.step.Step.{Step}

pub closed_is : (opening : Replica) (book : BookValue) (b : ClosedValue) (shared : SharedValue) (passes : List PassValue)
    → opening ≡ shared.opening → (b.opening ≡ opening) × (b.steps ≡ book.steps) × (b.now ≡ book.now) → IsBook opening book.steps book.now b.counts
    → b.counts ≡ tally_of_passes passes → b.sheets ≡ map sheet passes → IsMerge passes book.steps → IsClosed shared passes b
closed_is opening book b shared passes named same kept shares sheets merge =
    let known : IsBook b.opening b.steps b.now b.counts =
    subst (λ (v : BookValue). IsBook v.opening v.steps v.now b.counts) (λ i. record { opening = sym same.0 i; steps = sym same.1 i; now = sym same.2 i }) kept in record {
      opening = same.0 ∙ named;
      legal = known.legal;
      counts = known.counted;
      shares = shares;
      grown = known.grown;
      sheets = sheets;
      receipts = subst (λ (l : List Step). IsMerge passes l) (sym same.1) merge;
    }
