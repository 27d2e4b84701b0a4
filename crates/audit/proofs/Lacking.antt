-- Why the set that a verdict would name is not made.
use Rattle.std.proofs.Common.{◌≡◌, ℕ, ◌<◌, List, length, get_or, Err, refl, subst}
use Rattle.std.specs.FinSet as set
use Rattle.std.proofs.lemmas.Option.{slice_get_read}
use Rattle.gtid_set.specs.declared.fault.SetFault.{SetFault}
use Rattle.gtid_set.specs.Sets.{Gtids}
use Rattle.gtid_set.specs.Full.{IsCrowdedExactly, HasManyIntervals}
use Rattle.gtid_set.proofs.EdgeLemmas.{crowded_only}
use Rattle.gtid_set.proofs.FaultLemmas.{fault_map}
use Rattle.journal.specs.Journals.{JournalValue}
use Rattle.audit.specs.Faults.{IsAuditFault}

pub lacking_fault : (f : SetFault) (journals : List JournalValue) (i : ℕ) (j : JournalValue) (previous opened opening : Gtids) → i < length journals → j ≡ get_or journals i j → previous ≡ j.previous → opened ≡ opening
    → IsCrowdedExactly {T = Unit {0}} (Err f) (set.difference previous opened) → IsAuditFault opening journals f
lacking_fault f journals i j previous opened opening below is p o h =
    fault_map f (λ x. x)
    (λ many. record { place = i; journal = j; at = slice_get_read journals (length journals) i j refl below is; many = subst (λ (s : Gtids). HasManyIntervals (set.difference s opening)) p (subst (λ (s : Gtids). HasManyIntervals (set.difference previous s)) o many) })
    (crowded_only ⊥ f (set.difference previous opened) h)
