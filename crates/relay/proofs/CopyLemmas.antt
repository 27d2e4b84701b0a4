-- The entry that a copy of a journal takes next.
use Rattle.std.proofs.Common.{◌≡◌, ◌<◌, ℕ, false, List, [], ◌∷◌, take, get_or, length, sym, ap, ◌∙◌, zero, suc, arith}
use Rattle.std.specs.FinSet as set
use Rattle.gtid_set.specs.Sets.{Gtids}
use Rattle.gtid_set.proofs.SetLemmas.{union_empty}
use Rattle.journal.specs.declared.Entry.{Entry}
use Rattle.journal.specs.Journals.{gtids_of, AreNew}
use Rattle.journal.proofs.EntryLemmas.{union-gtids_of-cons}

-- it is new to those before it
pub new_at : (i : ℕ) (seen : Gtids) (es : List Entry) (d : Entry) → i < length es → AreNew seen es → set.contains (set.union seen (gtids_of (take i es))) (get_or es i d).gtid ≡ false
new_at i seen [] d lt new = absurd (omega (lt, arith))
new_at zero seen (x ∷ es) d lt new = ap (λ s. set.contains s x.gtid) (sym (union_empty seen)) ∙ new.0
new_at (suc i) seen (x ∷ es) d lt new =
    ap (λ s. set.contains s (get_or es i d).gtid) (sym (union-gtids_of-cons seen x (take i es)))
    ∙ new_at i (set.insert seen x.gtid) es d (omega (lt, arith)) new.1
