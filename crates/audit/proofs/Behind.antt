-- Histories, and the entries after them.
use Rattle.std.proofs.Common.{◌≡◌, Bool, true, false, cond, not, ◌&&◌, ◌||◌, List, [], ◌∷◌, Some, refl, sym, ap, ◌∙◌}
use Rattle.std.specs.Prelude.{is_some}
use Rattle.std.specs.FinSet as set
use Rattle.std.specs.Map.{lookup}
use Rattle.lemmas.proofs.Tests.{not_both}
use Rattle.lemmas.proofs.SameGtid.{same_is_equal}
use Rattle.gtid_text.specs.declared.Gtid.{Gtid}
use Rattle.gtid_text.specs.Gtids.{same_gtid}
use Rattle.gtid_set.specs.Sets.{Gtids}
use Rattle.journal.specs.declared.Entry.{Entry}
use Rattle.world.specs.Audit.{is_recorded_in}
use Rattle.history.specs.World as ordered
use Rattle.history.specs.Histories.{has}
use Rattle.world.specs.Bundles.{beyond_opening}

-- the history of entries has what they have beyond the opening set
pub beyond_has : (opened : Gtids) (es : List Entry) (g : Gtid) → has (beyond_opening opened es) g ≡ (not (set.contains opened g) && is_recorded_in es g)
beyond_has opened [] g = none (set.contains opened g)
  where
    none : (b : Bool) → false ≡ (not b && false)
    none true = refl
    none false = refl
beyond_has opened (e ∷ es) g = by_both (set.contains opened e.gtid) (same_gtid g e.gtid) (set.contains opened g) refl refl refl (beyond_has opened es g)
  where
    by_both : (a b c : Bool) → set.contains opened e.gtid ≡ a → same_gtid g e.gtid ≡ b → set.contains opened g ≡ c → has (beyond_opening opened es) g ≡ (not c && is_recorded_in es g)
        → has (cond a (beyond_opening opened es) ((e.gtid, e.txn) ∷ beyond_opening opened es)) g ≡ (not c && (same_gtid g e.gtid || is_recorded_in es g))
    by_both true true true p q r later = later
    by_both true true false p q r later = not_both (set.contains opened g) (ap (set.contains opened) (same_is_equal g e.gtid q) ∙ p) r
    by_both true false true p q r later = later
    by_both true false false p q r later = later ∙ sym (ap (λ b. b || is_recorded_in es g) q)
    by_both false true true p q r later = not_both (set.contains opened g) r (ap (set.contains opened) (same_is_equal g e.gtid q) ∙ p)
    by_both false false true p q r later = ap (λ b. b || has (beyond_opening opened es) g) q ∙ later
    by_both false b false p q r later = ap (λ t. same_gtid g e.gtid || t) later

-- what a table of GTIDs has
pub looked_up : (es : List ordered.Entry) (g : Gtid) → is_some (lookup (same_gtid g) es) ≡ has es g
looked_up [] g = refl
looked_up (e ∷ es) g = by_test (same_gtid g e.0) (looked_up es g)
  where
    by_test : (b : Bool) → is_some (lookup (same_gtid g) es) ≡ has es g → is_some (cond b (Some e.1) (lookup (same_gtid g) es)) ≡ (b || has es g)
    by_test true later = refl
    by_test false later = later
