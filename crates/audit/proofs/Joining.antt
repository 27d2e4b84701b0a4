-- A table of transactions in the order in which they were put in.
use Rattle.std.proofs.Common.{◌≡◌, Bool, true, false, cond, List, [], ◌∷◌, ◌++◌, Option, Some, None, refl, sym, ap, ◌∙◌}
use Rattle.std.specs.Prelude.{is_some}
use Rattle.std.specs.Map.{lookup}
use Rattle.gtid_text.specs.declared.Gtid.{Gtid}
use Rattle.gtid_text.specs.Gtids.{same_gtid}
use Rattle.rows.specs.declared.change.Transaction.{Transaction}
use Rattle.indexmap.specs.IndexMap.{insert_entry}
use Rattle.history.specs.World.{Entry}
use Rattle.history.specs.Histories.{has}
use Rattle.audit.specs.Joined.{with_entry}
use Rattle.audit.proofs.Behind.{looked_up}

-- it is there
pub stays : (es : List Entry) (g : Gtid) (t : Transaction) (b : Bool) → b ≡ is_some (lookup (same_gtid g) es) → b ≡ true → es ≡ with_entry es (g, t)
stays es g t b found there = ap (λ c. cond c es (es ++ (g, t) ∷ [])) (sym there ∙ found ∙ looked_up es g)

goes_last : (es : List Entry) (g : Gtid) (t : Transaction) → is_some (lookup (same_gtid g) es) ≡ false → insert_entry same_gtid es g t ≡ es ++ (g, t) ∷ []
goes_last [] g t n = refl
goes_last (e ∷ es) g t n = by_test (same_gtid g e.0) n (goes_last es g t)
  where
    by_test : (b : Bool) → is_some (cond b (Some e.1) (lookup (same_gtid g) es)) ≡ false → (is_some (lookup (same_gtid g) es) ≡ false → insert_entry same_gtid es g t ≡ es ++ (g, t) ∷ [])
        → cond b ((e.0, t) ∷ es) (e ∷ insert_entry same_gtid es g t) ≡ (e ∷ es) ++ (g, t) ∷ []
    by_test true m later = cc
    by_test false m later = ap (λ (xs : List Entry). e ∷ xs) (later m)

-- it was not there
pub joins : (es new : List Entry) (g : Gtid) (t copy : Transaction) (b : Bool) → b ≡ is_some (lookup (same_gtid g) es) → b ≡ false → copy ≡ t → new ≡ insert_entry same_gtid es g copy → new ≡ with_entry es (g, t)
joins es new g t copy b found absent same put =
    put ∙ ap (insert_entry same_gtid es g) same ∙ goes_last es g t (sym found ∙ absent) ∙ ap (λ c. cond c es (es ++ (g, t) ∷ [])) (sym absent ∙ found ∙ looked_up es g)
