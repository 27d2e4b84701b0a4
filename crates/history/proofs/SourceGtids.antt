-- The order of identifiers.
use Rattle.std.proofs.Common.{◌≡◌, ◌≢◌, ℕ, ◌<◌, false, refl, sym, ap, ◌∙◌, subst}
use Rattle.std.specs.declared.cmp.Ordering.{Ordering}
use Rattle.std.specs.declared.cmp.Ordering.TheVariants.{Less, Equal, Greater}
use Rattle.std.specs.Ordering.{nat_cmp, ordering_then, MatchOrdering}
use Rattle.std.proofs.lemmas.Bool.{false_from_ne_true}
use Rattle.std.proofs.lemmas.Cmp.{nat_cmp_total, ranked, tied_itself}
use Rattle.lemmas.proofs.SameGtid.{same_is_equal}
use Rattle.gtid_text.specs.declared.Gtid.{Gtid}
use Rattle.gtid_text.specs.Gtids.{gtid_cmp, same_gtid}

second_less : (r t : Ordering) → r ≡ Equal → ordering_then r t ≡ Less → t ≡ Less
second_less Less t p e = cc
second_less Equal t p e = e
second_less Greater t p e = cc

pub number_less : (g h : Gtid) → gtid_cmp g h ≡ Less → g.source ≡ h.source → g.number < h.number
number_less g h e s =
    let tied : nat_cmp g.source h.source ≡ Equal = ap (nat_cmp g.source) (sym s) ∙ nat_itself g.source in
    let l : nat_cmp g.number h.number ≡ Less = second_less _ _ tied e in
    subst (λ (r : Ordering). MatchOrdering r (g.number < h.number) (g.number ≡ h.number) (h.number < g.number)) l (ranked g.number h.number (nat_cmp g.number h.number) refl)
  where
    nat_itself : (n : ℕ) → nat_cmp n n ≡ Equal
    nat_itself n = tied_itself nat_cmp_total n

pub same_gtid_other : (g h : Gtid) → g ≢ h → same_gtid g h ≡ false
same_gtid_other g h n = false_from_ne_true (same_gtid g h) (λ e. n (same_is_equal g h e))
