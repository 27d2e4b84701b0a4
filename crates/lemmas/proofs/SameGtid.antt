-- GTIDs that are the same, and their order.
use Rattle.std.proofs.Common.{◌≡◌, true, refl, arith}
use Rattle.std.specs.declared.cmp.Ordering.{Ordering}
use Rattle.std.specs.declared.cmp.Ordering.TheVariants.{Less, Equal, Greater}
use Rattle.std.specs.Ordering.{nat_cmp, ordering_then}
use Rattle.std.specs.Cmp.{IsTotalOrder, nat_cmp_total, on_total, then_total}
use Rattle.std.specs.FinMap.{IsAntisymmetric, nat_cmp-IsAntisymmetric}
use Rattle.std.proofs.lemmas.Bool.Decides.{nat_tests}
use Rattle.gtid_text.specs.declared.Gtid.{Gtid}
use Rattle.gtid_text.specs.Gtids.{gtid_cmp, same_gtid}

pub same_itself : (g : Gtid) → same_gtid g g ≡ true
same_itself g = grind (arith, nat_tests)

pub same_flip : (g h : Gtid) → same_gtid g h ≡ same_gtid h g
same_flip g h = grind (arith, nat_tests)

pub same_is_equal : (g h : Gtid) → same_gtid g h ≡ true → g ≡ h
same_is_equal g h e = λ i. record { source = sources e i; number = numbers e i }
  where
    sources : same_gtid g h ≡ true → g.source ≡ h.source
    sources e = grind (arith, nat_tests)

    numbers : same_gtid g h ≡ true → g.number ≡ h.number
    numbers e = grind (arith, nat_tests)

-- ---- the order of GTIDs

pub gtid_total : IsTotalOrder gtid_cmp
gtid_total = then_total (on_total (λ (g : Gtid). g.source) nat_cmp_total) (on_total (λ (g : Gtid). g.number) nat_cmp_total)

pub both_equal : (a b : Ordering) → ordering_then a b ≡ Equal → (a ≡ Equal) × (b ≡ Equal)
both_equal Less b e = cc
both_equal Equal b e = (refl, e)
both_equal Greater b e = cc

pub gtid_exact : IsAntisymmetric gtid_cmp
gtid_exact g h e =
    let p = both_equal (nat_cmp g.source h.source) _ e in
    let s : g.source ≡ h.source = nat_cmp-IsAntisymmetric _ _ p.0 in
    let n : g.number ≡ h.number = nat_cmp-IsAntisymmetric _ _ p.1 in
    λ j. record { source = s j; number = n j }
