-- The place of a stray is found by every key that is equal to its own.
use Rattle.std.proofs.Common.{◌≡◌, ℕ, Bool, true, false, inl, inr, Some, None, Option, is_some, true≢false, sym, ap, ◌∙◌}
use Rattle.std.specs.BTreeMap.{get}
use Rattle.std.specs.Cmp.{IsTotalOrder, Equal-is}
use Rattle.std.specs.Map.{lookup}
use Rattle.std.specs.Ordering.{is_eq}
use Rattle.std.specs.declared.cmp.Ordering.{Ordering}
use Rattle.std.specs.declared.cmp.Ordering.TheVariants.{Equal}
use Rattle.key_table.specs.Strays.{IsStray}
use Rattle.key_table.specs.declared.strays.Strays.{Strays}

module _ {K : Type 0} (eq : K → K → Bool) (cmp : K → K → Ordering) (total : IsTotalOrder cmp) (matches : (x y : K) → eq x y ≡ is_eq (cmp x y)) where
  pub stray_get : (strays : Strays K) (key own : K) (place : ℕ) → eq key own ≡ true → strays.are_incomplete ≡ false → IsStray cmp strays own place → get cmp strays.places key ≡ Some place
  stray_get strays key own place e complete stray = same_get ∙ by stray where
    tied : cmp key own ≡ Equal
    tied = (Equal-is (cmp key own)).0 (sym (matches key own) ∙ e)

    same_get : get cmp strays.places key ≡ get cmp strays.places own
    same_get = λ i. lookup (λ z. is_eq (total.congr key own z tied i)) strays.places.entries

    by : IsStray cmp strays own place → get cmp strays.places own ≡ Some place
    by (inl unknown) = absurd (true≢false (sym unknown ∙ complete))
    by (inr known) = known

pub none_some : {X Y : Type 0} {x : X} (o : Option X) → None ≡ o → o ≡ Some x → Y
none_some o e f = absurd (true≢false (sym (ap is_some (e ∙ f))))
