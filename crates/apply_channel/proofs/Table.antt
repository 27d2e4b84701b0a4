-- The table of places after one change.
use Rattle.std.proofs.Common.{◌≡◌, ℕ, Bool, true, false, cond, List, [], Option, Some, None, is_some, refl, sym, ap, ◌∙◌}
use Rattle.std.specs.Option.{unwrap_or}
use Rattle.lemmas.proofs.SameGtid.{same_flip, same_is_equal, same_itself}
use Rattle.gtid_text.specs.declared.Gtid.{Gtid}
use Rattle.gtid_text.specs.Gtids.{same_gtid}
use Rattle.apply_channel.specs.Kept.{IsOpened, entry_of, place_of}

unwrap_cond : (b : Bool) (w o : Option (Option ℕ)) → unwrap_or (cond b w o) None ≡ cond b (unwrap_or w None) (unwrap_or o None)
unwrap_cond true w o = refl
unwrap_cond false w o = refl

pub placed : (s t : List (Gtid × Option ℕ)) (key : Gtid) (w : Option (Option ℕ)) → ((q : Gtid) → entry_of t q ≡ cond (same_gtid key q) w (entry_of s q))
    → (g : Gtid) → place_of t g ≡ cond (same_gtid g key) (unwrap_or w None) (place_of s g)
placed s t key w h g =
    ap (λ (o : Option (Option ℕ)). unwrap_or o None) (h g)
    ∙ ap (λ b. unwrap_or (cond b w (entry_of s g)) None) (same_flip key g)
    ∙ unwrap_cond (same_gtid g key) w (entry_of s g)

same_cond : (b : Bool) (x y : Option ℕ) → (b ≡ true → y ≡ x) → cond b x y ≡ y
same_cond true x y h = sym (h refl)
same_cond false x y h = refl

-- an empty entry is as none
module _ (key : Gtid) (s t : List (Gtid × Option ℕ)) (h : IsOpened key s t) where
  pub opened : (g : Gtid) → place_of t g ≡ place_of s g
  opened g =
      placed s t key (Some (place_of s key)) h g
      ∙ same_cond (same_gtid g key) (place_of s key) (place_of s g) (λ e. ap (place_of s) (same_is_equal g key e))

  pub has_place : is_some (entry_of t key) ≡ true
  has_place = ap is_some (h key) ∙ ap (λ b. is_some (cond b (Some (place_of s key)) (entry_of s key))) (same_itself key)

pub no_places : (es : List (Gtid × Option ℕ)) → es ≡ [] → (g : Gtid) → place_of es g ≡ None
no_places es h g = ap (λ rest. place_of rest g) h
