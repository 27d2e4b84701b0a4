-- A set of keys into which a GTID was put.
use Rattle.std.proofs.Common.{◌≡◌, Bool, true, false, ◌||◌, ◌⊎◌, inl, inr, List, [], ◌∷◌, ◌++◌, cond, refl, sym, ap, subst, ◌∙◌, if◌then◌else◌}
use Rattle.std.proofs.lemmas.Bool.{cases_Bool, or_right}
use Rattle.std.specs.List.{list_any}
use Rattle.lemmas.proofs.SameGtid.{same_flip, same_is_equal}
use Rattle.indexmap.specs.IndexSet.{insert_key}
use Rattle.gtid_text.specs.Gtids.{same_gtid}
use Rattle.gtid_text.specs.declared.Gtid.{Gtid}

any_step : (b c d : Bool) → b || (c || d) ≡ (b || c) || d
any_step true c d = refl
any_step false c d = refl

any_push : (p : Gtid → Bool) (ks : List Gtid) (k : Gtid) → list_any p (ks ++ k ∷ []) ≡ (list_any p ks || p k)
any_push p [] k = last (p k) where
  last : (b : Bool) → b || false ≡ b
  last true = refl
  last false = refl
any_push p (x ∷ xs) k = ap (λ b. p x || b) (any_push p xs k) ∙ any_step (p x) (list_any p xs) (p k)

none_more : (b : Bool) → b || false ≡ b
none_more true = refl
none_more false = refl

pub inserted : (ks : List Gtid) (k q : Gtid) → list_any (same_gtid q) (insert_key same_gtid ks k) ≡ cond (same_gtid k q) true (list_any (same_gtid q) ks)
inserted ks k q = by (cases_Bool (list_any (same_gtid k) ks)) (cases_Bool (same_gtid k q)) where
  chosen : (b : Bool) → list_any (same_gtid k) ks ≡ b → list_any (same_gtid q) (insert_key same_gtid ks k) ≡ list_any (same_gtid q) (if b then ks else ks ++ k ∷ [])
  chosen b e = ap (λ t. list_any (same_gtid q) (if t then ks else ks ++ k ∷ [])) e

  wanted : (b : Bool) → same_gtid k q ≡ b → cond b true (list_any (same_gtid q) ks) ≡ cond (same_gtid k q) true (list_any (same_gtid q) ks)
  wanted b e = ap (λ t. cond t true (list_any (same_gtid q) ks)) (sym e)

  by : (list_any (same_gtid k) ks ≡ true) ⊎ (list_any (same_gtid k) ks ≡ false) → (same_gtid k q ≡ true) ⊎ (same_gtid k q ≡ false) → list_any (same_gtid q) (insert_key same_gtid ks k) ≡ cond (same_gtid k q) true (list_any (same_gtid q) ks)
  by (inl there) (inl same) = chosen true there ∙ subst (λ g. list_any (same_gtid g) ks ≡ true) (same_is_equal k q same) there ∙ wanted true same
  by (inl there) (inr other) = chosen true there ∙ wanted false other
  by (inr gone) (inl same) = chosen false gone ∙ any_push (same_gtid q) ks k ∙ or_right (list_any (same_gtid q) ks) (same_gtid q k) (same_flip q k ∙ same) ∙ wanted true same
  by (inr gone) (inr other) = chosen false gone ∙ any_push (same_gtid q) ks k ∙ ap (λ b. list_any (same_gtid q) ks || b) (same_flip q k ∙ other) ∙ none_more (list_any (same_gtid q) ks) ∙ wanted false other
