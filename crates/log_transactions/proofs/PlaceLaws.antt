-- The places of tables by their names.
use Rattle.std.proofs.Common.{◌≡◌, ℕ, suc, Bool, true, false, cond, List, [], ◌∷◌, ◌++◌, length, Option, Some, None, refl, sym, ap, subst, ◌∙◌, option_map, is_some, Bor, get_or, ltb, ltb-true, ltb-false, IfSome}
use Rattle.std.specs.Prelude.{slice_get}
use Rattle.std.specs.BTreeMap.{BTreeMap, get, Updates, IsUnchanged}
use Rattle.std.specs.Cmp.Lexicographic.{slice_cmp}
use Rattle.std.specs.Map.{lookup}
use Rattle.std.specs.Option.{option_and_then, option_copied}
use Rattle.std.specs.Ordering.{nat_cmp, is_eq}
use Rattle.std.specs.Str.{bytes_eq}
use Rattle.std.proofs.lemmas.Option.{slice_get_past, slice_get_read}
use Rattle.std.proofs.lemmas.Map.Text.{is_eq-slice_cmp}
use Rattle.std.proofs.lemmas.Slice.Eq.{bytes_eq-Decides}
use Rattle.log_transactions.specs.Tables.{find_table}
use Rattle.log_transactions.specs.declared.mapped.StatementTable.{StatementTable}
use Rattle.log_transactions.specs.Places.{place_of, ArePlaces}

-- ---- what is at the place

behind : (t : StatementTable) (ts : List StatementTable) (o : Option ℕ) → option_and_then (slice_get ts) o ≡ option_and_then (slice_get (t ∷ ts)) (option_map suc o)
behind t ts None = refl
behind t ts (Some place) = refl

found_at : (b : Bool) (t : StatementTable) (ts : List StatementTable) (o : Option ℕ) (found : Option StatementTable) → found ≡ option_and_then (slice_get ts) o → cond b (Some t) found ≡ option_and_then (slice_get (t ∷ ts)) (cond b (Some 0) (option_map suc o))
found_at true t ts o found e = refl
found_at false t ts o found e = e ∙ behind t ts o

table_found : (name : List ℕ) (ts : List StatementTable) → find_table name ts ≡ option_and_then (slice_get ts) (place_of name ts)
table_found name [] = refl
table_found name (t ∷ ts) = found_at (bytes_eq t.name name) t ts (place_of name ts) (find_table name ts) (table_found name ts)

pub find_none : (name : List ℕ) (ts : List StatementTable) (places : BTreeMap (List ℕ) ℕ) → ArePlaces ts places → None ≡ get (slice_cmp nat_cmp) places name → None ≡ find_table name ts
find_none name ts places are e = ap (option_and_then (slice_get ts)) (e ∙ are name) ∙ sym (table_found name ts)

pub find_some : (name : List ℕ) (ts : List StatementTable) (places : BTreeMap (List ℕ) ℕ) (place : ℕ) → ArePlaces ts places → Some place ≡ get (slice_cmp nat_cmp) places name → slice_get ts place ≡ find_table name ts
find_some name ts places place are e = ap (option_and_then (slice_get ts)) (e ∙ are name) ∙ sym (table_found name ts)

-- what is read of a list at a place
pub read_at : {X : Type 0} (xs : List X) (place : ℕ) (found : Option (Bor X)) → is_some found ≡ ltb place (length xs) → IfSome found (λ x. x.now ≡ get_or xs place x.now) → option_map (λ (x : Bor X). x.now) found ≡ slice_get xs place
read_at xs place None e item = sym (slice_get_past xs place (ltb-false place (length xs) (sym e)))
read_at xs place (Some x) e item = sym (slice_get_read xs (length xs) place x.now refl (ltb-true place (length xs) (sym e)) item)

-- ---- a table more

abbrev or_last : Option ℕ → Bool → ℕ → Option ℕ
or_last None b n = cond b (Some n) None
or_last (Some place) b n = Some place

next_last : (o : Option ℕ) (b : Bool) (n : ℕ) → option_map suc (or_last o b n) ≡ or_last (option_map suc o) b (suc n)
next_last None true n = refl
next_last None false n = refl
next_last (Some place) b n = refl

first_or : (a b : Bool) (o p : Option ℕ) (n : ℕ) → p ≡ or_last o b n → cond a (Some 0) (option_map suc p) ≡ or_last (cond a (Some 0) (option_map suc o)) b (suc n)
first_or true b o p n e = refl
first_or false b o p n e = ap (option_map suc) e ∙ next_last o b n

place_push : (name : List ℕ) (ts : List StatementTable) (t : StatementTable) → place_of name (ts ++ t ∷ []) ≡ or_last (place_of name ts) (bytes_eq t.name name) (length ts)
place_push name [] t = refl
place_push name (s ∷ ts) t = first_or (bytes_eq s.name name) (bytes_eq t.name name) (place_of name ts) (place_of name (ts ++ t ∷ [])) (length ts) (place_push name ts t)

same_name : (a b : List ℕ) → bytes_eq a b ≡ true → a ≡ b
same_name a b e = (bytes_eq-Decides a b).0 e

stays : (o : Option ℕ) (b : Bool) (n : ℕ) → (b ≡ true → is_some o ≡ true) → o ≡ or_last o b n
stays None false n h = refl
stays None true n h = let e = h refl in absurd cc
stays (Some place) b n h = refl

-- where the name has a place, it keeps it
pub places_stay : (ts : List StatementTable) (places : BTreeMap (List ℕ) ℕ) (t : StatementTable) → ArePlaces ts places → is_some (get (slice_cmp nat_cmp) places t.name) ≡ true → ArePlaces (ts ++ t ∷ []) places
places_stay ts places t are e name =
    are name
    ∙ stays (place_of name ts) (bytes_eq t.name name) (length ts)
    (λ h. subst (λ (n : List ℕ). is_some (place_of n ts) ≡ true) (same_name t.name name h) (ap is_some (sym (are t.name)) ∙ e))
    ∙ sym (place_push name ts t)

joins : (o : Option ℕ) (b : Bool) (n : ℕ) → (b ≡ true → is_some o ≡ false) → cond b (Some n) o ≡ or_last o b n
joins None b n h = refl
joins (Some place) false n h = refl
joins (Some place) true n h = let e = h refl in absurd cc

more : (ts : List StatementTable) (old new : BTreeMap (List ℕ) ℕ) (t : StatementTable) → ArePlaces ts old → is_some (get (slice_cmp nat_cmp) old t.name) ≡ false → Updates (slice_cmp nat_cmp) old new t.name (Some (length ts)) → ArePlaces (ts ++ t ∷ []) new
more ts old new t are e updates name =
    updates.0 name
    ∙ ap (λ (b : Bool). cond b (Some (length ts)) (get (slice_cmp nat_cmp) old name)) (is_eq-slice_cmp t.name name)
    ∙ ap (λ (o : Option ℕ). cond (bytes_eq t.name name) (Some (length ts)) o) (are name)
    ∙ joins (place_of name ts) (bytes_eq t.name name) (length ts)
    (λ h. subst (λ (n : List ℕ). is_some (place_of n ts) ≡ false) (same_name t.name name h) (ap is_some (sym (are t.name)) ∙ e))
    ∙ sym (place_push name ts t)

-- a name that has none has the place of its table
pub places_more : (ts : List StatementTable) (old new : BTreeMap (List ℕ) ℕ) (t : StatementTable) (name : List ℕ) (place : ℕ) → name ≡ t.name → place ≡ length ts → ArePlaces ts old → is_some (get (slice_cmp nat_cmp) old t.name) ≡ false
    → Updates (slice_cmp nat_cmp) old new name (Some place) → ArePlaces (ts ++ t ∷ []) new
places_more ts old new t name place same at are e updates =
    more ts old new t are e
    (subst (λ (n : List ℕ). Updates (slice_cmp nat_cmp) old new n (Some (length ts))) same
    (subst (λ (i : ℕ). Updates (slice_cmp nat_cmp) old new name (Some i)) at updates))

-- what was read of a map is there, or is not
pub is_there : {X : Type 0} (found : Option (Bor X)) (o : Option X) (b : Bool) → option_copied found ≡ o → is_some found ≡ b → is_some o ≡ b
is_there None o b e f = sym (ap is_some e) ∙ f
is_there (Some x) o b e f = sym (ap is_some e) ∙ f

-- entries that are as before have the places of before
pub places_same : (ts : List StatementTable) (old new : BTreeMap (List ℕ) ℕ) → IsUnchanged old new → ArePlaces ts old → ArePlaces ts new
places_same ts old new same are name = ap (lookup (λ k. is_eq (slice_cmp nat_cmp name k))) same ∙ are name
