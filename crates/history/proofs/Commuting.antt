-- Transactions without a common key commute, and one may be moved after others that share no key with it.
use Rattle.std.proofs.Common.{◌≡◌, Bool, true, false, ◌⊎◌, inl, inr, List, [], ◌∷◌, Option, Some, None, Result, Ok, Err, refl, sym, ap, ◌∙◌, subst}
use Rattle.std.specs.Option.{unwrap_or, is_some}
use Rattle.std.specs.List.{list_any, AllByRecursion}
use Rattle.std.specs.FinMap.{get}
use Rattle.row_images.specs.declared.value.Value.{Value}
use Rattle.rows.specs.declared.change.Key.{Key}
use Rattle.rows.specs.declared.change.Transaction.{Transaction}
use Rattle.rows.specs.declared.change.RowFault.{RowFault}
use Rattle.rows.specs.declared.schema.Table.{Table}
use Rattle.rows.specs.Order.{key_eq}
use Rattle.rows.specs.Apply.{Rows, ◌>>=◌, apply}
use Rattle.rows.specs.WriteSet.{touches, shares_key, write_set, is_among, left_by, AgreeOn, Alike}
use Rattle.rows.specs.Conflicts.{conflicts, sharing_is_conflict}
use Rattle.rows.specs.Total.{key_eq_same}
use Rattle.rows.proofs.Local.{same_rows, bind_ok, after_apply, left-touches, apply_alike}
use Rattle.history.specs.World.{Entry, apply_all}
use Rattle.std.proofs.lemmas.Bool.{cases_Bool, or_cases, or_parts}
use Rattle.lemmas.proofs.Tests.{not_both}

-- no key is touched by both
abbrev pub AreApart : List Table → Transaction → Transaction → Type 0
AreApart schema t u = (k : Key) → touches schema t k ≡ true → touches schema u k ≡ false

pub apart_back : (schema : List Table) (t u : Transaction) → AreApart schema t u → AreApart schema u t
apart_back schema t u h k e =
    elim (cases_Bool (touches schema t k)) [ inl p ↦ not_both (touches schema u k) e (h k p) | inr n ↦ n ]

none_passes : (p : Key → Bool) (keys : List Key) → list_any p keys ≡ false → (k : Key) → is_among keys k ≡ true → p k ≡ false
none_passes p [] n k e = cc
none_passes p (x ∷ keys) n k e =
    let both = or_parts (p x) (list_any p keys) n in
    elim (or_cases (key_eq k x) (is_among keys k) e) [
      | inl here ↦ ap p (key_eq_same k x here) ∙ both.0
      | inr later ↦ none_passes p keys both.1 k later
    ]

pub apart_from_test : (schema : List Table) (t u : Transaction) → shares_key schema t u ≡ false → AreApart schema t u
apart_from_test schema t u n k e = none_passes (touches schema u) (write_set schema t) n k e

-- two that don't conflict share no key
pub apart_unless : (schema : List Table) (t u : Transaction) → conflicts schema t u ≡ false → AreApart schema t u
apart_unless schema t u n =
    apart_from_test schema t u (elim (cases_Bool (shares_key schema t u)) [
      | inl shares ↦ not_both (conflicts schema t u) (sharing_is_conflict schema t u shares) n
      | inr none ↦ none
    ])

pub none_of : {A : Type 0} (o : Option A) → is_some o ≡ false → o ≡ None
none_of None e = refl
none_of (Some x) e = cc

pub not_touched : (schema : List Table) (t : Transaction) (k : Key) → touches schema t k ≡ false → left_by schema t k ≡ None
not_touched schema t k e = none_of (left_by schema t k) (left-touches schema t k ∙ e)

-- a transaction leaves the rows under the keys that it doesn't touch
pub frame : (schema : List Table) (t : Transaction) (rows new : Rows) (k : Key) → apply schema t rows ≡ Ok new → touches schema t k ≡ false → get new k ≡ get rows k
frame schema t rows new k e n = after_apply schema t rows new e k ∙ ap (λ o. unwrap_or o (get rows k)) (not_touched schema t k n)

pub ok_alike : (w : Key → Bool) (a : Rows) (r : Result Rows RowFault) → Alike w (Ok a) r → (b : Rows) × (r ≡ Ok b) × AgreeOn w a b
ok_alike w a (Ok b) h = (b, refl, h)
ok_alike w a (Err e) h = absurd h

-- where a transaction applies to some rows, it applies to all that agree with them under its keys
pub applies_too : (schema : List Table) (t : Transaction) (a a' b : Rows) → apply schema t a ≡ Ok a' → AgreeOn (touches schema t) a b → (b' : Rows) × (apply schema t b ≡ Ok b')
applies_too schema t a a' b e g =
    let h = ok_alike (touches schema t) a' (apply schema t b) (subst (λ (r : Result Rows RowFault). Alike (touches schema t) r (apply schema t b)) e (apply_alike schema t a b g)) in
    (h.0, h.1)

one_left : (l m : Option (Option (List Value))) (g : Option (List Value)) → (l ≡ None) ⊎ (m ≡ None) → unwrap_or l (unwrap_or m g) ≡ unwrap_or m (unwrap_or l g)
one_left l m g (inl e) = ap (λ x. unwrap_or x (unwrap_or m g)) e ∙ sym (ap (λ x. unwrap_or m (unwrap_or x g)) e)
one_left l m g (inr e) = ap (λ x. unwrap_or l (unwrap_or x g)) e ∙ sym (ap (λ x. unwrap_or x (unwrap_or l g)) e)

-- two that share no key: what they make in one order they make in the other
pub swap : (schema : List Table) (t u : Transaction) (a b c : Rows) → AreApart schema t u → apply schema t a ≡ Ok b → apply schema u b ≡ Ok c → (m : Rows) × (apply schema u a ≡ Ok m) × (apply schema t m ≡ Ok c)
swap schema t u a b c h e f =
    let back : AreApart schema u t = apart_back schema t u h in
    let m = applies_too schema u b c a f (λ k p. frame schema t a b k e (back k p)) in
    let n = applies_too schema t a b m.0 e (λ k p. sym (frame schema u a m.0 k m.1 (h k p))) in
    let same : n.0 ≡ c = same_rows n.0 c (λ k.
    after_apply schema t m.0 n.0 n.1 k
    ∙ ap (unwrap_or (left_by schema t k)) (after_apply schema u a m.0 m.1 k)
    ∙ one_left (left_by schema t k) (left_by schema u k) (get a k) (one_untouched k)
    ∙ ap (unwrap_or (left_by schema u k)) (sym (after_apply schema t a b e k))
    ∙ sym (after_apply schema u b c f k)) in
    (m.0, m.1, n.1 ∙ ap Ok same)
  where
    one_untouched : (k : Key) → (left_by schema t k ≡ None) ⊎ (left_by schema u k ≡ None)
    one_untouched k = elim (cases_Bool (touches schema t k)) [ inl p ↦ inr (not_touched schema u k (h k p)) | inr n ↦ inl (not_touched schema t k n) ]

-- A transaction may be moved after others that share no key with it.
pub move_behind : (schema : List Table) (t : Transaction) (es : List Entry) (a b c : Rows) → AllByRecursion (λ e. AreApart schema t e.1) es → apply schema t a ≡ Ok b → apply_all schema es b ≡ Ok c → (m : Rows) × (apply_all schema es a ≡ Ok m) × (apply schema t m ≡ Ok c)
move_behind schema t [] a b c h e f = (a, refl, e ∙ f)
move_behind schema t (x ∷ es) a b c h e f =
    let first = bind_ok (apply schema x.1 b) (apply_all schema es) c f in
    let s = swap schema t x.1 a b first.0 h.0 e first.1 in
    let rest = move_behind schema t es s.0 first.0 c h.1 s.2 first.2 in
    (rest.0, ap (λ r. r >>= apply_all schema es) s.1 ∙ rest.1, rest.2)

-- The other way: one that shares no key with others and applies after them applies before them too.
pub move_before : (schema : List Table) (t : Transaction) (es : List Entry) (a m c : Rows) → AllByRecursion (λ e. AreApart schema t e.1) es → apply_all schema es a ≡ Ok m → apply schema t m ≡ Ok c → (b : Rows) × (apply schema t a ≡ Ok b) × (apply_all schema es b ≡ Ok c)
move_before schema t [] a m c h e f = (c, ap (apply schema t) (same_ok a m e) ∙ f, refl)
  where
    same_ok : (x y : Rows) → ◌≡◌ {A = Result Rows RowFault} (Ok x) (Ok y) → x ≡ y
    same_ok x y p = cc
move_before schema t (x ∷ es) a m c h e f =
    let first = bind_ok (apply schema x.1 a) (apply_all schema es) m e in
    let rest = move_before schema t es first.0 m c h.1 first.2 f in
    let s = swap schema x.1 t a first.0 rest.0 (apart_back schema t x.1 h.0) first.1 rest.1 in
    (s.0, s.1, ap (λ r. r >>= apply_all schema es) s.2 ∙ rest.2)
