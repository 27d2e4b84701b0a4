-- What a list of transactions and its parts make of the rows.
use Rattle.std.proofs.Common.{◌≡◌, ◌≢◌, Bool, true, false, cond, inl, inr, List, [], ◌∷◌, Ok, refl, sym, ap, ◌∙◌, subst}
use Rattle.std.specs.List.{filter, AllByRecursion}
use Rattle.rows.specs.declared.schema.Table.{Table}
use Rattle.rows.specs.Apply.{Rows, ◌>>=◌, apply}
use Rattle.rows.proofs.Local.{bind_ok}
use Rattle.gtid_text.specs.declared.Gtid.{Gtid}
use Rattle.history.specs.World.{Entry, IsIn, AreDistinct, apply_all}
use Rattle.history.proofs.Commuting.{move_before, AreApart, move_behind}

-- Each entry that is left out shares no key with the later ones that are in the set.
abbrev pub IsClosedIn : List Table → (Gtid → Bool) → List Entry → Type 0
IsClosedIn schema S [] = Unit {0}
IsClosedIn schema S (e ∷ es) = (S e.0 ≡ false → AllByRecursion (λ f. S f.0 ≡ true → AreApart schema e.1 f.1) es) × IsClosedIn schema S es

kept_by : {A : Type 0} (P : A → Type 0) (x : A) (ys : List A) (b : Bool) → (b ≡ true → P x) → AllByRecursion P ys → AllByRecursion P (cond b (x ∷ ys) ys)
kept_by P x ys true h r = (h refl, r)
kept_by P x ys false h r = r

pub kept : {A : Type 0} (p : A → Bool) (P : A → Type 0) (xs : List A) → AllByRecursion (λ x. p x ≡ true → P x) xs → AllByRecursion P (filter p xs)
kept p P [] h = tt
kept p P (x ∷ xs) h = kept_by P x (filter p xs) (p x) h.0 (kept p P xs h.1)

chosen_by : (schema : List Table) (e : Entry) (es : List Entry) (a b c : Rows) (test : Bool) → (test ≡ false → AllByRecursion (λ f. AreApart schema e.1 f.1) es) → apply schema e.1 a ≡ Ok b → apply_all schema es b ≡ Ok c → (m : Rows) × (apply_all schema (cond test (e ∷ es) es) a ≡ Ok m)
chosen_by schema e es a b c true h f g = (c, ap (λ r. r >>= apply_all schema es) f ∙ g)
chosen_by schema e es a b c false h f g = let m = move_behind schema e.1 es a b c (h refl) f g in (m.0, m.1)

-- Where a list applies, so does what a closed set has of it.
pub chosen_applies : (schema : List Table) (S : Gtid → Bool) (es : List Entry) (a c : Rows) → IsClosedIn schema S es → apply_all schema es a ≡ Ok c → (m : Rows) × (apply_all schema (filter (λ e. S e.0) es) a ≡ Ok m)
chosen_applies schema S [] a c h f = (c, f)
chosen_applies schema S (e ∷ es) a c h f =
    let first = bind_ok (apply schema e.1 a) (apply_all schema es) c f in
    let rest = chosen_applies schema S es first.0 c h.1 first.2 in
    chosen_by schema e (filter (λ x. S x.0) es) a first.0 rest.0 (S e.0) (λ n. kept (λ x. S x.0) (λ x. AreApart schema e.1 x.1) es (h.0 n)) first.1 rest.1

-- ---- a late transaction is put into its place

pub all_in : (P : Entry → Type 0) (c : Entry) (es : List Entry) → AllByRecursion P es → IsIn c es → P c
all_in P c [] h i = absurd i
all_in P c (e ∷ es) h (inl same) = subst P same h.0
all_in P c (e ∷ es) h (inr later) = all_in P c es h.1 later

pub all_map : (P Q : Entry → Type 0) (es : List Entry) → ((e : Entry) → P e → Q e) → AllByRecursion P es → AllByRecursion Q es
all_map P Q [] f h = tt
all_map P Q (e ∷ es) f h = (f e h.0, all_map P Q es f h.1)

pub same_chosen : (S S' : Gtid → Bool) (es : List Entry) → AllByRecursion (λ f. S' f.0 ≡ S f.0) es → filter (λ e. S' e.0) es ≡ filter (λ e. S e.0) es
same_chosen S S' [] h = refl
same_chosen S S' (e ∷ es) h = λ i. cond (h.0 i) (e ∷ same_chosen S S' es h.1 i) (same_chosen S S' es h.1 i)

-- S' has one identifier more
pub record AddsOne (S S' : Gtid → Bool) (g : Gtid) : Type 0 where
  pub absent : S g ≡ false
  pub present : S' g ≡ true
  pub others : (h : Gtid) → h ≢ g → S' h ≡ S h

late_by : (schema : List Table) (c e : Entry) (F F' : List Entry) (a d : Rows) (test : Bool) → ((x : Rows) → apply_all schema F' x ≡ Ok d → (m : Rows) × (apply_all schema F x ≡ Ok m) × (apply schema c.1 m ≡ Ok d)) → apply_all schema (cond test (e ∷ F') F') a ≡ Ok d → (m : Rows) × (apply_all schema (cond test (e ∷ F) F) a ≡ Ok m) × (apply schema c.1 m ≡ Ok d)
late_by schema c e F F' a d true h f =
    let first = bind_ok (apply schema e.1 a) (apply_all schema F') d f in
    let rest = h first.0 first.2 in
    (rest.0, ap (λ r. r >>= apply_all schema F) first.1 ∙ rest.1, rest.2)
late_by schema c e F F' a d false h f = h a f

late_here : (schema : List Table) (S S' : Gtid → Bool) (c : Entry) (es : List Entry) (a d : Rows) → AddsOne S S' c.0 → AllByRecursion (λ f. c.0 ≢ f.0) es → AllByRecursion (λ f. S f.0 ≡ true → AreApart schema c.1 f.1) es → apply_all schema (filter (λ e. S' e.0) (c ∷ es)) a ≡ Ok d → (m : Rows) × (apply_all schema (filter (λ e. S e.0) (c ∷ es)) a ≡ Ok m) × (apply schema c.1 m ≡ Ok d)
late_here schema S S' c es a d one others apart f =
    let F = filter (λ x. S x.0) es in
    let same : filter (λ x. S' x.0) es ≡ F = same_chosen S S' es (all_map (λ x. c.0 ≢ x.0) (λ x. S' x.0 ≡ S x.0) es (λ x n. one.others x.0 (λ e. n (sym e))) others) in
    let g : apply_all schema (c ∷ F) a ≡ Ok d = sym (λ i. apply_all schema (cond (one.present i) (c ∷ same i) (same i)) a) ∙ f in
    let first = bind_ok (apply schema c.1 a) (apply_all schema F) d g in
    let m = move_behind schema c.1 F a first.0 d (kept (λ x. S x.0) (λ x. AreApart schema c.1 x.1) es apart) first.1 first.2 in
    (m.0, (λ i. apply_all schema (cond (one.absent i) (c ∷ F) F) a) ∙ m.1, m.2)

-- What a set with a late transaction makes of the rows is what the transaction makes of them after the set without it.
pub late : (schema : List Table) (S S' : Gtid → Bool) (c : Entry) (es : List Entry) (a d : Rows) → AddsOne S S' c.0 → AreDistinct es → IsIn c es → IsClosedIn schema S es → apply_all schema (filter (λ e. S' e.0) es) a ≡ Ok d → (m : Rows) × (apply_all schema (filter (λ e. S e.0) es) a ≡ Ok m) × (apply schema c.1 m ≡ Ok d)
late schema S S' c [] a d one distinct i closed f = absurd i
late schema S S' c (e ∷ es) a d one distinct (inl same) closed f =
    let here : AddsOne S S' e.0 = subst (λ (x : Entry). AddsOne S S' x.0) (sym same) one in
    subst (λ (x : Entry). (m : Rows) × (apply_all schema (filter (λ y. S y.0) (e ∷ es)) a ≡ Ok m) × (apply schema x.1 m ≡ Ok d)) same
    (late_here schema S S' e es a d here distinct.0 (closed.0 here.absent) f)
late schema S S' c (e ∷ es) a d one distinct (inr later) closed f =
    let other : S' e.0 ≡ S e.0 = one.others e.0 (all_in (λ x. e.0 ≢ x.0) c es distinct.0 later) in
    late_by schema c e (filter (λ x. S x.0) es) (filter (λ x. S' x.0) es) a d (S e.0)
    (λ x g. late schema S S' c es x d one distinct.1 later closed.1 g)
    (sym (λ i. apply_all schema (cond (other i) (e ∷ filter (λ x. S' x.0) es) (filter (λ x. S' x.0) es)) a) ∙ f)

early_by : (schema : List Table) (c e : Entry) (F F' : List Entry) (a m d : Rows) (test : Bool) → ((x : Rows) → apply_all schema F x ≡ Ok m → apply_all schema F' x ≡ Ok d) → apply_all schema (cond test (e ∷ F) F) a ≡ Ok m → apply_all schema (cond test (e ∷ F') F') a ≡ Ok d
early_by schema c e F F' a m d true h f =
    let first = bind_ok (apply schema e.1 a) (apply_all schema F) m f in
    ap (λ r. r >>= apply_all schema F') first.1 ∙ h first.0 first.2
early_by schema c e F F' a m d false h f = h a f

early_here : (schema : List Table) (S S' : Gtid → Bool) (c : Entry) (es : List Entry) (a m d : Rows) → AddsOne S S' c.0 → AllByRecursion (λ f. c.0 ≢ f.0) es → AllByRecursion (λ f. S f.0 ≡ true → AreApart schema c.1 f.1) es → apply_all schema (filter (λ e. S e.0) (c ∷ es)) a ≡ Ok m → apply schema c.1 m ≡ Ok d → apply_all schema (filter (λ e. S' e.0) (c ∷ es)) a ≡ Ok d
early_here schema S S' c es a m d one others apart f g =
    let F = filter (λ x. S x.0) es in
    let same : filter (λ x. S' x.0) es ≡ F = same_chosen S S' es (all_map (λ x. c.0 ≢ x.0) (λ x. S' x.0 ≡ S x.0) es (λ x n. one.others x.0 (λ e. n (sym e))) others) in
    let h : apply_all schema F a ≡ Ok m = sym (λ i. apply_all schema (cond (one.absent i) (c ∷ F) F) a) ∙ f in
    let b = move_before schema c.1 F a m d (kept (λ x. S x.0) (λ x. AreApart schema c.1 x.1) es apart) h g in
    (λ i. apply_all schema (cond (one.present i) (c ∷ same i) (same i)) a) ∙ (ap (λ r. r >>= apply_all schema F) b.1 ∙ b.2)

-- Where a transaction applies after a set without it, the set with it applies, and makes the same rows.
pub early : (schema : List Table) (S S' : Gtid → Bool) (c : Entry) (es : List Entry) (a m d : Rows) → AddsOne S S' c.0 → AreDistinct es → IsIn c es → IsClosedIn schema S es → apply_all schema (filter (λ e. S e.0) es) a ≡ Ok m → apply schema c.1 m ≡ Ok d → apply_all schema (filter (λ e. S' e.0) es) a ≡ Ok d
early schema S S' c [] a m d one distinct i closed f g = absurd i
early schema S S' c (e ∷ es) a m d one distinct (inl same) closed f g =
    let here : AddsOne S S' e.0 = subst (λ (x : Entry). AddsOne S S' x.0) (sym same) one in
    early_here schema S S' e es a m d here distinct.0 (closed.0 here.absent) f (ap (λ (x : Entry). apply schema x.1 m) same ∙ g)
early schema S S' c (e ∷ es) a m d one distinct (inr later) closed f g =
    let other : S' e.0 ≡ S e.0 = one.others e.0 (all_in (λ x. e.0 ≢ x.0) c es distinct.0 later) in
    (λ i. apply_all schema (cond (other i) (e ∷ filter (λ x. S' x.0) es) (filter (λ x. S' x.0) es)) a)
    ∙ early_by schema c e (filter (λ x. S x.0) es) (filter (λ x. S' x.0) es) a m d (S e.0) (λ x h. early schema S S' c es x m d one distinct.1 later closed.1 h g) f
