-- The entries of a world, in their order.
use Rattle.std.proofs.Common.{◌≡◌, ◌≢◌, Bool, true, false, cond, inl, inr, List, [], ◌∷◌, Option, Some, None, refl, sym, ap, ◌∙◌}
use Rattle.std.specs.Prelude.{IsSome}
use Rattle.std.specs.List.{AllByRecursion}
use Rattle.std.proofs.lemmas.Bool.{cases_Bool}
use Rattle.lemmas.proofs.Tests.{not_both}
use Rattle.lemmas.proofs.SameGtid.{same_itself, same_is_equal}
use Rattle.rows.specs.declared.change.Transaction.{Transaction}
use Rattle.rows.specs.declared.schema.Table.{Table}
use Rattle.rows.specs.Conflicts.{conflicts}
use Rattle.gtid_text.specs.declared.Gtid.{Gtid}
use Rattle.gtid_text.specs.Gtids.{same_gtid}
use Rattle.history.specs.World.{OrderedWorld, Entry, content, find, IsIn, Precedes, AreDistinct, IsClosed}
use Rattle.history.proofs.Commuting.{AreApart, apart_unless}
use Rattle.history.proofs.Gtids.{same_gtid_other}
use Rattle.history.proofs.Placing.{IsClosedIn, all_in}

-- what holds of each that is in a list holds of all
pub all_of : (P : Entry → Type 0) (es : List Entry) → ((e : Entry) → IsIn e es → P e) → AllByRecursion P es
all_of P [] h = tt
all_of P (e ∷ es) h = (h e (inl refl), all_of P es (λ f i. h f (inr i)))

pub all_two : (P Q R : Entry → Type 0) (es : List Entry) → ((e : Entry) → P e → Q e → R e) → AllByRecursion P es → AllByRecursion Q es → AllByRecursion R es
all_two P Q R [] f h g = tt
all_two P Q R (e ∷ es) f h g = (f e h.0 g.0, all_two P Q R es f h.1 g.1)

pub some_is : {A : Type 0} (o : Option A) (x : A) → o ≡ Some x → IsSome o
some_is (Some y) x e = refl
some_is None x e = cc

some_same : (x y : Transaction) → Some x ≡ Some y → x ≡ y
some_same x y p = cc

is_in_by : (g : Gtid) (t : Transaction) (e : Entry) (es : List Entry) (b : Bool) → same_gtid g e.0 ≡ b → (find g es ≡ Some t → IsIn (g, t) es) → cond b (Some e.1) (find g es) ≡ Some t → IsIn (g, t) (e ∷ es)
is_in_by g t e es true s h f =
    let same : g ≡ e.0 = same_is_equal g e.0 s in
    let there : e.1 ≡ t = some_same e.1 t f in
    inl (λ i. (sym same i, there i))
is_in_by g t e es false s h f = inr (h f)

pub is_in_of : (g : Gtid) (t : Transaction) (es : List Entry) → find g es ≡ Some t → IsIn (g, t) es
is_in_of g t [] f = cc
is_in_of g t (e ∷ es) f = is_in_by g t e es (same_gtid g e.0) refl (is_in_of g t es) f

pub is_in : (world : OrderedWorld) (g : Gtid) (t : Transaction) → content world g ≡ Some t → IsIn (g, t) world.order
is_in world g t f = is_in_of g t world.order f

-- what the list has at each of its entries
abbrev pub AreFound : OrderedWorld → List Entry → Type 0
AreFound world es = AllByRecursion (λ (e : Entry). content world e.0 ≡ Some e.1) es

find_first : (e : Entry) (es : List Entry) → find e.0 (e ∷ es) ≡ Some e.1
find_first e es = ap (λ b. cond b (Some e.1) (find e.0 es)) (same_itself e.0)

find_later : (e f : Entry) (es : List Entry) → e.0 ≢ f.0 → find f.0 (e ∷ es) ≡ find f.0 es
find_later e f es n = ap (λ b. cond b (Some e.1) (find f.0 es)) (same_gtid_other f.0 e.0 (λ s. n (sym s)))

pub all_found : (es : List Entry) → AreDistinct es → AllByRecursion (λ (e : Entry). find e.0 es ≡ Some e.1) es
all_found [] h = tt
all_found (e ∷ es) h = (
  find_first e es,
  all_two (λ f. e.0 ≢ f.0) (λ f. find f.0 es ≡ Some f.1) (λ f. find f.0 (e ∷ es) ≡ Some f.1) es (λ f n g. find_later e f es n ∙ g) h.0 (all_found es h.1),
)

-- what is in a list without doubles is what the list has under its GTID
pub found_in : (es : List Entry) (e : Entry) → AreDistinct es → IsIn e es → find e.0 es ≡ Some e.1
found_in es e distinct i = all_in (λ f. find f.0 es ≡ Some f.1) e es (all_found es distinct) i

-- one that is left out does not conflict with a later one that is in the set
apart_left_out : (schema : List Table) (S : Gtid → Bool) (e f : Entry) → (conflicts schema e.1 f.1 ≡ true → S f.0 ≡ true → S e.0 ≡ true) → S e.0 ≡ false → S f.0 ≡ true → AreApart schema e.1 f.1
apart_left_out schema S e f h n y = elim (cases_Bool (conflicts schema e.1 f.1)) [
  | inl shares ↦ not_both (S e.0) (h shares y) n
  | inr none ↦ apart_unless schema e.1 f.1 none
]

pub closed_in_of : (schema : List Table) (S : Gtid → Bool) (es : List Entry)
    → ((e f : Entry) → Precedes es e f → conflicts schema e.1 f.1 ≡ true → S f.0 ≡ true → S e.0 ≡ true) → IsClosedIn schema S es
closed_in_of schema S [] h = tt
closed_in_of schema S (e ∷ es) h = (
  λ n. all_of (λ f. S f.0 ≡ true → AreApart schema e.1 f.1) es (λ f i y. apart_left_out schema S e f (h e f (inl (refl, i))) n y),
  closed_in_of schema S es (λ x y p. h x y (inr p)),
)

pub closed_in : (world : OrderedWorld) (S : Gtid → Bool) → IsClosed world S → IsClosedIn world.schema S world.order
closed_in world S closed = closed_in_of world.schema S world.order (λ e f p. closed.earlier e f p)
