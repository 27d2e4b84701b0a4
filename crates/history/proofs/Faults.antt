-- What can be wrong with two histories, and that nothing is where both extend one order.
use Rattle.std.proofs.Common.{◌≡◌, ◌≢◌, ◌⊎◌, true, false, inl, inr, List, [], ◌∷◌, ◌++◌, sym, ap, subst}
use Rattle.std.specs.Prelude.{not}
use Rattle.std.specs.List.{AllByRecursion}
use Rattle.std.proofs.lemmas.Bool.{cases_Bool}
use Rattle.lemmas.proofs.Tests.{not_both}
use Rattle.rows.specs.declared.schema.Table.{Table}
use Rattle.rows.specs.Conflicts.{conflicts}
use Rattle.history.specs.World.{OrderedWorld, Entry, IsIn, Precedes, AreDistinct, AreGtidsSound}
use Rattle.history.proofs.Ordering.{first_in, either_first, not_both_ways}
use Rattle.history.specs.Extension.{IsLinearExtension}
use Rattle.history.specs.Histories.{History, IsConsistent, has, beyond, AreConcurrent}
use Rattle.history.specs.HistoryLaws.{FaultlessAreConsistent, HaveNoFault, ExtendedAreConsistent, IsFault, FaultIsReal}
use Rattle.history.proofs.Sharing.{conflicts_back}
use Rattle.history.proofs.Lists.{no_loop, one_entry, has_of, found_at, in_part, before_in_part, before_in_front, before_in_back, before_across}
use Rattle.history.proofs.Extending.{kept_order}

-- ---- one order

-- two histories that extend one order
extended : (world : OrderedWorld) (a b : History) → AreGtidsSound world → IsLinearExtension world a → IsLinearExtension world b → IsConsistent world.schema a b
extended world a b sound x y = record {
  same = λ e f i j s. one_entry world.order e f sound.distinct (x.known e i) (y.known f j) s;
  ordered = λ e f p s j. y.ordered e f (kept_order world a x e f p s) s j;
  joint = λ e f i j n s. joint_by e f i j n s (either_first world.order e f (x.known e i) (y.known f j));
}
  where
    joint_by : (e f : Entry) → IsIn e a → IsIn f b → e.0 ≢ f.0 → conflicts world.schema e.1 f.1 ≡ true → (e ≡ f) ⊎ (Precedes world.order e f ⊎ Precedes world.order f e) → IsIn e b ⊎ IsIn f a
    joint_by e f i j n s (inl same) = absurd (n (ap (λ (z : Entry). z.0) same))
    joint_by e f i j n s (inr (inl p)) = inl (first_in b e f (y.ordered e f p s j))
    joint_by e f i j n s (inr (inr p)) = inr (first_in a f e (x.ordered f e p (conflicts_back world.schema e.1 f.1 s) i))

with_all : (world : OrderedWorld) (a : History) (hs : List History) → AreGtidsSound world → IsLinearExtension world a → AllByRecursion (IsLinearExtension world) hs → AllByRecursion (λ (b : History). IsConsistent world.schema a b) hs
with_all world a [] sound x h = tt
with_all world a (b ∷ hs) sound x h = (extended world a b sound x h.0, with_all world a hs sound x h.1)

all_with_all : (world : OrderedWorld) (hs all : List History) → AreGtidsSound world → AllByRecursion (IsLinearExtension world) hs → AllByRecursion (IsLinearExtension world) all
    → AllByRecursion (λ (a : History). AllByRecursion (λ (b : History). IsConsistent world.schema a b) all) hs
all_with_all world [] all sound h g = tt
all_with_all world (a ∷ hs) all sound h g = (with_all world a all sound h.0 g, all_with_all world hs all sound h.1 g)

pub extended_are_consistent : ExtendedAreConsistent
extended_are_consistent world hs sound h = all_with_all world hs hs sound h h

-- ---- two histories

-- a history has a transaction, or it has not
in_or_not : (schema : List Table) (h : History) (e : Entry) → ((f : Entry) → IsIn f h → e.0 ≡ f.0 → e ≡ f) → IsIn e h ⊎ (IsIn e h → ⊥)
in_or_not schema h e same = elim (cases_Bool (has h e.0)) [
  | inl y ↦ let f = found_at h e.0 y in inl (subst (λ (z : Entry). IsIn z h) (sym (same f.0 f.1 f.2)) f.1)
  | inr n ↦ inr (λ i. not_both (has h e.0) (has_of h e i) n)
]

none_then : (schema : List Table) (a b : History) → AreDistinct a → HaveNoFault schema a b → IsConsistent schema a b
none_then schema a b d none = record {
  same = none.same;
  ordered = λ e f p s j. ordered_by e f p s j (in_or_not schema b e (λ x k t. none.same e x (first_in a e f p) k t));
  joint = λ e f i j n s. joint_by e f i j s (in_or_not schema b e (λ x k t. none.same e x i k t)) (in_or_not schema a f (λ x k t. sym (none.same x f k j (sym t))));
}
  where
    order_by : (e f : Entry) → Precedes a e f → conflicts schema e.1 f.1 ≡ true → (e ≡ f) ⊎ (Precedes b e f ⊎ Precedes b f e) → Precedes b e f
    order_by e f p s (inl same) = absurd (no_loop a f d (subst (λ (z : Entry). Precedes a z f) same p))
    order_by e f p s (inr (inl q)) = q
    order_by e f p s (inr (inr q)) = absurd (none.none_reordered e f (record { shares = s; one_way = p; other_way = q }))

    ordered_by : (e f : Entry) → Precedes a e f → conflicts schema e.1 f.1 ≡ true → IsIn f b → IsIn e b ⊎ (IsIn e b → ⊥) → Precedes b e f
    ordered_by e f p s j (inl i) = order_by e f p s (either_first b e f i j)
    ordered_by e f p s j (inr n) = absurd (none.none_left_out e f (record { shares = s; before = p; stands = j; absent = n }))

    joint_by : (e f : Entry) → IsIn e a → IsIn f b → conflicts schema e.1 f.1 ≡ true → IsIn e b ⊎ (IsIn e b → ⊥) → IsIn f a ⊎ (IsIn f a → ⊥) → IsIn e b ⊎ IsIn f a
    joint_by e f i j s (inl y) other = inl y
    joint_by e f i j s (inr n) (inl y) = inr y
    joint_by e f i j s (inr n) (inr m) = absurd (none.none_concurrent e f (record { shares = s; first = i; second = j; first_alone = m; second_alone = n }))

then_none : (schema : List Table) (a b : History) → AreDistinct b → IsConsistent schema a b → HaveNoFault schema a b
then_none schema a b d c = record {
  same = c.same;
  none_reordered = λ e f r. not_both_ways b e f d (c.ordered e f r.one_way r.shares (first_in b f e r.other_way)) r.other_way;
  none_left_out = λ e f r. r.absent (first_in b e f (c.ordered e f r.before r.shares r.stands));
  none_concurrent = λ e f r. not_alone e f r (c.joint e f r.first r.second (λ t. r.first_alone (subst (λ (z : Entry). IsIn z a) (c.same e f r.first r.second t) r.first)) r.shares);
}
  where
    not_alone : (e f : Entry) → AreConcurrent schema a b e f → IsIn e b ⊎ IsIn f a → ⊥
    not_alone e f r (inl i) = r.second_alone i
    not_alone e f r (inr j) = r.first_alone j

pub faultless_are_consistent : FaultlessAreConsistent
faultless_are_consistent schema a b d c = (λ none. none_then schema a b d none, λ one. then_none schema a b c one)

-- ---- the pair that the audit finds

-- a history has a transaction, or it has not, where its GTIDs have one content
pub there_or_not : (h : History) (e : Entry) → ((f : Entry) → IsIn f h → f.0 ≡ e.0 → f ≡ e) → IsIn e h ⊎ (IsIn e h → ⊥)
there_or_not h e same = elim (cases_Bool (has h e.0)) [
  | inl y ↦ let f = found_at h e.0 y in inl (subst (λ (z : Entry). IsIn z h) (same f.0 f.1 (sym f.2)) f.1)
  | inr n ↦ inr (λ i. not_both (has h e.0) (has_of h e i) n)
]

-- what comes before g in the history that brought g comes before it in the list
comes_first : (earlier : List Entry) (a : History) (later : List Entry) (g e : Entry) → ((x y : Entry) → IsIn x earlier → IsIn y a → x.0 ≡ y.0 → x ≡ y)
    → IsIn g (beyond earlier a) → Precedes a e g → Precedes ((earlier ++ beyond earlier a) ++ later) e g
comes_first earlier a later g e one i p = before_in_front (earlier ++ beyond earlier a) later e g (placed (cases_Bool (has earlier e.0)))
  where
    placed : (has earlier e.0 ≡ true) ⊎ (has earlier e.0 ≡ false) → Precedes (earlier ++ beyond earlier a) e g
    placed (inl y) =
        let f = found_at earlier e.0 y in
        before_across earlier (beyond earlier a) e g (subst (λ (z : Entry). IsIn z earlier) (one f.0 e f.1 (first_in a e g p) (sym f.2)) f.1) i
    placed (inr n) = before_in_back earlier (beyond earlier a) e g (before_in_part (λ x. not (has earlier x.0)) a e g p (ap not n) (in_part (λ x. not (has earlier x.0)) a g i).1)

pub fault_is_real : FaultIsReal
fault_is_real schema earlier a h later g e d c one same i j p s none =
    by_parts (there_or_not a e (λ f k t. same f e k j t)) (there_or_not h g (λ f k t. sym (same g f g_there k (sym t))))
  where
    g_there : IsIn g a
    g_there = (in_part (λ x. not (has earlier x.0)) a g i).0

    in_the_first : IsIn e a → (g ≡ e) ⊎ (Precedes a g e ⊎ Precedes a e g) → Precedes a g e
    in_the_first k (inl t) = absurd (no_loop ((earlier ++ beyond earlier a) ++ later) e d (subst (λ (z : Entry). Precedes ((earlier ++ beyond earlier a) ++ later) z e) t p))
    in_the_first k (inr (inl q)) = q
    in_the_first k (inr (inr q)) = absurd (not_both_ways ((earlier ++ beyond earlier a) ++ later) g e d p (comes_first earlier a later g e one i q))

    in_the_second : IsIn g h → (g ≡ e) ⊎ (Precedes h g e ⊎ Precedes h e g) → Precedes h e g
    in_the_second k (inl t) = absurd (no_loop ((earlier ++ beyond earlier a) ++ later) e d (subst (λ (z : Entry). Precedes ((earlier ++ beyond earlier a) ++ later) z e) t p))
    in_the_second k (inr (inl q)) = absurd (none q)
    in_the_second k (inr (inr q)) = q

    by_parts : IsIn e a ⊎ (IsIn e a → ⊥) → IsIn g h ⊎ (IsIn g h → ⊥) → IsFault schema a h g e
    by_parts (inl k) (inl l) = inl (record { shares = s; one_way = in_the_first k (either_first a g e g_there k); other_way = in_the_second l (either_first h g e l j) })
    by_parts (inl k) (inr m) = inr (inl (record { shares = s; before = in_the_first k (either_first a g e g_there k); stands = j; absent = m }))
    by_parts (inr n) (inl l) = inr (inr (inl (record { shares = conflicts_back schema g.1 e.1 s; before = in_the_second l (either_first h g e l j); stands = g_there; absent = n })))
    by_parts (inr n) (inr m) = inr (inr (inr (record { shares = s; first = g_there; second = j; first_alone = n; second_alone = m })))
