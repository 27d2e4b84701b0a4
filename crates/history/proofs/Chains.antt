-- Chains of keys decide whether there is one order.
use Rattle.std.proofs.Common.{◌≡◌, ◌≢◌, ◌⊎◌, Bool, true, inl, inr, List, [], ◌∷◌, ◌++◌, refl, sym, ap, ◌∙◌, subst}
use Rattle.std.specs.Prelude.{not}
use Rattle.std.specs.FinSet.{FinSet}
use Rattle.std.specs.List.{filter, AllByRecursion}
use Rattle.lemmas.proofs.Tests.{not_both}
use Rattle.gtid_text.specs.Gtids.{gtid_cmp}
use Rattle.rows.specs.declared.change.Key.{Key}
use Rattle.rows.specs.declared.schema.Table.{Table}
use Rattle.rows.specs.Apply.{Rows}
use Rattle.rows.specs.WriteSet.{touches}
use Rattle.history.specs.World.{OrderedWorld, Entry, IsIn, Precedes, AreDistinct, AreGtidsSound}
use Rattle.history.proofs.Placing.{all_in}
use Rattle.history.proofs.Ordering.{first_in, second_in}
use Rattle.history.specs.Extension.{IsLinearExtension}
use Rattle.history.specs.Histories.{History, AreConsistent, IsAmong, has, beyond, join_histories, order_of, world_of_histories}
use Rattle.history.specs.HistoryLaws.{AreNew}
use Rattle.history.specs.Chains.{chain, IsFront, ChainsDecide, HaveOneContent, ChainsAreExact}
use Rattle.history.proofs.Sharing.{conflict_key, conflict_by}
use Rattle.history.proofs.Lists.{has_of, found_at, in_part, into_part, before_in_part, before_of_part, part_distinct, in_back, in_either, before_either, distinct_both}
use Rattle.history.proofs.Joining.{among_all, all_among, in_beyond, all_has, opened_not, consistent_have_an_order}
use Rattle.history.proofs.Faults.{extended_are_consistent}

-- ---- prefixes

-- in a list without doubles, nothing is both in a prefix and after it; what comes before one of the prefix comes before it in the prefix
pub twice : (xs zs : List Entry) (f : Entry) → AreDistinct (xs ++ zs) → IsIn f xs → IsIn f zs → ⊥
twice [] zs f d i j = i
twice (x ∷ xs) zs f d (inl same) j = all_in (λ (y : Entry). x.0 ≢ y.0) f (xs ++ zs) d.0 (in_back xs zs f j) (ap (λ (y : Entry). y.0) same)
twice (x ∷ xs) zs f d (inr i) j = twice xs zs f d.1 i j

pub before_in_the_front : (xs zs : List Entry) (e f : Entry) → AreDistinct (xs ++ zs) → Precedes (xs ++ zs) e f → IsIn f xs → Precedes xs e f
before_in_the_front xs zs e f d p i = by_part (before_either xs zs e f p)
  where
    by_part : Precedes xs e f ⊎ ((IsIn e xs × IsIn f zs) ⊎ Precedes zs e f) → Precedes xs e f
    by_part (inl q) = q
    by_part (inr (inl r)) = absurd (twice xs zs f d i r.1)
    by_part (inr (inr q)) = absurd (twice xs zs f d i (second_in zs e f q))

-- The other way: a part of a list that has, before each of its own, all that comes before it in the list, is a prefix.
front_of : (xs ys : List Entry) → AreDistinct xs → AreDistinct ys → ((e : Entry) → IsIn e xs → IsIn e ys) → ((e f : Entry) → Precedes ys e f → IsIn f xs → Precedes xs e f) → IsFront xs ys
front_of [] ys d c known ordered = (ys, refl)
front_of (x ∷ xs) [] d c known ordered = absurd (known x (inl refl))
front_of (x ∷ xs) (y ∷ ys) d c known ordered =
    let same : y ≡ x = heads (known x (inl refl)) in
    let rest = front_of xs ys d.1 c.1 (λ e i. later_known same e i (known e (inr i))) (λ e f p i. later_ordered same e f p (ordered e f (inr p) (inr i))) in
    (rest.0, λ i. sym same i ∷ rest.1 i)
  where
    before_head : Precedes (x ∷ xs) y x → y ≡ x
    before_head (inl p) = sym p.0
    before_head (inr p) = absurd (all_in (λ (z : Entry). x.0 ≢ z.0) x xs d.0 (second_in xs y x p) refl)

    heads : IsIn x (y ∷ ys) → y ≡ x
    heads (inl same) = same
    heads (inr later) = before_head (ordered y x (inl (refl, later)) (inl refl))

    later_known : y ≡ x → (e : Entry) → IsIn e xs → IsIn e (y ∷ ys) → IsIn e ys
    later_known same e i (inl here) = absurd (all_in (λ (z : Entry). x.0 ≢ z.0) e xs d.0 i (ap (λ (z : Entry). z.0) (sym same ∙ here)))
    later_known same e i (inr later) = later

    later_ordered : y ≡ x → (e f : Entry) → Precedes ys e f → Precedes (x ∷ xs) e f → Precedes xs e f
    later_ordered same e f p (inl q) = absurd (all_in (λ (z : Entry). y.0 ≢ z.0) e ys c.0 (first_in ys e f p) (ap (λ (z : Entry). z.0) (same ∙ q.0)))
    later_ordered same e f p (inr q) = q

-- ---- one history

pub fronts_of : (world : OrderedWorld) (h : History) → AreDistinct world.order → IsLinearExtension world h → (k : Key) → IsFront (chain world.schema k h) (chain world.schema k world.order)
fronts_of world h c ext k =
    let p : Entry → Bool = λ e. touches world.schema e.1 k in
    front_of (filter p h) (filter p world.order) (part_distinct p h ext.distinct) (part_distinct p world.order c)
    (λ e i. let r = in_part p h e i in into_part p world.order e (ext.known e r.0) r.1)
    (λ e f q i.
    let r = in_part p h f i in
    let t = (in_part p world.order e (first_in (filter p world.order) e f q)).1 in
    before_in_part p h e f (ext.ordered e f (before_of_part p world.order e f q) (conflict_by world.schema e.1 f.1 k t r.1) r.0) t r.1)

from_fronts : (world : OrderedWorld) (h : History) → AreDistinct world.order → AreDistinct h → ((e : Entry) → IsIn e h → IsIn e world.order)
    → ((k : Key) → IsFront (chain world.schema k h) (chain world.schema k world.order)) → IsLinearExtension world h
from_fronts world h c d known fronts = record {
  distinct = d;
  known = known;
  ordered = λ e f q s i. ordered_at e f q i (conflict_key world.schema e.1 f.1 s);
}
  where
    ordered_at : (e f : Entry) → Precedes world.order e f → IsIn f h → (k : Key) × (touches world.schema e.1 k ≡ true) × (touches world.schema f.1 k ≡ true) → Precedes h e f
    ordered_at e f q i k =
        let p : Entry → Bool = λ x. touches world.schema x.1 k.0 in
        let z = fronts k.0 in
        before_of_part p h e f (before_in_the_front (filter p h) z.0 e f
        (subst AreDistinct (sym z.1) (part_distinct p world.order c))
        (subst (λ (xs : List Entry). Precedes xs e f) (sym z.1) (before_in_part p world.order e f q k.1 k.2))
        (into_part p h f i k.2))

pub chains_decide : ChainsDecide
chains_decide world h c d known = (λ ext k. fronts_of world h c ext k, λ fronts. from_fronts world h c d known fronts)

-- ---- several histories

pub joined_distinct : (L : List Entry) (hs : List History) → AreDistinct L → ((h : History) → IsAmong h hs → AreDistinct h) → AreDistinct (join_histories L hs)
joined_distinct L [] d each = d
joined_distinct L (h ∷ hs) d each = joined_distinct (L ++ beyond L h) hs
    (distinct_both L (beyond L h) d (part_distinct (λ x. not (has L x.0)) h (each h (inl refl))) (λ e f i j t. not_both (has L f.0) (ap (has L) (sym t) ∙ has_of L e i) (in_beyond L h f j).1))
    (λ x i. each x (inr i))

joined_from : (L : List Entry) (hs : List History) (e : Entry) → IsIn e (join_histories L hs) → IsIn e L ⊎ ((h : History) × IsAmong h hs × IsIn e h)
joined_from L [] e i = inl i
joined_from L (h ∷ hs) e i = elim (joined_from (L ++ beyond L h) hs e i) [
  | inl j ↦ elim (in_either L (beyond L h) e j) [ inl k ↦ inl k | inr k ↦ inr (h, inl refl, (in_beyond L h e k).0) ]
  | inr r ↦ inr (r.0, inr r.1, r.2)
]

pub order_from : (hs : List History) (e : Entry) → IsIn e (order_of hs) → (h : History) × IsAmong h hs × IsIn e h
order_from hs e i = elim (joined_from [] hs e i) [ inl none ↦ absurd none | inr r ↦ r ]

pub order_known : (hs : List History) → HaveOneContent hs → (h : History) → IsAmong h hs → (e : Entry) → IsIn e h → IsIn e (order_of hs)
order_known hs one h k e i =
    let f = found_at (order_of hs) e.0 (all_has [] hs e h k i) in
    let from = order_from hs f.0 f.1 in
    subst (λ (z : Entry). IsIn z (order_of hs)) (one from.0 h from.1 k f.0 e from.2 i (sym f.2)) f.1

pub order_distinct : (opened : FinSet gtid_cmp) (hs : List History) → AllByRecursion (AreNew opened) hs → AreDistinct (order_of hs)
order_distinct opened hs new = joined_distinct [] hs tt (λ h k. (among_all (AreNew opened) hs new h k).0)

pub order_gtids : (schema : List Table) (opened : FinSet gtid_cmp) (rows : Rows) (hs : List History) → AllByRecursion (AreNew opened) hs → AreGtidsSound (world_of_histories schema opened rows hs)
order_gtids schema opened rows hs new = record { outside = λ g s. opened_not opened hs (order_of hs) new (order_from hs) g s; distinct = order_distinct opened hs new }

pub order_extends : (schema : List Table) (opened : FinSet gtid_cmp) (rows : Rows) (hs : List History) → AllByRecursion (AreNew opened) hs → HaveOneContent hs
    → ((h : History) → IsAmong h hs → (k : Key) → IsFront (chain schema k h) (chain schema k (order_of hs))) → AllByRecursion (IsLinearExtension (world_of_histories schema opened rows hs)) hs
order_extends schema opened rows hs new one fronts =
    let world : OrderedWorld = world_of_histories schema opened rows hs in
    all_among (IsLinearExtension world) hs (λ h k. from_fronts world h (order_distinct opened hs new) (among_all (AreNew opened) hs new h k).0 (order_known hs one h k) (fronts h k))

pub chains_are_exact : ChainsAreExact
chains_are_exact schema opened rows hs new one = (
  λ fronts. (world_of_histories schema opened rows hs, refl, refl, order_gtids schema opened rows hs new, order_extends schema opened rows hs new one fronts),
  λ some h k.
      let consistent : AreConsistent schema hs = subst (λ (s : List Table). AreConsistent s hs) some.1 (extended_are_consistent some.0 hs some.3 some.4) in
      let order = consistent_have_an_order schema opened rows hs new consistent in
      fronts_of (world_of_histories schema opened rows hs) h order.gtids.distinct (among_all (IsLinearExtension (world_of_histories schema opened rows hs)) hs order.extended h k),
)
