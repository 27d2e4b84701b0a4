-- Consistent histories have one order: each in turn, what it has beyond the earlier ones.
use Rattle.std.proofs.Common.{◌≡◌, ◌≢◌, ◌⊎◌, true, false, inl, inr, List, [], ◌∷◌, ◌++◌, Option, Some, None, refl, sym, ap, ◌∙◌, subst}
use Rattle.std.specs.Prelude.{not, IsSome}
use Rattle.std.specs.FinSet.{FinSet, contains}
use Rattle.std.specs.List.{AllByRecursion}
use Rattle.std.proofs.lemmas.Bool.{cases_Bool, not_from_false}
use Rattle.lemmas.proofs.Tests.{false_from_not, not_both}
use Rattle.gtid_text.specs.declared.Gtid.{Gtid}
use Rattle.gtid_text.specs.Gtids.{gtid_cmp}
use Rattle.rows.specs.declared.change.Transaction.{Transaction}
use Rattle.rows.specs.declared.schema.Table.{Table}
use Rattle.rows.specs.Apply.{Rows}
use Rattle.rows.specs.Conflicts.{conflicts}
use Rattle.history.specs.World.{OrderedWorld, Entry, find, IsIn, Precedes, AreDistinct}
use Rattle.history.proofs.Entries.{is_in_of}
use Rattle.history.proofs.Ordering.{first_in, either_first}
use Rattle.history.specs.Extension.{IsLinearExtension}
use Rattle.history.specs.Histories.{History, IsConsistent, AreConsistent, IsAmong, has, beyond, join_histories, order_of, world_of_histories}
use Rattle.history.specs.HistoryLaws.{AreNew, ConsistentHaveAnOrder}
use Rattle.history.proofs.Sharing.{conflicts_back}
use Rattle.history.proofs.Lists.{has_of, found_at, in_part, into_part, before_in_part, before_of_part, part_distinct, in_front, in_back, in_either, before_in_front, before_in_back, before_across, before_either, distinct_both}
use Rattle.history.proofs.Extending.{kept_order}

-- ---- what a history has beyond a list

pub in_beyond : (L : List Entry) (h : History) (e : Entry) → IsIn e (beyond L h) → IsIn e h × (has L e.0 ≡ false)
in_beyond L h e i = let r = in_part (λ x. not (has L x.0)) h e i in (r.0, false_from_not (has L e.0) r.1)

outside : (L : List Entry) (e : Entry) → has L e.0 ≡ false → IsIn e L → ⊥
outside L e n i = not_both (has L e.0) (has_of L e i) n

-- of a history that agrees with the list: in the list or beyond it
either_part : (schema : List Table) (L : List Entry) (h : History) (e : Entry) → IsConsistent schema L h → IsIn e h → IsIn e L ⊎ (IsIn e (beyond L h) × (has L e.0 ≡ false))
either_part schema L h e c i = elim (cases_Bool (has L e.0)) [
  | inl y ↦ let f = found_at L e.0 y in inl (subst (λ (z : Entry). IsIn z L) (c.same f.0 e f.1 i (sym f.2)) f.1)
  | inr n ↦ inr (into_part (λ x. not (has L x.0)) h e i (not_from_false (has L e.0) n), n)
]

-- ---- one history more

record AreBoth (schema : List Table) (a b : History) : Type 0 where
  there : IsConsistent schema a b
  back : IsConsistent schema b a

-- a transaction of the list comes before one beyond it, in the history, where they share a key
crosses : (schema : List Table) (L : List Entry) (h : History) (e f : Entry) → AreBoth schema L h → IsIn e L → IsIn f (beyond L h) → conflicts schema e.1 f.1 ≡ true → Precedes h e f
crosses schema L h e f both i j s =
    let there = in_beyond L h f j in
    by_joint there (both.there.joint e f i there.0 (λ t. not_both (has L f.0) (ap (has L) (sym t) ∙ has_of L e i) there.1) s)
  where
    by_order : IsIn f h × (has L f.0 ≡ false) → (e ≡ f) ⊎ (Precedes h e f ⊎ Precedes h f e) → Precedes h e f
    by_order there (inl same) = absurd (outside L f there.1 (subst (λ (z : Entry). IsIn z L) same i))
    by_order there (inr (inl p)) = p
    by_order there (inr (inr p)) = absurd (outside L f there.1 (first_in L f e (both.back.ordered f e p (conflicts_back schema e.1 f.1 s) i)))

    by_joint : IsIn f h × (has L f.0 ≡ false) → IsIn e h ⊎ IsIn f L → Precedes h e f
    by_joint there (inl k) = by_order there (either_first h e f k there.0)
    by_joint there (inr k) = absurd (outside L f there.1 k)

-- a list, with what a history has beyond it, agrees with a third history, where both do
more_there : (schema : List Table) (L : List Entry) (h c : History) → AreBoth schema L h → IsConsistent schema L c → IsConsistent schema h c → IsConsistent schema (L ++ beyond L h) c
more_there schema L h c both lc hc = record {
  same = λ e f i j t. same_by e f j t (in_either L (beyond L h) e i);
  ordered = λ e f p s j. ordered_by e f s j (before_either L (beyond L h) e f p);
  joint = λ e f i j n s. joint_by e f j n s (in_either L (beyond L h) e i);
}
  where
    same_by : (e f : Entry) → IsIn f c → e.0 ≡ f.0 → IsIn e L ⊎ IsIn e (beyond L h) → e ≡ f
    same_by e f j t (inl i) = lc.same e f i j t
    same_by e f j t (inr i) = hc.same e f (in_beyond L h e i).0 j t

    ordered_by : (e f : Entry) → conflicts schema e.1 f.1 ≡ true → IsIn f c → Precedes L e f ⊎ ((IsIn e L × IsIn f (beyond L h)) ⊎ Precedes (beyond L h) e f) → Precedes c e f
    ordered_by e f s j (inl p) = lc.ordered e f p s j
    ordered_by e f s j (inr (inl r)) = hc.ordered e f (crosses schema L h e f both r.0 r.1 s) s j
    ordered_by e f s j (inr (inr p)) = hc.ordered e f (before_of_part (λ x. not (has L x.0)) h e f p) s j

    into : (f : Entry) → IsIn f L ⊎ (IsIn f (beyond L h) × (has L f.0 ≡ false)) → IsIn f (L ++ beyond L h)
    into f (inl i) = in_front L (beyond L h) f i
    into f (inr i) = in_back L (beyond L h) f i.0

    joint_by : (e f : Entry) → IsIn f c → e.0 ≢ f.0 → conflicts schema e.1 f.1 ≡ true → IsIn e L ⊎ IsIn e (beyond L h) → IsIn e c ⊎ IsIn f (L ++ beyond L h)
    joint_by e f j n s (inl i) = elim (lc.joint e f i j n s) [ inl k ↦ inl k | inr k ↦ inr (in_front L (beyond L h) f k) ]
    joint_by e f j n s (inr i) = elim (hc.joint e f (in_beyond L h e i).0 j n s) [ inl k ↦ inl k | inr k ↦ inr (into f (either_part schema L h f both.there k)) ]

more_back : (schema : List Table) (L : List Entry) (h c : History) → AreBoth schema L h → IsConsistent schema c L → IsConsistent schema c h → IsConsistent schema c (L ++ beyond L h)
more_back schema L h c both cl ch = record {
  same = λ e f i j t. same_by e f i t (in_either L (beyond L h) f j);
  ordered = λ e f p s j. ordered_by e f p s (in_either L (beyond L h) f j);
  joint = λ e f i j n s. joint_by e f i n s (in_either L (beyond L h) f j);
}
  where
    same_by : (e f : Entry) → IsIn e c → e.0 ≡ f.0 → IsIn f L ⊎ IsIn f (beyond L h) → e ≡ f
    same_by e f i t (inl j) = cl.same e f i j t
    same_by e f i t (inr j) = ch.same e f i (in_beyond L h f j).0 t

    placed : (e f : Entry) → IsIn f (beyond L h) → Precedes h e f → IsIn e L ⊎ (IsIn e (beyond L h) × (has L e.0 ≡ false)) → Precedes (L ++ beyond L h) e f
    placed e f j p (inl i) = before_across L (beyond L h) e f i j
    placed e f j p (inr i) = before_in_back L (beyond L h) e f (before_in_part (λ x. not (has L x.0)) h e f p (not_from_false (has L e.0) i.1) (not_from_false (has L f.0) (in_beyond L h f j).1))

    ordered_by : (e f : Entry) → Precedes c e f → conflicts schema e.1 f.1 ≡ true → IsIn f L ⊎ IsIn f (beyond L h) → Precedes (L ++ beyond L h) e f
    ordered_by e f p s (inl j) = before_in_front L (beyond L h) e f (cl.ordered e f p s j)
    ordered_by e f p s (inr j) =
        let q = ch.ordered e f p s (in_beyond L h f j).0 in
        placed e f j q (either_part schema L h e both.there (first_in h e f q))

    into : (e : Entry) → IsIn e L ⊎ (IsIn e (beyond L h) × (has L e.0 ≡ false)) → IsIn e (L ++ beyond L h)
    into e (inl i) = in_front L (beyond L h) e i
    into e (inr i) = in_back L (beyond L h) e i.0

    joint_by : (e f : Entry) → IsIn e c → e.0 ≢ f.0 → conflicts schema e.1 f.1 ≡ true → IsIn f L ⊎ IsIn f (beyond L h) → IsIn e (L ++ beyond L h) ⊎ IsIn f c
    joint_by e f i n s (inl j) = elim (cl.joint e f i j n s) [ inl k ↦ inl (in_front L (beyond L h) e k) | inr k ↦ inr k ]
    joint_by e f i n s (inr j) = elim (ch.joint e f i (in_beyond L h f j).0 n s) [ inl k ↦ inl (into e (either_part schema L h e both.there k)) | inr k ↦ inr k ]

-- ---- all of them

pub among_all : (P : History → Type 0) (hs : List History) → AllByRecursion P hs → (h : History) → IsAmong h hs → P h
among_all P [] all h i = absurd i
among_all P (x ∷ hs) all h (inl same) = subst P same all.0
among_all P (x ∷ hs) all h (inr later) = among_all P hs all.1 h later

pub all_among : (P : History → Type 0) (hs : List History) → ((h : History) → IsAmong h hs → P h) → AllByRecursion P hs
all_among P [] f = tt
all_among P (x ∷ hs) f = (f x (inl refl), all_among P hs (λ h i. f h (inr i)))

-- what is known of the list when some histories are in it
record IsSoFar (schema : List Table) (all : List History) (L : List Entry) : Type 0 where
  distinct : AreDistinct L
  both : (c : History) → IsAmong c all → AreBoth schema L c
  from_them : (e : Entry) → IsIn e L → (h : History) × IsAmong h all × IsIn e h

one_more : (schema : List Table) (all : List History) (L : List Entry) (h : History) → AreDistinct h → IsAmong h all → ((c : History) → IsAmong c all → AreBoth schema h c) → IsSoFar schema all L → IsSoFar schema all (L ++ beyond L h)
one_more schema all L h d k with_h sofar =
    let both = sofar.both h k in
    record {
      distinct = distinct_both L (beyond L h) sofar.distinct (part_distinct (λ x. not (has L x.0)) h d) (λ e f i j t. not_both (has L f.0) (ap (has L) (sym t) ∙ has_of L e i) (in_beyond L h f j).1);
      both = λ c m. let lc = sofar.both c m in let hc = with_h c m in record { there = more_there schema L h c both lc.there hc.there; back = more_back schema L h c both lc.back hc.back };
      from_them = λ e i. from_either e (in_either L (beyond L h) e i);
    }
  where
    from_either : (e : Entry) → IsIn e L ⊎ IsIn e (beyond L h) → (x : History) × IsAmong x all × IsIn e x
    from_either e (inl i) = sofar.from_them e i
    from_either e (inr i) = (h, k, (in_beyond L h e i).0)

all_joined : (schema : List Table) (all : List History) (L : List Entry) (hs : List History)
    → ((h : History) → IsAmong h hs → AreDistinct h × IsAmong h all × ((c : History) → IsAmong c all → AreBoth schema h c))
    → IsSoFar schema all L → IsSoFar schema all (join_histories L hs)
all_joined schema all L [] each sofar = sofar
all_joined schema all L (h ∷ hs) each sofar =
    let here = each h (inl refl) in
    all_joined schema all (L ++ beyond L h) hs (λ x i. each x (inr i)) (one_more schema all L h here.0 here.1 here.2 sofar)

-- nothing is lost
kept_in : (L : List Entry) (hs : List History) (e : Entry) → IsIn e L → IsIn e (join_histories L hs)
kept_in L [] e i = i
kept_in L (h ∷ hs) e i = kept_in (L ++ beyond L h) hs e (in_front L (beyond L h) e i)

pub all_has : (L : List Entry) (hs : List History) (e : Entry) (h : History) → IsAmong h hs → IsIn e h → has (join_histories L hs) e.0 ≡ true
all_has L [] e h k i = absurd k
all_has L (x ∷ hs) e h (inl same) i = elim (cases_Bool (has L e.0)) [
  | inl y ↦ let f = found_at L e.0 y in ap (has (join_histories (L ++ beyond L x) hs)) f.2 ∙ has_of (join_histories (L ++ beyond L x) hs) f.0 (kept_in (L ++ beyond L x) hs f.0 (in_front L (beyond L x) f.0 f.1))
  | inr n ↦ has_of (join_histories (L ++ beyond L x) hs) e (kept_in (L ++ beyond L x) hs e (in_back L (beyond L x) e (into_part (λ z. not (has L z.0)) x e (subst (λ (z : History). IsIn e z) (sym same) i) (not_from_false (has L e.0) n))))
]
all_has L (x ∷ hs) e h (inr later) i = all_has (L ++ beyond L x) hs e h later i

two_among : (schema : List Table) (hs : List History) → AreConsistent schema hs → (a b : History) → IsAmong a hs → IsAmong b hs → IsConsistent schema a b
two_among schema hs all a b i j = among_all (λ y. IsConsistent schema a y) hs (among_all (λ x. AllByRecursion (λ (y : History). IsConsistent schema x y) hs) hs all a i) b j

none_yet : (schema : List Table) (hs : List History) → IsSoFar schema hs []
none_yet schema hs = record {
  distinct = tt;
  both = λ c k. record {
    there = record { same = λ e f i j t. absurd i; ordered = λ e f p s j. absurd p; joint = λ e f i j n s. absurd i };
    back = record { same = λ e f i j t. absurd j; ordered = λ e f p s j. absurd j; joint = λ e f i j n s. absurd j };
  };
  from_them = λ e i. absurd i;
}

so_far : (schema : List Table) (opened : FinSet gtid_cmp) (hs : List History) → AllByRecursion (AreNew opened) hs → AreConsistent schema hs → IsSoFar schema hs (order_of hs)
so_far schema opened hs new consistent = all_joined schema hs [] hs
    (λ h k. (
      (among_all (AreNew opened) hs new h k).0,
      k,
      λ c m. record { there = two_among schema hs consistent h c k m; back = two_among schema hs consistent c h m k },
    )) (none_yet schema hs)

extends : (schema : List Table) (opened : FinSet gtid_cmp) (rows : Rows) (hs : List History) → AllByRecursion (AreNew opened) hs → IsSoFar schema hs (order_of hs) → (h : History) → IsAmong h hs → IsLinearExtension (world_of_histories schema opened rows hs) h
extends schema opened rows hs new sofar h k = record {
  distinct = (among_all (AreNew opened) hs new h k).0;
  known = λ e i. let f = found_at (order_of hs) e.0 (all_has [] hs e h k i) in
      subst (λ (z : Entry). IsIn z (order_of hs)) ((sofar.both h k).there.same f.0 e f.1 i (sym f.2)) f.1;
  ordered = λ e f p s i. (sofar.both h k).there.ordered e f p s i;
}

some_content : (o : Option Transaction) → IsSome o → (t : Transaction) × (o ≡ Some t)
some_content (Some t) h = (t, refl)
some_content None h = cc

pub opened_not : (opened : FinSet gtid_cmp) (hs : List History) (es : List Entry) → AllByRecursion (AreNew opened) hs → ((e : Entry) → IsIn e es → (h : History) × IsAmong h hs × IsIn e h)
    → (g : Gtid) → IsSome (find g es) → contains opened g ≡ false
opened_not opened hs es new from g s =
    let t = some_content (find g es) s in
    let r = from (g, t.0) (is_in_of g t.0 es t.1) in
    (among_all (AreNew opened) hs new r.0 r.1).1 (g, t.0) r.2

pub consistent_have_an_order : ConsistentHaveAnOrder
consistent_have_an_order schema opened rows hs new consistent =
    let world : OrderedWorld = world_of_histories schema opened rows hs in
    let sofar = so_far schema opened hs new consistent in
    record {
      gtids = record { outside = λ g s. opened_not opened hs (order_of hs) new sofar.from_them g s; distinct = sofar.distinct };
      extended = all_among (IsLinearExtension world) hs (λ h k. extends schema opened rows hs new sofar h k);
      kept = all_among (λ h. (e f : Entry) → Precedes h e f → conflicts schema e.1 f.1 ≡ true → Precedes (order_of hs) e f) hs
          (λ h k e f p s. kept_order world h (extends schema opened rows hs new sofar h k) e f p s);
      from_them = sofar.from_them;
    }
