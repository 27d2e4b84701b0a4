-- What a verdict on a conflict names is there.
use Rattle.std.proofs.Common.{◌≡◌, ◌≢◌, ℕ, zero, suc, ◌⊎◌, Bool, true, false, cond, not, ◌&&◌, inl, inr, List, [], ◌∷◌, ◌++◌, take, Option, Some, None, Result, Ok, Err, refl, sym, ap, ◌∙◌, subst}
use Rattle.std.specs.Prelude.{slice_get}
use Rattle.std.specs.Option.{option_map}
use Rattle.std.proofs.lemmas.Bool.{and_from, and_parts, not-true, not_from_false, false_from_ne_true}
use Rattle.std.proofs.lemmas.List.{append_assoc}
use Rattle.std.proofs.lemmas.Map.Keys.{any_passes_from_place}
use Rattle.std.proofs.lemmas.Option.{same_Some}
use Rattle.lemmas.proofs.Tests.{not_both}
use Rattle.lemmas.proofs.Options.{none_some, map_some}
use Rattle.lemmas.proofs.SameGtid.{same_itself}
use Rattle.gtid_text.specs.declared.Gtid.{Gtid}
use Rattle.gtid_text.specs.Gtids.{same_gtid}
use Rattle.rows.specs.declared.change.Key.{Key}
use Rattle.rows.specs.declared.change.RowFault.{RowFault}
use Rattle.rows.specs.declared.schema.Table.{Table}
use Rattle.rows.specs.Apply.{Rows, apply, ◌>>=◌}
use Rattle.rows.specs.Order.{key_eq}
use Rattle.rows.specs.Total.{key_eq_self}
use Rattle.rows.specs.WriteSet.{write_set, touches}
use Rattle.world.specs.declared.verdict.Verdict.{Verdict}
use Rattle.world.specs.declared.verdict.Verdict.TheVariants.{Reordered, NotClosed, Concurrent}
use Rattle.world.specs.Search.{or_next, when, first}
use Rattle.world.specs.Audit.{fault_after, first_fault}
use Rattle.world.proofs.Finding.{first_some}
use Rattle.history.specs.World.{Entry, IsIn, Precedes, AreDistinct, apply_all}
use Rattle.history.proofs.Ordering.{first_in, second_in}
use Rattle.history.specs.Histories.{History, IsAmong, has, beyond, join_histories, order_of, IsReordered, LeavesOut, AreConcurrent}
use Rattle.history.specs.HistoryLaws.{IsFault}
use Rattle.history.specs.Chains.{HaveOneContent}
use Rattle.history.proofs.Sharing.{conflict_by}
use Rattle.history.proofs.Lists.{has_of, found_at, into_part, in_front, in_back, in_either, before_either}
use Rattle.history.proofs.Joining.{in_beyond}
use Rattle.history.proofs.Faults.{fault_is_real}
use Rattle.history.proofs.Chains.{twice, order_from, order_known}
use Rattle.world.specs.AuditInOrder.{next_of, bringer, pair_fault, fault_with, conflict}
use Rattle.world.specs.CasesInOrder.{OfTwo, AtKey, FailsInOrder}
use Rattle.rows.specs.Conflicts.{conflicts_at, key_is_conflict, conflict_at_touched}

-- ---- where the bringer's part of the order lies

has_in_both : (L M : List Entry) (g : Gtid) → has (L ++ M) g ≡ true → (has L g ≡ true) ⊎ (has M g ≡ true)
has_in_both L M g y = let f = found_at (L ++ M) g y in elim (in_either L M f.0 f.1) [
  | inl i ↦ inl (ap (has L) f.2 ∙ has_of L f.0 i)
  | inr i ↦ inr (ap (has M) f.2 ∙ has_of M f.0 i)
]

joined_front : (L : List Entry) (hs : List History) → (later : List Entry) × (join_histories L hs ≡ L ++ later)
joined_front L [] = ([], sym (append_none L))
  where
    append_none : (xs : List Entry) → xs ++ [] ≡ xs
    append_none [] = refl
    append_none (x ∷ xs) = ap (λ (ys : List Entry). x ∷ ys) (append_none xs)
joined_front L (h ∷ hs) = let r = joined_front (L ++ beyond L h) hs in (beyond L h ++ r.0, r.1 ∙ append_assoc L (beyond L h) r.0)

record IsPart (L : List Entry) (hs : List History) (x : History) (g : Gtid) : Type 0 where
  earlier : List Entry
  later : List Entry
  parts : join_histories L hs ≡ (earlier ++ beyond earlier x) ++ later
  among : IsAmong x hs
  stands : has x g ≡ true
  fresh : has earlier g ≡ false

part_of : (L : List Entry) (hs : List History) (x : History) (g : Gtid) → has L g ≡ false → bringer hs g ≡ Some x → IsPart L hs x g
part_of L [] x g n b = none_some x b
part_of L (y ∷ hs) x g n b = by_test (has y g) refl b (λ m c. part_of (L ++ beyond L y) hs x g m c)
  where
    rest : has y g ≡ false → has (L ++ beyond L y) g ≡ false
    rest m = false_from_ne_true (has (L ++ beyond L y) g) (λ t. elim (has_in_both L (beyond L y) g t) [
      | inl i ↦ not_both (has L g) i n
      | inr i ↦ let f = found_at (beyond L y) g i in not_both (has y g) (ap (has y) f.2 ∙ has_of y f.0 (in_beyond L y f.0 f.1).0) m
    ])

    by_test : (t : Bool) → has y g ≡ t → or_next (when t y) (bringer hs g) ≡ Some x → (has (L ++ beyond L y) g ≡ false → bringer hs g ≡ Some x → IsPart (L ++ beyond L y) hs x g) → IsPart L (y ∷ hs) x g
    by_test true m c later =
        let r = joined_front (L ++ beyond L y) hs in
        subst (λ (z : History). IsPart L (y ∷ hs) z g) (same_Some y x c) (record { earlier = L; later = r.0; parts = r.1; among = inl refl; stands = m; fresh = n })
    by_test false m c later = let p = later (rest m) c in record { earlier = p.earlier; later = p.later; parts = p.parts; among = inr p.among; stands = p.stands; fresh = p.fresh }

-- ---- the first that passes

passes_first : (p : Entry → Bool) (es : List Entry) (g : Entry) → first (λ x. when (p x) x) es ≡ Some g → IsIn g es × (p g ≡ true)
passes_first p [] g e = none_some g e
passes_first p (x ∷ es) g e = by_test (p x) refl e (passes_first p es g)
  where
    by_test : (t : Bool) → p x ≡ t → or_next (when t x) (first (λ x. when (p x) x) es) ≡ Some g → (first (λ x. when (p x) x) es ≡ Some g → IsIn g es × (p g ≡ true)) → IsIn g (x ∷ es) × (p g ≡ true)
    by_test true m c later = let same = same_Some x g c in (inl same, ap p (sym same) ∙ m)
    by_test false m c later = let r = later c in (inr r.0, r.1)

comes_before : (p : Entry → Bool) (es : List Entry) (g e : Entry) → first (λ x. when (p x) x) es ≡ Some g → IsIn e es → p e ≡ true → g ≢ e → Precedes es g e
comes_before p [] g e f i y n = absurd i
comes_before p (x ∷ es) g e f i y n = by_test (p x) refl f (comes_before p es g e) i
  where
    by_test : (t : Bool) → p x ≡ t → or_next (when t x) (first (λ x. when (p x) x) es) ≡ Some g → (first (λ x. when (p x) x) es ≡ Some g → IsIn e es → p e ≡ true → g ≢ e → Precedes es g e) → IsIn e (x ∷ es) → Precedes (x ∷ es) g e
    by_test true m c later (inl same) = absurd (n (sym (same_Some x g c) ∙ same))
    by_test true m c later (inr j) = inl (same_Some x g c, j)
    by_test false m c later (inl same) = not_both (p e) y (ap p (sym same) ∙ m)
    by_test false m c later (inr j) = inr (later c j y n)

-- ---- an entry and those before it

split_at : (es : List Entry) (k : ℕ) (e : Entry) → slice_get es k ≡ Some e → (zs : List Entry) × (take k es ++ e ∷ zs ≡ es)
split_at [] k e at = none_some e at
split_at (x ∷ es) zero e at = (es, ap (λ (y : Entry). y ∷ es) (sym (same_Some x e at)))
split_at (x ∷ es) (suc k) e at = let r = split_at es k e at in (r.0, ap (λ (ys : List Entry). x ∷ ys) r.1)

before_is_in : (xs zs : List Entry) (g e : Entry) → AreDistinct (xs ++ e ∷ zs) → Precedes (xs ++ e ∷ zs) g e → IsIn g xs
before_is_in xs zs g e d p = elim (before_either xs (e ∷ zs) g e p) [
  | inl q ↦ first_in xs g e q
  | inr r ↦ elim r [
    | inl q ↦ q.0
    | inr q ↦ absurd (not_after (e ∷ zs) q)
  ]
]
  where
    tail_of : (xs ys : List Entry) → AreDistinct (xs ++ ys) → AreDistinct ys
    tail_of [] ys d = d
    tail_of (x ∷ xs) ys d = tail_of xs ys d.1

    not_after : (ys : List Entry) → Precedes (e ∷ zs) g e → ⊥
    not_after ys (inl q) = twice (e ∷ []) zs e (tail_of xs (e ∷ zs) d) (inl refl) q.1
    not_after ys (inr q) = twice (e ∷ []) zs e (tail_of xs (e ∷ zs) d) (inl refl) (second_in zs g e q)

-- ---- what is named

module _ (schema : List Table) (hs : List History) (d : AreDistinct (order_of hs)) (one : HaveOneContent hs) (each : (h : History) → IsAmong h hs → AreDistinct h) where
  -- what a pair's verdict means
  abbrev pub Says : Verdict → Type 0
  Says (Reordered g h key) = OfTwo (AtKey schema key (IsReordered schema)) hs g h
  Says (NotClosed g h) = OfTwo (LeavesOut schema) hs h g
  Says (Concurrent g h key) = OfTwo (AtKey schema key (AreConcurrent schema)) hs g h
  Says _ = ⊥

  not_in : (a h : History) (g : Entry) → IsAmong a hs → IsAmong h hs → IsIn g a → (IsIn g h → ⊥) → has h g.0 ≡ false
  not_in a h g k l i n = false_from_ne_true (has h g.0) (λ y. let f = found_at h g.0 y in n (subst (λ (x : Entry). IsIn x h) (sym (one a h k l g f.0 i f.1 f.2)) f.1))

  said_by : (a h : History) (g e : Entry) (key : Key) → IsAmong a hs → IsAmong h hs → IsIn g a → IsIn e h → conflicts_at schema g.1 e.1 key ≡ true → IsFault schema a h g e → Says (pair_fault a h g.0 e.0 key)
  said_by a h g e key k l i j s (inl r) =
      subst Says (sym (λ n. cond (has_of a e (second_in a g e r.one_way) n) (cond (has_of h g (second_in h e g r.other_way) n) (Reordered g.0 e.0 key) (NotClosed e.0 g.0)) (cond (has h g.0) (NotClosed g.0 e.0) (Concurrent g.0 e.0 key))))
      (record { first = a; second = h; first_among = k; second_among = l; t = g.1; u = e.1; stands = record { fault = r; conflict = s } })
  said_by a h g e key k l i j s (inr (inl r)) =
      subst Says (sym (λ n. cond (has_of a e (second_in a g e r.before) n) (cond (not_in a h g k l i r.absent n) (Reordered g.0 e.0 key) (NotClosed e.0 g.0)) (cond (has h g.0) (NotClosed g.0 e.0) (Concurrent g.0 e.0 key))))
      (record { first = a; second = h; first_among = k; second_among = l; t = g.1; u = e.1; stands = r })
  said_by a h g e key k l i j s (inr (inr (inl r))) =
      subst Says (sym (λ n. cond (not_in h a e l k j r.absent n) (cond (has h g.0) (Reordered g.0 e.0 key) (NotClosed e.0 g.0)) (cond (has_of h g (second_in h e g r.before) n) (NotClosed g.0 e.0) (Concurrent g.0 e.0 key))))
      (record { first = h; second = a; first_among = l; second_among = k; t = e.1; u = g.1; stands = r })
  said_by a h g e key k l i j s (inr (inr (inr r))) =
      subst Says (sym (λ n. cond (not_in h a e l k j r.first_alone n) (cond (has h g.0) (Reordered g.0 e.0 key) (NotClosed e.0 g.0)) (cond (not_in a h g k l i r.second_alone n) (NotClosed g.0 e.0) (Concurrent g.0 e.0 key))))
      (record { first = a; second = h; first_among = k; second_among = l; t = g.1; u = e.1; stands = record { fault = r; conflict = s } })

  module _ (h : History) (l : IsAmong h hs) (k : ℕ) (e : Entry) (at : slice_get h k ≡ Some e) (key : Key) (touched : touches schema e.1 key ≡ true) where
    abbrev passes : Entry → Bool
    passes x = conflicts_at schema x.1 e.1 key && not (has (take k h) x.0)

    here : (zs : List Entry) × (take k h ++ e ∷ zs ≡ h)
    here = split_at h k e at

    in_history : IsIn e h
    in_history = subst (IsIn e) here.1 (in_back (take k h) (e ∷ here.0) e (inl refl))

    apart : AreDistinct (take k h ++ e ∷ here.0)
    apart = subst AreDistinct (sym here.1) (each h l)

    itself_new : has (take k h) e.0 ≡ false
    itself_new = false_from_ne_true (has (take k h) e.0) (λ y.
        let f = found_at (take k h) e.0 y in
        let listed : IsIn f.0 h = subst (IsIn f.0) here.1 (in_front (take k h) (e ∷ here.0) f.0 f.1) in
        twice (take k h) (e ∷ here.0) e apart (subst (λ (x : Entry). IsIn x (take k h)) (sym (one h h l l e f.0 in_history listed f.2)) f.1) (inl refl))

    pair_stands : (g : Entry) (a : History) → next_of schema (order_of hs) e.1 key (take k h) ≡ Some g → same_gtid g.0 e.0 ≡ false → bringer hs g.0 ≡ Some a → Says (pair_fault a h g.0 e.0 key)
    pair_stands g a next other brought =
        let p = passes_first passes (order_of hs) g next in
        let q = and_parts (conflicts_at schema g.1 e.1 key) (not (has (take k h) g.0)) p.1 in
        let from = order_from hs g p.0 in
        let part : IsPart [] hs a g.0 = part_of [] hs a g.0 refl brought in
        let f = found_at a g.0 part.stands in
        let there : IsIn g a = subst (λ (x : Entry). IsIn x a) (one a from.0 part.among from.1 f.0 g f.1 from.2 (sym f.2)) f.1 in
        let mine : passes e ≡ true = and_from (conflicts_at schema e.1 e.1 key) (not (has (take k h) e.0)) (conflict_at_touched schema e.1 e.1 key touched ∙ touched) (not_from_false (has (take k h) e.0) itself_new) in
        let first_of_two : Precedes (order_of hs) g e = comes_before passes (order_of hs) g e next (order_known hs one h l e in_history) mine (λ same. not_both (same_gtid g.0 e.0) (ap (λ (x : Entry). same_gtid x.0 e.0) same ∙ same_itself e.0) other) in
        let not_before : Precedes h g e → ⊥ = λ r. not_both (has (take k h) g.0) (has_of (take k h) g (before_is_in (take k h) here.0 g e apart (subst (λ (xs : List Entry). Precedes xs g e) (sym here.1) r))) (not-true (has (take k h) g.0) q.1) in
        let one_earlier : (x y : Entry) → IsIn x part.earlier → IsIn y a → x.0 ≡ y.0 → x ≡ y = λ x y i j s.
        let r = order_from hs x (subst (IsIn x) (sym part.parts) (in_front (part.earlier ++ beyond part.earlier a) part.later x (in_front part.earlier (beyond part.earlier a) x i))) in one r.0 a r.1 part.among x y r.2 j s in
        said_by a h g e key part.among l there in_history q.0
        (fault_is_real schema part.earlier a h part.later g e (subst AreDistinct part.parts d) (each h l) one_earlier (λ x y i j s. one a h part.among l x y i j s)
        (into_part (λ x. not (has part.earlier x.0)) a g there (not_from_false (has part.earlier g.0) part.fresh)) in_history (subst (λ (xs : List Entry). Precedes xs g e) part.parts first_of_two)
        (key_is_conflict schema g.1 e.1 key q.0) not_before)

    fault_stands : (v : Verdict) → fault_with hs h e.0 key (next_of schema (order_of hs) e.1 key (take k h)) ≡ Some v → Says v
    fault_stands v f = by_next (next_of schema (order_of hs) e.1 key (take k h)) refl f
      where
        by_test : (g : Entry) (b : Bool) → next_of schema (order_of hs) e.1 key (take k h) ≡ Some g → same_gtid g.0 e.0 ≡ b → cond b None (option_map (λ a. pair_fault a h g.0 e.0 key) (bringer hs g.0)) ≡ Some v → Says v
        by_test g true next s f = none_some v f
        by_test g false next s f = let r = map_some (λ a. pair_fault a h g.0 e.0 key) (bringer hs g.0) v f in subst Says r.2 (pair_stands g r.0 next s r.1)

        by_next : (o : Option Entry) → next_of schema (order_of hs) e.1 key (take k h) ≡ o → fault_with hs h e.0 key o ≡ Some v → Says v
        by_next None next f = none_some v f
        by_next (Some g) next f = by_test g (same_gtid g.0 e.0) next refl f

  among_from : (xs : List History) (i : ℕ) (h : History) → slice_get xs i ≡ Some h → IsAmong h xs
  among_from [] i h at = none_some h at
  among_from (x ∷ xs) zero h at = inl (same_Some x h at)
  among_from (x ∷ xs) (suc i) h at = inr (among_from xs i h at)

  pub conflict_stands : (v : Verdict) → conflict schema hs ≡ Some v → Says v
  conflict_stands v f =
      let a = first_some _ hs v f in
      let b = first_some _ a.element v a.gives in
      let c = first_some _ (write_set schema b.element.1) v b.gives in
      fault_stands a.element (among_from hs a.place a.element a.there) b.place b.element b.there c.element
      (any_passes_from_place (key_eq c.element) (write_set schema b.element.1) c.place c.element c.there (key_eq_self c.element)) v c.gives

-- ---- the order applied

fault_some : (schema : List Table) (e : Entry) (es : List Entry) (rows : Rows) (f : Gtid × RowFault) (r : Result Rows RowFault) → apply schema e.1 rows ≡ r
    → ((new : Rows) → first_fault schema es new ≡ Some f → FailsInOrder schema new es f.0 f.1) → fault_after e r (first_fault schema es) ≡ Some f → FailsInOrder schema rows (e ∷ es) f.0 f.1
fault_some schema e es rows f (Ok new) a h g =
    let r = h new g in
    record { before = e ∷ r.before; later = r.later; t = r.t; reached_rows = r.reached_rows; parts = ap (λ (xs : List Entry). e ∷ xs) r.parts; reached = ap (λ x. x >>= apply_all schema r.before) a ∙ r.reached; refused = r.refused }
fault_some schema e es rows f (Err fault) a h g =
    let same : (e.0, fault) ≡ f = same_Some (e.0, fault) f g in
    subst (λ (x : Gtid × RowFault). FailsInOrder schema rows (e ∷ es) x.0 x.1) same (record { before = []; later = es; t = e.1; reached_rows = rows; parts = refl; reached = refl; refused = a })

pub fault_stands_in_order : (schema : List Table) (es : List Entry) (rows : Rows) (f : Gtid × RowFault) → first_fault schema es rows ≡ Some f → FailsInOrder schema rows es f.0 f.1
fault_stands_in_order schema [] rows f h = none_some f h
fault_stands_in_order schema (e ∷ es) rows f h = fault_some schema e es rows f (apply schema e.1 rows) refl (λ new g. fault_stands_in_order schema es new f g) h
