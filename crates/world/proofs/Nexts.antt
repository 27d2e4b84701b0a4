-- The next of a key in an order, and where a history has each entry in its turn.
use Rattle.std.proofs.Common.{◌≡◌, zero, Bool, true, false, cond, not, ◌&&◌, inl, inr, List, [], ◌∷◌, ◌++◌, take, Option, Some, None, refl, sym, ap, ◌∙◌, subst}
use Rattle.std.specs.Prelude.{slice_get}
use Rattle.std.specs.List.{filter}
use Rattle.std.proofs.lemmas.Bool.{false_from_ne_true, or_left, or_right}
use Rattle.std.proofs.lemmas.List.{append_assoc}
use Rattle.std.proofs.lemmas.List.Elements.{filter-append}
use Rattle.std.proofs.lemmas.Option.{same_Some}
use Rattle.lemmas.proofs.Options.{none_some}
use Rattle.rows.specs.declared.change.Key.{Key}
use Rattle.rows.specs.declared.schema.Table.{Table}
use Rattle.rows.specs.WriteSet.{write_set, touches, is_among}
use Rattle.world.specs.declared.verdict.Verdict.{Verdict}
use Rattle.world.specs.Search.{or_next, when, first_at, first}
use Rattle.history.specs.World.{Entry, IsIn, AreDistinct}
use Rattle.history.specs.Histories.{History, has, order_of}
use Rattle.history.specs.Chains.{chain, IsFront}
use Rattle.history.proofs.Lists.{has_of, found_at, one_entry, in_part, into_part, part_distinct, in_back, in_either}
use Rattle.history.proofs.Chains.{twice}
use Rattle.world.specs.AuditInOrder.{next_of, fault_with, conflict}
use Rattle.rows.specs.Conflicts.{conflict_at_touched}
use Rattle.rows.specs.Order.{key_eq}
use Rattle.rows.specs.Total.{key_eq_self}

-- ---- the next is the first of a chain's rest

-- the first of an order that touches a key and is not among these
abbrev pub next_toucher : List Table → List Entry → Key → List Entry → Option Entry
next_toucher schema order key before = first (λ (g : Entry). when (touches schema g.1 key && not (has before g.0)) g) order

-- the first of these that is not among those
abbrev first_beyond : List Entry → List Entry → Option Entry
first_beyond before es = first (λ (g : Entry). when (not (has before g.0)) g) es

skip_known : (before xs zs : List Entry) → ((e : Entry) → IsIn e xs → has before e.0 ≡ true) → first_beyond before (xs ++ zs) ≡ first_beyond before zs
skip_known before [] zs h = refl
skip_known before (x ∷ xs) zs h = ap (λ b. or_next (when (not b) x) (first_beyond before (xs ++ zs))) (h x (inl refl)) ∙ skip_known before xs zs (λ e i. h e (inr i))

head_is : (before zs : List Entry) → ((x : Entry) → slice_get zs zero ≡ Some x → has before x.0 ≡ false) → first_beyond before zs ≡ slice_get zs zero
head_is before [] h = refl
head_is before (x ∷ zs) h = ap (λ b. or_next (when (not b) x) (first_beyond before zs)) (h x refl)

head_in : (zs : List Entry) (x : Entry) → slice_get zs zero ≡ Some x → IsIn x zs
head_in [] x h = none_some x h
head_in (y ∷ zs) x h = inl (same_Some y x h)

module _ (schema : List Table) where
  by_touch : (before : List Entry) (b : Bool) (x : Entry) (C : List Entry) → or_next (when (b && not (has before x.0)) x) (first_beyond before C) ≡ first_beyond before (cond b (x ∷ C) C)
  by_touch before true x C = refl
  by_touch before false x C = refl

  next_chain : (order before : List Entry) (k : Key) → next_toucher schema order k before ≡ first_beyond before (chain schema k order)
  next_chain [] before k = refl
  next_chain (x ∷ xs) before k = ap (or_next (when (touches schema x.1 k && not (has before x.0)) x)) (next_chain xs before k) ∙ by_touch before (touches schema x.1 k) x (chain schema k xs)

  -- each chain of these is a prefix of the order's
  abbrev pub AreRead : List Entry → List Entry → Type 0
  AreRead order before = (k : Key) → IsFront (chain schema k before) (chain schema k order)

  -- The next is the first of the rest of the chain.
  pub next_is_head : (order before : List Entry) (k : Key) (z : IsFront (chain schema k before) (chain schema k order)) → AreDistinct order → ((e : Entry) → IsIn e before → IsIn e order)
      → next_toucher schema order k before ≡ slice_get z.0 zero
  next_is_head order before k z d known =
      next_chain order before k ∙ ap (first_beyond before) (sym z.1)
      ∙ skip_known before (chain schema k before) z.0 (λ e i. has_of before e (in_part (λ x. touches schema x.1 k) before e i).0)
      ∙ head_is before z.0 (λ x at. false_from_ne_true (has before x.0) (λ y. not_read x (head_in z.0 x at) (found_at before x.0 y)))
    where
      not_read : (x : Entry) → IsIn x z.0 → (e : Entry) × IsIn e before × (x.0 ≡ e.0) → ⊥
      not_read x i r =
          let t = in_part (λ (y : Entry). touches schema y.1 k) order x (subst (IsIn x) z.1 (in_back (chain schema k before) z.0 x i)) in
          let same : x ≡ r.0 = one_entry order x r.0 d t.0 (known r.0 r.1) r.2 in
          twice (chain schema k before) z.0 x (subst AreDistinct (sym z.1) (part_distinct (λ (y : Entry). touches schema y.1 k) order d))
          (into_part (λ (y : Entry). touches schema y.1 k) before x (subst (λ (y : Entry). IsIn y before) (sym same) r.1) t.1) i

  -- an entry that is not among those before it is in the rest of each chain of its keys
  pub in_the_rest : (order before : List Entry) (e : Entry) (k : Key) (z : IsFront (chain schema k before) (chain schema k order)) → IsIn e order → (IsIn e before → ⊥) → touches schema e.1 k ≡ true → IsIn e z.0
  in_the_rest order before e k z i n t =
      elim (in_either (chain schema k before) z.0 e (subst (IsIn e) (sym z.1) (into_part (λ (y : Entry). touches schema y.1 k) order e i t))) [
        | inl j ↦ absurd (n (in_part (λ (y : Entry). touches schema y.1 k) before e j).0)
        | inr j ↦ j
      ]

  more_by : (b : Bool) (e : Entry) (xs : List Entry) → xs ++ cond b (e ∷ []) [] ≡ cond b (xs ++ e ∷ []) (xs ++ [])
  more_by true e xs = refl
  more_by false e xs = refl

  -- the chain with one entry more
  pub chain_with : (before : List Entry) (e : Entry) (k : Key) → touches schema e.1 k ≡ true → chain schema k (before ++ e ∷ []) ≡ chain schema k before ++ e ∷ []
  chain_with before e k t = filter-append (λ x. touches schema x.1 k) before (e ∷ []) ∙ ap (λ b. chain schema k before ++ cond b (e ∷ []) []) t

  append_none : (xs : List Entry) → xs ++ [] ≡ xs
  append_none [] = refl
  append_none (x ∷ xs) = ap (λ (ys : List Entry). x ∷ ys) (append_none xs)

  pub chain_without : (before : List Entry) (e : Entry) (k : Key) → touches schema e.1 k ≡ false → chain schema k (before ++ e ∷ []) ≡ chain schema k before
  chain_without before e k t = filter-append (λ x. touches schema x.1 k) before (e ∷ []) ∙ ap (λ b. chain schema k before ++ cond b (e ∷ []) []) t ∙ append_none (chain schema k before)

  -- the first of the rest is read
  pub read_one : (order before : List Entry) (e : Entry) (k : Key) → touches schema e.1 k ≡ true → (z : IsFront (chain schema k before) (chain schema k order)) → slice_get z.0 zero ≡ Some e
      → IsFront (chain schema k (before ++ e ∷ [])) (chain schema k order)
  read_one order before e k t z at = by_rest z.0 at z.1
    where
      by_rest : (zs : List Entry) → slice_get zs zero ≡ Some e → chain schema k before ++ zs ≡ chain schema k order → IsFront (chain schema k (before ++ e ∷ [])) (chain schema k order)
      by_rest [] at same = none_some e at
      by_rest (x ∷ zs) at same = (
        zs,
        ap (λ (ys : List Entry). ys ++ zs) (chain_with before e k t) ∙ append_assoc (chain schema k before) (e ∷ []) zs
            ∙ ap (λ (y : Entry). chain schema k before ++ y ∷ zs) (sym (same_Some x e at)) ∙ same,
      )

  pub read_other : (order before : List Entry) (e : Entry) (k : Key) → touches schema e.1 k ≡ false → IsFront (chain schema k before) (chain schema k order) → IsFront (chain schema k (before ++ e ∷ [])) (chain schema k order)
  read_other order before e k t z = (z.0, ap (λ (ys : List Entry). ys ++ z.0) (chain_without before e k t) ∙ z.1)

-- ---- entries in turn

-- what is found for each entry, given those before it
abbrev pub walk : {B : Type 0} → (List Entry → Entry → Option B) → List Entry → List Entry → Option B
walk G before [] = None
walk G before (e ∷ es) = or_next (G before e) (walk G (before ++ e ∷ []) es)

walk_cons : {B : Type 0} (G : List Entry → Entry → Option B) (x : Entry) (before es : List Entry) → walk (λ c. G (x ∷ c)) before es ≡ walk G (x ∷ before) es
walk_cons G x before [] = refl
walk_cons G x before (e ∷ es) = ap (or_next (G (x ∷ before) e)) (walk_cons G x (before ++ e ∷ []) es)

pub walked : {B : Type 0} (G : List Entry → Entry → Option B) (es : List Entry) → first_at (λ place (e : Entry). G (take place es) e) es ≡ walk G [] es
walked G [] = refl
walked G (x ∷ es) = ap (or_next (G [] x)) (walked (λ c. G (x ∷ c)) es ∙ walk_cons G x [] es)

-- ---- what a history has out of turn

-- what is found for an entry of a history, given those before it
abbrev pub entry_fault : List Table → List History → History → List Entry → Entry → Option Verdict
entry_fault schema hs h before e = first (λ key. fault_with hs h e.0 key (next_toucher schema (order_of hs) key before)) (write_set schema e.1)

-- Where u has a key, what conflicts with it there is what touches the key.
at_keys : (schema : List Table) (hs : List History) (h before : History) (e : Entry) (keys : List Key) → ((key : Key) → is_among keys key ≡ true → touches schema e.1 key ≡ true)
    → first (λ key. fault_with hs h e.0 key (next_of schema (order_of hs) e.1 key before)) keys ≡ first (λ key. fault_with hs h e.0 key (next_toucher schema (order_of hs) key before)) keys
at_keys schema hs h before e [] all = refl
at_keys schema hs h before e (key ∷ keys) all = λ i. or_next
    (fault_with hs h e.0 key (first (λ (g : Entry). when (conflict_at_touched schema g.1 e.1 key (all key (or_left (key_eq key key) (is_among keys key) (key_eq_self key))) i && not (has before g.0)) g) (order_of hs)))
    (at_keys schema hs h before e keys (λ k m. all k (or_right (key_eq k key) (is_among keys k) m)) i)

pub conflict_walks : (schema : List Table) (hs : List History) → conflict schema hs ≡ first (λ (h : History). walk (entry_fault schema hs h) [] h) hs
conflict_walks schema hs =
    (λ i. first (λ (h : History). first_at (λ place (e : Entry). at_keys schema hs h (take place h) e (write_set schema e.1) (λ key m. m) i) h) hs)
    ∙ (λ i. first (λ (h : History). walked (entry_fault schema hs h) h i) hs)
