-- Where an audit finds nothing out of turn, each chain of each history is a prefix of the order's.
use Rattle.std.proofs.Common.{◌≡◌, ◌⊎◌, ℕ, zero, suc, Bool, true, false, cond, inl, inr, List, [], ◌∷◌, ◌++◌, Option, Some, None, refl, sym, ap, ◌∙◌, subst}
use Rattle.std.specs.Prelude.{slice_get}
use Rattle.std.specs.Option.{option_map}
use Rattle.std.proofs.lemmas.Bool.{cases_Bool, true_from_ne_false}
use Rattle.std.proofs.lemmas.List.{append_assoc}
use Rattle.gtid_text.specs.declared.Gtid.{Gtid}
use Rattle.gtid_text.specs.Gtids.{same_gtid}
use Rattle.rows.specs.declared.change.Key.{Key}
use Rattle.rows.specs.declared.schema.Table.{Table}
use Rattle.rows.specs.Order.{key_eq}
use Rattle.rows.specs.Total.{key_eq_same}
use Rattle.rows.specs.WriteSet.{write_set, touches}
use Rattle.lemmas.proofs.Lists.{any_at}
use Rattle.lemmas.proofs.SameGtid.{same_is_equal}
use Rattle.world.specs.Search.{or_next, when}
use Rattle.world.proofs.Finding.{next_none, first_none}
use Rattle.history.specs.World.{Entry, IsIn, AreDistinct}
use Rattle.history.specs.Histories.{History, IsAmong, has, order_of}
use Rattle.history.specs.Chains.{chain, HaveOneContent}
use Rattle.history.proofs.Lists.{has_of, one_entry, in_part, in_front, in_back}
use Rattle.history.proofs.Chains.{twice, order_from, order_known}
use Rattle.world.specs.AuditInOrder.{bringer, pair_fault, fault_with, conflict}
use Rattle.world.proofs.Nexts.{AreRead, next_is_head, in_the_rest, read_one, read_other, walk, entry_fault, conflict_walks, next_toucher}

-- ---- who brought a transaction

bringer_by : (b : Bool) (h : History) (rest : Option History) → (b ≡ true) ⊎ ((x : History) × (rest ≡ Some x)) → (x : History) × (or_next (when b h) rest ≡ Some x)
bringer_by true h rest i = (h, refl)
bringer_by false h rest (inl t) = cc
bringer_by false h rest (inr r) = r

pub is_brought : (hs : List History) (e : Entry) (h : History) → IsAmong h hs → IsIn e h → (x : History) × (bringer hs e.0 ≡ Some x)
is_brought [] e h k i = absurd k
is_brought (y ∷ hs) e h (inl same) i = bringer_by (has y e.0) y (bringer hs e.0) (inl (has_of y e (subst (IsIn e) (sym same) i)))
is_brought (y ∷ hs) e h (inr later) i = bringer_by (has y e.0) y (bringer hs e.0) (inr (is_brought hs e h later i))

-- where nothing is wrong with e, it is the next
is_the_next : (hs : List History) (h : History) (e : Gtid) (key : Key) (g : Entry) → (x : History) × (bringer hs g.0 ≡ Some x) → fault_with hs h e key (Some g) ≡ None → g.0 ≡ e
is_the_next hs h e key g r n = same_is_equal g.0 e (true_from_ne_false (same_gtid g.0 e) (λ other. named (same_gtid g.0 e) (bringer hs g.0) other r.1 n))
  where
    named : (t : Bool) (o : Option History) → t ≡ false → o ≡ Some r.0 → cond t None (option_map (λ a. pair_fault a h g.0 e key) o) ≡ None → ⊥
    named true o f b m = cc
    named false (Some y) f b m = cc
    named false None f b m = cc

module _ (schema : List Table) (hs : List History) (d : AreDistinct (order_of hs)) (one : HaveOneContent hs) where
  abbrev order : List Entry
  order = order_of hs

  brought : (e : Entry) → IsIn e order → (x : History) × (bringer hs e.0 ≡ Some x)
  brought e i = let r = order_from hs e i in is_brought hs e r.0 r.1 r.2

  -- one entry more is read, where nothing is wrong with it
  one_more : (h : History) (before : List Entry) (e : Entry) → AreRead schema order before → ((x : Entry) → IsIn x before → IsIn x order) → IsIn e order → (IsIn e before → ⊥)
      → entry_fault schema hs h before e ≡ None → AreRead schema order (before ++ e ∷ [])
  one_more h before e read known i fresh none k = elim (cases_Bool (touches schema e.1 k)) [
    | inr n ↦ read_other schema order before e k n (read k)
    | inl y ↦ read_one schema order before e k y (read k) (at_head (any_at (key_eq k) (write_set schema e.1) y) (read k).0 (in_the_rest schema order before e k (read k) i fresh y) (next_is_head schema order before k (read k) d known) (λ x j. in_the_order x j))
  ]
    where
      in_the_order : (x : Entry) → IsIn x (read k).0 → IsIn x order
      in_the_order x j = (in_part (λ (y : Entry). touches schema y.1 k) order x (subst (IsIn x) (read k).1 (in_back (chain schema k before) (read k).0 x j))).0

      at_head : (at : (n : ℕ) × (k' : Key) × (slice_get (write_set schema e.1) n ≡ Some k') × (key_eq k k' ≡ true)) (zs : List Entry) → IsIn e zs → next_toucher schema order k before ≡ slice_get zs zero → ((x : Entry) → IsIn x zs → IsIn x order) → slice_get zs zero ≡ Some e
      at_head at [] j next there = absurd j
      at_head at (x ∷ zs) j next there =
          let nothing = first_none _ (write_set schema e.1) none at.0 at.1 at.2 in
          let here = subst (λ (q : Key). fault_with hs h e.0 q (next_toucher schema order q before) ≡ None) (sym (key_eq_same k at.1 at.3)) nothing in
          let same : x.0 ≡ e.0 = is_the_next hs h e.0 k x (brought x (there x (inl refl))) (ap (fault_with hs h e.0 k) (sym next) ∙ here) in
          ap Some (one_entry order x e d (there x (inl refl)) i same)

  all_read : (h : History) (before es : List Entry) → AreDistinct (before ++ es) → ((x : Entry) → IsIn x (before ++ es) → IsIn x order) → AreRead schema order before → walk (entry_fault schema hs h) before es ≡ None → AreRead schema order (before ++ es)
  all_read h before [] c known read none = subst (AreRead schema order) (nothing_more before) read
    where
      nothing_more : (xs : List Entry) → xs ≡ xs ++ []
      nothing_more [] = refl
      nothing_more (x ∷ xs) = ap (λ (ys : List Entry). x ∷ ys) (nothing_more xs)
  all_read h before (e ∷ es) c known read none =
      let n = next_none (entry_fault schema hs h before e) (walk (entry_fault schema hs h) (before ++ e ∷ []) es) none in
      let same : (before ++ e ∷ []) ++ es ≡ before ++ e ∷ es = append_assoc before (e ∷ []) es in
      let more = one_more h before e read (λ x i. known x (in_front before (e ∷ es) x i)) (known e (in_back before (e ∷ es) e (inl refl))) (λ i. twice before (e ∷ es) e c i (inl refl)) n.0 in
      subst (AreRead schema order) same (all_read h (before ++ e ∷ []) es (subst AreDistinct (sym same) c) (λ x i. known x (subst (IsIn x) same i)) more n.1)

  among_at : (xs : List History) (h : History) → IsAmong h xs → (i : ℕ) × (slice_get xs i ≡ Some h)
  among_at [] h k = absurd k
  among_at (x ∷ xs) h (inl same) = (zero, ap Some same)
  among_at (x ∷ xs) h (inr later) = let r = among_at xs h later in (suc r.0, r.1)

  -- Where no conflict is found, each history is read.
  pub chains_hold : ((h : History) → IsAmong h hs → AreDistinct h) → conflict schema hs ≡ None → (h : History) → IsAmong h hs → AreRead schema order h
  chains_hold each none h k =
      let r = among_at hs h k in
      let n = first_none _ hs (sym (conflict_walks schema hs) ∙ none) r.0 h r.1 in
      all_read h [] h (each h k) (λ x i. order_known hs one h k x i) (λ q. (chain schema q order, refl)) n
