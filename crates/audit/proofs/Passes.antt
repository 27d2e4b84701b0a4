-- Reading the histories in turn finds what the definition finds.
use Rattle.std.proofs.Common.{◌≡◌, ◌≢◌, ℕ, zero, suc, ◌+◌, ◌-◌, ◌<◌, ◌≤◌, ◌⊎◌, Bool, true, false, cond, not, ◌||◌, inl, inr, List, [], ◌∷◌, ◌++◌, length, Option, Some, None, refl, sym, ap, ◌∙◌, subst, arith}
use Rattle.std.specs.Prelude.{slice_get, nat_lt, ◌==◌}
use Rattle.std.specs.List.{filter}
use Rattle.std.specs.Option.{option_map, option_map_or}
use Rattle.std.proofs.lemmas.Bool.{cases_Bool, false_from_ne_true, and_parts, or_left, or_right}
use Rattle.std.proofs.lemmas.List.{append_assoc}
use Rattle.std.proofs.lemmas.List.Elements.{filter-append}
use Rattle.std.proofs.lemmas.Map.Keys.{any_passes_from_place}
use Rattle.std.proofs.lemmas.Option.{same_Some}
use Rattle.lemmas.proofs.Tests.{not_both}
use Rattle.lemmas.proofs.Lists.{any_at}
use Rattle.lemmas.proofs.Options.{none_some}
use Rattle.lemmas.proofs.SameGtid.{same_itself, same_is_equal}
use Rattle.gtid_text.specs.declared.Gtid.{Gtid}
use Rattle.gtid_text.specs.Gtids.{same_gtid}
use Rattle.rows.specs.declared.change.Key.{Key}
use Rattle.rows.specs.declared.schema.Table.{Table}
use Rattle.rows.specs.Order.{key_eq}
use Rattle.rows.specs.Total.{key_eq_same, key_eq_self}
use Rattle.rows.specs.WriteSet.{write_set, touches}
use Rattle.world.specs.declared.verdict.Verdict.{Verdict}
use Rattle.world.specs.Search.{or_next, first}
use Rattle.world.proofs.Finding.{first_none, first_some}
use Rattle.history.specs.World.{Entry, IsIn, AreDistinct}
use Rattle.history.proofs.Gtids.{same_gtid_other}
use Rattle.history.proofs.Placing.{all_in}
use Rattle.history.specs.Extension.{gtids_of}
use Rattle.history.specs.Histories.{History, IsAmong, has, beyond, join_histories, order_of}
use Rattle.history.specs.Chains.{chain, IsFront, HaveOneContent}
use Rattle.history.proofs.Lists.{has_of, found_at, one_entry, in_part, in_front, in_back}
use Rattle.history.proofs.Chains.{twice, order_from, order_known}
use Rattle.world.specs.AuditInOrder.{bringer, pair_fault, fault_with, conflict}
use Rattle.world.proofs.Nexts.{AreRead, next_is_head, in_the_rest, read_one, read_other, chain_with, chain_without, walk, entry_fault, conflict_walks, next_toucher}
use Rattle.world.proofs.Turns.{is_brought}
use Rattle.audit.specs.declared.chain.Turn.TheVariants.{Next, Behind}
use Rattle.audit.specs.declared.turns.OutOfTurn.{OutOfTurn}
use Rattle.audit.specs.Chains.{KeyChain, no_chain, read_by, was_read, turn_at, visit, next_in, expected, visit_keys, out_of_keys, visit_entries, out_of_entries, name_verdict, name_or, conflict_from}
use Rattle.audit.specs.Joined.{with_entry, append_new, append_all_new}
use Rattle.audit.proofs.Visits.{IsRead, turn_is, visited_at_end, visited_next, out_first, none_out, keys_visited}

-- ---- the order, an entry at a time

append_none : {A : Type 0} (xs : List A) → xs ++ [] ≡ xs
append_none [] = refl
append_none (x ∷ xs) = ap (λ ys. x ∷ ys) (append_none xs)

front_itself : (xs : List Entry) → IsFront xs xs
front_itself xs = ([], append_none xs)

abbrev front_through : (xs ys zs : List Entry) → IsFront xs ys → IsFront ys zs → IsFront xs zs
front_through xs ys zs a b = (a.0 ++ b.0, sym (append_assoc xs a.0 b.0) ∙ ap (λ (us : List Entry). us ++ b.0) a.1 ∙ b.1)

front_of_with : (L : List Entry) (e : Entry) (b : Bool) → IsFront L (cond b L (L ++ e ∷ []))
front_of_with L e true = front_itself L
front_of_with L e false = (e ∷ [], refl)

front_of_grown : (L : List Entry) (es : History) → IsFront L (append_new L es)
front_of_grown L [] = front_itself L
front_of_grown L (e ∷ es) = front_through L (with_entry L e) (append_new (with_entry L e) es) (front_of_with L e (has L e.0)) (front_of_grown (with_entry L e) es)

front_of_all : (L : List Entry) (hs : List History) → IsFront L (append_all_new L hs)
front_of_all L [] = front_itself L
front_of_all L (h ∷ hs) = front_through L (append_new L h) (append_all_new (append_new L h) hs) (front_of_grown L h) (front_of_all (append_new L h) hs)

-- ---- the order is that of the definition

has_with : (L : List Entry) (e : Entry) (g : Gtid) → has (L ++ e ∷ []) g ≡ (has L g || same_gtid g e.0)
has_with [] e g = or_none (same_gtid g e.0)
  where
    or_none : (b : Bool) → (b || false) ≡ b
    or_none true = refl
    or_none false = refl
has_with (x ∷ L) e g = ap (λ b. same_gtid g x.0 || b) (has_with L e g) ∙ or_both (same_gtid g x.0) (has L g) (same_gtid g e.0)
  where
    or_both : (a b c : Bool) → (a || (b || c)) ≡ ((a || b) || c)
    or_both true b c = refl
    or_both false b c = refl

beyond_with : (L : List Entry) (e : Entry) (es : History) → ((f : Entry) → IsIn f es → same_gtid f.0 e.0 ≡ false) → beyond (L ++ e ∷ []) es ≡ beyond L es
beyond_with L e [] other = refl
beyond_with L e (f ∷ es) other =
    let same : has (L ++ e ∷ []) f.0 ≡ has L f.0 = has_with L e f.0 ∙ ap (λ b. has L f.0 || b) (other f (inl refl)) ∙ or_false (has L f.0) in
    λ i. cond (not (same i)) (f ∷ beyond_with L e es (λ x j. other x (inr j)) i) (beyond_with L e es (λ x j. other x (inr j)) i)
  where
    or_false : (b : Bool) → (b || false) ≡ b
    or_false true = refl
    or_false false = refl

grown_is : (L : List Entry) (h : History) → AreDistinct h → append_new L h ≡ L ++ beyond L h
grown_is L [] d = sym (append_none L)
grown_is L (e ∷ es) d = by_test (grown_is L es d.1) (grown_is (L ++ e ∷ []) es d.1) (has L e.0)
  where
    by_test : append_new L es ≡ L ++ beyond L es → append_new (L ++ e ∷ []) es ≡ (L ++ e ∷ []) ++ beyond (L ++ e ∷ []) es → (b : Bool) → append_new (cond b L (L ++ e ∷ [])) es ≡ L ++ cond (not b) (e ∷ beyond L es) (beyond L es)
    by_test old new true = old
    by_test old new false =
        new ∙ ap (λ (xs : List Entry). (L ++ e ∷ []) ++ xs) (beyond_with L e es (λ f i. same_gtid_other f.0 e.0 (λ same. all_in (λ (x : Entry). e.0 ≢ x.0) f es d.0 i (sym same))))
        ∙ append_assoc L (e ∷ []) (beyond L es)

pub all_grown_is : (L : List Entry) (hs : List History) → ((h : History) → IsAmong h hs → AreDistinct h) → append_all_new L hs ≡ join_histories L hs
all_grown_is L [] each = refl
all_grown_is L (h ∷ hs) each = ap (λ (xs : List Entry). append_all_new xs hs) (grown_is L h (each h (inl refl))) ∙ all_grown_is (L ++ beyond L h) hs (λ x k. each x (inr k))

-- ---- GTIDs of a chain

gtids_with : (es : List Entry) (e : Entry) → gtids_of (es ++ e ∷ []) ≡ gtids_of es ++ e.0 ∷ []
gtids_with [] e = refl
gtids_with (x ∷ es) e = ap (λ (gs : List Gtid). x.0 ∷ gs) (gtids_with es e)

length_with : {A : Type 0} (xs : List A) (x : A) → length (xs ++ x ∷ []) ≡ length xs + 1
length_with [] x = refl
length_with (y ∷ xs) x = ap suc (length_with xs x) ∙ omega arith

gtids_length : (es : List Entry) → length (gtids_of es) ≡ length es
gtids_length [] = refl
gtids_length (e ∷ es) = ap suc (gtids_length es)

nth_in : (xs zs : List Entry) (i : ℕ) (g : Gtid) → i < length xs → slice_get (gtids_of (xs ++ zs)) i ≡ Some g → has xs g ≡ true
nth_in [] zs i g less at = absurd (omega arith)
nth_in (x ∷ xs) zs zero g less at = or_left (same_gtid g x.0) (has xs g) (ap (λ h. same_gtid h x.0) (sym (same_Some x.0 g at)) ∙ same_itself x.0)
nth_in (x ∷ xs) zs (suc i) g less at = or_right (same_gtid g x.0) (has xs g) (nth_in xs zs i g (omega arith) at)

found_at_place : (o : Option Gtid) (g : Gtid) → option_map_or (λ x. same_gtid x g) o false ≡ true → o ≡ Some g
found_at_place None g e = cc
found_at_place (Some x) g e = ap Some (same_is_equal x g e)

-- the last of a prefix is not one that the prefix has not
not_last : (xs zs : List Entry) (g : Gtid) → has xs g ≡ false → was_read (length xs) (gtids_of (xs ++ zs)) g ≡ false
not_last xs zs g n = false_from_ne_true (was_read (length xs) (gtids_of (xs ++ zs)) g) (λ y.
    let p = and_parts (nat_lt 0 (length xs)) (option_map_or (λ x. same_gtid x g) (slice_get (gtids_of (xs ++ zs)) (length xs - 1)) false) y in
    not_both (has xs g) (nth_in xs zs (length xs - 1) g (before_last (length xs) p.0) (found_at_place (slice_get (gtids_of (xs ++ zs)) (length xs - 1)) g p.1)) n)
  where
    before_last : (m : ℕ) → nat_lt 0 m ≡ true → m - 1 < m
    before_last m h = grind arith

at_the_end : (xs zs : List Entry) → slice_get (gtids_of (xs ++ zs)) (length xs) ≡ option_map (λ (x : Entry). x.0) (slice_get zs zero)
at_the_end [] [] = refl
at_the_end [] (z ∷ zs) = refl
at_the_end (x ∷ xs) zs = at_the_end xs zs

-- ---- what is known when a prefix of a history was read

module _ (schema : List Table) (r : ℕ) where
  -- L is the order so far, and these entries of history r were read
  pub record IsSoFar (L before : List Entry) (chains : Key → KeyChain) : Type 0 where
    pub fronts : AreRead schema L before
    pub reads : (k : Key) → IsRead r (chains k) (gtids_of (chain schema k L)) (length (chain schema k before))

  chain_apart : (L : List Entry) (e : Entry) (k : Key) (b : Bool) → touches schema e.1 k ≡ false → chain schema k (cond b L (L ++ e ∷ [])) ≡ chain schema k L
  chain_apart L e k true t = refl
  chain_apart L e k false t = chain_without schema L e k t

  -- a key that the entry does not touch
  module _ (L before : List Entry) (chains : Key → KeyChain) (sofar : IsSoFar L before chains) (e : Entry) (k : Key) where
    untouched_read : touches schema e.1 k ≡ false → IsRead r (chains k) (gtids_of (chain schema k (with_entry L e))) (length (chain schema k (before ++ e ∷ [])))
    untouched_read t =
        subst (λ (xs : List Entry). IsRead r (chains k) (gtids_of xs) (length (chain schema k (before ++ e ∷ [])))) (sym (chain_apart L e k (has L e.0) t))
        (subst (λ (xs : List Entry). IsRead r (chains k) (gtids_of (chain schema k L)) (length xs)) (sym (chain_without schema before e k t)) (sofar.reads k))

    untouched_front : touches schema e.1 k ≡ false → IsFront (chain schema k (before ++ e ∷ [])) (chain schema k (with_entry L e))
    untouched_front t = subst (λ (xs : List Entry). IsFront (chain schema k (before ++ e ∷ [])) xs) (sym (chain_apart L e k (has L e.0) t)) (read_other schema L before e k t (sofar.fronts k))

    -- a key that it touches
    module _ (t : touches schema e.1 k ≡ true) (fresh : has before e.0 ≡ false) where
      chain_fresh : has (chain schema k before) e.0 ≡ false
      chain_fresh = false_from_ne_true (has (chain schema k before) e.0) (λ y.
          let f = found_at (chain schema k before) e.0 y in
          not_both (has before e.0) (ap (has before) f.2 ∙ has_of before f.0 (in_part (λ (x : Entry). touches schema x.1 k) before f.0 f.1).0) fresh)

      not_again : was_read (length (chain schema k before)) (gtids_of (chain schema k L)) e.0 ≡ false
      not_again = ap (λ (xs : List Entry). was_read (length (chain schema k before)) (gtids_of xs) e.0) (sym (sofar.fronts k).1) ∙ not_last (chain schema k before) (sofar.fronts k).0 e.0 chain_fresh

      at_place : slice_get (gtids_of (chain schema k L)) (length (chain schema k before)) ≡ option_map (λ (x : Entry). x.0) (slice_get (sofar.fronts k).0 zero)
      at_place = ap (λ (xs : List Entry). slice_get (gtids_of xs) (length (chain schema k before))) (sym (sofar.fronts k).1) ∙ at_the_end (chain schema k before) (sofar.fronts k).0

      pub expected_is : expected r e.0 (chains k) ≡ next_in (turn_at e.0 (option_map (λ (x : Entry). x.0) (slice_get (sofar.fronts k).0 zero)))
      expected_is = ap next_in (turn_is r e.0 (chains k) (gtids_of (chain schema k L)) (length (chain schema k before)) (sofar.reads k) not_again ∙ ap (turn_at e.0) at_place)

      -- it is the next of the chain
      next_read : has L e.0 ≡ true → slice_get (sofar.fronts k).0 zero ≡ Some e → IsRead r (visit r e.0 (chains k)) (gtids_of (chain schema k (with_entry L e))) (length (chain schema k (before ++ e ∷ [])))
      next_read there head =
          subst (λ b. IsRead r (visit r e.0 (chains k)) (gtids_of (chain schema k (cond b L (L ++ e ∷ [])))) (length (chain schema k (before ++ e ∷ [])))) (sym there)
          (subst (IsRead r (visit r e.0 (chains k)) (gtids_of (chain schema k L))) (sym (ap (λ (xs : List Entry). length xs) (chain_with schema before e k t) ∙ length_with (chain schema k before) e))
          (visited_next r e.0 (chains k) (gtids_of (chain schema k L)) (length (chain schema k before)) e.0 (sofar.reads k) not_again (at_place ∙ ap (option_map (λ (x : Entry). x.0)) head) (same_itself e.0)))

      next_front : has L e.0 ≡ true → slice_get (sofar.fronts k).0 zero ≡ Some e → IsFront (chain schema k (before ++ e ∷ [])) (chain schema k (with_entry L e))
      next_front there head =
          subst (λ b. IsFront (chain schema k (before ++ e ∷ [])) (chain schema k (cond b L (L ++ e ∷ [])))) (sym there) (read_one schema L before e k t (sofar.fronts k) head)

      -- all of the chain was read
      all_of : (zs : List Entry) → slice_get zs zero ≡ None → chain schema k before ++ zs ≡ chain schema k L → chain schema k before ≡ chain schema k L
      all_of [] none same = sym (append_none (chain schema k before)) ∙ same
      all_of (z ∷ zs) none same = cc

      end_read : has L e.0 ≡ false → slice_get (sofar.fronts k).0 zero ≡ None → IsRead r (visit r e.0 (chains k)) (gtids_of (chain schema k (with_entry L e))) (length (chain schema k (before ++ e ∷ [])))
      end_read absent none =
          let all : chain schema k before ≡ chain schema k L = all_of (sofar.fronts k).0 none (sofar.fronts k).1 in
          subst (λ b. IsRead r (visit r e.0 (chains k)) (gtids_of (chain schema k (cond b L (L ++ e ∷ [])))) (length (chain schema k (before ++ e ∷ [])))) (sym absent)
          (subst (λ (gs : List Gtid). IsRead r (visit r e.0 (chains k)) gs (length (chain schema k (before ++ e ∷ [])))) (sym (ap gtids_of (chain_with schema L e k t) ∙ gtids_with (chain schema k L) e))
          (subst (IsRead r (visit r e.0 (chains k)) (gtids_of (chain schema k L) ++ e.0 ∷ [])) (sym (ap (λ (xs : List Entry). length xs) (chain_with schema before e k t) ∙ length_with (chain schema k before) e))
          (visited_at_end r e.0 (chains k) (gtids_of (chain schema k L)) (length (chain schema k before)) (sofar.reads k) not_again (at_place ∙ ap (option_map (λ (x : Entry). x.0)) none)
          (ap (λ (xs : List Entry). length xs) all ∙ sym (gtids_length (chain schema k L))))))

      end_front : has L e.0 ≡ false → slice_get (sofar.fronts k).0 zero ≡ None → IsFront (chain schema k (before ++ e ∷ [])) (chain schema k (with_entry L e))
      end_front absent none =
          subst (λ b. IsFront (chain schema k (before ++ e ∷ [])) (chain schema k (cond b L (L ++ e ∷ [])))) (sym absent)
          ([], append_none (chain schema k (before ++ e ∷ [])) ∙ chain_with schema before e k t ∙ ap (λ (xs : List Entry). xs ++ e ∷ []) (all_of (sofar.fronts k).0 none (sofar.fronts k).1) ∙ sym (chain_with schema L e k t))

-- ---- searches

first_same : {A B : Type 0} (f g : A → Option B) (xs : List A) → ((i : ℕ) (x : A) → slice_get xs i ≡ Some x → f x ≡ g x) → first f xs ≡ first g xs
first_same f g [] same = refl
first_same f g (x ∷ xs) same = λ i. or_next (same zero x refl i) (first_same f g xs (λ j y at. same (suc j) y at) i)

first_named : {A : Type 0} (F : A → Option OutOfTurn) (name : OutOfTurn → Option Verdict) (xs : List A) → ((i : ℕ) (x : A) → slice_get xs i ≡ Some x → (o : OutOfTurn) → F x ≡ Some o → (v : Verdict) × (name o ≡ Some v))
    → name_or (first F xs) name None ≡ first (λ x. name_or (F x) name None) xs
first_named F name [] known = refl
first_named F name (x ∷ xs) known = by_first (first_named F name xs (λ j y at. known (suc j) y at)) (F x) (known zero x refl)
  where
    by_first : name_or (first F xs) name None ≡ first (λ y. name_or (F y) name None) xs → (o : Option OutOfTurn) → ((p : OutOfTurn) → o ≡ Some p → (v : Verdict) × (name p ≡ Some v))
        → name_or (or_next o (first F xs)) name None ≡ or_next (name_or o name None) (first (λ y. name_or (F y) name None) xs)
    by_first later None known = later
    by_first later (Some o) known = let v = known o refl in v.1 ∙ sym (ap (λ w. or_next w (first (λ y. name_or (F y) name None) xs)) v.1)

-- ---- an entry of a history

head_cases : (zs : List Entry) → (slice_get zs zero ≡ None) ⊎ ((x : Entry) × (slice_get zs zero ≡ Some x))
head_cases [] = inl refl
head_cases (z ∷ zs) = inr (z, refl)

head_in : (zs : List Entry) (x : Entry) → slice_get zs zero ≡ Some x → IsIn x zs
head_in [] x h = none_some x h
head_in (y ∷ zs) x h = inl (same_Some y x h)

none_in : (zs : List Entry) (e : Entry) → slice_get zs zero ≡ None → IsIn e zs → ⊥
none_in [] e h i = i
none_in (z ∷ zs) e h i = cc

head_with : (zs ys : List Entry) (x : Entry) → slice_get zs zero ≡ Some x → slice_get (zs ++ ys) zero ≡ Some x
head_with [] ys x h = none_some x h
head_with (z ∷ zs) ys x h = h

head_after : (zs ys : List Entry) → slice_get zs zero ≡ None → slice_get (zs ++ ys) zero ≡ slice_get ys zero
head_after [] ys h = refl
head_after (z ∷ zs) ys h = cc

module _ (schema : List Table) (hs : List History) (d : AreDistinct (order_of hs)) where
  abbrev order : List Entry
  order = order_of hs

  brought : (x : Entry) → IsIn x order → (a : History) × (bringer hs x.0 ≡ Some a)
  brought x i = let from = order_from hs x i in is_brought hs x from.0 from.1 from.2

  module _ (r : ℕ) (h : History) where
    abbrev name : OutOfTurn → Option Verdict
    name = name_verdict hs h

    -- one entry, with what was read
    module _ (L before : List Entry) (chains : Key → KeyChain) (sofar : IsSoFar schema r L before chains) (e : Entry) (known : (x : Entry) → IsIn x before → IsIn x order) (listed : IsIn e order) (fresh : IsIn e before → ⊥)
        (more : IsFront (with_entry L e) order) where
      abbrev out : Gtid → Key → OutOfTurn
      out x key = record { next = x; entry = e.0; key = key }

      fresh_gtid : has before e.0 ≡ false
      fresh_gtid = false_from_ne_true (has before e.0) (λ y. let f = found_at before e.0 y in fresh (subst (λ (x : Entry). IsIn x before) (sym (one_entry order e f.0 d listed (known f.0 f.1) f.2)) f.1))

      front_now : IsFront L order
      front_now = front_through L (with_entry L e) order (front_of_with L e (has L e.0)) more

      now_listed : (x : Entry) → IsIn x L → IsIn x order
      now_listed x i = subst (IsIn x) front_now.1 (in_front L front_now.0 x i)

      module _ (k : Key) (t : touches schema e.1 k ≡ true) where
        abbrev rest : List Entry
        rest = (sofar.fronts k).0

        rest_listed : (x : Entry) → IsIn x rest → IsIn x L
        rest_listed x i = (in_part (λ (y : Entry). touches schema y.1 k) L x (subst (IsIn x) (sofar.fronts k).1 (in_back (chain schema k before) rest x i))).0

        next_by : (f : IsFront L order) → next_toucher schema order k before ≡ slice_get (rest ++ chain schema k f.0) zero
        next_by f =
            let chains_front : IsFront (chain schema k L) (chain schema k order) = (chain schema k f.0, sym (filter-append (λ (x : Entry). touches schema x.1 k) L f.0) ∙ ap (chain schema k) f.1) in
            next_is_head schema order before k (front_through (chain schema k before) (chain schema k L) (chain schema k order) (sofar.fronts k) chains_front) d known

        absent : slice_get rest zero ≡ None → has L e.0 ≡ false
        absent none = false_from_ne_true (has L e.0) (λ y.
            let f = found_at L e.0 y in
            let there : IsIn e L = subst (λ (x : Entry). IsIn x L) (sym (one_entry order e f.0 d listed (now_listed f.0 f.1) f.2)) f.1 in
            none_in rest e none (in_the_rest schema L before e k (sofar.fronts k) there fresh t))

        next_new : slice_get rest zero ≡ None → next_toucher schema order k before ≡ Some e
        next_new none =
            let with_e : L ++ e ∷ more.0 ≡ order = sym (append_assoc L (e ∷ []) more.0) ∙ ap (λ b. cond b L (L ++ e ∷ []) ++ more.0) (sym (absent none)) ∙ more.1 in
            next_by (e ∷ more.0, with_e) ∙ head_after rest (chain schema k (e ∷ more.0)) none ∙ ap (λ b. slice_get (cond b (e ∷ chain schema k more.0) (chain schema k more.0)) zero) t

        next_old : (x : Entry) → slice_get rest zero ≡ Some x → next_toucher schema order k before ≡ Some x
        next_old x some = next_by front_now ∙ head_with rest (chain schema k front_now.0) x some

        expected_at : (o : Option Entry) → slice_get rest zero ≡ o → expected r e.0 (chains k) ≡ next_in (turn_at e.0 (option_map (λ (x : Entry). x.0) o))
        expected_at o is = expected_is schema r L before chains sofar e k t fresh_gtid ∙ ap (λ (o : Option Entry). next_in (turn_at e.0 (option_map (λ (x : Entry). x.0) o))) is

        by_pair : (x : Entry) (b : Bool) → cond b None (option_map (λ a. pair_fault a h x.0 e.0 k) (bringer hs x.0)) ≡ name_or (option_map (λ y. out y k) (next_in (cond b Next (Behind x.0)))) name None
        by_pair x true = refl
        by_pair x false = refl

        fault_same : fault_with hs h e.0 k (next_toucher schema order k before) ≡ name_or (out_first r e.0 chains k) name None
        fault_same = elim (head_cases rest) [
          | inl none ↦
              ap (fault_with hs h e.0 k) (next_new none) ∙ ap (λ b. cond b None (option_map (λ a. pair_fault a h e.0 e.0 k) (bringer hs e.0))) (same_itself e.0)
              ∙ sym (ap (λ (o : Option Gtid). name_or (option_map (λ y. out y k) o) name None) (expected_at None none))
          | inr some ↦
              ap (fault_with hs h e.0 k) (next_old some.0 some.1) ∙ by_pair some.0 (same_gtid some.0.0 e.0)
              ∙ sym (ap (λ (o : Option Gtid). name_or (option_map (λ y. out y k) o) name None) (expected_at (Some some.0) some.1))
        ]

        named_by : (x : Entry) (b : Bool) (o : OutOfTurn) → IsIn x order → option_map (λ y. out y k) (next_in (cond b Next (Behind x.0))) ≡ Some o → (v : Verdict) × (name o ≡ Some v)
        named_by x true o i e = none_some o e
        named_by x false o i f =
            let a = brought x i in
            (pair_fault a.0 h x.0 e.0 k, ap name (sym (same_Some (out x.0 k) o f)) ∙ ap (option_map (λ a. pair_fault a h x.0 e.0 k)) a.1)

        named_at : (o : OutOfTurn) → out_first r e.0 chains k ≡ Some o → (v : Verdict) × (name o ≡ Some v)
        named_at o is = elim (head_cases rest) [
          | inl none ↦ none_some o (sym (ap (option_map (λ y. out y k)) (expected_at None none)) ∙ is)
          | inr some ↦ named_by some.0 (same_gtid some.0.0 e.0) o (now_listed some.0 (rest_listed some.0 (head_in rest some.0 some.1))) (sym (ap (option_map (λ y. out y k)) (expected_at (Some some.0) some.1)) ∙ is)
        ]

        -- in turn
        record IsKept : Type 0 where
          front : IsFront (chain schema k (before ++ e ∷ [])) (chain schema k (with_entry L e))
          read : IsRead r (visit r e.0 (chains k)) (gtids_of (chain schema k (with_entry L e))) (length (chain schema k (before ++ e ∷ [])))

        same_by : (x : Entry) (b : Bool) → same_gtid x.0 e.0 ≡ b → next_in (cond b Next (Behind x.0)) ≡ None → x.0 ≡ e.0
        same_by x true t none = same_is_equal x.0 e.0 t
        same_by x false t none = cc

        in_turn : expected r e.0 (chains k) ≡ None → IsKept
        in_turn quiet = elim (head_cases rest) [
          | inl none ↦ record {
            front = end_front schema r L before chains sofar e k t fresh_gtid (absent none) none;
            read = end_read schema r L before chains sofar e k t fresh_gtid (absent none) none;
          }
          | inr some ↦
              let there : IsIn some.0 L = rest_listed some.0 (head_in rest some.0 some.1) in
              let same : some.0 ≡ e = one_entry order some.0 e d (now_listed some.0 there) listed (same_by some.0 (same_gtid some.0.0 e.0) refl (sym (expected_at (Some some.0) some.1) ∙ quiet)) in
              let in_order : has L e.0 ≡ true = has_of L e (subst (λ (x : Entry). IsIn x L) same there) in
              record {
                front = next_front schema r L before chains sofar e k t fresh_gtid in_order (some.1 ∙ ap Some same);
                read = next_read schema r L before chains sofar e k t fresh_gtid in_order (some.1 ∙ ap Some same);
              }
        ]

      abbrev keys : List Key
      keys = write_set schema e.1

      touched_at : (i : ℕ) (k : Key) → slice_get keys i ≡ Some k → touches schema e.1 k ≡ true
      touched_at i k at = any_passes_from_place (key_eq k) keys i k at (key_eq_self k)

      out_is : out_of_keys r e.0 keys chains ≡ first (out_first r e.0 chains) keys
      out_is = (keys_visited r e.0 chains keys).0

      pub entry_same : entry_fault schema hs h before e ≡ name_or (out_of_keys r e.0 keys chains) name None
      entry_same =
          first_same _ _ keys (λ i k at. fault_same k (touched_at i k at))
          ∙ sym (first_named (out_first r e.0 chains) name keys (λ i k at o is. named_at k (touched_at i k at) o is))
          ∙ ap (λ o. name_or o name None) (sym out_is)

      pub entry_named : (o : OutOfTurn) → out_of_keys r e.0 keys chains ≡ Some o → (v : Verdict) × (name o ≡ Some v)
      entry_named o is = let f = first_some _ keys o (sym out_is ∙ is) in named_at f.element (touched_at f.place f.element f.there) o f.gives

      quiet_at : out_of_keys r e.0 keys chains ≡ None → (k : Key) → touches schema e.1 k ≡ true → expected r e.0 (chains k) ≡ None
      quiet_at none k t =
          let at = any_at (key_eq k) keys t in
          let nothing = none_out r e.0 chains at.1 (expected r e.0 (chains at.1)) (first_none _ keys (sym out_is ∙ none) at.0 at.1 at.2) in
          ap (λ q. expected r e.0 (chains q)) (key_eq_same k at.1 at.3) ∙ nothing

      chain_then : (k : Key) (b : Bool) → touches schema e.1 k ≡ b → out_of_keys r e.0 keys chains ≡ None → visit_keys r e.0 keys chains k ≡ cond b (visit r e.0 (chains k)) (chains k)
      chain_then k b t none = (keys_visited r e.0 chains keys).1 none k ∙ ap (λ b. cond b (visit r e.0 (chains k)) (chains k)) t

      pub entry_after : out_of_keys r e.0 keys chains ≡ None → IsSoFar schema r (with_entry L e) (before ++ e ∷ []) (visit_keys r e.0 keys chains)
      entry_after none = record {
        fronts = λ k. elim (cases_Bool (touches schema e.1 k)) [
          | inl t ↦ (in_turn k t (quiet_at none k t)).front
          | inr t ↦ untouched_front schema r L before chains sofar e k t
        ];
        reads = λ k. elim (cases_Bool (touches schema e.1 k)) [
          | inl t ↦ subst (λ (c : KeyChain). IsRead r c (gtids_of (chain schema k (with_entry L e))) (length (chain schema k (before ++ e ∷ [])))) (sym (chain_then k true t none)) (in_turn k t (quiet_at none k t)).read
          | inr t ↦ subst (λ (c : KeyChain). IsRead r c (gtids_of (chain schema k (with_entry L e))) (length (chain schema k (before ++ e ∷ [])))) (sym (chain_then k false t none)) (untouched_read schema r L before chains sofar e k t)
        ];
      }

    -- ---- the entries of a history

    record Reads (L before es : List Entry) (chains : Key → KeyChain) : Type 0 where
      same : walk (entry_fault schema hs h) before es ≡ name_or (out_of_entries schema r es chains) name None
      is_named : (o : OutOfTurn) → out_of_entries schema r es chains ≡ Some o → (v : Verdict) × (name o ≡ Some v)
      after : out_of_entries schema r es chains ≡ None → IsSoFar schema r (append_new L es) (before ++ es) (visit_entries schema r es chains)

    -- an entry, and then the others
    reads_more : (L before : List Entry) (e : Entry) (es : List Entry) (chains : Key → KeyChain)
        → entry_fault schema hs h before e ≡ name_or (out_of_keys r e.0 (write_set schema e.1) chains) name None
        → ((o : OutOfTurn) → out_of_keys r e.0 (write_set schema e.1) chains ≡ Some o → (v : Verdict) × (name o ≡ Some v))
        → (out_of_keys r e.0 (write_set schema e.1) chains ≡ None → Reads (with_entry L e) (before ++ e ∷ []) es (visit_keys r e.0 (write_set schema e.1) chains))
        → Reads L before (e ∷ es) chains
    reads_more L before e es chains same_here named_here rest = by_out (out_of_keys r e.0 (write_set schema e.1) chains) refl
      where
        then_chains : Key → KeyChain
        then_chains = visit_keys r e.0 (write_set schema e.1) chains

        later : Option OutOfTurn
        later = out_of_entries schema r es then_chains

        walk_later : Option Verdict
        walk_later = walk (entry_fault schema hs h) (before ++ e ∷ []) es

        by_out : (o : Option OutOfTurn) → out_of_keys r e.0 (write_set schema e.1) chains ≡ o → Reads L before (e ∷ es) chains
        by_out None is = let a = rest is in record {
          same = ap (λ v. or_next v walk_later) (same_here ∙ ap (λ o. name_or o name None) is) ∙ a.same ∙ sym (ap (λ o. name_or (or_next o later) name None) is);
          is_named = λ o f. a.is_named o (sym (ap (λ p. or_next p later) is) ∙ f);
          after = λ none. subst (λ (xs : List Entry). IsSoFar schema r (append_new (with_entry L e) es) xs (visit_entries schema r es then_chains)) (append_assoc before (e ∷ []) es)
              (a.after (sym (ap (λ p. or_next p later) is) ∙ none));
        }
        by_out (Some o) is =
            let v = named_here o is in
            record {
              same = ap (λ w. or_next w walk_later) (same_here ∙ ap (λ p. name_or p name None) is ∙ v.1) ∙ sym v.1 ∙ sym (ap (λ p. name_or (or_next p later) name None) is);
              is_named = λ p f. subst (λ (q : OutOfTurn). (v : Verdict) × (name q ≡ Some v)) (same_Some o p (sym (ap (λ q. or_next q later) is) ∙ f)) v;
              after = λ none. none_some o (sym (sym (ap (λ q. or_next q later) is) ∙ none));
            }

    entries_read : (L before es : List Entry) (chains : Key → KeyChain) → IsSoFar schema r L before chains → AreDistinct (before ++ es) → ((x : Entry) → IsIn x (before ++ es) → IsIn x order) → IsFront (append_new L es) order
        → Reads L before es chains
    entries_read L before [] chains sofar c listed more = record {
      same = refl;
      is_named = λ o f. none_some o f;
      after = λ none. subst (λ (xs : List Entry). IsSoFar schema r L xs chains) (sym (append_none before)) sofar;
    }
    entries_read L before (e ∷ es) chains sofar c listed more =
        let known : (x : Entry) → IsIn x before → IsIn x order = λ x i. listed x (in_front before (e ∷ es) x i) in
        let here : IsIn e order = listed e (in_back before (e ∷ es) e (inl refl)) in
        let fresh : IsIn e before → ⊥ = λ i. twice before (e ∷ es) e c i (inl refl) in
        let front : IsFront (with_entry L e) order = front_through (with_entry L e) (append_new (with_entry L e) es) order (front_of_grown (with_entry L e) es) more in
        let join : (before ++ e ∷ []) ++ es ≡ before ++ e ∷ es = append_assoc before (e ∷ []) es in
        reads_more L before e es chains
        (entry_same L before chains sofar e known here fresh front)
        (entry_named L before chains sofar e known here fresh front)
        (λ none. entries_read (with_entry L e) (before ++ e ∷ []) es (visit_keys r e.0 (write_set schema e.1) chains)
        (entry_after L before chains sofar e known here fresh front none) (subst AreDistinct (sym join) c) (λ x i. listed x (subst (IsIn x) join i)) more)

  -- ---- all histories

  -- the order so far, and no chain was read by journal r or a later one
  record IsFresh (r : ℕ) (L : List Entry) (chains : Key → KeyChain) : Type 0 where
    members : (k : Key) → (chains k).members ≡ gtids_of (chain schema k L)
    unread : (k : Key) (s : ℕ) → r ≤ s → read_by s (chains k) ≡ 0

  begins : (r : ℕ) (L : List Entry) (chains : Key → KeyChain) → IsFresh r L chains → IsSoFar schema r L [] chains
  begins r L chains fresh = record {
    fronts = λ k. (chain schema k L, refl);
    reads = λ k. record { members = fresh.members k; read = fresh.unread k r (omega arith); later = λ s less. fresh.unread k s (omega arith) };
  }

  goes_on : (r : ℕ) (L h : List Entry) (chains : Key → KeyChain) → IsSoFar schema r L h chains → IsFresh (r + 1) L chains
  goes_on r L h chains sofar = record { members = λ k. (sofar.reads k).members; unread = λ k s more. (sofar.reads k).later s (omega arith) }

  histories_read : HaveOneContent hs → ((x : History) → IsAmong x hs → AreDistinct x) → (r : ℕ) (L : List Entry) (rest : List History) (chains : Key → KeyChain) → IsFresh r L chains → ((x : History) → IsAmong x rest → IsAmong x hs)
      → append_all_new L rest ≡ order → conflict_from schema hs r rest chains ≡ first (λ (h : History). walk (entry_fault schema hs h) [] h) rest
  histories_read one each r L [] chains fresh among same = refl
  histories_read one each r L (h ∷ rest) chains fresh among same =
      by_out (out_of_entries schema r h chains) refl
      (entries_read r h L [] h chains (begins r L chains fresh) (each h (among h (inl refl))) (λ x i. order_known hs one h (among h (inl refl)) x i) (subst (IsFront (append_new L h)) same (front_of_all (append_new L h) rest)))
      (λ next. histories_read one each (r + 1) (append_new L h) rest (visit_entries schema r h chains) next (λ x i. among x (inr i)) same)
    where
      later : Option Verdict
      later = conflict_from schema hs (r + 1) rest (visit_entries schema r h chains)

      walk_later : Option Verdict
      walk_later = first (λ (h : History). walk (entry_fault schema hs h) [] h) rest

      by_out : (o : Option OutOfTurn) → out_of_entries schema r h chains ≡ o → Reads r h L [] h chains → (IsFresh (r + 1) (append_new L h) (visit_entries schema r h chains) → later ≡ walk_later)
          → name_or (out_of_entries schema r h chains) (name_verdict hs h) later ≡ or_next (walk (entry_fault schema hs h) [] h) walk_later
      by_out None is a next =
          ap (λ o. name_or o (name_verdict hs h) later) is ∙ next (goes_on r (append_new L h) h (visit_entries schema r h chains) (a.after is))
          ∙ sym (ap (λ v. or_next v walk_later) (a.same ∙ ap (λ o. name_or o (name_verdict hs h) None) is))
      by_out (Some o) is a next =
          let v = a.is_named o is in
          ap (λ p. name_or p (name_verdict hs h) later) is ∙ v.1 ∙ sym (ap (λ w. or_next w walk_later) (a.same ∙ ap (λ p. name_or p (name_verdict hs h) None) is ∙ v.1))

never_read : (s : ℕ) (b : Bool) → cond b 0 0 ≡ zero
never_read s true = refl
never_read s false = refl

-- Reading the histories in turn finds what the definition finds.
pub conflict_found : (schema : List Table) (hs : List History) → AreDistinct (order_of hs) → HaveOneContent hs → ((x : History) → IsAmong x hs → AreDistinct x)
    → conflict_from schema hs 0 hs (λ k. no_chain) ≡ conflict schema hs
conflict_found schema hs d one each =
    histories_read schema hs d one each 0 [] hs (λ k. no_chain) (record { members = λ k. refl; unread = λ k s more. never_read s (0 == s) }) (λ x i. i) (all_grown_is [] hs each)
    ∙ sym (conflict_walks schema hs)
