-- One pass names every other shared key.
use Rattle.std.proofs.Common.{◌≡◌, ℕ, zero, suc, ◌<◌, ◌≤◌, Bool, true, false, cond, ◌||◌, ◌⊎◌, inl, inr, List, [], ◌∷◌, ◌++◌, length, Option, Some, None, refl, sym, ap, ◌∙◌, subst, arith, append_assoc}
use Rattle.std.specs.Prelude.{slice_get, nat_lt, is_some}
use Rattle.std.specs.List.{list_any, AllByRecursion}
use Rattle.std.specs.FinMap as finmap
use Rattle.std.specs.FinMap.{get-empty, get-insert}
use Rattle.std.specs.declared.cmp.Ordering.TheVariants.{Less}
use Rattle.std.proofs.lemmas.Bool.{or_cases, or_left, or_right}
use Rattle.std.proofs.lemmas.Option.{same_Some}
use Rattle.std.proofs.lemmas.List.Folds.{list_any-append}
use Rattle.lemmas.proofs.Numbers.{lt_of_test, below_test}
use Rattle.lemmas.proofs.Options.{none_some}
use Rattle.lemmas.proofs.Lists.{all_append, get_append_left, all_at, get_push_cases}
use Rattle.gtid_text.specs.declared.Gtid.{Gtid}
use Rattle.gtid_text.specs.Gtids.{gtid_cmp}
use Rattle.rows.specs.declared.change.Key.{Key}
use Rattle.rows.specs.declared.schema.Table.{Table}
use Rattle.rows.specs.Order.{key_cmp, key_eq}
use Rattle.rows.specs.Total.{key_total, key_eq_same, key_eq_self}
use Rattle.rows.specs.WriteSet.{write_set, touches, is_among}
use Rattle.history.specs.Sources.{World, content}
use Rattle.history.specs.Sources as history
use Rattle.history.proofs.SourceGtids.{number_less}
use Rattle.history.proofs.SourceEntries.{IsAscending, rising}
use Rattle.world.specs.declared.verdict.Verdict.{Verdict}
use Rattle.world.specs.declared.verdict.Verdict.TheVariants.{Shared}
use Rattle.world.specs.Search.{or_next, when}
use Rattle.world.specs.Cases.{IsShared}
use Rattle.world.specs.Folds.{FirstTouch, touched_by, shares_with}
use Rattle.world.proofs.Contents.{content_at, at_content}
use Rattle.world.proofs.OnePass.{rising_parts, source_le}
use Rattle.audit.specs.Others.{IsPairNamed, is_of_key, is_again, AreOnce, AreOtherKeys, pair_of_key, with_pair, with_name, pairs_of_keys, named_by_keys, pairs_from, key_of_verdict, other_pairs}
use Rattle.rows.specs.Conflicts.{conflict_at_both, conflict_at_touched}

-- ---- keys that were touched

next_nothing : {B : Type 0} (a : Option B) → or_next a None ≡ a
next_nothing (Some x) = refl
next_nothing None = refl

next_grouped : {B : Type 0} (a b c : Option B) → or_next (or_next a b) c ≡ or_next a (or_next b c)
next_grouped (Some x) b c = refl
next_grouped None b c = refl

either_when : {B : Type 0} (a b : Bool) (y : B) → or_next (when a y) (when b y) ≡ when (a || b) y
either_when true b y = refl
either_when false b y = refl

touched_one : (seen : FirstTouch) (key k : Key) (g : Gtid) (b c : Bool) → is_some (finmap.get seen key) ≡ b → key_eq k key ≡ c
    → finmap.get (cond b seen (finmap.insert seen key g)) k ≡ or_next (finmap.get seen k) (when c g)
touched_one seen key k g true true has same = stands (finmap.get seen k) (ap (λ x. is_some (finmap.get seen x)) (key_eq_same k key same) ∙ has)
  where
    stands : (o : Option Gtid) → is_some o ≡ true → o ≡ or_next o (Some g)
    stands (Some x) e = refl
    stands None e = cc
touched_one seen key k g true false has same = sym (next_nothing (finmap.get seen k))
touched_one seen key k g false true has same =
    get-insert key_total seen key g k ∙ (ap (λ t. cond t (Some g) (finmap.get seen k)) same ∙ free (finmap.get seen k) (ap (λ x. is_some (finmap.get seen x)) (key_eq_same k key same) ∙ has))
  where
    free : (o : Option Gtid) → is_some o ≡ false → Some g ≡ or_next o (Some g)
    free (Some x) e = cc
    free None e = refl
touched_one seen key k g false false has same =
    get-insert key_total seen key g k ∙ (ap (λ t. cond t (Some g) (finmap.get seen k)) same ∙ sym (next_nothing (finmap.get seen k)))

touched : (g : Gtid) (keys : List Key) (seen : FirstTouch) (k : Key) → finmap.get (touched_by g keys seen) k ≡ or_next (finmap.get seen k) (when (is_among keys k) g)
touched g [] seen k = sym (next_nothing (finmap.get seen k))
touched g (key ∷ keys) seen k =
    touched g keys (cond (finmap.contains_key seen key) seen (finmap.insert seen key g)) k
    ∙ (ap (λ o. or_next o (when (is_among keys k) g)) (touched_one seen key k g (finmap.contains_key seen key) (key_eq k key) refl refl)
    ∙ (next_grouped (finmap.get seen k) (when (key_eq k key) g) (when (is_among keys k) g)
    ∙ ap (or_next (finmap.get seen k)) (either_when (key_eq k key) (is_among keys k) g)))

-- ---- the keys of one transaction

abbrev has : FirstTouch → Key → Bool
has named k = finmap.contains_key named k

name_one : (named : FirstTouch) (key k : Key) (h : Gtid) → has (finmap.insert named key h) k ≡ (key_eq k key || has named k)
name_one named key k h = ap is_some (get-insert key_total named key h k) ∙ by (key_eq k key) (finmap.get named k)
  where
    by : (b : Bool) (o : Option Gtid) → is_some (cond b (Some h) o) ≡ (b || is_some o)
    by true o = refl
    by false o = refl

-- what a key is reported of
says_by : (h : Gtid) (key : Key) (named : Bool) (o : Option Gtid) (v : Verdict) → cond named None (shares_with h key o) ≡ Some v
    → (named ≡ false) × (g : Gtid) × (o ≡ Some g) × (g.source < h.source) × (v ≡ Shared g h key)
says_by h key true o v e = none_some v e
says_by h key false None v e = none_some v e
says_by h key false (Some g) v e = let p = smaller (nat_lt g.source h.source) e in (refl, g, refl, lt_of_test g.source h.source p.0, p.1)
  where
    smaller : (b : Bool) → when b (Shared g h key) ≡ Some v → (b ≡ true) × (v ≡ Shared g h key)
    smaller true e = (refl, sym (same_Some (Shared g h key) v e))
    smaller false e = none_some v e

name_more : (o : Option Verdict) (h : Gtid) (seen named : FirstTouch) (key k : Key) (vs : List Verdict) (after : Bool) → pair_of_key h seen named key ≡ o
    → after ≡ (has (with_name o h key named) k || list_any (is_of_key k) vs) → after ≡ (has named k || list_any (is_of_key k) (with_pair o vs))
name_more None h seen named key k vs after e f = f
name_more (Some v) h seen named key k vs after e f =
    let s = says_by h key (has named key) (finmap.get seen key) v e in
    f ∙ ap (λ b. b || list_any (is_of_key k) vs) (name_one named key k h) ∙ turn (key_eq k key) (has named k) (list_any (is_of_key k) vs)
    ∙ ap (λ x. has named k || (is_of_key k x || list_any (is_of_key k) vs)) (sym s.4)
  where
    turn : (a b c : Bool) → ((a || b) || c) ≡ (b || (a || c))
    turn true true c = refl
    turn true false c = refl
    turn false true c = refl
    turn false false c = refl

-- a key was reported of before, or is now
named_keys : (h : Gtid) (seen named : FirstTouch) (keys : List Key) (k : Key) → has (named_by_keys h seen named keys) k ≡ (has named k || list_any (is_of_key k) (pairs_of_keys h seen named keys))
named_keys h seen named [] k = same (has named k)
  where
    same : (b : Bool) → b ≡ (b || false)
    same true = refl
    same false = refl
named_keys h seen named (key ∷ keys) k =
    let o = pair_of_key h seen named key in
    name_more o h seen named key k (pairs_of_keys h seen (with_name o h key named) keys) (has (named_by_keys h seen (with_name o h key named) keys) k) refl
    (named_keys h seen (with_name o h key named) keys k)

-- a shared key has a name then
now_said : (h g : Gtid) (key : Key) (named : FirstTouch) (b : Bool) (first : Option Gtid) (o : Option Verdict) → has named key ≡ b → cond b None (shares_with h key first) ≡ o
    → first ≡ Some g → g.source < h.source → has (with_name o h key named) key ≡ true
now_said h g key named true first None p e f l = p
now_said h g key named false first None p e f l =
    let never : when (nat_lt g.source h.source) (Shared g h key) ≡ None = ap (shares_with h key) (sym f) ∙ e in
    absurd (no (nat_lt g.source h.source) (below_test g.source h.source l) never)
  where
    no : (b : Bool) → b ≡ true → when b (Shared g h key) ≡ None → ⊥
    no true e n = cc
    no false e n = cc
now_said h g key named b first (Some v) p e f l = name_one named key key h ∙ or_left (key_eq key key) (has named key) (key_eq_self key)

-- a shared key was reported of before, or is now
said_keys : (h g : Gtid) (seen named : FirstTouch) (keys : List Key) (k : Key) → is_among keys k ≡ true → finmap.get seen k ≡ Some g → g.source < h.source → has (named_by_keys h seen named keys) k ≡ true
said_keys h g seen named [] k among first less = cc
said_keys h g seen named (key ∷ keys) k among first less =
    let next : FirstTouch = with_name (pair_of_key h seen named key) h key named in
    elim (or_cases (key_eq k key) (is_among keys k) among) [
      | inl here ↦
          let same : k ≡ key = key_eq_same k key here in
          named_keys h seen next keys k
          ∙ or_left (has next k) (list_any (is_of_key k) (pairs_of_keys h seen next keys))
          (ap (has next) same ∙ now_said h g key named (has named key) (finmap.get seen key) (pair_of_key h seen named key) refl refl (ap (finmap.get seen) (sym same) ∙ first) less)
      | inr later ↦ said_keys h g seen next keys k later first less
    ]

-- ---- the order of GTIDs

-- comes before, or is the same
abbrev Upto : Gtid → Gtid → Type 0
Upto g p = (g.source < p.source) ⊎ ((g.source ≡ p.source) × (g.number ≤ p.number))

abbrev Under : Gtid → Gtid → Type 0
Under g p = (g.source < p.source) ⊎ ((g.source ≡ p.source) × (g.number < p.number))

under : (g h : Gtid) → gtid_cmp g h ≡ Less → Under g h
under g h e = elim (source_le g h e) [ inl l ↦ inl l | inr s ↦ inr (s, number_less g h e s) ]

upto_itself : (g h : Gtid) → g ≡ h → Upto g h
upto_itself g h e = inr (ap (λ (x : Gtid). x.source) e, le g.number h.number (ap (λ (x : Gtid). x.number) e))
  where
    le : (m n : ℕ) → m ≡ n → m ≤ n
    le m n e = omega arith

upto_under : (g h : Gtid) → Under g h → Upto g h
upto_under g h (inl l) = inl l
upto_under g h (inr p) = inr (p.0, le g.number h.number p.1)
  where
    le : (m n : ℕ) → m < n → m ≤ n
    le m n l = omega arith

upto_source : (g h : Gtid) → Upto g h → g.source ≤ h.source
upto_source g h (inl l) = le g.source h.source l
  where
    le : (m n : ℕ) → m < n → m ≤ n
    le m n l = omega arith
upto_source g h (inr p) = le g.source h.source p.0
  where
    le : (m n : ℕ) → m ≡ n → m ≤ n
    le m n e = omega arith

never_under : (g a : Gtid) → Upto g a → Under a g → ⊥
never_under g a (inl x) (inl y) = no g.source a.source x y
  where
    no : (m n : ℕ) → m < n → n < m → ⊥
    no m n x y = omega arith
never_under g a (inl x) (inr y) = no g.source a.source x y.0
  where
    no : (m n : ℕ) → m < n → n ≡ m → ⊥
    no m n x y = omega arith
never_under g a (inr x) (inl y) = no g.source a.source x.0 y
  where
    no : (m n : ℕ) → m ≡ n → n < m → ⊥
    no m n x y = omega arith
never_under g a (inr x) (inr y) = no g.number a.number x.1 y.1
  where
    no : (m n : ℕ) → m ≤ n → n < m → ⊥
    no m n x y = omega arith

under_on : (a b c : Gtid) → Under a b → Under b c → Under a c
under_on a b c (inl x) (inl y) = inl (omega arith)
under_on a b c (inl x) (inr y) = let s = y.0 in inl (omega arith)
under_on a b c (inr x) (inl y) = let s = x.0 in inl (omega arith)
under_on a b c (inr x) (inr y) = let m = x.1 in let n = y.1 in inr (x.0 ∙ y.0, omega arith)

-- ---- entry after entry

get_cases : (xs : List history.Entry) (y : history.Entry) (ys : List history.Entry) (i : ℕ) (x : history.Entry) → slice_get (xs ++ y ∷ ys) i ≡ Some x
    → (slice_get xs i ≡ Some x) ⊎ ((y ≡ x) ⊎ ((j : ℕ) × (slice_get ys j ≡ Some x)))
get_cases [] y ys zero x e = inr (inl (same_Some y x e))
get_cases [] y ys (suc i) x e = inr (inr (i, e))
get_cases (z ∷ xs) y ys zero x e = inl e
get_cases (z ∷ xs) y ys (suc i) x e = get_cases xs y ys i x e

get_here : (xs : List history.Entry) (y : history.Entry) (ys : List history.Entry) → slice_get (xs ++ y ∷ ys) (length xs) ≡ Some y
get_here [] y ys = refl
get_here (z ∷ xs) y ys = get_here xs y ys

module _ (schema : List Table) where
  -- for each key the first of these that touches it
  record IsSeen (before : List history.Entry) (seen : FirstTouch) : Type 0 where
    pub from : (k : Key) (g : Gtid) → finmap.get seen k ≡ Some g → (i : ℕ) × (e : history.Entry) × (slice_get before i ≡ Some e) × (e.0 ≡ g) × (touches schema e.1 k ≡ true)
    pub all : (i : ℕ) (e : history.Entry) (k : Key) → slice_get before i ≡ Some e → touches schema e.1 k ≡ true → (g : Gtid) × (finmap.get seen k ≡ Some g) × Upto g e.0

  -- each key that two sources touch has its name
  abbrev AreNamed : List history.Entry → FirstTouch → Type 0
  AreNamed before named = (i j : ℕ) (a b : history.Entry) (k : Key) → slice_get before i ≡ Some a → slice_get before j ≡ Some b → a.0.source < b.0.source
      → touches schema a.1 k ≡ true → touches schema b.1 k ≡ true → has named k ≡ true

  module _ (before : List history.Entry) (h : history.Entry) (seen : FirstTouch) (lower : AllByRecursion (λ (x : history.Entry). gtid_cmp x.0 h.0 ≡ Less) before) (is : IsSeen before seen) where
    under_at : (i : ℕ) (e : history.Entry) → slice_get before i ≡ Some e → Under e.0 h.0
    under_at i e s = under e.0 h.0 (all_at (λ (x : history.Entry). gtid_cmp x.0 h.0 ≡ Less) before i e lower s)

    abbrev Place : Key → Gtid → Type 0
    Place k g = (i : ℕ) × (e : history.Entry) × (slice_get (before ++ h ∷ []) i ≡ Some e) × (e.0 ≡ g) × (touches schema e.1 k ≡ true)

    from_by : (k : Key) (g : Gtid) (o : Option Gtid) (among : Bool) → finmap.get seen k ≡ o → touches schema h.1 k ≡ among → or_next o (when among h.0) ≡ Some g → Place k g
    from_by k g (Some f) among p q e =
        let r = is.from k g (p ∙ e) in
        (r.0, r.1, get_append_left before (h ∷ []) r.0 r.1 r.2, r.3, r.4)
    from_by k g None true p q e = (length before, h, get_here before h [], same_Some h.0 g e, q)
    from_by k g None false p q e = none_some g e

    of_by : (k : Key) (e : history.Entry) (o : Option Gtid) → finmap.get seen k ≡ o → touches schema h.1 k ≡ true → h ≡ e
        → (g : Gtid) × (or_next o (when (touches schema h.1 k) h.0) ≡ Some g) × Upto g e.0
    of_by k e (Some f) p q same =
        let r = is.from k f p in
        (f, refl, subst (λ (x : history.Entry). Upto f x.0) same (subst (λ (x : Gtid). Upto x h.0) r.3 (upto_under r.1.0 h.0 (under_at r.0 r.1 r.2))))
    of_by k e None p q same = (h.0, ap (λ b. when b h.0) q, upto_itself h.0 e.0 (ap (λ (x : history.Entry). x.0) same))

    seen_on : IsSeen (before ++ h ∷ []) (touched_by h.0 (write_set schema h.1) seen)
    seen_on = record {
      from = λ k g e. from_by k g (finmap.get seen k) (touches schema h.1 k) refl refl (sym (touched h.0 (write_set schema h.1) seen k) ∙ e);
      all = λ i e k s t. elim (get_push_cases before h i e s) [
        | inl old ↦ let r = is.all i e k old t in (r.0, touched h.0 (write_set schema h.1) seen k ∙ ap (λ o. or_next o (when (touches schema h.1 k) h.0)) r.1, r.2)
        | inr new ↦ let r = of_by k e (finmap.get seen k) refl (ap (λ (x : history.Entry). touches schema x.1 k) new.1 ∙ t) new.1 in (r.0, touched h.0 (write_set schema h.1) seen k ∙ r.1, r.2)
      ];
    }

    named_on : (named : FirstTouch) → AreNamed before named → AreNamed (before ++ h ∷ []) (named_by_keys h.0 seen named (write_set schema h.1))
    named_on named are i j a b k p q less ta tb =
        elim (get_push_cases before h j b q) [
          | inl old ↦ elim (get_push_cases before h i a p) [
            | inl first ↦ named_keys h.0 seen named (write_set schema h.1) k ∙ or_left (has named k) (list_any (is_of_key k) (pairs_of_keys h.0 seen named (write_set schema h.1))) (are i j a b k first old less ta tb)
            | inr first ↦
                let u = upto_source b.0 h.0 (upto_under b.0 h.0 (under_at j b old)) in
                let s : h.0.source ≡ a.0.source = ap (λ (x : history.Entry). x.0.source) first.1 in
                absurd (no_one a.0.source b.0.source h.0.source less u s)
          ]
          | inr new ↦ elim (get_push_cases before h i a p) [
            | inl first ↦
                let r = is.all i a k first ta in
                let s : h.0.source ≡ b.0.source = ap (λ (x : history.Entry). x.0.source) new.1 in
                said_keys h.0 r.0 seen named (write_set schema h.1) k (ap (λ (x : history.Entry). touches schema x.1 k) new.1 ∙ tb) r.1 (lower_still r.0.source a.0.source b.0.source h.0.source (upto_source r.0 a.0 r.2) less s)
            | inr first ↦
                let s : h.0.source ≡ b.0.source = ap (λ (x : history.Entry). x.0.source) new.1 in
                let t : h.0.source ≡ a.0.source = ap (λ (x : history.Entry). x.0.source) first.1 in
                absurd (not_both a.0.source b.0.source h.0.source less s t)
          ]
        ]
      where
        no_one : (a b h : ℕ) → a < b → b ≤ h → h ≡ a → ⊥
        no_one a b h l u s = omega arith

        lower_still : (g a b h : ℕ) → g ≤ a → a < b → h ≡ b → g < h
        lower_still g a b h x y z = omega arith

        not_both : (a b h : ℕ) → a < b → h ≡ b → h ≡ a → ⊥
        not_both a b h x y z = omega arith

-- ---- what is reported of one transaction's keys

-- of a key that nothing was reported of
record IsSaid (h : Gtid) (seen named : FirstTouch) (keys : List Key) (v : Verdict) : Type 0 where
  pub g : Gtid
  pub key : Key
  pub is : v ≡ Shared g h key
  pub first : finmap.get seen key ≡ Some g
  pub less : g.source < h.source
  pub new : has named key ≡ false
  pub among : is_among keys key ≡ true

or_false : (a b : Bool) → (a || b) ≡ false → b ≡ false
or_false true b e = cc
or_false false b e = e

name_kept : (o : Option Verdict) (h : Gtid) (key k : Key) (named : FirstTouch) → has (with_name o h key named) k ≡ false → has named k ≡ false
name_kept None h key k named e = e
name_kept (Some v) h key k named e = or_false (key_eq k key) (has named k) (sym (name_one named key k h) ∙ e)

later_said : (h : Gtid) (seen named : FirstTouch) (key : Key) (keys : List Key) (o : Option Verdict) (v : Verdict) → IsSaid h seen (with_name o h key named) keys v → IsSaid h seen named (key ∷ keys) v
later_said h seen named key keys o v s = record {
  g = s.g;
  key = s.key;
  is = s.is;
  first = s.first;
  less = s.less;
  new = name_kept o h key s.key named s.new;
  among = or_right (key_eq s.key key) (is_among keys s.key) s.among;
}

all_later : (h : Gtid) (seen named : FirstTouch) (key : Key) (keys : List Key) (o : Option Verdict) (vs : List Verdict)
    → AllByRecursion (IsSaid h seen (with_name o h key named) keys) vs → AllByRecursion (IsSaid h seen named (key ∷ keys)) vs
all_later h seen named key keys o [] s = tt
all_later h seen named key keys o (v ∷ vs) s = (later_said h seen named key keys o v s.0, all_later h seen named key keys o vs s.1)

with_said : (h : Gtid) (seen named : FirstTouch) (key : Key) (keys : List Key) (o : Option Verdict) (vs : List Verdict) → pair_of_key h seen named key ≡ o
    → AllByRecursion (IsSaid h seen (with_name o h key named) keys) vs → AllByRecursion (IsSaid h seen named (key ∷ keys)) (with_pair o vs)
with_said h seen named key keys None vs e s = all_later h seen named key keys None vs s
with_said h seen named key keys (Some v) vs e s =
    let p = says_by h key (has named key) (finmap.get seen key) v e in (
      record { g = p.1; key = key; is = p.4; first = p.2; less = p.3; new = p.0; among = or_left (key_eq key key) (is_among keys key) (key_eq_self key) },
      all_later h seen named key keys (Some v) vs s,
    )

all_said : (h : Gtid) (seen named : FirstTouch) (keys : List Key) → AllByRecursion (IsSaid h seen named keys) (pairs_of_keys h seen named keys)
all_said h seen named [] = tt
all_said h seen named (key ∷ keys) =
    let o = pair_of_key h seen named key in
    with_said h seen named key keys o (pairs_of_keys h seen (with_name o h key named) keys) refl (all_said h seen (with_name o h key named) keys)

-- ---- all transactions

-- the keys that have a name once all are gone over
abbrev named_from : List Table → FirstTouch → FirstTouch → List history.Entry → FirstTouch
named_from schema seen named [] = named
named_from schema seen named (h ∷ es) = named_from schema (touched_by h.0 (write_set schema h.1) seen) (named_by_keys h.0 seen named (write_set schema h.1)) es

-- what was reported of a key, or is
names_all : (schema : List Table) (seen named : FirstTouch) (es : List history.Entry) (k : Key) → has (named_from schema seen named es) k ≡ (has named k || list_any (is_of_key k) (pairs_from schema seen named es))
names_all schema seen named [] k = same (has named k)
  where
    same : (b : Bool) → b ≡ (b || false)
    same true = refl
    same false = refl
names_all schema seen named (h ∷ es) k =
    let keys = write_set schema h.1 in
    let next = named_by_keys h.0 seen named keys in
    let here = pairs_of_keys h.0 seen named keys in
    let later = pairs_from schema (touched_by h.0 keys seen) next es in
    names_all schema (touched_by h.0 keys seen) next es k
    ∙ ap (λ b. b || list_any (is_of_key k) later) (named_keys h.0 seen named keys k)
    ∙ turn (has named k) (list_any (is_of_key k) here) (list_any (is_of_key k) later)
    ∙ ap (λ b. has named k || b) (sym (list_any-append (is_of_key k) here later))
  where
    turn : (a b c : Bool) → ((a || b) || c) ≡ (a || (b || c))
    turn true b c = refl
    turn false b c = refl

module _ (world : World) where
  abbrev all : List history.Entry
  all = finmap.entries world.contents

  module _ (before : List history.Entry) (h : history.Entry) (later : List history.Entry) (parts : all ≡ before ++ h ∷ later) where
    order : AllByRecursion (λ (x : history.Entry). gtid_cmp x.0 h.0 ≡ Less) before × AllByRecursion (λ (z : history.Entry). gtid_cmp h.0 z.0 ≡ Less) later
    order = rising_parts before h later (subst IsAscending parts (rising world))

    -- what is less comes before
    stands_before : (a : Gtid) (i : ℕ) (e : history.Entry) → slice_get all i ≡ Some e → Under e.0 h.0 → (j : ℕ) × (slice_get before j ≡ Some e)
    stands_before a i e s l = elim (get_cases before h later i e (ap (λ (xs : List history.Entry). slice_get xs i) (sym parts) ∙ s)) [
      | inl old ↦ (i, old)
      | inr more ↦ elim more [
        | inl same ↦ absurd (never_under h.0 e.0 (upto_itself h.0 e.0 (ap (λ (x : history.Entry). x.0) same)) l)
        | inr behind ↦ absurd (never_under h.0 e.0 (upto_under h.0 e.0 (under h.0 e.0 (all_at (λ (z : history.Entry). gtid_cmp h.0 z.0 ≡ Less) later behind.0 e order.1 behind.1))) l)
      ]
    ]

    stands_at : (i : ℕ) (e : history.Entry) → slice_get before i ≡ Some e → slice_get all i ≡ Some e
    stands_at i e s = ap (λ (xs : List history.Entry). slice_get xs i) parts ∙ get_append_left before (h ∷ later) i e s

    stands_here : slice_get all (length before) ≡ Some h
    stands_here = ap (λ (xs : List history.Entry). slice_get xs (length before)) parts ∙ get_here before h later

    module _ (seen named : FirstTouch) (is : IsSeen world.schema before seen) (are : AreNamed world.schema before named) where
      -- a lesser pair comes before, where its key has its name
      no_lesser : (a b : Gtid) (k : Key) → IsShared world a b k → Under b h.0 → has named k ≡ true
      no_lesser a b k s l =
          let p = content_at world a s.t s.first in
          let q = content_at world b s.u s.second in
          let x = stands_before a p.0 (a, s.t) p.1 (under_on a b h.0 (inl s.smaller) l) in
          let y = stands_before b q.0 (b, s.u) q.1 l in
          let both = conflict_at_both world.schema s.t s.u k s.conflict in
          are x.0 y.0 (a, s.t) (b, s.u) k x.1 y.1 s.smaller both.0 both.1

      least : (v : Verdict) → IsSaid h.0 seen named (write_set world.schema h.1) v → IsPairNamed world v
      least v s =
          let r = is.from s.key s.g s.first in
          let e : history.Entry = r.1 in
          let below_h : Under s.g h.0 = subst (λ (x : Gtid). Under x h.0) r.3 (under e.0 h.0 (all_at (λ (x : history.Entry). gtid_cmp x.0 h.0 ≡ Less) before r.0 e order.0 r.2)) in
          subst (IsPairNamed world) (sym s.is) (record {
            pair = record {
              t = e.1;
              u = h.1;
              first = subst (λ (x : Gtid). content world x ≡ Some e.1) r.3 (at_content world r.0 e (stands_at r.0 e r.2));
              second = at_content world (length before) h stands_here;
              smaller = s.less;
              conflict = conflict_at_touched world.schema e.1 h.1 s.key s.among ∙ r.4;
            };
            second = λ a b p l. two_ways (has named s.key) (no_lesser a b s.key p (under b h.0 l)) s.new;
            first = λ a b p l.
                let q = content_at world a p.t p.first in
                let y = stands_before a q.0 (a, p.t) q.1 (under_on a s.g h.0 (under a s.g l) below_h) in
                let z = is.all y.0 (a, p.t) s.key y.1 (conflict_at_both world.schema p.t p.u s.key p.conflict).0 in
                let same : z.0 ≡ s.g = same_Some z.0 s.g (sym z.1 ∙ s.first) in
                never_under s.g a (subst (λ (x : Gtid). Upto x a) same z.2) (under a s.g l);
          })
        where
          two_ways : (b : Bool) → b ≡ true → b ≡ false → ⊥
          two_ways true p q = cc
          two_ways false p q = cc

      all_least : (vs : List Verdict) → AllByRecursion (IsSaid h.0 seen named (write_set world.schema h.1)) vs → AllByRecursion (IsPairNamed world) vs
      all_least [] s = tt
      all_least (v ∷ vs) s = (least v s.0, all_least vs s.1)

  -- the pass over what is left
  goes_on : (before rest : List history.Entry) (seen named : FirstTouch) → all ≡ before ++ rest → IsSeen world.schema before seen → AreNamed world.schema before named
      → AllByRecursion (IsPairNamed world) (pairs_from world.schema seen named rest) × AreNamed world.schema all (named_from world.schema seen named rest)
  goes_on before [] seen named parts is are = (tt, subst (λ (xs : List history.Entry). AreNamed world.schema xs named) (sym (parts ∙ nothing_more before)) are)
    where
      nothing_more : (xs : List history.Entry) → xs ++ [] ≡ xs
      nothing_more [] = refl
      nothing_more (x ∷ xs) = ap (λ (zs : List history.Entry). x ∷ zs) (nothing_more xs)
  goes_on before (h ∷ rest) seen named parts is are =
      let keys = write_set world.schema h.1 in
      let lower = (order before h rest parts).0 in
      let next = touched_by h.0 keys seen in
      let names = named_by_keys h.0 seen named keys in
      let more = goes_on (before ++ h ∷ []) rest next names (parts ∙ sym (append_assoc before (h ∷ []) rest)) (seen_on world.schema before h seen lower is) (named_on world.schema before h seen lower is named are) in (
        all_append (IsPairNamed world) (pairs_of_keys h.0 seen named keys) (pairs_from world.schema next names rest) (all_least before h rest parts seen named is are (pairs_of_keys h.0 seen named keys) (all_said h.0 seen named keys)) more.0,
        more.1,
      )

  nothing_seen : IsSeen world.schema [] finmap.empty
  nothing_seen = record { from = λ k g e. none_some g (sym (get-empty key_cmp k) ∙ e); all = λ i e k s t. none_some e s }

  -- the key of the verdict has its name from the start
  named_at_first : (v : Verdict) (k : Key) → has (key_of_verdict v) k ≡ is_of_key k v
  named_at_first (Shared g h key) k = name_one finmap.empty key k h ∙ ap (λ b. key_eq k key || b) (ap is_some (get-empty key_cmp k)) ∙ same (key_eq k key)
    where
      same : (b : Bool) → (b || false) ≡ b
      same true = refl
      same false = refl
  named_at_first _ k = ap is_some (get-empty key_cmp k)

-- ---- no key twice

-- it is reported of a key that has no name
record IsNew (named : FirstTouch) (v : Verdict) : Type 0 where
  pub g : Gtid
  pub h : Gtid
  pub key : Key
  pub is : v ≡ Shared g h key
  pub new : has named key ≡ false

new_key : (named : FirstTouch) (k key : Key) (b : Bool) → key_eq k key ≡ b → has named key ≡ false → has named k ≡ true → b ≡ false
new_key named k key true e n p = let never : false ≡ true = sym n ∙ ap (has named) (sym (key_eq_same k key e)) ∙ p in cc
new_key named k key false e n p = refl

-- nothing is reported of a key that has a name
none_again : (named : FirstTouch) (vs : List Verdict) (k : Key) → AllByRecursion (IsNew named) vs → has named k ≡ true → list_any (is_of_key k) vs ≡ false
none_again named [] k s p = refl
none_again named (v ∷ vs) k s p =
    let n = s.0 in
    λ i. (ap (is_of_key k) n.is ∙ new_key named k n.key (key_eq k n.key) refl n.new p) i || none_again named vs k s.1 p i

new_still : (o : Option Verdict) (h : Gtid) (key : Key) (named : FirstTouch) (vs : List Verdict) → AllByRecursion (IsNew (with_name o h key named)) vs → AllByRecursion (IsNew named) vs
new_still o h key named [] s = tt
new_still o h key named (v ∷ vs) s =
    let n = s.0 in
    (record { g = n.g; h = n.h; key = n.key; is = n.is; new = name_kept o h key n.key named n.new }, new_still o h key named vs s.1)

abbrev OnceAndNew : FirstTouch → List Verdict → Type 0
OnceAndNew named vs = AreOnce vs × AllByRecursion (IsNew named) vs

once_with : (h : Gtid) (seen named : FirstTouch) (key : Key) (o : Option Verdict) (vs ys : List Verdict) → pair_of_key h seen named key ≡ o → OnceAndNew (with_name o h key named) (vs ++ ys) → OnceAndNew named (with_pair o vs ++ ys)
once_with h seen named key None vs ys e s = s
once_with h seen named key (Some v) vs ys e s =
    let p = says_by h key (has named key) (finmap.get seen key) v e in
    let named_now : has (finmap.insert named key h) key ≡ true = name_one named key key h ∙ or_left (key_eq key key) (has named key) (key_eq_self key) in
    let again : is_again v (vs ++ ys) ≡ false = ap (λ (x : Verdict). is_again x (vs ++ ys)) p.4 ∙ none_again (finmap.insert named key h) (vs ++ ys) key s.1 named_now in
    ((again, s.0), (record { g = p.1; h = h; key = key; is = p.4; new = p.0 }, new_still (Some v) h key named (vs ++ ys) s.1))

once_keys : (h : Gtid) (seen named : FirstTouch) (keys : List Key) (ys : List Verdict) → OnceAndNew (named_by_keys h seen named keys) ys → OnceAndNew named (pairs_of_keys h seen named keys ++ ys)
once_keys h seen named [] ys s = s
once_keys h seen named (key ∷ keys) ys s =
    let o = pair_of_key h seen named key in
    once_with h seen named key o (pairs_of_keys h seen (with_name o h key named) keys) ys refl (once_keys h seen (with_name o h key named) keys ys s)

once_from : (schema : List Table) (seen named : FirstTouch) (es : List history.Entry) → OnceAndNew named (pairs_from schema seen named es)
once_from schema seen named [] = (tt, tt)
once_from schema seen named (h ∷ es) =
    let keys = write_set schema h.1 in
    once_keys h.0 seen named keys (pairs_from schema (touched_by h.0 keys seen) (named_by_keys h.0 seen named keys) es) (once_from schema (touched_by h.0 keys seen) (named_by_keys h.0 seen named keys) es)

not_of_verdict : (v : Verdict) (vs : List Verdict) → AllByRecursion (IsNew (key_of_verdict v)) vs → is_again v vs ≡ false
not_of_verdict (Shared g h key) vs s = none_again (key_of_verdict (Shared g h key)) vs key s (name_one finmap.empty key key h ∙ or_left (key_eq key key) (has finmap.empty key) (key_eq_self key))
not_of_verdict _ vs s = refl

-- ---- every other shared key

pub others_named : (world : World) (v : Verdict) → AreOtherKeys world v (other_pairs world v)
others_named world v =
    let passed = goes_on world [] (finmap.entries world.contents) finmap.empty (key_of_verdict v) refl (nothing_seen world) (λ i j a b k p q l ta tb. none_some a p) in
    let once = once_from world.schema finmap.empty (key_of_verdict v) (finmap.entries world.contents) in
    record {
      named = passed.0;
      every = λ a b k s.
          let p = content_at world a s.t s.first in
          let q = content_at world b s.u s.second in
          let both = conflict_at_both world.schema s.t s.u k s.conflict in
          ap (λ c. c || list_any (is_of_key k) (other_pairs world v)) (sym (named_at_first world v k))
          ∙ sym (names_all world.schema finmap.empty (key_of_verdict v) (finmap.entries world.contents) k)
          ∙ passed.1 p.0 q.0 (a, s.t) (b, s.u) k p.1 q.1 s.smaller both.0 both.1;
      once = (not_of_verdict v (other_pairs world v) once.1, once.0);
    }
