-- One pass over the transactions in the order of GTIDs finds the first pair that shares a key.
use Rattle.std.proofs.Common.{◌≡◌, ℕ, ◌<◌, ◌≤◌, Bool, true, false, cond, ◌&&◌, ◌||◌, inl, inr, List, [], ◌∷◌, ◌++◌, Option, Some, None, refl, sym, ap, ◌∙◌, subst, arith, append_assoc}
use Rattle.std.specs.Prelude.{nat_lt}
use Rattle.std.specs.List.{AllByRecursion}
use Rattle.std.specs.Option.{is_some}
use Rattle.std.specs.FinMap as finmap
use Rattle.std.specs.FinMap.{get-empty, get-insert}
use Rattle.std.specs.declared.cmp.Ordering.TheVariants.{Less}
use Rattle.gtid_text.specs.declared.Gtid.{Gtid}
use Rattle.gtid_text.specs.Gtids.{gtid_cmp}
use Rattle.rows.specs.declared.change.Key.{Key}
use Rattle.rows.specs.declared.schema.Table.{Table}
use Rattle.rows.specs.Order.{key_cmp, key_eq}
use Rattle.rows.specs.Total.{key_total, key_eq_same, key_eq_self}
use Rattle.rows.specs.WriteSet.{write_set, touches, is_among}
use Rattle.history.specs.Sources.{World}
use Rattle.history.specs.Sources as history
use Rattle.history.proofs.Placing.{all_map}
use Rattle.history.proofs.SourceEntries.{IsAscending, rising}
use Rattle.world.specs.declared.verdict.Verdict.{Verdict}
use Rattle.world.specs.declared.verdict.Verdict.TheVariants.{Shared}
use Rattle.world.specs.Search.{or_next, when, first}
use Rattle.world.specs.Folds.{FirstTouch, touched_by, shares_with, shared_from, OnePassShares}
use Rattle.world.proofs.OnePass.{rising_parts, source_le}
use Rattle.rows.specs.Conflicts.{conflicts_at, conflict_at_touched}
use Rattle.std.proofs.lemmas.Bool.{or_left, or_right}

-- ---- searches

next_grouped : {B : Type 0} (a b c : Option B) → or_next (or_next a b) c ≡ or_next a (or_next b c)
next_grouped (Some x) b c = refl
next_grouped None b c = refl

next_nothing : {B : Type 0} (a : Option B) → or_next a None ≡ a
next_nothing (Some x) = refl
next_nothing None = refl

first_parts : {A B : Type 0} (f : A → Option B) (xs ys : List A) → first f (xs ++ ys) ≡ or_next (first f xs) (first f ys)
first_parts f [] ys = refl
first_parts f (x ∷ xs) ys = ap (or_next (f x)) (first_parts f xs ys) ∙ sym (next_grouped (f x) (first f xs) (first f ys))

none_of : {A B : Type 0} (f : A → Option B) (xs : List A) → AllByRecursion (λ x. f x ≡ None) xs → first f xs ≡ None
none_of f [] h = refl
none_of f (x ∷ xs) h = ap (λ o. or_next o (first f xs)) h.0 ∙ none_of f xs h.1

-- ---- the first that touched a key

-- the first of these that touches a key
abbrev first_toucher : List Table → List history.Entry → Key → Option Gtid
first_toucher schema es k = first (λ (g : history.Entry). when (touches schema g.1 k) g.0) es

more_by : (seen : FirstTouch) (key k : Key) (g : Gtid) (b c : Bool) → is_some (finmap.get seen key) ≡ b → key_eq k key ≡ c
    → finmap.get (cond b seen (finmap.insert seen key g)) k ≡ or_next (finmap.get seen k) (when c g)
more_by seen key k g true true has same = stands (finmap.get seen k) (ap (λ x. is_some (finmap.get seen x)) (key_eq_same k key same) ∙ has)
  where
    stands : (o : Option Gtid) → is_some o ≡ true → o ≡ or_next o (Some g)
    stands (Some x) e = refl
    stands None e = cc
more_by seen key k g true false has same = sym (next_nothing (finmap.get seen k))
more_by seen key k g false true has same =
    get-insert key_total seen key g k ∙ (ap (λ t. cond t (Some g) (finmap.get seen k)) same ∙ free (finmap.get seen k) (ap (λ x. is_some (finmap.get seen x)) (key_eq_same k key same) ∙ has))
  where
    free : (o : Option Gtid) → is_some o ≡ false → Some g ≡ or_next o (Some g)
    free (Some x) e = cc
    free None e = refl
more_by seen key k g false false has same =
    get-insert key_total seen key g k ∙ (ap (λ t. cond t (Some g) (finmap.get seen k)) same ∙ sym (next_nothing (finmap.get seen k)))

either_when : {B : Type 0} (a b : Bool) (y : B) → or_next (when a y) (when b y) ≡ when (a || b) y
either_when true b y = refl
either_when false b y = refl

touched : (g : Gtid) (keys : List Key) (seen : FirstTouch) (k : Key) → finmap.get (touched_by g keys seen) k ≡ or_next (finmap.get seen k) (when (is_among keys k) g)
touched g [] seen k = sym (next_nothing (finmap.get seen k))
touched g (key ∷ keys) seen k =
    touched g keys (cond (finmap.contains_key seen key) seen (finmap.insert seen key g)) k
    ∙ (ap (λ o. or_next o (when (is_among keys k) g)) (more_by seen key k g (finmap.contains_key seen key) (key_eq k key) refl refl)
    ∙ (next_grouped (finmap.get seen k) (when (key_eq k key) g) (when (is_among keys k) g)
    ∙ ap (or_next (finmap.get seen k)) (either_when (key_eq k key) (is_among keys k) g)))

-- ---- one transaction

less_or : (a b : ℕ) → (b ≤ a) → nat_lt a b ≡ false
less_or a b h = not_less a b (nat_lt a b) refl h
  where
    not_less : (a b : ℕ) (t : Bool) → nat_lt a b ≡ t → b ≤ a → t ≡ false
    not_less a b true e l = absurd (absurd_less a b e l)
      where
        absurd_less : (a b : ℕ) → nat_lt a b ≡ true → b ≤ a → ⊥
        absurd_less a b e l = grind arith
    not_less a b false e l = refl

source_up : (g h : Gtid) → gtid_cmp g h ≡ Less → g.source ≤ h.source
source_up g h e = elim (source_le g h e) [ inl l ↦ strict g.source h.source l | inr same ↦ equal g.source h.source same ]
  where
    strict : (a b : ℕ) → a < b → a ≤ b
    strict a b l = omega arith

    equal : (a b : ℕ) → a ≡ b → a ≤ b
    equal a b e = omega arith

abbrev shares_at : List Table → history.Entry → Key → history.Entry → Option Verdict
shares_at schema h key g = when (nat_lt g.0.source h.0.source && touches schema g.1 key) (Shared g.0 h.0 key)

-- none whose source is not smaller shares
none_smaller : (schema : List Table) (h : history.Entry) (key : Key) (xs : List history.Entry) → AllByRecursion (λ (g : history.Entry). h.0.source ≤ g.0.source) xs → first (shares_at schema h key) xs ≡ None
none_smaller schema h key xs up = none_of (shares_at schema h key) xs (all_map (λ g. h.0.source ≤ g.0.source) (λ g. shares_at schema h key g ≡ None) xs
    (λ g l. ap (λ b. when (b && touches schema g.1 key) (Shared g.0 h.0 key)) (less_or g.0.source h.0.source l)) up)

le_trans : (a b c : ℕ) → a ≤ b → b ≤ c → a ≤ c
le_trans a b c x y = omega arith

-- of those before, the first that touches the key decides
before_by : (schema : List Table) (h : history.Entry) (key : Key) (g : history.Entry) (es : List history.Entry) (t s : Bool) → touches schema g.1 key ≡ t → nat_lt g.0.source h.0.source ≡ s → AllByRecursion (λ (x : history.Entry). g.0.source ≤ x.0.source) es
    → (first (shares_at schema h key) es ≡ shares_with h.0 key (first_toucher schema es key))
    → or_next (when (s && t) (Shared g.0 h.0 key)) (first (shares_at schema h key) es) ≡ shares_with h.0 key (or_next (when t g.0) (first_toucher schema es key))
before_by schema h key g es true true p q up rest = ap (λ b. when b (Shared g.0 h.0 key)) (sym q)
before_by schema h key g es true false p q up rest =
    none_smaller schema h key es (all_map (λ x. g.0.source ≤ x.0.source) (λ x. h.0.source ≤ x.0.source) es (λ x l. le_trans h.0.source g.0.source x.0.source (not_less g.0.source h.0.source q) l) up)
    ∙ ap (λ b. when b (Shared g.0 h.0 key)) (sym q)
  where
    not_less : (a b : ℕ) → nat_lt a b ≡ false → b ≤ a
    not_less a b e = grind arith
before_by schema h key g es false true p q up rest = rest
before_by schema h key g es false false p q up rest = rest

before_shares : (schema : List Table) (h : history.Entry) (key : Key) (es : List history.Entry) → IsAscending es → first (shares_at schema h key) es ≡ shares_with h.0 key (first_toucher schema es key)
before_shares schema h key [] r = refl
before_shares schema h key (g ∷ es) r =
    before_by schema h key g es (touches schema g.1 key) (nat_lt g.0.source h.0.source) refl refl
    (all_map (λ x. gtid_cmp g.0 x.0 ≡ Less) (λ x. g.0.source ≤ x.0.source) es (λ x l. source_up g.0 x.0 l) r.0) (before_shares schema h key es r.1)

pub rising_front : (xs ys : List history.Entry) → IsAscending (xs ++ ys) → IsAscending xs
rising_front [] ys h = tt
rising_front (x ∷ xs) ys h = (front xs ys h.0, rising_front xs ys h.1)
  where
    front : (xs ys : List history.Entry) → AllByRecursion (λ (f : history.Entry). gtid_cmp x.0 f.0 ≡ Less) (xs ++ ys) → AllByRecursion (λ (f : history.Entry). gtid_cmp x.0 f.0 ≡ Less) xs
    front [] ys h = tt
    front (z ∷ xs) ys h = (h.0, front xs ys h.1)

module _ (schema : List Table) where
  -- a transaction's key against all others
  key_shares : (before : List history.Entry) (h : history.Entry) (later : List history.Entry) (key : Key) → IsAscending (before ++ h ∷ later) → first (shares_at schema h key) (before ++ h ∷ later) ≡ shares_with h.0 key (first_toucher schema before key)
  key_shares before h later key r =
      let parts = rising_parts before h later r in
      let up : AllByRecursion (λ (g : history.Entry). h.0.source ≤ g.0.source) (h ∷ later) = (itself h.0.source, all_map (λ z. gtid_cmp h.0 z.0 ≡ Less) (λ z. h.0.source ≤ z.0.source) later (λ z l. source_up h.0 z.0 l) parts.1) in
      first_parts (shares_at schema h key) before (h ∷ later)
      ∙ (ap (or_next (first (shares_at schema h key) before)) (none_smaller schema h key (h ∷ later) up)
      ∙ (next_nothing (first (shares_at schema h key) before) ∙ before_shares schema h key before (rising_front before (h ∷ later) r)))
    where
      itself : (n : ℕ) → n ≤ n
      itself n = omega arith

  abbrev shares_in : List history.Entry → history.Entry → Option Verdict
  shares_in es h = first (λ key. first (shares_at schema h key) es) (write_set schema h.1)

  -- the pass over what is left
  passes : (before rest : List history.Entry) (seen : FirstTouch) → IsAscending (before ++ rest) → ((k : Key) → finmap.get seen k ≡ first_toucher schema before k)
      → first (shares_in (before ++ rest)) rest ≡ shared_from schema seen rest
  passes before [] seen r inv = refl
  passes before (h ∷ rest) seen r inv =
      let here : shares_in (before ++ h ∷ rest) h ≡ first (λ key. shares_with h.0 key (finmap.get seen key)) (write_set schema h.1) = λ i. first (λ key. (key_shares before h rest key r ∙ ap (shares_with h.0 key) (sym (inv key))) i) (write_set schema h.1) in
      let moved : before ++ h ∷ rest ≡ (before ++ h ∷ []) ++ rest = sym (append_assoc before (h ∷ []) rest) in
      let next : (k : Key) → finmap.get (touched_by h.0 (write_set schema h.1) seen) k ≡ first_toucher schema (before ++ h ∷ []) k = λ k.
      touched h.0 (write_set schema h.1) seen k
      ∙ (ap (λ o. or_next o (when (touches schema h.1 k) h.0)) (inv k)
      ∙ (ap (or_next (first_toucher schema before k)) (sym (next_nothing (when (touches schema h.1 k) h.0))) ∙ sym (first_parts (λ (g : history.Entry). when (touches schema g.1 k) g.0) before (h ∷ [])))) in
      (λ i. or_next (here i) (first (shares_in (moved i)) rest))
      ∙ ap (or_next (first (λ key. shares_with h.0 key (finmap.get seen key)) (write_set schema h.1))) (passes (before ++ h ∷ []) rest (touched_by h.0 (write_set schema h.1) seen) (subst IsAscending moved r) next)

-- Where h has a key, what conflicts with it there is what touches the key.
at_keys : (schema : List Table) (es : List history.Entry) (h : history.Entry) (keys : List Key) → ((key : Key) → is_among keys key ≡ true → touches schema h.1 key ≡ true)
    → first (λ key. first (λ (g : history.Entry). when (nat_lt g.0.source h.0.source && conflicts_at schema g.1 h.1 key) (Shared g.0 h.0 key)) es) keys ≡ first (λ key. first (shares_at schema h key) es) keys
at_keys schema es h [] all = refl
at_keys schema es h (key ∷ keys) all = λ i. or_next
    (first (λ (g : history.Entry). when (nat_lt g.0.source h.0.source && conflict_at_touched schema g.1 h.1 key (all key (or_left (key_eq key key) (is_among keys key) (key_eq_self key))) i) (Shared g.0 h.0 key)) es)
    (at_keys schema es h keys (λ k m. all k (or_right (key_eq k key) (is_among keys k) m)) i)

pub one_pass_shares : OnePassShares
one_pass_shares world =
    (λ i. first (λ (h : history.Entry). at_keys world.schema (finmap.entries world.contents) h (write_set world.schema h.1) (λ key m. m) i) (finmap.entries world.contents))
    ∙ passes world.schema [] (finmap.entries world.contents) finmap.empty (rising world) (λ k. get-empty key_cmp k)
