-- Merged lists of spans: what comes first, what follows, and a span at the end.
use Rattle.std.proofs.Common.{[], Some, length, suc, get_or, set, ◌≡◌, ◌≤◌, ◌+◌, ◌-◌, ℕ, Bool, true, false, not, ◌&&◌, ◌||◌, nat_le, List, ◌∷◌, ◌++◌, refl, sym, ap, subst, ◌∙◌, arith, max}
use Rattle.std.specs.List.{list_all, list_any, slice_get}
use Rattle.std.proofs.lemmas.List.{get_or_at, set_at}
use Rattle.std.proofs.lemmas.Bool.Decides.{nat_tests}
use Rattle.std.proofs.lemmas.List.Folds.{list_any-append, list_all-append}
use Rattle.gtid_text.specs.declared.Gtid.{Gtid}
use Rattle.gtid_text.specs.declared.Span.{Span}
use Rattle.gtid_set.specs.Sets.{gtid}
use Rattle.gtid_set.specs.Spans.{is_before, ends_before, is_merged, has}
use Rattle.gtid_set.specs.Sweep.{Joins, TakesFirst, all_start_by, all_before, all_reach, is_sorted, is_met, start_of, within, is_from}
use Rattle.std.proofs.lemmas.Bool.{and_parts, and_from}
use Rattle.lemmas.proofs.Tests.{or_assoc, or_swap}

pub before_trans : (s t u : Span) → is_before s t ≡ true → nat_le t.lo t.hi ≡ true → is_before t u ≡ true → is_before s u ≡ true
before_trans s t u a b c = grind (arith, nat_tests)

-- what each passes, if each passes something stronger
pub all_weaker : {X : Type 0} (p q : X → Bool) (xs : List X) → ((x : X) → p x ≡ true → q x ≡ true) → list_all p xs ≡ true → list_all q xs ≡ true
all_weaker p q [] h all = refl
all_weaker p q (x ∷ xs) h all = let w = and_parts (p x) (list_all p xs) all in and_from (q x) (list_all q xs) (h x w.0) (all_weaker p q xs h w.1)

pub all_weaker2 : {X : Type 0} (o p q : X → Bool) (xs : List X) → ((x : X) → o x ≡ true → p x ≡ true → q x ≡ true) → list_all o xs ≡ true → list_all p xs ≡ true → list_all q xs ≡ true
all_weaker2 o p q [] h a b = refl
all_weaker2 o p q (x ∷ xs) h a b =
    let v = and_parts (o x) (list_all o xs) a in
    let w = and_parts (p x) (list_all p xs) b in
    and_from (q x) (list_all q xs) (h x v.0 w.0) (all_weaker2 o p q xs h v.1 w.1)

pub all_push : {X : Type 0} (p : X → Bool) (xs : List X) (y : X) → list_all p xs ≡ true → p y ≡ true → list_all p (xs ++ y ∷ []) ≡ true
all_push p [] y a b = and_from (p y) true b refl
all_push p (x ∷ xs) y a b = let w = and_parts (p x) (list_all p xs) a in and_from (p x) (list_all p (xs ++ y ∷ [])) w.0 (all_push p xs y w.1 b)

pub all_pushed : {X : Type 0} (p : X → Bool) (xs : List X) (y : X) → list_all p (xs ++ y ∷ []) ≡ true → (list_all p xs ≡ true) × (p y ≡ true)
all_pushed p [] y a = (refl, (and_parts (p y) true a).0)
all_pushed p (x ∷ xs) y a =
    let w = and_parts (p x) (list_all p (xs ++ y ∷ [])) a in
    let v = all_pushed p xs y w.1 in
    (and_from (p x) (list_all p xs) w.0 v.0, v.1)

-- none passes, if each fails
pub any_none : {X : Type 0} (p q : X → Bool) (xs : List X) → ((x : X) → q x ≡ true → p x ≡ false) → list_all q xs ≡ true → list_any p xs ≡ false
any_none p q [] h a = refl
any_none p q (x ∷ xs) h a = let w = and_parts (q x) (list_all q xs) a in ap (λ b. b || list_any p xs) (h x w.0) ∙ any_none p q xs h w.1

-- what the first of a merged list is
pub record IsHead (s : Span) (ss : List Span) : Type 0 where
  pub filled : s.lo ≤ s.hi
  pub after : list_all (is_before s) ss ≡ true
  pub tail : is_merged ss ≡ true

pub merged_head : (s : Span) (ss : List Span) → is_merged (s ∷ ss) ≡ true → IsHead s ss
merged_head s ss h =
    let a = and_parts (nat_le s.lo s.hi) (list_all (is_before s) ss && is_merged ss) h in
    let b = and_parts (list_all (is_before s) ss) (is_merged ss) a.1 in
    let le : nat_le s.lo s.hi ≡ true = a.0 in
    record { filled = grind (arith, nat_tests); after = b.0; tail = b.1 }

pub merged_cons : (s : Span) (ss : List Span) → IsHead s ss → is_merged (s ∷ ss) ≡ true
merged_cons s ss h =
    let f = h.filled in
    let le : nat_le s.lo s.hi ≡ true = grind (arith, nat_tests) in
    and_from (nat_le s.lo s.hi) (list_all (is_before s) ss && is_merged ss) le (and_from (list_all (is_before s) ss) (is_merged ss) h.after h.tail)

pub merged_filled : (ss : List Span) → is_merged ss ≡ true → list_all (λ s. nat_le s.lo s.hi) ss ≡ true
merged_filled [] h = refl
merged_filled (s ∷ ss) h =
    let a = and_parts (nat_le s.lo s.hi) (list_all (is_before s) ss && is_merged ss) h in
    and_from (nat_le s.lo s.hi) (list_all (λ s. nat_le s.lo s.hi) ss) a.0 (merged_filled ss (merged_head s ss h).tail)

-- a list is merged with one span more at its end
pub merged_push : (ss : List Span) (t : Span) → is_merged ss ≡ true → all_before ss t ≡ true → t.lo ≤ t.hi → is_merged (ss ++ t ∷ []) ≡ true
merged_push [] t m b f = merged_cons t [] (record { filled = f; after = refl; tail = refl })
merged_push (s ∷ ss) t m b f =
    let h = merged_head s ss m in
    let w = and_parts (is_before s t) (all_before ss t) b in
    merged_cons s (ss ++ t ∷ []) (record { filled = h.filled; after = all_push (is_before s) ss t h.after w.0; tail = merged_push ss t h.tail w.1 f })

pub record IsPushed (ss : List Span) (t : Span) : Type 0 where
  pub merged : is_merged ss ≡ true
  pub before : all_before ss t ≡ true
  pub filled : t.lo ≤ t.hi

pub merged_pushed : (ss : List Span) (t : Span) → is_merged (ss ++ t ∷ []) ≡ true → IsPushed ss t
merged_pushed [] t m = record { merged = refl; before = refl; filled = (merged_head t [] m).filled }
merged_pushed (s ∷ ss) t m =
    let h = merged_head s (ss ++ t ∷ []) m in
    let a = all_pushed (is_before s) ss t h.after in
    let r = merged_pushed ss t h.tail in
    record {
      merged = merged_cons s ss (record { filled = h.filled; after = a.0; tail = r.merged });
      before = and_from (is_before s t) (all_before ss t) a.1 r.before;
      filled = r.filled;
    }

pub has_push : (ss : List Span) (t : Span) (q : Gtid) → has (ss ++ t ∷ []) q ≡ (has ss q || within t q)
has_push ss t q = list_any-append (λ s. within s q) ss (t ∷ []) ∙ ap (λ b. has ss q || b) (or-false (within t q))
  where
    or-false : (a : Bool) → (a || false) ≡ a
    or-false true = refl
    or-false false = refl

-- a GTID in the first span of a merged list, or before it, is in no later one
pub has_later : (s : Span) (ss : List Span) (q : Gtid) → list_all (is_before s) ss ≡ true → is_from q (gtid s.source (s.hi + 1)) ≡ true → has ss q ≡ false
has_later s ss q all h = any_none (λ t. within t q) (is_before s) ss (λ t b. later t b h) all
  where
    later : (t : Span) → is_before s t ≡ true → is_from q (gtid s.source (s.hi + 1)) ≡ true → within t q ≡ false
    later t b h = grind (arith, nat_tests)

-- `skip` goes past a span
pub skip_over : (first t : Span) (more : List Span) (q : Gtid) → ends_before (start_of t) first ≡ true → is_from (start_of t) q ≡ true → has (first ∷ more) q ≡ has more q
skip_over first t more q e f = ap (λ b. b || has more q) (outside first t q e f)
  where
    outside : (first t : Span) (q : Gtid) → ends_before (start_of t) first ≡ true → is_from (start_of t) q ≡ true → within first q ≡ false
    outside first t q e f = grind (arith, nat_tests)

-- none of a merged list ends before a span, if its first does not
pub reach_all : (first t : Span) (more : List Span) → is_merged (first ∷ more) ≡ true → ends_before (start_of t) first ≡ false → all_reach t (first ∷ more) ≡ true
reach_all first t more m e =
    let h = merged_head first more m in
    and_from (not (ends_before (start_of t) first)) (all_reach t more) (ap not e) (all_weaker2 (λ s. nat_le s.lo s.hi) (is_before first) (λ s. not (ends_before (start_of t) s)) more (λ s f b. reaches s f b e) (merged_filled more h.tail) h.after)
  where
    reaches : (s : Span) → nat_le s.lo s.hi ≡ true → is_before first s ≡ true → ends_before (start_of t) first ≡ false → not (ends_before (start_of t) s) ≡ true
    reaches s f b e = grind (arith, nat_tests)

-- a span after the last of a merged list is after all of it
pub last_before : (ss : List Span) (l t : Span) → is_merged (ss ++ l ∷ []) ≡ true → is_before l t ≡ true → all_before (ss ++ l ∷ []) t ≡ true
last_before ss l t m b =
    let p = merged_pushed ss l m in
    let f = p.filled in
    let le : nat_le l.lo l.hi ≡ true = grind (arith, nat_tests) in
    all_push (λ s. is_before s t) ss l (all_weaker (λ s. is_before s l) (λ s. is_before s t) ss (λ s h. before_trans s l t h le b) p.before) b

pub from_itself : (q : Gtid) → is_from q q ≡ true
from_itself q = grind (arith, nat_tests)

-- a span that is put at the end
pub joins_end : (ss : List Span) (t : Span) → is_merged ss ≡ true → all_before ss t ≡ true → t.lo ≤ t.hi → all_start_by ss t ≡ true → Joins ss t (ss ++ t ∷ [])
joins_end ss t m b f o = record {
  merged = merged_push ss t m b f;
  order = all_push (λ s. is_from (start_of s) (start_of t)) ss t o (from_itself (start_of t));
  has = λ q. has_push ss t q;
}

-- the last span made longer
abbrev pub longer : Span → ℕ → Span
longer l hi = record { source = l.source; lo = l.lo; hi = hi }

-- a span that goes on where the last one ends, or inside it
pub joins_last : (ss : List Span) (l t : Span) → is_merged (ss ++ l ∷ []) ≡ true → all_start_by (ss ++ l ∷ []) t ≡ true → t.lo ≤ t.hi → is_before l t ≡ false → Joins (ss ++ l ∷ []) t (ss ++ longer l (max l.hi t.hi) ∷ [])
joins_last ss l t m o f b =
    let p = merged_pushed ss l m in
    let v = all_pushed (λ s. is_from (start_of s) (start_of t)) ss l o in
    record {
      merged = merged_push ss (longer l (max l.hi t.hi)) p.merged p.before (at_most l.lo l.hi t.hi p.filled);
      order = all_push (λ s. is_from (start_of s) (start_of t)) ss (longer l (max l.hi t.hi)) v.0 v.1;
      has = λ q.
          has_push ss (longer l (max l.hi t.hi)) q
          ∙ ap (λ b. has ss q || b) (one_more l t q v.1 b f p.filled)
          ∙ or_assoc (has ss q) (within l q) (within t q)
          ∙ ap (λ b. b || within t q) (sym (has_push ss l q));
    }
  where
    at_most : (lo hi n : ℕ) → lo ≤ hi → lo ≤ max hi n
    at_most lo hi n h = grind (arith, nat_tests)

    one_more : (l t : Span) (q : Gtid) → is_from (start_of l) (start_of t) ≡ true → is_before l t ≡ false → t.lo ≤ t.hi → l.lo ≤ l.hi → within (longer l (max l.hi t.hi)) q ≡ (within l q || within t q)
    one_more l t q v b f g = grind (arith, nat_tests)

pub joins_at : (xs xs' ys ys' : List Span) (t : Span) → xs ≡ xs' → ys ≡ ys' → Joins xs' t ys' → Joins xs t ys
joins_at xs xs' ys ys' t p q j = subst (λ a. Joins a t ys) (sym p) (subst (λ b. Joins xs' t b) (sym q) j)

-- what a list ends with
pub record IsLast (xs : List Span) (l : Span) : Type 0 where
  pub front : List Span
  pub parts : xs ≡ front ++ l ∷ []

pub last_got : (xs : List Span) (l : Span) → slice_get xs (length xs - 1) ≡ Some l → IsLast xs l
last_got [] l e = absurd cc
last_got (x ∷ []) l e = record { front = []; parts = let same : x ≡ l = cc in ap (λ y. y ∷ []) same }
last_got (x ∷ y ∷ ys) l e =
    let step : slice_get (x ∷ y ∷ ys) (length (x ∷ y ∷ ys) - 1) ≡ slice_get (y ∷ ys) (length (y ∷ ys) - 1) = ap (slice_get (x ∷ y ∷ ys)) (one_less (length ys)) in
    let r = last_got (y ∷ ys) l (sym step ∙ e) in
    record { front = x ∷ r.front; parts = ap (λ zs. x ∷ zs) r.parts }
  where
    one_less : (n : ℕ) → suc (suc n) - 1 ≡ suc (suc n - 1)
    one_less n = omega arith

-- a write to the last span
pub joins_set : (xs front : List Span) (l x t : Span) (k hi : ℕ) → xs ≡ front ++ l ∷ [] → k ≡ length front → x ≡ get_or xs k x → hi ≡ max l.hi t.hi
    → is_merged xs ≡ true → all_start_by xs t ≡ true → t.lo ≤ t.hi → is_before l t ≡ false → Joins xs t (set xs k (longer x hi))
joins_set xs front l x t k hi e at read top m o f b =
    let same : x ≡ l = read ∙ ap (λ zs. get_or zs k x) e ∙ get_or_at front l [] x k (sym at) in
    let made = joins_last front l t (sym (ap is_merged e) ∙ m) (sym (ap (λ zs. all_start_by zs t) e) ∙ o) f b in
    joins_at xs (front ++ l ∷ []) (set xs k (longer x hi)) (front ++ longer l (max l.hi t.hi) ∷ []) t e
    ((λ i. set (e i) k (longer (same i) (top i))) ∙ set_at front l [] (longer l (max l.hi t.hi)) k (sym at)) made

-- nothing of a span is in a list that it reaches and whose first it doesn't meet
pub apart_after : (spans : List Span) (first t : Span) (more : List Span) → spans ≡ first ∷ more → is_merged spans ≡ true → all_reach t spans ≡ true → is_met first t ≡ false
    → (q : Gtid) → within t q ≡ true → has spans q ≡ false
apart_after spans first t more e m r n q w =
    let h = merged_head first more (sym (ap is_merged e) ∙ m) in
    let v = and_parts (not (ends_before (start_of t) first)) (all_reach t more) (sym (ap (all_reach t) e) ∙ r) in
    ap (λ ss. has ss q) e
    ∙ ap (λ b. b || has more q) (outside v.0 n w)
    ∙ any_none (λ s. within s q) (is_before first) more (λ s b. later s b v.0 n w) h.after
  where
    outside : not (ends_before (start_of t) first) ≡ true → is_met first t ≡ false → within t q ≡ true → within first q ≡ false
    outside a b c = grind (arith, nat_tests)

    later : (s : Span) → is_before first s ≡ true → not (ends_before (start_of t) first) ≡ true → is_met first t ≡ false → within t q ≡ true → within s q ≡ false
    later s d a b c = grind (arith, nat_tests)

pub from_trans : (p q r : Gtid) → is_from p q ≡ true → is_from q r ≡ true → is_from p r ≡ true
from_trans p q r a b = grind (arith, nat_tests)

pub from_other : (p q : Gtid) → is_from p q ≡ false → is_from q p ≡ true
from_other p q a = grind (arith, nat_tests)

-- all of an ascending list is from a GTID on, if its first is
pub all_later : (g : Gtid) (s : Span) (ss : List Span) → is_from g (start_of s) ≡ true → is_sorted (s ∷ ss) ≡ true → list_all (λ t. is_from g (start_of t)) (s ∷ ss) ≡ true
all_later g s ss a r =
    let v = and_parts (list_all (λ t. is_from (start_of s) (start_of t)) ss) (is_sorted ss) r in
    and_from (is_from g (start_of s)) (list_all (λ t. is_from g (start_of t)) ss) a
    (all_weaker (λ t. is_from (start_of s) (start_of t)) (λ t. is_from g (start_of t)) ss (λ t h. from_trans g (start_of s) (start_of t) a h) v.0)

pub takes_left : (left right : List Span) (a : Span) (more : List Span) → left ≡ a ∷ more → is_sorted left ≡ true → is_sorted right ≡ true → list_all (λ t. is_from (start_of a) (start_of t)) right ≡ true → TakesFirst left right a more right
takes_left left right a more e l r later =
    let v = and_parts (list_all (λ t. is_from (start_of a) (start_of t)) more) (is_sorted more) (sym (ap is_sorted e) ∙ l) in
    let long = ap length e in
    record {
      any = λ p. ap (λ ss. list_any p ss || list_any p right) e ∙ sym (or_assoc (p a) (list_any p more) (list_any p right));
      left_rises = v.1;
      right_rises = r;
      left_later = v.0;
      right_later = later;
      shorter = omega (arith, long);
    }

pub takes_right : (left right : List Span) (b : Span) (more : List Span) → right ≡ b ∷ more → is_sorted left ≡ true → is_sorted right ≡ true → list_all (λ t. is_from (start_of b) (start_of t)) left ≡ true → TakesFirst left right b left more
takes_right left right b more e l r later =
    let v = and_parts (list_all (λ t. is_from (start_of b) (start_of t)) more) (is_sorted more) (sym (ap is_sorted e) ∙ r) in
    let long = ap length e in
    record {
      any = λ p. ap (λ ss. list_any p left || list_any p ss) e ∙ or_swap (list_any p left) (p b) (list_any p more);
      left_rises = l;
      right_rises = v.1;
      left_later = later;
      right_later = v.0;
      shorter = omega (arith, long);
    }

pub all_true : {X : Type 0} (p : X → Bool) (xs : List X) → ((x : X) → p x ≡ true) → list_all p xs ≡ true
all_true p [] h = refl
all_true p (x ∷ xs) h = and_from (p x) (list_all p xs) (h x) (all_true p xs h)

-- what is true of all spans of two lists is true of the one taken and of what is left
pub takes_all : (left right : List Span) (x : Span) (l r : List Span) → TakesFirst left right x l r → (q : Span → Bool) → list_all q left ≡ true → list_all q right ≡ true
    → (q x ≡ true) × (list_all q l ≡ true) × (list_all q r ≡ true)
takes_all left right x l r takes q a b =
    let none : (list_any (λ s. not (q s)) left || list_any (λ s. not (q s)) right) ≡ false = λ i. none_fails q left a i || none_fails q right b i in
    let parts = neither (not (q x)) (list_any (λ s. not (q s)) l || list_any (λ s. not (q s)) r) (sym (takes.any (λ s. not (q s))) ∙ none) in
    let lists = neither (list_any (λ s. not (q s)) l) (list_any (λ s. not (q s)) r) parts.1 in
    (not_false (q x) parts.0, none_left q l lists.0, none_left q r lists.1)
  where
    neither : (a b : Bool) → (a || b) ≡ false → (a ≡ false) × (b ≡ false)
    neither true b h = absurd cc
    neither false b h = (refl, h)

    not_false : (a : Bool) → not a ≡ false → a ≡ true
    not_false true h = refl
    not_false false h = absurd cc

    none_fails : {X : Type 0} (q : X → Bool) (xs : List X) → list_all q xs ≡ true → list_any (λ s. not (q s)) xs ≡ false
    none_fails q xs h = any_none (λ s. not (q s)) q xs (λ s e. ap not e) h

    none_left : {X : Type 0} (q : X → Bool) (xs : List X) → list_any (λ s. not (q s)) xs ≡ false → list_all q xs ≡ true
    none_left q [] h = refl
    none_left q (s ∷ ss) h = let w = neither (not (q s)) (list_any (λ s. not (q s)) ss) h in and_from (q s) (list_all q ss) (not_false (q s) w.0) (none_left q ss w.1)

-- what is true of no span
pub record IsNothing (out : List Span) : Type 0 where
  pub merged : is_merged out ≡ true
  pub starts : (ss : List Span) → list_all (all_start_by out) ss ≡ true
  pub before : (ss : List Span) → list_all (all_before out) ss ≡ true
  pub none : (q : Gtid) → has out q ≡ false

pub nothing : (out : List Span) → out ≡ [] → IsNothing out
nothing out e = record {
  merged = ap is_merged e;
  starts = λ ss. all_true (all_start_by out) ss (λ s. ap (λ o. all_start_by o s) e);
  before = λ ss. all_true (all_before out) ss (λ s. ap (λ o. all_before o s) e);
  none = λ q. ap (λ o. has o q) e;
}

-- what starts by a span starts by the later ones
pub starts_later : (out : List Span) (x : Span) (ss : List Span) → all_start_by out x ≡ true → list_all (λ t. is_from (start_of x) (start_of t)) ss ≡ true → list_all (all_start_by out) ss ≡ true
starts_later out x ss o later =
    all_weaker (λ t. is_from (start_of x) (start_of t)) (all_start_by out) ss
    (λ t h. all_weaker (λ s. is_from (start_of s) (start_of x)) (λ s. is_from (start_of s) (start_of t)) out (λ s k. from_trans (start_of s) (start_of x) (start_of t) k h) o) later

-- a span goes from the lists to the result
pub moved : (o o' w a b l r g : Bool) → o' ≡ (o || w) → (a || b) ≡ (w || (l || r)) → (o || (a || b)) ≡ g → (o' || (l || r)) ≡ g
moved o o' w a b l r g e f h = ap (λ x. x || (l || r)) e ∙ sym (or_assoc o w (l || r)) ∙ ap (λ x. o || x) (sym f) ∙ h

pub all_parts : {X : Type 0} (p : X → Bool) (xs ys : List X) → list_all p (xs ++ ys) ≡ true → (list_all p xs ≡ true) × (list_all p ys ≡ true)
all_parts p xs ys h = and_parts (list_all p xs) (list_all p ys) (sym (list_all-append p xs ys) ∙ h)

pub all_joined : {X : Type 0} (p : X → Bool) (xs ys : List X) → list_all p xs ≡ true → list_all p ys ≡ true → list_all p (xs ++ ys) ≡ true
all_joined p xs ys a b = list_all-append p xs ys ∙ and_from (list_all p xs) (list_all p ys) a b

-- the parts of a merged list
pub merged_front : (xs ys : List Span) → is_merged (xs ++ ys) ≡ true → is_merged xs ≡ true
merged_front [] ys m = refl
merged_front (x ∷ xs) ys m =
    let h = merged_head x (xs ++ ys) m in
    merged_cons x xs (record { filled = h.filled; after = (all_parts (is_before x) xs ys h.after).0; tail = merged_front xs ys h.tail })

pub merged_back : (xs ys : List Span) → is_merged (xs ++ ys) ≡ true → is_merged ys ≡ true
merged_back [] ys m = m
merged_back (x ∷ xs) ys m = merged_back xs ys (merged_head x (xs ++ ys) m).tail

-- a prefix is before the back of a merged list
pub front_before_back : (xs ys : List Span) → is_merged (xs ++ ys) ≡ true → list_all (λ x. list_all (is_before x) ys) xs ≡ true
front_before_back [] ys m = refl
front_before_back (x ∷ xs) ys m =
    let h = merged_head x (xs ++ ys) m in
    and_from (list_all (is_before x) ys) (list_all (λ x. list_all (is_before x) ys) xs) (all_parts (is_before x) xs ys h.after).1 (front_before_back xs ys h.tail)

-- a span between a prefix and a back
pub merged_mid : (xs : List Span) (t : Span) (ys : List Span) → is_merged xs ≡ true → is_merged ys ≡ true → t.lo ≤ t.hi → all_before xs t ≡ true → list_all (is_before t) ys ≡ true → is_merged (xs ++ t ∷ ys) ≡ true
merged_mid [] t ys a b f c d = merged_cons t ys (record { filled = f; after = d; tail = b })
merged_mid (x ∷ xs) t ys a b f c d =
    let h = merged_head x xs a in
    let w = and_parts (is_before x t) (all_before xs t) c in
    let le : nat_le t.lo t.hi ≡ true = grind (arith, nat_tests) in
    merged_cons x (xs ++ t ∷ ys) (record {
      filled = h.filled;
      after = all_joined (is_before x) xs (t ∷ ys) h.after (and_from (is_before x t) (list_all (is_before x) ys) w.0 (all_weaker (is_before t) (is_before x) ys (λ s k. before_trans x t s w.0 le k) d));
      tail = merged_mid xs t ys h.tail b f w.1 d;
    })

-- a merged list rises
pub merged_rises : (ss : List Span) → is_merged ss ≡ true → is_sorted ss ≡ true
merged_rises [] m = refl
merged_rises (s ∷ ss) m =
    let h = merged_head s ss m in
    and_from (list_all (λ t. is_from (start_of s) (start_of t)) ss) (is_sorted ss) (all_weaker (is_before s) (λ t. is_from (start_of s) (start_of t)) ss (λ t b. later t b h.filled) h.after) (merged_rises ss h.tail)
  where
    later : (t : Span) → is_before s t ≡ true → s.lo ≤ s.hi → is_from (start_of s) (start_of t) ≡ true
    later t b f = grind (arith, nat_tests)

-- all of a merged list is after what its first is after
pub all_after : (t s : Span) (more : List Span) → IsHead s more → is_before t s ≡ true → list_all (is_before t) (s ∷ more) ≡ true
all_after t s more h b =
    let f = h.filled in
    let le : nat_le s.lo s.hi ≡ true = grind (arith, nat_tests) in
    and_from (is_before t s) (list_all (is_before t) more) b (all_weaker (is_before s) (is_before t) more (λ u k. before_trans t s u b le k) h.after)
