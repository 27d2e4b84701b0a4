-- A walk along a list.
use Rattle.std.proofs.Common.{◌≡◌, ℕ, ◌+◌, ◌*◌, ◌<◌, ◌≤◌, List, [], ◌∷◌, ◌++◌, length, map, Option, Some, None, refl, sym, ap, ◌∙◌, arith, length-append, append_assoc}
use Rattle.std.specs.List.{AllByRecursion}
use Rattle.std.proofs.lemmas.List.{map-append, length-map, append-nil}
use Rattle.interval_pool.specs.declared.interval.Interval.{Interval}
use Rattle.interval_pool.specs.Values.{Held, PoolValue, cells_of, spans, first_cell, Follows, Covers, IsAlong}

pub along_first : (p : PoolValue) (l : ℕ) (next : Option ℕ) → next ≡ first_cell (cells_of p l) → IsAlong p l [] next
along_first p l next is = record { before = []; behind = cells_of p l; parts = refl; seen_is = refl; next_is = is }

-- cells that begin with one
held_first : (hs : List Held) (i : ℕ) → Some i ≡ first_cell hs → (h : Held) × ((rest : List Held) × ((hs ≡ h ∷ rest) × (h.cell ≡ i)))
held_first [] i e = absurd (cc)
held_first (h ∷ hs) i e = (h, (hs, (refl, (cc))))

pub along_next : (p : PoolValue) (l i : ℕ) (seen : List Interval) (here next : Option ℕ) (s : Interval) → IsAlong p l seen here → here ≡ Some i → Follows p i next → Covers p i s → IsAlong p l (seen ++ s ∷ []) next
along_next p l i seen here next s a at follows covered =
    let first = held_first a.behind i (sym at ∙ a.next_is) in
    let h : Held = first.0 in
    let rest : List Held = first.1.0 in
    let parts : cells_of p l ≡ a.before ++ h ∷ rest = a.parts ∙ ap (λ hs. a.before ++ hs) first.1.1.0 in
    let same : s ≡ h.numbers = covered l a.before h rest parts first.1.1.1 in
    record {
      before = a.before ++ h ∷ [];
      behind = rest;
      parts = parts ∙ sym (append_assoc a.before (h ∷ []) rest);
      seen_is = (λ j. a.seen_is j ++ same j ∷ []) ∙ sym (map-append (λ (g : Held). g.numbers) a.before (h ∷ []));
      next_is = follows l a.before h rest parts first.1.1.1;
    }

none_left : (hs : List Held) → None ≡ first_cell hs → hs ≡ []
none_left [] e = refl
none_left (h ∷ hs) e = absurd (cc)

pub along_end : (p : PoolValue) (l : ℕ) (seen : List Interval) (next : Option ℕ) → IsAlong p l seen next → next ≡ None → seen ≡ spans p l
along_end p l seen next a is =
    let none = none_left a.behind (sym is ∙ a.next_is) in
    a.seen_is ∙ ap (map (λ (g : Held). g.numbers)) (sym (a.parts ∙ (ap (λ hs. a.before ++ hs) none ∙ append-nil a.before)))

no_more : (hs : List Held) → length hs ≤ 0 → hs ≡ []
no_more [] le = refl
no_more (h ∷ hs) le = absurd (omega (le, arith))

-- as many were seen as there are
pub along_all : (p : PoolValue) (l : ℕ) (seen : List Interval) (next : Option ℕ) → IsAlong p l seen next → length (cells_of p l) ≤ length seen → seen ≡ spans p l
along_all p l seen next a all =
    let parts = ap length a.parts in
    let size = length-append a.before a.behind in
    let count = ap length a.seen_is in
    let same = length-map a.before (λ (g : Held). g.numbers) in
    let none = no_more a.behind (omega (parts, size, count, same, all, arith)) in
    a.seen_is ∙ ap (map (λ (g : Held). g.numbers)) (sym (a.parts ∙ (ap (λ hs. a.before ++ hs) none ∙ append-nil a.before)))

-- ---- pairs of numbers, one after another

pub pairs_before : (i : ℕ) (ss : List Interval) → AllByRecursion (λ t. t.hi < 3 * i) ss → AllByRecursion (λ t. t.hi + 1 < 3 * i + 1) ss
pairs_before i [] all = tt
pairs_before i (s ∷ ss) all = (let lt = all.0 in omega (lt, arith), pairs_before i ss all.1)

pub pair_more : (i : ℕ) (ss : List Interval) (s : Interval) → s.hi < 3 * (i + 1) → AllByRecursion (λ t. t.hi < 3 * i) ss → AllByRecursion (λ t. t.hi < 3 * (i + 1)) (ss ++ s ∷ [])
pair_more i [] s less all = (less, tt)
pair_more i (t ∷ ts) s less all = (let lt = all.0 in omega (lt, arith), pair_more i ts s less all.1)
