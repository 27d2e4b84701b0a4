-- A place in a list of a pool.
use Rattle.std.proofs.Common.{◌≡◌, ◌+◌, ◌<◌, ℕ, zero, suc, List, [], ◌∷◌, ◌++◌, length, map, drop, take, Option, Some, None, refl, sym, ap, subst, ◌∙◌, arith}
use Rattle.interval_pool.specs.declared.interval.Interval.{Interval}
use Rattle.interval_pool.specs.Values.{Held, PoolValue, cells_of, spans, first_cell, Follows, Covers}
use Rattle.std.proofs.lemmas.List.{drop-map}
use Rattle.gtid_text.specs.declared.Span.{Span}
use Rattle.gtid_set.specs.declared.sources.SourceList.{SourceList}
use Rattle.gtid_set.specs.declared.cursor.Place.{Place}
use Rattle.gtid_set.specs.Kept.{span_of, spans_of, spans_behind, sources_at, IsPlaceIn, IsAt, IsCursor, cursor_view}

-- the cell at a place of a list, and what lies before and behind
pub record IsHeldAt (hs : List Held) (n i : ℕ) : Type 0 where
  pub held : Held
  pub parts : hs ≡ take n hs ++ held ∷ drop (n + 1) hs
  pub rest : drop n hs ≡ held ∷ drop (n + 1) hs
  pub cell : held.cell ≡ i

held_at : (hs : List Held) (n i : ℕ) → first_cell (drop n hs) ≡ Some i → IsHeldAt hs n i
held_at [] zero i e = absurd cc
held_at [] (suc n) i e = absurd cc
held_at (h ∷ hs) zero i e = record { held = h; parts = refl; rest = refl; cell = cc }
held_at (h ∷ hs) (suc n) i e =
    let r = held_at hs n i e in
    let e : suc (n + 1) ≡ suc n + 1 = omega arith in
    record {
      held = r.held;
      parts = ap (λ xs. h ∷ xs) r.parts ∙ ap (λ k. h ∷ (take n hs ++ r.held ∷ drop k (h ∷ hs))) e;
      rest = r.rest ∙ ap (λ k. r.held ∷ drop k (h ∷ hs)) e;
      cell = r.cell;
    }

-- the interval of a cell is the first after so many
pub interval_here : (p : PoolValue) (l passed cell : ℕ) → first_cell (drop passed (cells_of p l)) ≡ Some cell → (s : Interval) → Covers p cell s → drop passed (spans p l) ≡ s ∷ drop (passed + 1) (spans p l)
interval_here p l passed cell at s covers =
    let r = held_at (cells_of p l) passed cell at in
    let numbers : Held → Interval = λ h. h.numbers in
    drop-map numbers passed (cells_of p l) ∙ ap (map numbers) r.rest
    ∙ (λ i. sym (covers l (take passed (cells_of p l)) r.held (drop (passed + 1) (cells_of p l)) r.parts r.cell) i ∷ sym (drop-map numbers (passed + 1) (cells_of p l)) i)

-- and the cell after it is the first after one more
pub next_here : (p : PoolValue) (l passed cell : ℕ) → first_cell (drop passed (cells_of p l)) ≡ Some cell → (next : Option ℕ) → Follows p cell next → next ≡ first_cell (drop (passed + 1) (cells_of p l))
next_here p l passed cell at next follows =
    let r = held_at (cells_of p l) passed cell at in
    follows l (take passed (cells_of p l)) r.held (drop (passed + 1) (cells_of p l)) r.parts r.cell

-- after the last place of a list come the spans of the next source
list_ends : (p : PoolValue) (sources : List SourceList) (behind : List ℕ) (at : Place) → at.next ≡ None → IsPlaceIn p at.source at.passed at → spans_of p (sources_at sources behind) ≡ spans_behind p sources behind at
list_ends p sources behind at none place =
    let numbers : Held → Interval = λ h. h.numbers in
    sym (ap (λ xs. map (span_of at.source.id) xs ++ spans_of p (sources_at sources behind))
    (drop-map numbers (at.passed + 1) (cells_of p at.source.list) ∙ ap (map numbers) (no_first (drop (at.passed + 1) (cells_of p at.source.list)) (sym place.next ∙ none))))
  where
    no_first : (hs : List Held) → first_cell hs ≡ None → hs ≡ []
    no_first [] e = refl
    no_first (h ∷ hs) e = absurd cc

-- a place after another lies within the list
pub long_enough : (hs : List Held) (n i : ℕ) → first_cell (drop n hs) ≡ Some i → n < length hs
long_enough [] zero i e = absurd cc
long_enough [] (suc n) i e = absurd cc
long_enough (h ∷ hs) zero i e = omega arith
long_enough (h ∷ hs) (suc n) i e = let l = long_enough hs n i e in omega (arith, l)

-- ---- what a cursor sees

-- its place
pub stands : (p : PoolValue) (sources : List SourceList) (behind : List ℕ) (now : Option Place) (at : Place) → now ≡ Some at → IsCursor p sources behind now → IsAt p sources behind at
stands p sources behind now at e is = subst (IsCursor p sources behind) e is

pub first_seen : (p : PoolValue) (sources : List SourceList) (behind : List ℕ) (now : Option Place) (at : Place) (ss : List Span) → now ≡ Some at → IsCursor p sources behind now → cursor_view p sources behind now ≡ ss
    → ss ≡ span_of at.source.id at.numbers ∷ spans_behind p sources behind at
first_seen p sources behind now at ss e is view =
    sym view ∙ ap (cursor_view p sources behind) e
    ∙ ap (λ xs. map (span_of at.source.id) xs ++ spans_of p (sources_at sources behind)) (stands p sources behind now at e is).place.numbers

pub behind_seen : (p : PoolValue) (sources : List SourceList) (behind : List ℕ) (now : Option Place) (at : Place) (ss : List Span) → now ≡ Some at → IsCursor p sources behind now → cursor_view p sources behind now ≡ ss
    → spans_behind p sources behind at ≡ drop 1 ss
behind_seen p sources behind now at ss e is view = sym (ap (drop 1) (first_seen p sources behind now at ss e is view))

pub source_seen : (p : PoolValue) (sources : List SourceList) (behind : List ℕ) (now : Option Place) (at : Place) (ss : List Span) → now ≡ Some at → IsCursor p sources behind now → cursor_view p sources behind now ≡ ss → at.next ≡ None
    → spans_of p (sources_at sources behind) ≡ drop 1 ss
source_seen p sources behind now at ss e is view none = list_ends p sources behind at none (stands p sources behind now at e is).place ∙ behind_seen p sources behind now at ss e is view
