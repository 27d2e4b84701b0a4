-- A way along the cells of a list.
use Rattle.std.proofs.Common.{◌≡◌, ℕ, zero, suc, ◌-◌, ◌<◌, ◌≤◌, List, [], ◌∷◌, length, map, drop, Option, Some, None, refl, sym, ap, subst, ◌∙◌, arith}
use Rattle.interval_pool.specs.declared.cells.Cell.{Cell}
use Rattle.interval_pool.specs.declared.cells.Head.{Head}
use Rattle.interval_pool.specs.Cells.{cell_at, head_at}
use Rattle.interval_pool.specs.Chains.{first_or, AreLinked}
use Rattle.interval_pool.specs.Pools.{walk, chain_of, interval_at}
use Rattle.interval_pool.specs.Changes.{spans_of}
use Rattle.interval_pool.specs.Values.{IsPool}
use Rattle.interval_pool.specs.Walks.{IsWalk, IsWay, intervals_from, place_in}
use Rattle.interval_pool.proofs.Walking.{chain_few}

pub walk_none : (cells : List Cell) (n : ℕ) → walk cells n None ≡ []
walk_none cells zero = refl
walk_none cells (suc n) = refl

-- steps to spare find no more
pub walk_long : (cells : List Cell) (k n : ℕ) (is : List ℕ) → AreLinked cells k is None → length is ≤ n → walk cells n (first_or None is) ≡ is
walk_long cells k n [] linked le = walk_none cells n
walk_long cells k zero (i ∷ is) linked le = absurd (omega (le, arith))
walk_long cells k (suc n) (i ∷ is) linked le =
    ap (λ at. i ∷ walk cells n at) linked.0.next_is ∙ ap (λ js. i ∷ js) (walk_long cells k n is linked.1 (omega (le, arith)))

-- a way goes on from a cell
pub record GoesOn (cells : List Cell) (i : ℕ) : Type 0 where
  pub below : i < length cells
  pub parts : intervals_from cells (Some i) ≡ interval_at cells i ∷ intervals_from cells (cell_at cells i).next
  pub rest : IsWalk cells (cell_at cells i).next

pub goes_on : (cells : List Cell) (at : Option ℕ) (i : ℕ) → at ≡ Some i → IsWalk cells at → GoesOn cells i
goes_on cells at i e h = along h.chain h.linked (sym e ∙ h.begins) h.few
  where
    along : (is : List ℕ) → AreLinked cells h.owner is None → Some i ≡ first_or None is → length is ≤ length cells → GoesOn cells i
    along [] linked begins few = absurd cc
    along (j ∷ is) linked begins few =
        let same : j ≡ i = cc in
        let next : (cell_at cells i).next ≡ first_or None is = ap (λ k. (cell_at cells k).next) (sym same) ∙ linked.0.next_is in
        let less : length is ≤ length cells = omega (few, arith) in
        let here = walk_long cells h.owner (length cells) (j ∷ is) linked few in
        let there = walk_long cells h.owner (length cells) is linked.1 less in
        record {
          below = subst (λ k. k < length cells) same linked.0.below;
          parts = ap (λ k. intervals_from cells (Some k)) (sym same) ∙ ap (map (interval_at cells)) here ∙ (λ p. interval_at cells (same p) ∷ map (interval_at cells) (sym there p))
              ∙ ap (λ at. interval_at cells i ∷ intervals_from cells at) (sym next);
          rest = record { owner = h.owner; chain = is; linked = linked.1; begins = next; few = less; small = h.small };
        }

-- the way along a list from its first cell
pub whole_way : (cells : List Cell) (heads : List Head) (k : ℕ) → IsPool cells heads → IsWalk cells (head_at heads k).first
whole_way cells heads k h = record {
  owner = k;
  chain = chain_of cells heads k;
  linked = h.whole.linked k;
  begins = h.whole.first k;
  few = chain_few cells heads None (chain_of cells heads) k h.whole;
  small = h.small;
}

pub way_is : (cells : List Cell) (heads : List Head) (k : ℕ) → IsPool cells heads → intervals_from cells (head_at heads k).first ≡ spans_of cells heads k
way_is cells heads k h =
    ap (intervals_from cells) (h.whole.first k)
    ∙ ap (map (interval_at cells)) (walk_long cells k (length cells) (chain_of cells heads k) (h.whole.linked k) (chain_few cells heads None (chain_of cells heads) k h.whole))

-- ---- the last cells

drop_at : (cells : List Cell) (i : ℕ) (c : Cell) (rest : List Cell) → drop i cells ≡ c ∷ rest → cell_at cells i ≡ c
drop_at [] zero c rest e = absurd cc
drop_at [] (suc i) c rest e = absurd cc
drop_at (d ∷ cells) zero c rest e = cc
drop_at (d ∷ cells) (suc i) c rest e = drop_at cells i c rest e

drop_more : (cells : List Cell) (i : ℕ) (c : Cell) (rest : List Cell) → drop i cells ≡ c ∷ rest → drop (suc i) cells ≡ rest
drop_more [] zero c rest e = absurd cc
drop_more [] (suc i) c rest e = absurd cc
drop_more (d ∷ cells) zero c rest e = cc
drop_more (d ∷ cells) (suc i) c rest e = drop_more cells i c rest e

-- the first of them, and what is behind it
pub record IsStep (cells rest : List Cell) (c : Cell) (more : List Cell) : Type 0 where
  pub place : place_in cells rest ≡ Some (length cells - suc (length more))
  pub cell : cell_at cells (length cells - suc (length more)) ≡ c
  pub parts : intervals_from cells (place_in cells rest) ≡ (record { lo = c.lo; hi = c.hi }) ∷ intervals_from cells c.next
  pub next : IsWalk cells c.next
  pub last : more ≡ drop (length cells - length more) cells
  pub within : length more < length cells

pub step_of : (cells rest : List Cell) (c : Cell) (more : List Cell) → rest ≡ c ∷ more → IsWay cells rest → IsStep cells rest c more
step_of cells rest c more e h =
    let long = ap length e in
    let place : place_in cells rest ≡ Some (length cells - suc (length more)) = ap (place_in cells) e in
    let i : ℕ = length cells - suc (length more) in
    let here : drop i cells ≡ c ∷ more = sym (h.last ∙ (λ p. drop (length cells - long p) cells)) ∙ e in
    let on = goes_on cells (place_in cells rest) i place h.walks in
    let cell = drop_at cells i c more here in
    let bound = h.within in
    let next : suc i ≡ length cells - length more = omega (long, bound, arith) in
    record {
      place = place;
      cell = cell;
      parts = ap (intervals_from cells) place ∙ on.parts ∙ (λ p. (record { lo = (cell p).lo; hi = (cell p).hi }) ∷ intervals_from cells (cell p).next);
      next = subst (λ (d : Cell). IsWalk cells d.next) cell on.rest;
      last = sym (drop_more cells i c more here) ∙ ap (λ n. drop n cells) next;
      within = omega (long, bound, arith);
    }

-- the cells right behind, where the next is there
pub way_on : (cells rest : List Cell) (c : Cell) (more : List Cell) → IsStep cells rest c more → c.next ≡ Some (length cells - length more) → (place_in cells more ≡ c.next) × IsWay cells more
way_on cells rest c more s to = here more s.last s.within to
  where
    here : (ds : List Cell) → ds ≡ drop (length cells - length ds) cells → length ds < length cells → c.next ≡ Some (length cells - length ds) → (place_in cells ds ≡ c.next) × IsWay cells ds
    here [] last within to = absurd (let on = goes_on cells c.next (length cells - 0) to s.next in let b = on.below in omega (b, arith))
    here (d ∷ ds) last within to =
        (sym to, record { walks = subst (IsWalk cells) to s.next; last = last; within = omega (within, arith) })
