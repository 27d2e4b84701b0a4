-- A pool as its callers see it.
use Rattle.std.specs.Prelude.{◌≡◌, ◌≢◌, ℕ, ◌+◌, ◌-◌, ◌<◌, ◌≤◌, ◌⊎◌, min, ⊤, Bool, true, if◌then◌else◌, List, [], ◌∷◌, ◌++◌, length, map, Option, Some, None, is_some, unwrap_or, slice_index_or, refl}
use Rattle.std.specs.List.{AllByRecursion}
use Rattle.std.specs.Coded.{Coded, code_by, coded×, coded_ℕ, coded_list, coded_option}
use Rattle.interval_pool.specs.declared.cells.Cell.{Cell}
use Rattle.interval_pool.specs.declared.cells.Head.{Head}
use Rattle.interval_pool.specs.declared.interval.Interval.{Interval}
use Rattle.interval_pool.specs.Links.{most_cells}
use Rattle.interval_pool.specs.Cells.{head_at}
use Rattle.interval_pool.specs.Chains.{AreOnce, IsAmong}
use Rattle.interval_pool.specs.Intervals.{has, AreMerged}
use Rattle.interval_pool.specs.Pools.{walk, chain_of, interval_at, AreWhole}
use Rattle.interval_pool.specs.Changes.{spans_of, with_more, without}

-- a cell of a list, with its interval
pub record Held : Type 0 where
  pub cell : ℕ
  pub numbers : Interval

-- the cells of each list in order, and none if it is no list; the free cells; how many cells there are, and for how many more there is room
pub record PoolValue : Type 0 where
  pub lists : List (Option (List Held))
  pub free : List ℕ
  pub cells : ℕ
  pub room : ℕ

abbrev pub held_code : Coded Held
held_code = code_by (ℕ × (ℕ × ℕ)) (coded× coded_ℕ (coded× coded_ℕ coded_ℕ)) (λ h. (h.cell, (h.numbers.lo, h.numbers.hi))) (λ p. record { cell = p.0; numbers = record { lo = p.1.0; hi = p.1.1 } }) (λ _. refl)

abbrev pub pool_code : Coded PoolValue
pool_code = code_by (List (Option (List Held)) × (List ℕ × (ℕ × ℕ))) (coded× (coded_list (coded_option (coded_list held_code))) (coded× (coded_list coded_ℕ) (coded× coded_ℕ coded_ℕ)))
    (λ p. (p.lists, (p.free, (p.cells, p.room)))) (λ t. record { lists = t.0; free = t.1.0; cells = t.1.1.0; room = t.1.1.1 }) (λ _. refl)

-- ---- words of callers

abbrev pub empty : PoolValue
empty = record { lists = []; free = []; cells = 0; room = 0 }

-- the list with this number, if there is one
abbrev pub slot_at : PoolValue → ℕ → Option (List Held)
slot_at p l = slice_index_or p.lists l None

abbrev pub is_list : PoolValue → ℕ → Bool
is_list p l = is_some (slot_at p l)

abbrev pub IsList : PoolValue → ℕ → Type 0
IsList p l = is_list p l ≡ true

-- its cells, and their intervals
abbrev pub cells_of : PoolValue → ℕ → List Held
cells_of p l = unwrap_or (slot_at p l) []

abbrev pub spans : PoolValue → ℕ → List Interval
spans p l = map (λ h. h.numbers) (cells_of p l)

-- the first cell of some
abbrev pub first_cell : List Held → Option ℕ
first_cell [] = None
first_cell (h ∷ hs) = Some h.cell

-- what an interval of numbers may be
abbrev pub IsRange : Interval → Type 0
IsRange s = s.lo ≤ s.hi

-- the cells that are in lists
abbrev pub cells_in_lists : List (Option (List Held)) → List ℕ
cells_in_lists [] = []
cells_in_lists (None ∷ slots) = cells_in_lists slots
cells_in_lists (Some hs ∷ slots) = map (λ h. h.cell) hs ++ cells_in_lists slots

abbrev pub all_cells : PoolValue → List ℕ
all_cells p = p.free ++ cells_in_lists p.lists

-- Lists and the free cells share no cell, and are together all cells.
pub record IsPartition (p : PoolValue) : Type 0 where
  pub once : AreOnce (all_cells p)
  pub below : AllByRecursion (λ i. i < p.cells) (all_cells p)
  pub whole : (i : ℕ) → i < p.cells → IsAmong i (all_cells p)
  pub count : length p.free + length (cells_in_lists p.lists) ≡ p.cells

-- ---- changes

-- a list is there, empty
pub record Opened (p : PoolValue) (l : ℕ) (q : PoolValue) : Type 0 where
  pub new : slot_at p l ≡ None
  pub now : slot_at q l ≡ Some []
  pub others : (m : ℕ) → m ≢ l → slot_at q m ≡ slot_at p m
  pub free : q.free ≡ p.free
  pub cells : q.cells ≡ p.cells
  pub room : q.room ≡ p.room

-- a list is there no more, and its cells are free
pub record Released (p : PoolValue) (l : ℕ) (q : PoolValue) : Type 0 where
  pub now : slot_at q l ≡ None
  pub others : (m : ℕ) → m ≢ l → slot_at q m ≡ slot_at p m
  pub free : length q.free ≡ length p.free + length (spans p l)
  pub cells : q.cells ≡ p.cells
  pub room : q.room ≡ p.room

-- A list has the numbers that pass a test. A free cell is taken before a new one, and a cell only if the list has one more.
pub record Altered (p : PoolValue) (l : ℕ) (among : ℕ → Bool) (q : PoolValue) : Type 0 where
  pub lists : (m : ℕ) → is_list q m ≡ is_list p m
  pub others : (m : ℕ) → m ≢ l → slot_at q m ≡ slot_at p m
  pub numbers : (n : ℕ) → has (spans q l) n ≡ among n
  pub total : length q.free + length (spans q l) + p.cells ≡ length p.free + length (spans p l) + q.cells
  pub more : (q.cells ≡ p.cells) ⊎ ((p.free ≡ []) × (q.free ≡ []) × (q.cells ≡ p.cells + 1))
  pub few : length (spans q l) ≤ length (spans p l) + 1
  pub room : length p.free + length (spans p l) + p.room ≤ length q.free + length (spans q l) + q.room

abbrev pub AddedTo : PoolValue → ℕ → Interval → PoolValue → Type 0
AddedTo p l s q = Altered p l (with_more (spans p l) s) q

abbrev pub CutFrom : PoolValue → ℕ → Interval → PoolValue → Type 0
CutFrom p l s q = Altered p l (without (spans p l) s) q

-- numbers were added, as an interval after all others
pub record Appended (p : PoolValue) (l : ℕ) (s : Interval) (q : PoolValue) : Type 0 where
  pub added : AddedTo p l s q
  pub spans : spans q l ≡ spans p l ++ s ∷ []

-- intervals come after all others of a list
pub record Extended (p : PoolValue) (l : ℕ) (ss : List Interval) (q : PoolValue) : Type 0 where
  pub lists : (m : ℕ) → is_list q m ≡ is_list p m
  pub others : (m : ℕ) → m ≢ l → slot_at q m ≡ slot_at p m
  pub total : length q.free + length (spans q l) + p.cells ≡ length p.free + length (spans p l) + q.cells
  pub room : length p.free + length (spans p l) + p.room ≤ length q.free + length (spans q l) + q.room
  pub spans : spans q l ≡ spans p l ++ ss

-- no cell is free, and there is room for none more
pub record HasNoRoom (p : PoolValue) : Type 0 where
  pub free : p.free ≡ []
  pub room : p.room ≡ 0

-- the free cells, with those for which there is room, are fewer than these
abbrev pub HasNoRoomFor : PoolValue → ℕ → Type 0
HasNoRoomFor p n = length p.free + p.room < n

-- all cells that there may be are in lists
abbrev pub IsFull : PoolValue → Type 0
IsFull p = most_cells ≤ length (cells_in_lists p.lists)

-- this many more cells would be more than there may be
abbrev pub IsFullWith : PoolValue → ℕ → Type 0
IsFullWith p n = most_cells < length (cells_in_lists p.lists) + n

-- there are as many lists as there may be
abbrev pub AreAllLists : PoolValue → Type 0
AreAllLists p = (l : ℕ) → 1 ≤ l → l ≤ most_cells → IsList p l

-- the same lists and free cells
pub record Copied (p : PoolValue) (q : PoolValue) : Type 0 where
  pub lists : q.lists ≡ p.lists
  pub free : q.free ≡ p.free
  pub cells : q.cells ≡ p.cells

-- there is room for this many cells
pub record Reserved (p : PoolValue) (n : ℕ) (q : PoolValue) : Type 0 where
  pub lists : q.lists ≡ p.lists
  pub free : q.free ≡ p.free
  pub cells : q.cells ≡ p.cells
  pub room : n ≤ length q.free + q.room

-- ---- what a pool is made of

abbrev pub held : List Cell → ℕ → Held
held cells i = record { cell = i; numbers = interval_at cells i }

abbrev pub slot : List Cell → Head → Option (List Held)
slot cells h = if h.is_list then Some (map (held cells) (walk cells h.len h.first)) else None

abbrev pub value_of : List Cell → List Head → ℕ → PoolValue
value_of cells heads capacity = record { lists = map (slot cells) heads; free = chain_of cells heads 0; cells = length cells; room = min capacity most_cells - length cells }

-- Each cell is in the chain of its owner. Lists are merged, and what is no list has no cells, but for the free ones.
pub record IsPool (cells : List Cell) (heads : List Head) : Type 0 where
  pub whole : AreWhole cells heads
  pub small : length cells ≤ most_cells
  pub merged : (k : ℕ) → k ≢ 0 → AreMerged (spans_of cells heads k)
  pub gone : (k : ℕ) → (head_at heads k).is_list ≢ true → k ≢ 0 → chain_of cells heads k ≡ []
  pub free_is_none : (head_at heads 0).is_list ≢ true

-- ---- cells in their lists

-- what comes after a cell in its list
abbrev pub Follows : PoolValue → ℕ → Option ℕ → Type 0
Follows p i next = (l : ℕ) (before : List Held) (h : Held) (behind : List Held) → cells_of p l ≡ before ++ h ∷ behind → h.cell ≡ i → next ≡ first_cell behind

-- the interval of a cell
abbrev pub Covers : PoolValue → ℕ → Interval → Type 0
Covers p i s = (l : ℕ) (before : List Held) (h : Held) (behind : List Held) → cells_of p l ≡ before ++ h ∷ behind → h.cell ≡ i → s ≡ h.numbers

-- ---- one call after another

-- a call of add or cut has been answered
abbrev pub IsStep : PoolValue → PoolValue → Type 0
IsStep p q = (l : ℕ) × ((s : Interval) × (AddedTo p l s q ⊎ CutFrom p l s q))

abbrev pub AreSteps : PoolValue → List PoolValue → Type 0
AreSteps p [] = ⊤
AreSteps p (q ∷ qs) = IsStep p q × AreSteps q qs

abbrev pub last_of : PoolValue → List PoolValue → PoolValue
last_of p [] = p
last_of p (q ∷ qs) = last_of q qs

-- a walk along a list has seen these intervals, and has reached this cell
pub record IsAlong (p : PoolValue) (l : ℕ) (seen : List Interval) (next : Option ℕ) : Type 0 where
  pub before : List Held
  pub behind : List Held
  pub parts : cells_of p l ≡ before ++ behind
  pub seen_is : seen ≡ map (λ h. h.numbers) before
  pub next_is : next ≡ first_cell behind

-- ---- what a caller knows of all lists

abbrev pub AreAmong : PoolValue → List ℕ → Type 0
AreAmong p ls = (l : ℕ) → IsList p l → IsAmong l ls

-- how many intervals these lists have together
abbrev pub intervals_of : PoolValue → List ℕ → ℕ
intervals_of p [] = 0
intervals_of p (l ∷ ls) = length (spans p l) + intervals_of p ls
