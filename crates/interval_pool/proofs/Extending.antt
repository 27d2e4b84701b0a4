-- What intervals after all others of a list leave.
use Rattle.std.proofs.Common.{◌≡◌, ◌≢◌, ℕ, suc, ◌+◌, ◌<◌, ◌≤◌, List, [], ◌∷◌, ◌++◌, length, take, drop, Option, Some, None, true, refl, sym, ap, subst, ◌∙◌, arith, length-append, append_assoc}
use Rattle.std.specs.Prelude.{◌-◌, min, slice_set}
use Rattle.std.specs.List.{AllByRecursion}
use Rattle.std.proofs.Math.Seq.{set-append_seam}
use Rattle.std.proofs.lemmas.List.{append-nil, length-take-le, set-set, take-append-drop}
use Rattle.interval_pool.specs.declared.cells.Cell.{Cell}
use Rattle.interval_pool.specs.declared.cells.Head.{Head}
use Rattle.interval_pool.specs.declared.interval.Interval.{Interval}
use Rattle.interval_pool.specs.Links.{most_cells}
use Rattle.interval_pool.specs.Cells.{head_at, after, first_with, with_head, with_next}
use Rattle.interval_pool.specs.Chains.{first_or, last_or}
use Rattle.interval_pool.specs.Intervals.{IsBefore, AreMerged}
use Rattle.interval_pool.specs.Pools.{chain_of, AreWhole, Placed, Places}
use Rattle.interval_pool.specs.Changes.{spans_of, free_count, next_of, run, Pushed, Replaced, Prolonged, PlacedRun, PlacesRun, PushesRun}
use Rattle.interval_pool.specs.Values.{IsPool, Extended, value_of, spans}
use Rattle.interval_pool.proofs.Linking.{length_next, head_same}
use Rattle.interval_pool.proofs.Lists.{pushed_cell}
use Rattle.interval_pool.proofs.Seeking.{last_append}
use Rattle.interval_pool.proofs.Putting.{keeps_all, keeps_both}
use Rattle.interval_pool.proofs.Appending.{free_placed, put_free, pushed_last}
use Rattle.interval_pool.proofs.Valued.{is_not_free, list_is, pool_with, slots_kept, spans_are}

-- ---- merged intervals in two parts

pub merged_front : (ss ts : List Interval) → AreMerged (ss ++ ts) → AreMerged ss
merged_front [] ts merged = tt
merged_front (s ∷ ss) ts merged = (merged.0, front (IsBefore s) ss ts merged.1, merged_front ss ts merged.2)
  where
    front : (P : Interval → Type 0) (ss ts : List Interval) → AllByRecursion P (ss ++ ts) → AllByRecursion P ss
    front P [] ts all = tt
    front P (s ∷ ss) ts all = (all.0, front P ss ts all.1)

pub merged_behind : (ss : List Interval) (t : Interval) (ts : List Interval) → AreMerged (ss ++ t ∷ ts) → AllByRecursion (λ s. IsBefore s t) ss
merged_behind [] t ts merged = tt
merged_behind (s ∷ ss) t ts merged = (here (IsBefore s) ss t ts merged.1, merged_behind ss t ts merged.2)
  where
    here : (P : Interval → Type 0) (ss : List Interval) (t : Interval) (ts : List Interval) → AllByRecursion P (ss ++ t ∷ ts) → P t
    here P [] t ts all = all.0
    here P (s ∷ ss) t ts all = here P ss t ts all.1

-- ---- none, or one part after another

pub prolonged_none : (cells : List Cell) (heads : List Head) (k : ℕ) → AreWhole cells heads → length cells ≤ most_cells → Prolonged cells heads k [] cells heads
prolonged_none cells heads k h small = record { keeps = keeps_all cells heads k h; small = small; spans = sym (append-nil (spans_of cells heads k)); more = omega arith; total = omega arith }

pub prolonged_both : (cells cells1 cells2 : List Cell) (heads heads1 heads2 : List Head) (k : ℕ) (ss ts : List Interval) → Prolonged cells heads k ss cells1 heads1 → Prolonged cells1 heads1 k ts cells2 heads2 → Prolonged cells heads k (ss ++ ts) cells2 heads2
prolonged_both cells cells1 cells2 heads heads1 heads2 k ss ts one two =
    let size = length-append ss ts in
    let a = one.total in
    let b = two.total in
    let more = one.more in
    let most = two.more in
    record {
      keeps = keeps_both cells cells1 cells2 heads heads1 heads2 k one.keeps two.keeps;
      small = two.small;
      spans = two.spans ∙ (ap (λ us. us ++ ts) one.spans ∙ append_assoc (spans_of cells heads k) ss ts);
      more = omega (more, most, arith);
      total = omega (size, a, b, arith);
    }

-- ---- in free cells

placed_one : (cells cells1 : List Cell) (heads heads1 : List Head) (k : ℕ) (last : Option ℕ) (s : Interval) → 0 < free_count cells heads → Places cells heads k last s cells1 heads1 → AreWhole cells heads → length cells ≤ most_cells → k ≢ 0 → k < length heads
    → last ≡ last_or None (chain_of cells heads k) → PlacedRun cells heads k (s ∷ []) (after cells heads 0 None) cells1 heads1
placed_one cells cells1 heads heads1 k last s more places h small not_free lt is_last =
    let n = h.count 0 in
    let some : 0 < (head_at heads 0).len = omega (n, more, arith) in
    let xs = chain_of cells heads k in
    let found = free_placed cells cells1 heads heads1 k last s some places h small not_free lt is_last in
    let i = found.0 in
    let p : Placed cells heads k xs [] i found.1.0 s cells1 heads1 = found.1.1.1 in
    let r : Replaced cells heads k xs [] 0 (s ∷ []) cells1 heads1 = put_free cells cells1 heads heads1 k last s some places h small not_free lt is_last in
    let total = r.total in
    let many = p.as_many in
    record {
      made = record { keeps = r.keeps; small = r.small; spans = r.spans; more = omega (many, arith); total = omega (total, arith) };
      as_many = p.as_many;
      end_is = h.first 0 ∙ (ap (first_or None) found.1.1.0 ∙ sym (ap (last_or None) p.list ∙ last_append None xs i));
    }

pub place_none : (cells : List Cell) (heads : List Head) (k : ℕ) (last : Option ℕ) → PlacesRun cells heads k last [] last cells heads
place_none cells heads k last h small not_free lt is_last few = record { made = prolonged_none cells heads k h small; as_many = refl; end_is = is_last }

pub place_more : (cells cells1 cells2 : List Cell) (heads heads1 heads2 : List Head) (k : ℕ) (last end : Option ℕ) (s : Interval) (ss : List Interval)
    → Places cells heads k last s cells1 heads1 → PlacesRun cells1 heads1 k (after cells heads 0 None) ss end cells2 heads2 → PlacesRun cells heads k last (s ∷ ss) end cells2 heads2
place_more cells cells1 cells2 heads heads1 heads2 k last end s ss places more h small not_free lt is_last few =
    let one = placed_one cells cells1 heads heads1 k last s (omega (few, arith)) places h small not_free lt is_last in
    let total = one.made.total in
    let many = one.as_many in
    let chains = one.made.keeps.as_many_chains in
    let rest = more one.made.keeps.whole one.made.small not_free (omega (chains, lt, arith)) one.end_is (omega (total, many, few, arith)) in
    record {
      made = prolonged_both cells cells1 cells2 heads heads1 heads2 k (s ∷ []) ss one.made rest.made;
      as_many = rest.as_many ∙ many;
      end_is = rest.end_is;
    }

-- ---- in new cells

relinked : (front : List Cell) (c : Cell) (n m : ℕ) → length front ≡ n → with_next (front ++ c ∷ []) (Some n) (Some m) ≡ front ++ record c { next = Some m } ∷ []
relinked front c n m size =
    let P : ℕ → Type 0 = λ i. with_next (front ++ c ∷ []) (Some i) (Some m) ≡ front ++ record c { next = Some m } ∷ [] in
    subst P size
    (ap (λ (d : Cell). slice_set (front ++ c ∷ []) (length front) (record d { next = Some m })) (pushed_cell front c) ∙ set-append_seam front c [] (record c { next = Some m }))

reheaded : (heads : List Head) (k n m a b : ℕ) (last : Option ℕ) → k < length heads → with_head (with_head heads k last (Some n) a) k (Some n) (Some m) b ≡ with_head heads k last (Some n) b
reheaded heads k n m a b last lt =
    let g : Head = record (head_at heads k) { first = first_with last (Some n) (head_at heads k).first; len = a } in
    ap (λ (d : Head). slice_set (slice_set heads k g) k (record d { len = b })) (head_same heads k g lt) ∙ set-set heads k g (record g { len = b })

-- the first of them
abbrev first_pushed : List Cell → ℕ → Option ℕ → Interval → List Cell
first_pushed cells k last s = with_next cells last (Some (length cells)) ++ record { lo = s.lo; hi = s.hi; next = None; owner = k } ∷ []

abbrev first_headed : List Cell → List Head → ℕ → Option ℕ → List Head
first_headed cells heads k last = with_head heads k last (Some (length cells)) ((head_at heads k).len + 1)

pushed_one : (cells : List Cell) (heads : List Head) (k : ℕ) (last : Option ℕ) (s : Interval) → AreWhole cells heads → length cells < most_cells → k ≢ 0 → k < length heads → last ≡ last_or None (chain_of cells heads k)
    → Pushed cells heads k s (first_pushed cells k last s) (first_headed cells heads k last)
pushed_one cells heads k last s h small not_free lt is_last = pushed_last cells heads k last (record { lo = s.lo; hi = s.hi; next = None; owner = k }) refl refl h small not_free lt is_last

prolonged_one : (cells cells1 : List Cell) (heads heads1 : List Head) (k : ℕ) (s : Interval) → length cells < most_cells → Pushed cells heads k s cells1 heads1 → Prolonged cells heads k (s ∷ []) cells1 heads1
prolonged_one cells cells1 heads heads1 k s small p =
    let many = p.as_many in
    let free = ap length p.free in
    record { keeps = p.keeps; small = omega (many, small, arith); spans = p.spans; more = omega (many, arith); total = omega (many, free, arith) }

-- the cells of all after the first, and the head
all_cells : (cells : List Cell) (k : ℕ) (last : Option ℕ) (s t : Interval) (ss : List Interval) → length (first_pushed cells k last s) ≡ length cells + 1
    → with_next (first_pushed cells k last s) (Some (length cells)) (Some (length (first_pushed cells k last s))) ++ run k (length (first_pushed cells k last s)) (t ∷ ss) ≡ with_next cells last (Some (length cells)) ++ run k (length cells) (s ∷ t ∷ ss)
all_cells cells k last s t ss many =
    let n = length cells in
    let front : List Cell = with_next cells last (Some n) in
    let c : Cell = record { lo = s.lo; hi = s.hi; next = None; owner = k } in
    ap (λ m. with_next (front ++ c ∷ []) (Some n) (Some m) ++ run k m (t ∷ ss)) many
    ∙ (ap (λ cs. cs ++ run k (n + 1) (t ∷ ss)) (relinked front c n (n + 1) (length_next cells last (Some n)))
    ∙ append_assoc front (record c { next = Some (n + 1) } ∷ []) (run k (n + 1) (t ∷ ss)))

all_heads : (cells : List Cell) (heads : List Head) (k m r : ℕ) (last : Option ℕ) → k < length heads
    → with_head (first_headed cells heads k last) k (Some (length cells)) (Some m) ((head_at (first_headed cells heads k last) k).len + r) ≡ with_head heads k last (Some (length cells)) ((head_at heads k).len + suc r)
all_heads cells heads k m r last lt =
    let n = length cells in
    let len = (head_at heads k).len in
    let g : Head = record (head_at heads k) { first = first_with last (Some n) (head_at heads k).first; len = len + 1 } in
    let same : (head_at (first_headed cells heads k last) k).len + r ≡ len + suc r = (let e = ap (λ (d : Head). d.len) (head_same heads k g lt) in omega (e, arith)) in
    ap (with_head (first_headed cells heads k last) k (Some n) (Some m)) same ∙ reheaded heads k n m (len + 1) (len + suc r) last lt

pub pushed_run : (ss : List Interval) (cells : List Cell) (heads : List Head) (k : ℕ) (last : Option ℕ) (s : Interval) → AreWhole cells heads → length cells + length (s ∷ ss) ≤ most_cells → k ≢ 0 → k < length heads → last ≡ last_or None (chain_of cells heads k)
    → Prolonged cells heads k (s ∷ ss) (with_next cells last (Some (length cells)) ++ run k (length cells) (s ∷ ss)) (with_head heads k last (Some (length cells)) ((head_at heads k).len + length (s ∷ ss)))
pushed_run [] cells heads k last s h small not_free lt is_last =
    prolonged_one cells (first_pushed cells k last s) heads (first_headed cells heads k last) k s (omega (small, arith)) (pushed_one cells heads k last s h (omega (small, arith)) not_free lt is_last)
pushed_run (t ∷ ss) cells heads k last s h small not_free lt is_last =
    let n = length cells in
    let cells1 : List Cell = first_pushed cells k last s in
    let heads1 : List Head = first_headed cells heads k last in
    let p : Pushed cells heads k s cells1 heads1 = pushed_one cells heads k last s h (omega (small, arith)) not_free lt is_last in
    let many = p.as_many in
    let chains = p.keeps.as_many_chains in
    let one = prolonged_one cells cells1 heads heads1 k s (omega (small, arith)) p in
    let end : Some n ≡ last_or None (chain_of cells1 heads1 k) = sym (ap (last_or None) p.list ∙ last_append None (chain_of cells heads k) n) in
    let rest = pushed_run ss cells1 heads1 k (Some n) t p.keeps.whole (omega (many, small, arith)) not_free (omega (chains, lt, arith)) end in
    let cells2 : List Cell = with_next cells1 (Some n) (Some (length cells1)) ++ run k (length cells1) (t ∷ ss) in
    let heads2 : List Head = with_head heads1 k (Some n) (Some (length cells1)) ((head_at heads1 k).len + length (t ∷ ss)) in
    let P : List Cell → Type 0 = λ cs. Prolonged cells heads k (s ∷ t ∷ ss) cs heads2 in
    let Q : List Head → Type 0 = λ hs. Prolonged cells heads k (s ∷ t ∷ ss) (with_next cells last (Some n) ++ run k n (s ∷ t ∷ ss)) hs in
    subst Q (all_heads cells heads k (length cells1) (length (t ∷ ss)) last lt)
    (subst P (all_cells cells k last s t ss many) (prolonged_both cells cells1 cells2 heads heads1 heads2 k (s ∷ []) (t ∷ ss) one rest))

pub pushed_all : (ss : List Interval) (cells : List Cell) (heads : List Head) (k : ℕ) (last : Option ℕ) → 0 < length ss → AreWhole cells heads → length cells + length ss ≤ most_cells → k ≢ 0 → k < length heads → last ≡ last_or None (chain_of cells heads k)
    → Prolonged cells heads k ss (with_next cells last (Some (length cells)) ++ run k (length cells) ss) (with_head heads k last (Some (length cells)) ((head_at heads k).len + length ss))
pushed_all [] cells heads k last some h small not_free lt is_last = absurd (omega (some, arith))
pushed_all (s ∷ ss) cells heads k last some h small not_free lt is_last = pushed_run ss cells heads k last s h small not_free lt is_last

-- a cell more is made
pub run_more : (cells cells1 : List Cell) (k : ℕ) (next : Option ℕ) (s : Interval) (ss : List Interval) → next ≡ next_of ss (length cells + 1) → cells1 ≡ cells ++ record { lo = s.lo; hi = s.hi; next = next; owner = k } ∷ []
    → cells1 ++ run k (length cells1) ss ≡ cells ++ run k (length cells) (s ∷ ss)
run_more cells cells1 k next s ss is made =
    let c : Cell = record { lo = s.lo; hi = s.hi; next = next; owner = k } in
    let many : length cells1 ≡ length cells + 1 = ap length made ∙ length-append cells (c ∷ []) in
    (λ i. made i ++ run k (many i) ss)
    ∙ (append_assoc cells (c ∷ []) (run k (length cells + 1) ss) ∙ ap (λ o. cells ++ record c { next = o } ∷ run k (length cells + 1) ss) is)

-- ---- in free cells, and then in new ones

pub prolonged : (cells cells1 cells2 : List Cell) (heads heads1 heads2 : List Head) (k n : ℕ) (last end : Option ℕ) (ss : List Interval) → AreWhole cells heads → length cells ≤ most_cells → k ≢ 0 → k < length heads → last ≡ last_or None (chain_of cells heads k)
    → n ≤ free_count cells heads → n ≤ length ss → PlacesRun cells heads k last (take n ss) end cells1 heads1 → PushesRun cells1 heads1 k end (drop n ss) cells2 heads2 → Prolonged cells heads k ss cells2 heads2
prolonged cells cells1 cells2 heads heads1 heads2 k n last end ss h small not_free lt is_last few le places pushes =
    let size = length-take-le n ss le in
    let one : PlacedRun cells heads k (take n ss) end cells1 heads1 = places h small not_free lt is_last (omega (size, few, arith)) in
    let two : Prolonged cells1 heads1 k (drop n ss) cells2 heads2 = pushes one.made.keeps.whole not_free one.end_is in
    let P : List Interval → Type 0 = λ is. Prolonged cells heads k is cells2 heads2 in
    subst P (take-append-drop n ss) (prolonged_both cells cells1 cells2 heads heads1 heads2 k (take n ss) (drop n ss) one.made two)

-- ---- what callers see

pub extended_pool : (cells cells' : List Cell) (heads heads' : List Head) (l : ℕ) (ss : List Interval) → IsPool cells heads → (head_at heads l).is_list ≡ true → AreMerged (spans_of cells heads l ++ ss) → Prolonged cells heads l ss cells' heads' → IsPool cells' heads'
extended_pool cells cells' heads heads' l ss h is merged p = pool_with cells cells' heads heads' l h is p.keeps p.small (subst AreMerged (sym p.spans) merged)

room_kept : (free free' len len' cells cells' capacity capacity' : ℕ) → free' + len' + cells ≡ free + len + cells' → cells ≤ cells' → capacity ≤ capacity'
    → free + len + (min capacity most_cells - cells) ≤ free' + len' + (min capacity' most_cells - cells')
room_kept free free' len len' cells cells' capacity capacity' total more le = omega (total, more, le, arith)

pub extended_list : (cells cells' : List Cell) (heads heads' : List Head) (capacity capacity' l : ℕ) (ss : List Interval) → IsPool cells heads → (head_at heads l).is_list ≡ true → AreMerged (spans_of cells heads l ++ ss)
    → Prolonged cells heads l ss cells' heads' → capacity ≤ capacity' → Extended (value_of cells heads capacity) l ss (value_of cells' heads' capacity')
extended_list cells cells' heads heads' capacity capacity' l ss h is merged p le =
    let free = is_not_free cells heads l h is in
    let before = spans_are cells heads capacity l h free in
    let after = spans_are cells' heads' capacity' l (extended_pool cells cells' heads heads' l ss h is merged p) free in
    let total = p.total in
    let a = ap length before in
    let b = ap length after in
    let more = ap length p.spans in
    let size = length-append (spans_of cells heads l) ss in
    record {
      lists = λ m. list_is cells' heads' capacity' m ∙ (p.keeps.lists m ∙ sym (list_is cells heads capacity m));
      others = λ m other. slots_kept cells cells' heads heads' l m h p.keeps other;
      spans = after ∙ (p.spans ∙ ap (λ us. us ++ ss) (sym before));
      total = omega (total, a, b, more, size, arith);
      room = room_kept (free_count cells heads) (free_count cells' heads') (length (spans (value_of cells heads capacity) l)) (length (spans (value_of cells' heads' capacity') l)) (length cells) (length cells') capacity capacity' (omega (total, a, b, more, size, arith)) p.more le;
    }
