-- What making room, and putting an interval into a list, leaves.
use Rattle.std.proofs.Common.{◌≡◌, ◌≢◌, ℕ, zero, suc, ◌+◌, ◌<◌, ◌≤◌, ◌⊎◌, List, [], ◌∷◌, ◌++◌, length, map, take, drop, Option, Some, None, refl, sym, ap, subst, ◌∙◌, ⊎_elim, inl, inr, arith, length-append, append_assoc}
use Rattle.std.specs.Prelude.{option_to_list}
use Rattle.std.proofs.lemmas.List.{length-take-le, take-append-drop, map-append}
use Rattle.interval_pool.specs.declared.cells.Cell.{Cell}
use Rattle.interval_pool.specs.declared.cells.Head.{Head}
use Rattle.interval_pool.specs.declared.interval.Interval.{Interval}
use Rattle.interval_pool.specs.Links.{most_cells}
use Rattle.interval_pool.specs.Cells.{head_at}
use Rattle.interval_pool.specs.Chains.{last_or}
use Rattle.interval_pool.specs.Pools.{chain_of, interval_at, AreWhole, KeepsOthers, FreedSome, FreesSome, Grown, Grows, Placed, Places}
use Rattle.interval_pool.specs.declared.interval.Pieces.{Pieces}
use Rattle.interval_pool.specs.Intervals.{list_of_pieces}
use Rattle.interval_pool.specs.Changes.{free_count, HasRoom, MakesRoom, Set, Sets, Put, Puts, Replaces}
use Rattle.interval_pool.proofs.Facts.{all_parts}
use Rattle.interval_pool.proofs.Lists.{same_but, same_intervals}

-- nothing has changed
pub keeps_all : (cells : List Cell) (heads : List Head) (k : ℕ) → AreWhole cells heads → KeepsOthers cells heads k cells heads
keeps_all cells heads k h = record { whole = h; as_many_chains = refl; lists = λ m. refl; chains = λ m free other. refl; intervals = λ m free other. refl }

-- one change after another
pub keeps_both : (cells cells1 cells2 : List Cell) (heads heads1 heads2 : List Head) (k : ℕ) → KeepsOthers cells heads k cells1 heads1 → KeepsOthers cells1 heads1 k cells2 heads2 → KeepsOthers cells heads k cells2 heads2
keeps_both cells cells1 cells2 heads heads1 heads2 k one two = record {
  whole = two.whole;
  as_many_chains = two.as_many_chains ∙ one.as_many_chains;
  lists = λ m. two.lists m ∙ one.lists m;
  chains = λ m free other. two.chains m free other ∙ one.chains m free other;
  intervals = λ m free other. subst (λ is. map (interval_at cells2) is ≡ map (interval_at cells1) is) (one.chains m free other) (two.intervals m free other) ∙ one.intervals m free other;
}

pub room_there : (cells : List Cell) (heads : List Head) (freed needed : ℕ) → (needed ≤ freed) ⊎ (0 < (head_at heads 0).len) → MakesRoom cells heads freed needed cells heads
room_there cells heads freed needed some h small has_heads few = record {
  keeps = keeps_all cells heads 0 h;
  enough = let n = h.count 0 in ⊎_elim (λ le. omega (le, arith)) (λ lt. omega (n, lt, few, arith)) some;
  small = small;
  total = refl;
  more = inl refl;
}

pub room_grown : (cells cells1 : List Cell) (heads heads1 : List Head) (freed needed : ℕ) → freed < needed → (head_at heads 0).len ≤ 0 → length cells < most_cells → Grows cells heads cells1 heads1 → MakesRoom cells heads freed needed cells1 heads1
room_grown cells cells1 heads heads1 freed needed short none less grows h small has_heads few =
    let g : Grown cells heads cells1 heads1 = grows h less has_heads in
    let n = h.count 0 in
    let more = g.as_many in
    let free : length (chain_of cells1 heads1 0) ≡ suc (length (chain_of cells heads 0)) = ap length g.free in
    record {
      keeps = g.keeps;
      enough = omega (free, few, arith);
      small = omega (more, less, arith);
      total = omega (free, more, arith);
      more = inr (omega (n, none, arith), omega (free, n, none, short, few, arith), more);
    }

drop_map : (f : ℕ → Interval) (n : ℕ) (ys : List ℕ) → map f (drop n ys) ≡ drop n (map f ys)
drop_map f zero ys = refl
drop_map f (suc n) [] = refl
drop_map f (suc n) (y ∷ ys) = drop_map f n ys

-- a free cell, if there is one
pub first_free : (is : List ℕ) → 0 < length is → (i : ℕ) × ((rest : List ℕ) × (is ≡ i ∷ rest))
first_free [] lt = absurd (omega (lt, arith))
first_free (i ∷ is) lt = (i, (is, refl))

-- ---- an interval, or none, is put

pub set_none : (cells : List Cell) (heads : List Head) (k : ℕ) (before : Option ℕ) → Sets cells heads k before None cells heads
set_none cells heads k before xs ys h small not_free lt parts is_before enough = record {
  keeps = keeps_all cells heads k h;
  as_many = refl;
  zs = [];
  list = parts;
  here = refl;
  before = refl;
  behind = refl;
  total = omega arith;
}

pub set_one : (cells cells1 : List Cell) (heads heads1 : List Head) (k : ℕ) (before : Option ℕ) (s : Interval) → Places cells heads k before s cells1 heads1 → Sets cells heads k before (Some s) cells1 heads1
set_one cells cells1 heads heads1 k before s places xs ys h small not_free lt parts is_before enough =
    let first = first_free (chain_of cells heads 0) (omega (enough, arith)) in
    let i = first.0 in
    let p : Placed cells heads k xs ys i first.1.0 s cells1 heads1 = places xs ys i first.1.0 h small not_free lt first.1.1 parts is_before in
    let apart = all_parts (λ o. o ≢ i) xs ys p.apart in
    record {
      keeps = p.keeps;
      as_many = p.as_many;
      zs = i ∷ [];
      list = p.list;
      here = ap (λ t. t ∷ []) p.here;
      before = same_but cells cells1 i p.others xs apart.0;
      behind = same_but cells cells1 i p.others ys apart.1;
      total = let a = ap length first.1.1 in let b = ap length p.free in omega (a, b, arith);
    }

-- ---- intervals in place of others

spans_behind : (f2 f3 : ℕ → Interval) (zs ws : List ℕ) (second rest : List Interval) → map f3 (zs ++ ws) ≡ map f2 (zs ++ ws) → map f2 zs ≡ second → map f2 ws ≡ rest → map f3 (zs ++ ws) ≡ second ++ rest
spans_behind f2 f3 zs ws second rest same here behind = same ∙ (map-append f2 zs ws ∙ (λ q. here q ++ behind q))

spans_whole : (f : ℕ → Interval) (xs zs ws : List ℕ) (front first second rest : List Interval) → map f xs ≡ front → map f zs ≡ first → map f ws ≡ second ++ rest → map f (xs ++ (zs ++ ws)) ≡ front ++ ((first ++ second) ++ rest)
spans_whole f xs zs ws front first second rest before here behind =
    map-append f xs (zs ++ ws)
    ∙ ((λ q. before q ++ map-append f zs ws q)
    ∙ ap (λ ss. front ++ ss) ((λ q. here q ++ behind q) ∙ sym (append_assoc first second rest)))

pub put_done : (cells cells1 cells2 cells3 : List Cell) (heads heads1 heads2 heads3 : List Head) (k n : ℕ) (before : Option ℕ) (p : Pieces) → FreesSome cells heads k before n cells1 heads1
    → Sets cells1 heads1 k before p.second cells2 heads2 → Sets cells2 heads2 k before p.first cells3 heads3 → Puts cells heads k before n p cells3 heads3
put_done cells cells1 cells2 cells3 heads heads1 heads2 heads3 k n before p frees second first xs ys h small not_free lt parts is_before few some =
    let zs = take n ys in
    let ws = drop n ys in
    let size : length zs ≡ n = length-take-le n ys few in
    let f : FreedSome cells heads k xs zs ws cells1 heads1 = frees xs zs ws h small not_free lt (parts ∙ ap (λ is. xs ++ is) (sym (take-append-drop n ys))) is_before size in
    let n1 = f.as_many in
    let m1 = f.keeps.as_many_chains in
    let more : length (chain_of cells1 heads1 0) ≡ length f.more + length (chain_of cells heads 0) = ap length f.free ∙ length-append f.more (chain_of cells heads 0) in
    let e = f.as_many_free in
    let both = length-append (option_to_list p.first) (option_to_list p.second) in
    let s : Set cells1 heads1 k xs ws p.second cells2 heads2 = second xs ws f.keeps.whole (omega (n1, small, arith)) not_free (omega (m1, lt, arith)) f.list is_before (omega (more, e, size, both, some, arith)) in
    let n2 = s.as_many in
    let m2 = s.keeps.as_many_chains in
    let t2 = s.total in
    let t : Set cells2 heads2 k xs (s.zs ++ ws) p.first cells3 heads3 =
    first xs (s.zs ++ ws) s.keeps.whole (omega (n1, n2, small, arith)) not_free (omega (m1, m2, lt, arith)) s.list is_before (omega (more, e, size, both, some, t2, arith)) in
    let f0 : ℕ → Interval = interval_at cells in
    let f2 : ℕ → Interval = interval_at cells2 in
    let f3 : ℕ → Interval = interval_at cells3 in
    let xs_same : map f3 xs ≡ map f0 xs = t.before ∙ (s.before ∙ same_intervals cells cells1 f.all_intervals xs) in
    let ws_same : map f2 ws ≡ drop n (map f0 ys) = s.behind ∙ (same_intervals cells cells1 f.all_intervals ws ∙ drop_map f0 n ys) in
    let behind = spans_behind f2 f3 s.zs ws (option_to_list p.second) (drop n (map f0 ys)) t.behind s.here ws_same in
    let whole = spans_whole f3 xs t.zs (s.zs ++ ws) (map f0 xs) (option_to_list p.first) (option_to_list p.second) (drop n (map f0 ys)) xs_same t.here behind in
    record {
      keeps = keeps_both cells cells2 cells3 heads heads2 heads3 k (keeps_both cells cells1 cells2 heads heads1 heads2 k f.keeps s.keeps) t.keeps;
      as_many = t.as_many ∙ (n2 ∙ n1);
      spans = ap (map f3) t.list ∙ whole;
      total = let t3 = t.total in omega (t2, t3, more, e, size, both, arith);
    }

-- what is kept of the free cells' chain alone is kept of others
pub keeps_more : (cells cells1 : List Cell) (heads heads1 : List Head) (k : ℕ) → KeepsOthers cells heads 0 cells1 heads1 → KeepsOthers cells heads k cells1 heads1
keeps_more cells cells1 heads heads1 k one = record {
  whole = one.whole;
  as_many_chains = one.as_many_chains;
  lists = one.lists;
  chains = λ m free other. one.chains m free free;
  intervals = λ m free other. one.intervals m free free;
}

put_in_room : (cells cells1 cells2 : List Cell) (heads heads1 heads2 : List Head) (k n : ℕ) (before : Option ℕ) (p : Pieces) (xs ys : List ℕ) → Puts cells1 heads1 k before n p cells2 heads2 → k ≢ 0 → k < length heads
    → chain_of cells heads k ≡ xs ++ ys → before ≡ last_or None xs → n ≤ length ys → HasRoom cells heads n (length (list_of_pieces p)) cells1 heads1 → Put cells1 heads1 k xs ys n (list_of_pieces p) cells2 heads2
put_in_room cells cells1 cells2 heads heads1 heads2 k n before p xs ys puts not_free lt parts is_before few room =
    let m1 = room.keeps.as_many_chains in
    puts xs ys room.keeps.whole room.small not_free (omega (m1, lt, arith)) (room.keeps.chains k not_free not_free ∙ parts) is_before few room.enough

pub put_length : (cells cells1 cells2 : List Cell) (heads heads1 heads2 : List Head) (k n : ℕ) (before : Option ℕ) (p : Pieces) → MakesRoom cells heads n (length (list_of_pieces p)) cells1 heads1 → Puts cells1 heads1 k before n p cells2 heads2
    → (xs ys : List ℕ) → AreWhole cells heads → length cells ≤ most_cells → k ≢ 0 → k < length heads → chain_of cells heads k ≡ xs ++ ys → before ≡ last_or None xs → n ≤ length ys → length (list_of_pieces p) ≤ n + 1 → length cells2 ≡ length cells1
put_length cells cells1 cells2 heads heads1 heads2 k n before p makes puts xs ys h small not_free lt parts is_before few more =
    (put_in_room cells cells1 cells2 heads heads1 heads2 k n before p xs ys puts not_free lt parts is_before few (makes h small (omega (lt, arith)) more)).as_many

pub replaced : (cells cells1 cells2 : List Cell) (heads heads1 heads2 : List Head) (k n : ℕ) (before : Option ℕ) (p : Pieces) → MakesRoom cells heads n (length (list_of_pieces p)) cells1 heads1 → Puts cells1 heads1 k before n p cells2 heads2
    → Replaces cells heads k before n p cells2 heads2
replaced cells cells1 cells2 heads heads1 heads2 k n before p makes puts xs ys h small not_free lt parts is_before few more =
    let room : HasRoom cells heads n (length (list_of_pieces p)) cells1 heads1 = makes h small (omega (lt, arith)) more in
    let same : map (interval_at cells1) (xs ++ ys) ≡ map (interval_at cells) (xs ++ ys) = subst (λ is. map (interval_at cells1) is ≡ map (interval_at cells) is) parts (room.keeps.intervals k not_free not_free) in
    let split = map_both (interval_at cells1) (interval_at cells) xs ys same in
    let q : Put cells1 heads1 k xs ys n (list_of_pieces p) cells2 heads2 = put_in_room cells cells1 cells2 heads heads1 heads2 k n before p xs ys puts not_free lt parts is_before few room in
    let a = q.as_many in
    let t = q.total in
    let r = room.total in
    record {
      keeps = keeps_both cells cells1 cells2 heads heads1 heads2 k (keeps_more cells cells1 heads heads1 k room.keeps) q.keeps;
      small = let s = room.small in omega (a, s, arith);
      spans = q.spans ∙ (λ i. split.0 i ++ (list_of_pieces p ++ drop n (split.1 i)));
      total = omega (a, t, r, arith);
      more = ⊎_elim (λ e. inl (a ∙ e)) (λ (e : (free_count cells heads ≡ 0) × (free_count cells1 heads1 + n ≡ length (list_of_pieces p)) × (length cells1 ≡ length cells + 1)). let f = e.1 in inr (e.0, omega (t, f, arith), a ∙ e.2)) room.more;
    }
  where
    map_both : (f g : ℕ → Interval) (xs ys : List ℕ) → map f (xs ++ ys) ≡ map g (xs ++ ys) → (map f xs ≡ map g xs) × (map f ys ≡ map g ys)
    map_both f g [] ys e = (refl, e)
    map_both f g (x ∷ xs) ys e = let more = map_both f g xs ys (cc) in let first : f x ≡ g x = cc in ((λ i. first i ∷ more.0 i), more.1)
